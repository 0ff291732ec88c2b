-- What a fold stands for.
use Rattle.std.specs.Prelude.{◌≡◌, ◌-◌, ◌/◌, ℤ, Bool, true, false, List, [], length, Option, Some, None}
use Rattle.db_model.specs.declared.commands.Agg.{Agg}
use Rattle.db_model.specs.declared.commands.Agg.TheVariants.{Count}
use Rattle.db_model.specs.declared.values.Value.{Value}
use Rattle.db_model.specs.declared.values.Value.TheVariants.{Number, Text}
use Rattle.aggregate.specs.declared.stage.Stage.{Stage}
use Rattle.aggregate.specs.declared.stage.Stage.TheVariants.{Gathering, Searching, Done}
use Rattle.db_model.specs.Answers.{aggregate, numbers}
use Rattle.aggregate.specs.Folding.{Folding}
use Rattle.aggregate.specs.Search.{Seeks}
use Rattle.aggregate.specs.Summary.{Summarises}

abbrev pub is_open : Stage → Bool
is_open (Done _) = false
is_open _ = true

-- whether a pass is still wanted
abbrev pub wants_pass : Folding → Bool
wants_pass f = is_open f.stage

-- the number that the aggregate looks at: none for COUNT
abbrev pub number_for : Agg → Value → Option ℤ
number_for Count value = None
number_for agg (Number n) = Some n
number_for agg (Text _) = None

-- those of some values
abbrev pub numbers_for : Agg → List Value → List ℤ
numbers_for Count values = []
numbers_for _ values = numbers values

abbrev pub Knows : Agg → List Value → List Value → Stage → Type 0
Knows agg all so_far (Gathering s) = Summarises (numbers_for agg so_far) s
Knows agg all so_far (Searching s) = Seeks (numbers all) (numbers so_far) ((length (numbers all) - 1) / 2) s
Knows agg all so_far (Done answer) = answer ≡ aggregate agg all

-- Each pass that has ended pushed all the values, and this pass so far has pushed these.
pub record Folds (all so_far : List Value) (f : Folding) : Type 0 where
  pub pushed_is : f.pushed ≡ length so_far
  pub stage_is : Knows f.agg all so_far f.stage
