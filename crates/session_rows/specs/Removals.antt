-- What a removal makes of the rows of a relation.
use Rattle.std.specs.Prelude.{◌≡◌, List, Option, length, map}
use Rattle.db_model.specs.declared.schemas.Attribute.{Attribute}
use Rattle.db_model.specs.Answers.{selected}
use Rattle.db_model.specs.Cond.{Cond}
use Rattle.db_model.specs.Row.{Row}
use Rattle.db_model.specs.Step.{removed_row}
use Rattle.session_model.specs.declared.answer.Answer.{Answer}
use Rattle.session_model.specs.declared.answer.Answer.TheVariants as answer

-- the rows that a condition selects were removed and counted, or there was no space and they stay
abbrev pub IsRemoval : List Attribute → Option Cond → List Row → List Row → Answer → Type 0
IsRemoval attributes condition old new answer.Fine = ⊥
IsRemoval attributes condition old new (answer.Refused refusal) = ⊥
IsRemoval attributes condition old new (answer.Removed k) =
    (new ≡ map (removed_row attributes condition) old) × (k ≡ length (selected attributes condition old))
IsRemoval attributes condition old new (answer.NoSpace need) = new ≡ old
