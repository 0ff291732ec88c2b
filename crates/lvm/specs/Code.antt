-- What a compiled condition stands for.
use Rattle.std.specs.Prelude.{◌≡◌, ℕ, List, [], ◌∷◌, Option, Some, None, map}
use Rattle.db_model.specs.declared.commands.Node.{Node}
use Rattle.db_model.specs.declared.refusals.Refusal.{Refusal}
use Rattle.db_model.specs.declared.refusals.Refusal.TheVariants as no
use Rattle.db_model.specs.declared.schemas.Attribute.{Attribute}
use Rattle.db_model.specs.Cond.{Cond, OfCond, joined_all}
use Rattle.db_model.specs.Typing.{first_false, is_attribute, names_of, typings_of}
use Rattle.lvm.specs.declared.instruction.Instruction.{Instruction}
use Rattle.lvm.specs.Instruction.{instructions_for}

-- the nodes are those of a condition, and none where there is none
abbrev pub IsPostfixOf : List Node → Option Cond → Type 0
IsPostfixOf nodes None = nodes ≡ []
IsPostfixOf nodes (Some c) = joined_all nodes [] ≡ Some (OfCond c ∷ [])

-- the code of a condition over some attributes: the steps of its nodes
pub record IsCodeOf (attributes : List Attribute) (condition : Option Cond) (code : List Instruction) : Type 0 where
  pub nodes : List Node
  pub spelt : IsPostfixOf nodes condition
  pub code_is : instructions_for attributes nodes ≡ Some code

-- the number of the first name of a condition that is no attribute, where n names come before it
abbrev pub first_missing_name : ℕ → List Attribute → Option Cond → Option ℕ
first_missing_name n attributes condition = first_false n (map (is_attribute attributes) (names_of condition))

-- the number of the first comparison that is ill typed, where n parts come before it
abbrev pub first_ill_typed : ℕ → List Attribute → Option Cond → Option ℕ
first_ill_typed n attributes condition = first_false n (typings_of attributes condition)

-- a missing name comes before an ill typed comparison
abbrev pub first_refusal : Option ℕ → Option ℕ → Option Refusal
first_refusal (Some nth) typed = Some (no.NoAttribute nth)
first_refusal None (Some nth) = Some (no.IllTyped nth)
first_refusal None None = None

-- how a condition is refused, where n names and parts come before it
abbrev pub refusal : ℕ → List Attribute → Option Cond → Option Refusal
refusal n attributes condition = first_refusal (first_missing_name n attributes condition) (first_ill_typed n attributes condition)
