-- Numbers in a range.
use Rattle.std.specs.Prelude.{◌≡◌, ℕ, ℤ, ◌≤ℤ◌, List, Option, Some, IsTrue, slice_get}
use Rattle.db_model.specs.declared.schemas.Attribute.{Attribute}
use Rattle.db_model.specs.declared.schemas.Range.{Range}
use Rattle.db_model.specs.declared.schemas.Range.TheVariants.{Empty, Between}
use Rattle.db_model.specs.declared.values.Value.{Value}
use Rattle.db_model.specs.declared.values.Value.TheVariants.{Number}
use Rattle.db_model.specs.Cond.{Cond}
use Rattle.db_model.specs.Item.{selects}
use Rattle.db_model.specs.Ranges.{lowest, highest}

abbrev pub IsInRange : Range → ℤ → Type 0
IsInRange Empty z = ⊥
IsInRange (Between lo hi) z = (lo ≤ℤ z) × (z ≤ℤ hi)

-- Each tuple that satisfies the condition, and has a number of 64 bits at the place, has it in the range.
abbrev pub HoldsWithin : List Attribute → Option Cond → ℕ → Range → Type 0
HoldsWithin attributes condition place range =
    (tuple : List Value) (z : ℤ) → IsTrue (selects attributes condition tuple) → slice_get tuple place ≡ Some (Number z)
    → lowest ≤ℤ z → z ≤ℤ highest → IsInRange range z
