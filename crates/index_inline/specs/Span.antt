-- The slots whose keys lie in a range, where the keys do not fall.
use Rattle.std.specs.Prelude.{ℕ, ℤ, ◌≡◌, ◌<◌, ◌≤◌, Bool, true, false, int_lt, int_le}
use Rattle.db_model.specs.declared.schemas.Range.{Range}
use Rattle.db_model.specs.declared.schemas.Range.TheVariants.{Empty, Between}
use Rattle.db_model.specs.Plan.{lies_in}

-- whether a key is less than all of a range
abbrev pub is_below : Range → ℤ → Bool
is_below Empty key = false
is_below (Between lo hi) key = int_lt key lo

-- whether a key is greater than all of a range
abbrev pub is_above : Range → ℤ → Bool
is_above Empty key = true
is_above (Between lo hi) key = int_lt hi key

-- the keys of the slots up to one are below the range, from there up to another in it, and after that above it
pub record IsSpan (within : Range) (key : ℕ → ℤ) (slots from to : ℕ) : Type 0 where
  pub order : from ≤ to
  pub end : to ≤ slots
  pub below : (slot : ℕ) → slot < from → is_below within (key slot) ≡ true
  pub inside : (slot : ℕ) → from ≤ slot → slot < to → lies_in within (key slot) ≡ true
  pub above : (slot : ℕ) → to ≤ slot → slot < slots → is_above within (key slot) ≡ true

-- ---- the search for one end

-- whether a key comes before an end of a range: it is less than the lower bound, or at most the upper one
abbrev pub passes_end : Bool → Range → ℤ → Bool
passes_end upper Empty key = false
passes_end false (Between lo hi) key = int_lt key lo
passes_end true (Between lo hi) key = int_le key hi

-- of two slots the later has no lesser key
abbrev pub KeysRise : (ℕ → ℤ) → ℕ → Type 0
KeysRise key slots = (i j : ℕ) → i ≤ j → j < slots → int_le (key i) (key j) ≡ true

-- a range begins from one slot to another, and ends at a third or before
pub record AreAround (within : Range) (key : ℕ → ℤ) (slots low high behind : ℕ) : Type 0 where
  pub end : behind ≤ slots
  pub below : (slot : ℕ) → slot < low → passes_end false within (key slot) ≡ true
  pub reached : (slot : ℕ) → high ≤ slot → slot < slots → passes_end false within (key slot) ≡ false
  pub above : (slot : ℕ) → behind ≤ slot → slot < slots → passes_end true within (key slot) ≡ false

-- a range begins at a slot, has those up to another, and ends at a third or before
pub record IsSpanTo (within : Range) (key : ℕ → ℤ) (slots from to behind : ℕ) : Type 0 where
  pub end : behind ≤ slots
  pub below : (slot : ℕ) → slot < from → passes_end false within (key slot) ≡ true
  pub reached : (slot : ℕ) → from ≤ slot → slot < slots → passes_end false within (key slot) ≡ false
  pub inside : (slot : ℕ) → from ≤ slot → slot < to → passes_end true within (key slot) ≡ true
  pub above : (slot : ℕ) → behind ≤ slot → slot < slots → passes_end true within (key slot) ≡ false

-- of the slots from one on and below another, those below the end of a range are not above it, and the others are
pub record IsEndFrom (within : Range) (key : ℕ → ℤ) (from to end : ℕ) : Type 0 where
  pub passed : (slot : ℕ) → from ≤ slot → slot < end → passes_end true within (key slot) ≡ true
  pub failed : (slot : ℕ) → end ≤ slot → slot < to → passes_end true within (key slot) ≡ false
