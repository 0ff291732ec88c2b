-- Calls that take no extent.
use Rattle.std.specs.Prelude.{◌≡◌, ℕ, Bool, true, List, IsTrue, OnOk, Result}
use Rattle.afl_base.specs.Files.{State}

-- each page that was free in the storage is free now
abbrev pub TakesNoPage : (List ℕ → ℕ → Bool) → (old new : List ℕ) → Type 0
TakesNoPage is_free old new = (page : ℕ) → is_free old page ≡ true → is_free new page ≡ true

-- no extent is wanted
abbrev pub WantsNothing : (ℕ → Type 0) → Type 0
WantsNothing wants = (need : ℕ) → wants need → ⊥

-- a call that succeeds takes no page, where bytes are told and something is so
abbrev pub SparesWhere : {T E : Type 0} → (List ℕ → ℕ → Bool) → (so : Type 0) → (old new : State) → Result T E → Type 0
SparesWhere is_free so old new result = IsTrue old.tells → so → OnOk result (TakesNoPage is_free old.store new.store)

-- a call that succeeds takes no page, where bytes are told
abbrev pub SparesPages : {S T E : Type 0} → (List ℕ → ℕ → Bool) → (S → State) → (old new : S) → Result T E → Type 0
SparesPages is_free state old new result = IsTrue (state old).tells → OnOk result (TakesNoPage is_free (state old).store (state new).store)

-- the storage is the same, and no extent is asked for that was not
pub record StandsStill {S : Type 0} (state : S → State) (asks : S → ℕ → ℕ → ℕ → ℕ → Type 0) (old new : S) : Type 0 where
  pub store : (state new).store ≡ (state old).store
  pub asks_less : (id overwrites bytes need : ℕ) → asks new id overwrites bytes need → asks old id overwrites bytes need

-- so it is of a call that succeeds, where bytes are told and something is so
abbrev pub StandsStillWhere : {S T E : Type 0} → (S → State) → (S → ℕ → ℕ → ℕ → ℕ → Type 0) → (so : Type 0) → (old new : S) → Result T E → Type 0
StandsStillWhere state asks so old new result = IsTrue (state old).tells → so → OnOk result (StandsStill state asks old new)
