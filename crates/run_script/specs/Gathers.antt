-- What is kept of a piece of a script as its bytes come.
use Rattle.std.specs.Prelude.{◌≡◌, ℕ, Bool, true, false, not, ◌||◌, ◌==◌, nat_lt, List, [], ◌∷◌, length, take}
use Rattle.db_model.specs.Script.{Entry, past_white}

-- its first 512 bytes without white space in front, and whether it has more
pub record GathersPiece (piece bytes : List ℕ) (long : Bool) : Type 0 where
  pub bytes_are : bytes ≡ take 512 (past_white piece)
  pub long_is : long ≡ nat_lt 512 (length (past_white piece))

-- whatever the piece is, one entry comes of it
abbrev pub AsksOne : List ℕ → Bool → (List ℕ → List Entry) → Type 0
AsksOne bytes long entries = (piece : List ℕ) → GathersPiece piece bytes long → (entry : Entry) × (entries piece ≡ entry ∷ [])

-- inside quotes or not: it neither ends a piece nor begins or ends a quote
abbrev pub is_plain : Bool → ℕ → Bool
is_plain true b = not (b == 39 || b == 10)
is_plain false b = not (b == 59 || b == 39)
