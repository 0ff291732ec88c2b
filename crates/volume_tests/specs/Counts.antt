-- Counts: what a caller of files knows of them between its calls.
use Rattle.std.specs.Prelude.{◌≡◌, ◌≢◌, ℕ, ◌+◌, ◌-◌, ◌≤◌, List, length, None, slice_index}
use Rattle.afl_base.specs.Files.{IsLive, State, file_at, size_at, used}
use Rattle.afl_base.specs.Regions.{regions}

-- this many files are live, and no draft is begun
pub record HasFiles (state : State) (n : ℕ) : Type 0 where
  pub idle : state.draft ≡ None
  pub count : used state.files ≡ n

-- a file is still live, and as many are as before; a draft is begun where one was
pub record StaysLive (old new : State) (id : ℕ) : Type 0 where
  pub live : IsLive new.files id
  pub used : used new.files ≡ used old.files
  pub draft : new.draft ≡ old.draft

-- bytes do not end in a zero
abbrev pub EndsWell : List ℕ → Type 0
EndsWell bytes = 1 ≤ length bytes → slice_index bytes (length bytes - 1) ≢ 0

-- a file is prepared for bytes from a place on and for a tail
pub record IsPreparedFor (state : State) (id at : ℕ) (bytes tail : List ℕ) : Type 0 where
  pub live : IsLive state.files id
  pub range : at + length bytes ≤ size_at state.files id
  pub records : regions at (length bytes) ≤ (file_at state.files id).records
  pub room : length tail ≤ (file_at state.files id).room
  pub last : EndsWell bytes
  pub end : EndsWell tail
