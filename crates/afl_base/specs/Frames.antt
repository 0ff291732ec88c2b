-- What calls leave of all files: frames that are put together call by call.
use Rattle.std.specs.Prelude.{◌≡◌, ℕ, IsTrue}
use Rattle.afl_base.specs.Files.{State, IsLive, bytes_at, file_at, name_at, place, size_at, used}

-- the files at some places are the same, and no file has come, gone, or changed its name or kind
pub record SparesOthers (old new : State) (stays : ℕ → Type 0) : Type 0 where
  pub others : (k : ℕ) → stays k → place new.files k ≡ place old.files k
  pub named : (k : ℕ) → name_at new.files k ≡ name_at old.files k
  pub kind : (k : ℕ) → IsLive old.files k → (file_at new.files k).kind ≡ (file_at old.files k).kind
  pub used : used new.files ≡ used old.files
  pub draft : new.draft ≡ old.draft
  pub tells : new.tells ≡ old.tells

-- and no file has changed its size, nor, where bytes are told, a byte
pub record Prepares (old new : State) (stays : ℕ → Type 0) : Type 0 where
  pub spares : SparesOthers old new stays
  pub sizes : (k : ℕ) → size_at new.files k ≡ size_at old.files k
  pub bytes : IsTrue old.tells → (k : ℕ) → bytes_at new.files k ≡ bytes_at old.files k
