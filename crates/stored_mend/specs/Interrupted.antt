-- What a repair leaves that was interrupted: by a cut, in the middle of a write too, or because pages are lacking.
use Rattle.std.specs.Prelude.{◌≡◌, ℕ, Bool, List, IsTrue, None}
use Rattle.afl_base.specs.Files.{State, Table}
use Rattle.db_model.specs.Database.{Database}
use Rattle.stored.specs.CutTables.{IsCutTable}
use Rattle.stored.specs.Mended.{mended_base}
use Rattle.stored.specs.Mends.{MendsToDatabase}

-- bytes are told, no draft is begun, and the files are ones that a cut can have left, which mend to a database that is so
pub record IsCutState (state : State) (Is : Database → Type 0) : Type 0 where
  pub tells : IsTrue state.tells
  pub idle : state.draft ≡ None
  pub cut : IsCutTable state.files
  pub is : Is (mended_base state.files)

-- where a failure is a cut, a call that failed left a storage that mends to such files, and to a database that is so
abbrev pub CutMends : {S : Type 0} → Bool → (List ℕ → Table → Type 0) → (S → State) → (new : S) → (failed : Type 0 → Type 0) → (Database → Type 0) → Type 0
CutMends cuts mends state new failed Is = IsTrue cuts → failed (MendsToDatabase mends (state new).store Is)
