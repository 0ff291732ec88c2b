-- What a call on files leaves that was cut off in the middle of a write: the storage mends to the files
-- before it, or to those that it might have left.
use Rattle.std.specs.Prelude.{◌≡◌, ◌⊎◌, ℕ, ◌+◌, ◌%◌, ◌≤◌, Bool, IsTrue, List, length, take}
use Rattle.afl_base.specs.Files.{Appends, Overwrites, State, Table}

-- bytes mend to the files of a state that is so
pub record MendsToState (mends : List ℕ → Table → Type 0) (store : List ℕ) (Is : State → Type 0) : Type 0 where
  pub after : State
  pub mends_to : mends store after.files
  pub is : Is after

-- or to the files that there were
abbrev pub MendsToEither : (List ℕ → Table → Type 0) → (files : Table) → (store : List ℕ) → (State → Type 0) → Type 0
MendsToEither mends files store Is = mends store files ⊎ MendsToState mends store Is

-- ---- a call that failed, where a failure is a cut and bytes are told

-- it left what mends to a state that is so
abbrev pub CutLeaves : {S : Type 0} → Bool → (List ℕ → Table → Type 0) → (S → State) → (old new : S) → (failed : Type 0 → Type 0) → (State → Type 0) → Type 0
CutLeaves cuts mends state old new failed Is = IsTrue cuts → IsTrue (state old).tells → failed (MendsToState mends (state new).store Is)

-- it left what mends to the files that there were
abbrev pub CutKeeps : {S : Type 0} → Bool → (List ℕ → Table → Type 0) → (S → State) → (old new : S) → (failed : Type 0 → Type 0) → Type 0
CutKeeps cuts mends state old new failed = IsTrue cuts → IsTrue (state old).tells → failed (mends (state new).store (state old).files)

-- either of both
abbrev pub CutKeepsOrLeaves : {S : Type 0} → Bool → (List ℕ → Table → Type 0) → (S → State) → (old new : S) → (failed : Type 0 → Type 0) → (State → Type 0) → Type 0
CutKeepsOrLeaves cuts mends state old new failed Is = IsTrue cuts → IsTrue (state old).tells → failed (MendsToEither mends (state old).files (state new).store Is)

-- ---- parts of a write

-- of some bytes a front part is added at the end of a file
pub record AppendsFront (old after : State) (id : ℕ) (bytes : List ℕ) : Type 0 where
  pub done : ℕ
  pub within : done ≤ length bytes
  pub is : Appends old after id (take done bytes)

-- of the bytes for a place of a file a front part stands there: none, all, or those up to where a region ends
pub record OverwritesFront (old after : State) (id at : ℕ) (bytes : List ℕ) : Type 0 where
  pub done : ℕ
  pub within : done ≤ length bytes
  pub whole : (done ≡ 0) ⊎ ((done ≡ length bytes) ⊎ ((at + done) % 128 ≡ 0))
  pub is : Overwrites old after id at (take done bytes)
