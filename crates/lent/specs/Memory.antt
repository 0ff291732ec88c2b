-- What a call leaves in memory that is lent: of an image, and of the replies.
use Rattle.std.specs.Prelude.{◌≡◌, ◌≢◌, ◌↔◌, ◌⊎◌, ℕ, ◌≤◌, List, [], length, take, Option, Some}
use Rattle.afl_sim.specs.Lengths.{IsImageLength}
use Rattle.antelope_run.specs.Promise.{HasSpace, IsWithinLimit, LeftBy}
use Rattle.run_collect.specs.Collects.{Collects}
use Rattle.run_repair.specs.Checks.{Checks}
use Rattle.run_repair.specs.Repairs.{Repairs}
use Rattle.run_model.specs.Runs.{world}
use Rattle.run_words.specs.declared.words.Form.{Form}
use Rattle.image_model.specs.Images.{IsSound}

-- the statuses of a run over memory, which does not fail; 10 is of a length that no image has
abbrev pub IsLentStatus : ℕ → Type 0
IsLentStatus s = (s ≡ 0) ⊎ (s ≡ 3) ⊎ (s ≡ 5) ⊎ (s ≡ 6) ⊎ (s ≡ 8) ⊎ (s ≡ 10)

-- and of a repair
abbrev pub IsLentRepairStatus : ℕ → Type 0
IsLentRepairStatus s = (s ≡ 0) ⊎ (s ≡ 3) ⊎ (s ≡ 5) ⊎ (s ≡ 6) ⊎ (s ≡ 10)

-- and of a check
abbrev pub IsLentCheckStatus : ℕ → Type 0
IsLentCheckStatus s = (s ≡ 0) ⊎ (s ≡ 5) ⊎ (s ≡ 6) ⊎ (s ≡ 10)

-- and of a collection
abbrev pub IsLentCollectStatus : ℕ → Type 0
IsLentCollectStatus s = (s ≡ 0) ⊎ (s ≡ 5) ⊎ (s ≡ 6) ⊎ (s ≡ 10)

-- what a run of a form leaves by its status: `old` was the image and `new` is, and these bytes of replies were written
abbrev pub LeavesMemory : Form → (old input : List ℕ) → (status : ℕ) → (new replies : List ℕ) → Type 0
LeavesMemory form old input status new replies =
    (rest : Option (List ℕ)) × LeftBy status form (world old (Some input) (Some [])) (world new rest (Some replies))

-- all of it in one: `room` is the memory for replies after the run, of which the first bytes were written
pub record RunsInMemory (form : Form) (old input : List ℕ) (status written : ℕ) (new room : List ℕ) : Type 0 where
  pub only : IsLentStatus status
  pub size : (status ≢ 10) ↔ IsImageLength (length old)
  pub stays : status ≡ 10 → (new ≡ old) × (written ≡ 0)
  pub within : written ≤ length room
  pub full : status ≡ 5 → written ≡ length room
  pub told : status ≢ 10 → LeavesMemory form old input status new (take written room)
  pub unsound : (IsSound old → ⊥) → (status ≡ 5) ⊎ (status ≡ 6) ⊎ (status ≡ 10)
  pub no_fault : IsSound old → IsWithinLimit form (Some input) → written ≢ length room → (status ≡ 0) ⊎ (status ≡ 3) ⊎ (status ≡ 10)
  pub suffices : IsSound old → HasSpace form (world old (Some input) (Some [])) → status ≢ 3

-- the same of a repair
pub record RepairsInMemory (old : List ℕ) (status written : ℕ) (new room : List ℕ) : Type 0 where
  pub only : IsLentRepairStatus status
  pub size : (status ≢ 10) ↔ IsImageLength (length old)
  pub stays : status ≡ 10 → (new ≡ old) × (written ≡ 0)
  pub within : written ≤ length room
  pub full : status ≡ 5 → written ≡ length room
  pub told : status ≢ 10 → Repairs status old new (Some []) (Some (take written room))

-- the same of a check, after which the image is as it was
pub record ChecksInMemory (old : List ℕ) (status written : ℕ) (new room : List ℕ) : Type 0 where
  pub only : IsLentCheckStatus status
  pub size : (status ≢ 10) ↔ IsImageLength (length old)
  pub same : new ≡ old
  pub stays : status ≡ 10 → written ≡ 0
  pub within : written ≤ length room
  pub full : status ≡ 5 → written ≡ length room
  pub told : status ≢ 10 → Checks status old (Some []) (Some (take written room))

-- the same of a collection
pub record CollectsInMemory (old : List ℕ) (status written : ℕ) (new room : List ℕ) : Type 0 where
  pub only : IsLentCollectStatus status
  pub size : (status ≢ 10) ↔ IsImageLength (length old)
  pub stays : status ≡ 10 → (new ≡ old) × (written ≡ 0)
  pub within : written ≤ length room
  pub full : status ≡ 5 → written ≡ length room
  pub told : status ≢ 10 → Collects status old new (Some []) (Some (take written room))
