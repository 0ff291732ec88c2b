-- The words of upkeep, which is no form of a run, and what it leaves.
use Rattle.std.specs.Prelude.{◌⊎◌, ◌≡◌, ℕ, List, [], ◌∷◌, Option, Some, None, if◌then◌else◌, codes}
use Rattle.std.specs.String.{string_bytes}
use Rattle.std.specs.declared.string.String.{String}
use Rattle.run_collect.specs.Collects.{BreaksCollectionOff, Collects, IsCollectStatus}
use Rattle.run_repair.specs.Checks.{Checks, IsCheckStatus}
use Rattle.run_repair.specs.Mends.{StaysOrMends}
use Rattle.run_repair.specs.Repairs.{IsRepairStatus, Repairs}
use Rattle.run_words.specs.Words.{is_literal_word}
use Rattle.program_run.specs.declared.naming.Upkeep.{Upkeep}
use Rattle.program_run.specs.declared.naming.Upkeep.TheVariants.{Repair, Check, Collect}

-- the upkeep that a first word asks for
abbrev pub upkeep_named : List ℕ → Option Upkeep
upkeep_named name =
    if is_literal_word name (codes "repair") then Some Repair
    else if is_literal_word name (codes "check") then Some Check
    else if is_literal_word name (codes "collect") then Some Collect
    else None

-- `repair IMAGE`, `check IMAGE`, `collect IMAGE`
abbrev pub upkeep_of : {A : Type 0} → List (String A) → Option Upkeep
upkeep_of (name ∷ image ∷ []) = upkeep_named (string_bytes name)
upkeep_of _ = None

-- what it leaves of an image and of a sink, by its status
abbrev pub UpkeepLeaves : Upkeep → (status : ℕ) → (old new : List ℕ) → (held now : Option (List ℕ)) → Type 0
UpkeepLeaves Repair status old new held now = Repairs status old new held now
UpkeepLeaves Check status old new held now = (new ≡ old) × Checks status old held now
UpkeepLeaves Collect status old new held now = Collects status old new held now

-- what it leaves where it is broken off by a cut: an image that another call can put right, of the same database
abbrev pub BreaksOffUpkeep : Upkeep → (old new : List ℕ) → Type 0
BreaksOffUpkeep Repair old new = StaysOrMends old new
BreaksOffUpkeep Check old new = new ≡ old
BreaksOffUpkeep Collect old new = BreaksCollectionOff old new

-- the statuses of upkeep
abbrev pub IsUpkeepStatus : ℕ → Type 0
IsUpkeepStatus s = IsRepairStatus s ⊎ IsCheckStatus s ⊎ IsCollectStatus s
