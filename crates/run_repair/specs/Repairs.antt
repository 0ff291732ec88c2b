-- What a repair leaves of an image, and what it says of it.
use Rattle.std.specs.Prelude.{◌≡◌, ◌⊎◌, ⊤, ℕ, List, [], ◌++◌, Option, Result, Ok, Err, codes}
use Rattle.std.specs.Io.KnownBytes.{append_known}
use Rattle.afl_base.specs.Files.{Table}
use Rattle.coffee_layout.specs.declared.unit.BadImage.{BadImage}
use Rattle.coffee_volume.specs.Cuts.{MendsToFiles}
use Rattle.db_model.specs.Database.{Database}
use Rattle.db_model.specs.ReplyText.{line, refusal_text}
use Rattle.db_model.specs.declared.refusals.Refusal.TheVariants as no
use Rattle.reply_text.specs.WroteLess.{WroteLess}
use Rattle.run_model.specs.Runs.{image_line}
use Rattle.image_model.specs.Images.{IsSound, base, files_of_image}
use Rattle.image_model.specs.Mending.{ImageReadsAs}
use Rattle.stored.specs.Mended.{mended_base}
use Rattle.stored_mend.specs.Mending.{IsPutRight}
use Rattle.stored_mend.specs.Report.{report_text}
use Rattle.stored_mend.specs.Reported.{IsReported}
use Rattle.stored_mend.specs.declared.report.Mended.{Mended}
use Rattle.run_repair.specs.Findings.{IsStrange, MayBeCut}
use Rattle.run_repair.specs.Mends.{StillMendsButLacks}
use Rattle.run_repair.specs.declared.came.Came.{Came}
use Rattle.run_repair.specs.declared.came.Came.TheVariants.{Sound, Repaired, Strange}
use Rattle.run_repair.specs.declared.came.Hindrance.{Hindrance}
use Rattle.run_repair.specs.declared.came.Hindrance.TheVariants.{Spaceless, Unsettled, Failed}

-- what is said, where so much was repaired in the database
abbrev pub said : List Mended → Result Came Hindrance → List ℕ
said mended (Ok Sound) = line (codes "sound")
said mended (Ok Repaired) = report_text mended ++ line (codes "repaired")
said mended (Ok (Strange bad)) = image_line bad.rule bad.place
said mended (Err (Spaceless need)) = refusal_text (no.Space need)
said mended (Err (Unsettled bad)) = image_line bad.rule bad.place
said mended (Err Failed) = []

-- the status, where all of it is said
abbrev pub status_after : Result Came Hindrance → ℕ
status_after (Ok Sound) = 0
status_after (Ok Repaired) = 0
status_after (Ok (Strange bad)) = 6
status_after (Err (Spaceless need)) = 3
status_after (Err (Unsettled bad)) = 6
status_after (Err Failed) = 4

-- all was said, or less than that
abbrev pub IsSaid : (status : ℕ) → List Mended → Result Came Hindrance → (held now : Option (List ℕ)) → Type 0
IsSaid status mended came held now =
    ((status ≡ status_after came) × (now ≡ append_known held (said mended came))) ⊎ ((status ≡ 5) × WroteLess held now (said mended came))

-- no cut can have left the image: it is as it was, and this is its first broken rule
pub record IsLeftStrange (old new : List ℕ) (bad : BadImage) : Type 0 where
  pub same : new ≡ old
  pub strange : IsStrange old bad.rule bad.place

-- what is left of an image: it is sound, and as it was; it was not, and is, and stands for the database that it mended to,
-- put right; it is as it was, since no cut can have left it; or the repair came to no end: where pages were lacking it
-- still mends to that database, put right. It is written only where it is not sound, and a cut can have left it
abbrev pub Leaves : (old new : List ℕ) → Result Came Hindrance → Type 0
Leaves old new (Ok Sound) = IsSound old × (new ≡ old)
Leaves old new (Ok Repaired) = (IsSound old → ⊥) × MayBeCut old × IsSound new × ImageReadsAs old (λ db. IsPutRight db (base new))
Leaves old new (Ok (Strange bad)) = IsLeftStrange old new bad
Leaves old new (Err (Spaceless need)) = (IsSound old → ⊥) × MayBeCut old × StillMendsButLacks old new need
Leaves old new (Err (Unsettled bad)) = ⊥
Leaves old new (Err Failed) = (new ≡ old) ⊎ ((IsSound old → ⊥) × MayBeCut old)

-- the lines are those of what was changed in the files that an image mended to
pub record IsReportedOf (old new : List ℕ) (mended : List Mended) : Type 0 where
  pub files : Table
  pub mends_to : MendsToFiles old files
  pub lines : IsReported files (files_of_image new) mended

-- so they are where it was repaired
abbrev pub IsToldOf : (old new : List ℕ) → List Mended → Result Came Hindrance → Type 0
IsToldOf old new mended (Ok Repaired) = IsReportedOf old new mended
IsToldOf old new mended _ = ⊤

-- the database that the files of an image mend to
abbrev pub database_in : List ℕ → Database
database_in image = mended_base (files_of_image image)

-- what a repair that ended with a status left of an image and of a sink
pub record Repairs (status : ℕ) (old new : List ℕ) (held now : Option (List ℕ)) : Type 0 where
  pub came : Result Came Hindrance
  pub mended : List Mended
  pub leaves : Leaves old new came
  pub says : IsSaid status mended came held now
  pub told : IsToldOf old new mended came

-- the statuses of a repair
abbrev pub IsRepairStatus : ℕ → Type 0
IsRepairStatus s = (s ≡ 0) ⊎ (s ≡ 3) ⊎ (s ≡ 4) ⊎ (s ≡ 5) ⊎ (s ≡ 6)
