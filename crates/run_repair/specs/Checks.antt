-- What a check finds of an image, which stays as it is, and what it says of it.
use Rattle.std.specs.Prelude.{◌≡◌, ◌⊎◌, ⊤, ℕ, List, [], ◌++◌, Option, Result, Ok, Err, codes}
use Rattle.std.specs.Io.KnownBytes.{append_known}
use Rattle.afl_base.specs.declared.failed.Failed.{Failed}
use Rattle.db_model.specs.ReplyText.{line}
use Rattle.reply_text.specs.WroteLess.{WroteLess}
use Rattle.run_model.specs.Runs.{image_line}
use Rattle.image_model.specs.Images.{IsSound}
use Rattle.stored_mend.specs.Report.{report_text}
use Rattle.stored_mend.specs.declared.report.Mended.{Mended}
use Rattle.run_repair.specs.Findings.{IsStrange, MayBeCut}
use Rattle.run_repair.specs.declared.verdicts.Verdict.{Verdict}
use Rattle.run_repair.specs.declared.verdicts.Verdict.TheVariants.{Sound, ToBeRepaired, Strange}

-- what is said, where a repair would put so much right in the database
abbrev pub check_text : List Mended → Result Verdict Failed → List ℕ
check_text mended (Ok Sound) = line (codes "sound")
check_text mended (Ok ToBeRepaired) = report_text mended ++ line (codes "to be repaired")
check_text mended (Ok (Strange bad)) = image_line bad.rule bad.place
check_text mended (Err failed) = []

-- the status, where all of it is said
abbrev pub check_status : Result Verdict Failed → ℕ
check_status (Ok Sound) = 0
check_status (Ok ToBeRepaired) = 0
check_status (Ok (Strange bad)) = 6
check_status (Err failed) = 4

-- all was said, or less than that
abbrev pub IsCheckSaid : (status : ℕ) → List Mended → Result Verdict Failed → (held now : Option (List ℕ)) → Type 0
IsCheckSaid status mended came held now =
    ((status ≡ check_status came) × (now ≡ append_known held (check_text mended came))) ⊎ ((status ≡ 5) × WroteLess held now (check_text mended came))

-- the image is sound; it is not, and a cut can have left it, as where a repair writes; or no cut can, and this is its
-- first broken rule
abbrev pub Finds : List ℕ → Result Verdict Failed → Type 0
Finds image (Ok Sound) = IsSound image
Finds image (Ok ToBeRepaired) = (IsSound image → ⊥) × MayBeCut image
Finds image (Ok (Strange bad)) = IsStrange image bad.rule bad.place
Finds image (Err failed) = ⊤

-- what a check that ended with a status found of an image, and left of a sink
pub record Checks (status : ℕ) (image : List ℕ) (held now : Option (List ℕ)) : Type 0 where
  pub came : Result Verdict Failed
  pub mended : List Mended
  pub finds : Finds image came
  pub says : IsCheckSaid status mended came held now

-- the statuses of a check
abbrev pub IsCheckStatus : ℕ → Type 0
IsCheckStatus s = (s ≡ 0) ⊎ (s ≡ 4) ⊎ (s ≡ 5) ⊎ (s ≡ 6)
