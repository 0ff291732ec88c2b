-- What a repair says was changed in the files of an image.
use Rattle.std.proofs.Common.{◌≡◌, ℕ, ◌*◌, List, length, None, Err, Result, sym, subst}
use Rattle.afl_base.specs.Files.{AreDistinct, Table}
use Rattle.coffee_layout.specs.Rules.{broken_image}
use Rattle.coffee_volume.specs.Mounting.{mounted_state}
use Rattle.image_model.specs.Images.{files_of_image}
use Rattle.image_model.proofs.HandedBack.{image_distinct}
use Rattle.image_model.proofs.Mounted.{mounted_files}
use Rattle.stored.specs.Same.{HaveSameFiles}
use Rattle.stored.proofs.SameBase.{bytes_same, there_same}
use Rattle.stored_mend.specs.Reported.{IsReported, bytes_by_name}
use Rattle.stored_mend.specs.declared.report.Mended.{Mended}
use Rattle.stored_mend.proofs.ReportAs.{reported_as}
use Rattle.stored_mend.proofs.ReportTrees.{seen_as}
use Rattle.run_repair.specs.Repairs.{IsToldOf}
use Rattle.run_repair.specs.declared.came.Came.{Came}
use Rattle.run_repair.specs.declared.came.Hindrance.{Hindrance}

-- the files of a volume are seen in the image that it stands on
pub image_seen : (files : Table) (image : List ℕ) (sectors : ℕ) → length image ≡ 4096 * sectors → length files ≡ 32 → AreDistinct files → HaveSameFiles files (mounted_state image).files → broken_image image ≡ None
    → (name : List ℕ) → bytes_by_name name (files_of_image image) ≡ bytes_by_name name files
image_seen files image sectors size places d same kept name =
    let e = image_distinct files image sectors size places d same kept in
    subst (λ (t : Table). bytes_by_name name t ≡ bytes_by_name name files) (mounted_files image)
    (seen_as name files (mounted_state image).files (sym (there_same files (mounted_state image).files name d e same)) (sym (bytes_same files (mounted_state image).files name d e same)))

pub image_reported : (old files : Table) (image : List ℕ) (mended : List Mended) (sectors : ℕ) → length image ≡ 4096 * sectors → length files ≡ 32 → AreDistinct files → HaveSameFiles files (mounted_state image).files
    → broken_image image ≡ None → IsReported old files mended → IsReported old (files_of_image image) mended
image_reported old files image mended sectors size places d same kept r = reported_as old files (files_of_image image) mended (image_seen files image sectors size places d same kept) r

-- of what hindered it nothing is told
pub told_hindered : (old new : List ℕ) (mended : List Mended) (came : Result Came Hindrance) (why : Hindrance) → came ≡ Err why → IsToldOf old new mended came
told_hindered old new mended came why is = subst (IsToldOf old new mended) (sym is) tt
