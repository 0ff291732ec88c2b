-- An image once what a cut left of its files is settled, and whether a cut can have left its database.
use Rattle.std.proofs.Common.{◌≡◌, inl, inr, ℕ, ◌+◌, ◌*◌, ◌≤◌, Bool, true, false, List, length, Option, None, Some, if◌then◌else◌, refl, ap, sym, subst, ◌∙◌, arith}
use Rattle.std.specs.List.{Contains}
use Rattle.std.specs.Prelude.{is_some, ⊤, Result, Err, IfErr}
use Rattle.afl_base.specs.Files.{IsNamed, IsUnnamed, Table}
use Rattle.afl_base.specs.Image.{zeros_at}
use Rattle.afl_base.specs.declared.ids.PageId.{PageId}
use Rattle.coffee_cuts.specs.Cuts.{IsSettled, IsSuperseding, settled, without_two}
use Rattle.coffee_cuts.proofs.Superseding.{superseding_files}
use Rattle.coffee_cuts.proofs.TornLogs.{IsTornAt as IsTornLog, torn_files}
use Rattle.coffee_find.specs.Found.{HasRecord, IsCutBy, IsSoundBut, IsTornAt, IsTroubleInside, MendsToNone, meant, without_record}
use Rattle.coffee_find.specs.declared.trouble.TornRecord.{TornRecord}
use Rattle.coffee_find.specs.declared.trouble.Trouble.{Trouble}
use Rattle.coffee_layout.specs.Files.{files_of}
use Rattle.coffee_layout.specs.Rules.{broken_image}
use Rattle.coffee_layout.specs.Units.{pages_of}
use Rattle.coffee_layout.specs.declared.unit.BadImage.{BadImage}
use Rattle.coffee_mend.specs.Mended.{IsMended}
use Rattle.padded.proofs.Facts.{lt_false, lt_true}
use Rattle.coffee_volume.specs.Cuts.{MendsToFiles}
use Rattle.image_model.specs.Images.{IsFirstBroken, IsSound, files_of_image}
use Rattle.image_model.proofs.OneBase.{one_cut, one_there, table_mends}
use Rattle.image_model.proofs.OneName.{settled_long}
use Rattle.space_model.specs.FileNames.{catalog_file, is_there}
use Rattle.catalog.proofs.Named.{named_none}
use Rattle.stored.proofs.SoundCut.{named_there}
use Rattle.stored.specs.CutTables.{IsCutTable}
use Rattle.run_repair.specs.Findings.{IsLeftByCut, IsOfNoCut, IsStrange, IsSurveyed, erased_sector, settled_image}

-- an image is settled, and is sound without a torn record, with the files that it has
record IsSoundWithout (image : List ℕ) (torn : Option TornRecord) : Type 0 where
  settles : IsSettled image
  sound : broken_image (without_record image torn) ≡ None
  files : files_of image ≡ files_of (without_record image torn)

-- so it is where it is sound but for that record
sound_without : (image : List ℕ) (torn : Option TornRecord) → 256 * pages_of image ≡ length image → HasRecord (length image) torn → IsSoundBut image torn → IsSoundWithout image torn
sound_without image None whole inside sound = record { settles = inl sound; sound = sound; files = refl }
sound_without image (Some r) whole inside (inl last) =
    let t : IsTornAt image r.log.0 r.place = last.1 in
    let same : without_record image (Some r) ≡ zeros_at image r.place 128 =
    ap (λ low. if low then without_two image r.log.0 r.used else zeros_at image r.place 128) (lt_false r.used 29 (let is = last.0 in omega (arith, is))) in
    let at : r.place + 128 ≤ length image = let log = inside.log in let few = inside.few in omega (arith, inside.place, log, few) in
    let torn : IsTornLog image r.log.0 r.place = record { is_log = t.is_log; free = t.free; next = t.next; sound = t.sound } in
    record {
      settles = inr (inl (record { log = r.log.0; is_log = t.is_log; free = t.free; sound = ap (λ p. broken_image (zeros_at image p 128)) (sym t.next) ∙ t.sound }));
      sound = ap broken_image same ∙ t.sound;
      files = torn_files image r.log.0 r.place whole at torn ∙ ap files_of (sym same);
    }
sound_without image (Some r) whole inside (inr s) =
    let t : IsSuperseding image = s.superseding in
    let same : without_record image (Some r) ≡ without_two image t.log.0 t.file.used =
    ap (λ low. if low then without_two image r.log.0 r.used else zeros_at image r.place 128) (lt_true r.used 29 (let free = t.free in omega (arith, free, s.used_is)))
    ∙ ap (λ (log : PageId). without_two image log.0 r.used) (sym s.log_is)
    ∙ ap (without_two image t.log.0) (sym s.used_is) in
    record {
      settles = inr (inr t);
      sound = ap broken_image same ∙ t.sound;
      files = superseding_files image whole t ∙ ap files_of (sym same);
    }

-- the image that is settled is sound, and has the files that the image mends to
pub settles_to : (image : List ℕ) (trouble : Trouble) (sectors : ℕ) → length image ≡ 4096 * sectors → IsTroubleInside (length image) trouble → IsCutBy image trouble
    → IsMended image (settled_image image trouble)
settles_to image trouble sectors size inside cut =
    let mid : List ℕ = settled image (meant trouble.under_way) in
    let long : length mid ≡ length image = settled_long image (meant trouble.under_way) cut.found in
    let whole : 256 * pages_of mid ≡ length mid = omega (arith, long, size) in
    let there : HasRecord (length mid) trouble.torn = subst (λ n. HasRecord n trouble.torn) (sym long) inside.torn in
    let s : IsSoundWithout mid trouble.torn = sound_without mid trouble.torn whole there cut.settles in
    record {
      files = files_of mid;
      mends = record { under_way = meant trouble.under_way; found = cut.found; settles = s.settles; files_are = refl };
      sound = s.sound;
      kept = λ f has. subst (λ fs. Contains fs f) s.files has;
      only = λ f has. subst (λ fs. Contains fs f) (sym s.files) has;
    }

-- so the image mends to its files
pub mends_settled : (image : List ℕ) (trouble : Trouble) (sectors : ℕ) → length image ≡ 4096 * sectors → IsTroubleInside (length image) trouble → IsCutBy image trouble
    → MendsToFiles image (files_of_image (settled_image image trouble))
mends_settled image trouble sectors size inside cut =
    let m = settles_to image trouble sectors size inside cut in
    table_mends image (settled_image image trouble) m.files m.mends m.kept m.only

-- no cut can have left an image that mends to nothing
pub of_no_files : (image : List ℕ) → MendsToNone image → IsOfNoCut image
of_no_files image none files m cut = absurd (none m.named m.mends)

-- and none that is found to be of no cut
pub of_no_database : (image : List ℕ) (trouble : Trouble) (sectors : ℕ) → length image ≡ 4096 * sectors → IsTroubleInside (length image) trouble → IsCutBy image trouble
    → IsSurveyed (settled_image image trouble) (erased_sector trouble.under_way) false → IsOfNoCut image
of_no_database image trouble sectors size inside cut surveyed files m table =
    let settled_files : Table = files_of_image (settled_image image trouble) in
    let n : MendsToFiles image settled_files = mends_settled image trouble sectors size inside cut in
    let in_vain = surveyed (one_cut image files settled_files sectors size m n table) in
    (sym (one_there image files settled_files catalog_file sectors size m n) ∙ in_vain.without, trouble, record { files = cut; in_vain = in_vain })

-- what a mended image has is what a cut can have left
pub mended_cut : (image mended : List ℕ) (trouble : Trouble) (sectors : ℕ) → length image ≡ 4096 * sectors → IsTroubleInside (length image) trouble → IsLeftByCut image trouble → IsMended image mended
    → IsCutTable (files_of_image mended)
mended_cut image mended trouble sectors size inside left m =
    one_cut image (files_of_image (settled_image image trouble)) (files_of_image mended) sectors size (mends_settled image trouble sectors size inside left.files) (table_mends image mended m.files m.mends m.kept m.only)
    left.database.files

-- ---- the catalog's file

-- it is there where a file has its name, and is not where none has
pub is_named_there : (files : Table) (id : ℕ) → IsNamed files id catalog_file → is_there catalog_file files ≡ true
is_named_there files id named = named_there files id catalog_file named

pub is_unnamed_there : (files : Table) → IsUnnamed files catalog_file → is_there catalog_file files ≡ false
is_unnamed_there files none = ap is_some (named_none files catalog_file none)

-- ---- what is found

-- the first broken rule of an image that no cut can have left
pub strange_found : (old first : List ℕ) (judged : Result ⊤ BadImage) (bad : BadImage) → first ≡ old → IfErr judged (λ b. IsFirstBroken old b.rule b.place) → judged ≡ Err bad → IsOfNoCut first
    → IsStrange old bad.rule bad.place
strange_found old first judged bad same broken is none = record { first = rw is at broken; of_no_cut = subst IsOfNoCut same none }

-- what is surveyed with no
pub cut_refused : (old first second : List ℕ) (judged : Result ⊤ BadImage) (bad : BadImage) (trouble : Trouble) (b : Bool) (sectors : ℕ) → length old ≡ 4096 * sectors → IsTroubleInside (length old) trouble
    → first ≡ old → second ≡ first → IfErr judged (λ b. IsFirstBroken old b.rule b.place) → judged ≡ Err bad → IsCutBy first trouble
    → IsSurveyed (settled_image second trouble) (erased_sector trouble.under_way) b → b ≡ false → IsStrange old bad.rule bad.place
cut_refused old first second judged bad trouble b sectors size inside same again broken is cut surveyed refused =
    strange_found old old judged bad refl broken is
    (of_no_database old trouble sectors size inside (subst (λ i. IsCutBy i trouble) same cut)
    (subst (λ i. IsSurveyed (settled_image i trouble) (erased_sector trouble.under_way) false) (again ∙ same)
    (subst (IsSurveyed (settled_image second trouble) (erased_sector trouble.under_way)) refused surveyed)))

-- and with yes
pub cut_found : (old first second : List ℕ) (judged : Result ⊤ BadImage) (bad : BadImage) (trouble : Trouble) (b : Bool) → ((image : List ℕ) (rule place : ℕ) → IsSound image → IsFirstBroken image rule place → ⊥)
    → first ≡ old → second ≡ first → IfErr judged (λ b. IsFirstBroken old b.rule b.place) → judged ≡ Err bad → IsCutBy first trouble
    → IsSurveyed (settled_image second trouble) (erased_sector trouble.under_way) b → b ≡ true → (IsSound old → ⊥) × IsLeftByCut old trouble
cut_found old first second judged bad trouble b unbroken same again broken is cut surveyed taken =
    let first_broken : IsFirstBroken old bad.rule bad.place = rw is at broken in (
      λ sound. unbroken old bad.rule bad.place sound first_broken,
      record {
        files = subst (λ i. IsCutBy i trouble) same cut;
        database =
            subst (λ i. IsSurveyed (settled_image i trouble) (erased_sector trouble.under_way) true) (again ∙ same)
            (subst (IsSurveyed (settled_image second trouble) (erased_sector trouble.under_way)) taken surveyed);
      },
    )
