-- The database that an image mends to is the one that stands in it once it is repaired.
use Rattle.std.proofs.Common.{◌≡◌, inl, inr, ⊎_elim, ℕ, ◌*◌, List, length, Option, None, Some, false, refl, ap, sym, subst, ◌∙◌, arith}
use Rattle.std.specs.Prelude.{◌≢◌, [], is_some, ⊤, Result, Ok, Err, IfErr, IfOk, OnOk}
use Rattle.std.proofs.lemmas.Result.{IfOk-weaker, on_ok_weaker}
use Rattle.afl_base.specs.Files.{File, State, Table}
use Rattle.coffee_layout.specs.Rules.{broken_image}
use Rattle.coffee_layout.specs.declared.unit.BadImage.{BadImage}
use Rattle.coffee_mend.specs.Mended.{IsMended}
use Rattle.coffee_volume.specs.Cuts.{MendsToFiles}
use Rattle.coffee_volume.specs.Mounting.{mounted_state}
use Rattle.db_model.specs.Database.{Database, empty_database}
use Rattle.space_model.specs.FileNames.{bytes_in_file, catalog_file, file_named, is_there}
use Rattle.stored.proofs.MendedBase.{mended_none}
use Rattle.image_model.specs.Images.{IsFirstBroken, IsSound, base, files_of_image}
use Rattle.image_model.specs.Mending.{ImageMendsTo, ImageReadsAs}
use Rattle.image_model.proofs.Mounted.{mounted_files}
use Rattle.image_model.proofs.OneBase.{one_base, sound_is, table_mends}
use Rattle.stored.specs.Mended.{mended_base, whole_bytes}
use Rattle.stored.specs.Sound.{BreaksFirst, IsSoundTable}
use Rattle.stored_mend.specs.Mending.{IsPutRight}
use Rattle.stored_mend.proofs.PutRight.{put_right_same}
use Rattle.run_repair.specs.Findings.{MayBeCut}
use Rattle.run_repair.specs.Mends.{IsHindered, MendsButLacks, MendsPutRight, OnSpaceless, StaysOrMends, StillMendsButLacks}
use Rattle.run_repair.specs.Outcomes.{RepairsTo}
use Rattle.run_repair.specs.Repairs.{Leaves, Repairs, database_in, status_after}
use Rattle.run_repair.specs.declared.came.Came.{Came}
use Rattle.run_repair.specs.declared.came.Came.TheVariants.{Sound, Repaired, Strange}
use Rattle.run_repair.specs.declared.came.Hindrance.{Hindrance}
use Rattle.run_repair.specs.declared.came.Hindrance.TheVariants.{Spaceless, Unsettled, Failed}

-- ---- what is left

-- and is so whatever hinders it after its first write
pub left_hindered : (old new : List ℕ) (came : Result Came Hindrance) (why : Hindrance) → (IsSound old → ⊥) → MayBeCut old → IsHindered why → OnSpaceless why (StillMendsButLacks old new) → came ≡ Err why
    → Leaves old new came
left_hindered old new came why unsound cut hindered lacking is = subst (Leaves old new) (sym is) (by_reason why hindered lacking)
  where
    by_reason : (why : Hindrance) → IsHindered why → OnSpaceless why (StillMendsButLacks old new) → Leaves old new (Err why)
    by_reason (Spaceless need) h l = (unsound, cut, l)
    by_reason (Unsettled bad) h l = absurd h
    by_reason Failed h l = inr (unsound, cut)

-- ---- a volume over an image

-- what is judged of its files is judged of the image
pub judged_sound : {E : Type 0} (image mid : List ℕ) (state : State) (judged : Result (Result ⊤ BadImage) E) → state ≡ mounted_state mid → mid ≡ image → broken_image image ≡ None
    → IfOk judged (λ r. OnOk r (IsSoundTable state.files)) → IfOk judged (λ r. OnOk r (IsSound image))
judged_sound image mid state judged mounted same unbroken says =
    let files : state.files ≡ files_of_image image = ap (λ (s : State). s.files) mounted ∙ mounted_files mid ∙ ap files_of_image same in
    IfOk-weaker judged (λ r. OnOk r (IsSoundTable state.files)) (λ r. OnOk r (IsSound image))
    (λ r sound. on_ok_weaker r (λ table. record { volume = unbroken; database = subst IsSoundTable files table }) sound) says

pub judged_bad : {E : Type 0} (image mid : List ℕ) (state : State) (judged : Result (Result ⊤ BadImage) E) → state ≡ mounted_state mid → mid ≡ image → broken_image image ≡ None
    → IfOk judged (λ r. IfErr r (λ bad. BreaksFirst state.files bad.rule bad.place)) → IfOk judged (λ r. IfErr r (λ bad. IsFirstBroken image bad.rule bad.place))
judged_bad image mid state judged mounted same unbroken says =
    let files : state.files ≡ files_of_image image = ap (λ (s : State). s.files) mounted ∙ mounted_files mid ∙ ap files_of_image same in
    IfOk-weaker judged (λ r. IfErr r (λ bad. BreaksFirst state.files bad.rule bad.place)) (λ r. IfErr r (λ bad. IsFirstBroken image bad.rule bad.place))
    (λ r broken. by_error files r broken) says
  where
    by_error : state.files ≡ files_of_image image → (r : Result ⊤ BadImage) → IfErr r (λ bad. BreaksFirst state.files bad.rule bad.place) → IfErr r (λ bad. IsFirstBroken image bad.rule bad.place)
    by_error files (Ok x) broken = tt
    by_error files (Err bad) broken = inr (unbroken, subst (λ table. BreaksFirst table bad.rule bad.place) files broken)

-- ---- laws

left_there : (old new : List ℕ) (came : Result Came Hindrance) (db : Database) (sectors : ℕ) → length old ≡ 4096 * sectors → ImageReadsAs old (λ mended. mended ≡ db)
    → Leaves old new came → 0 ≡ status_after came → IsSound new × IsPutRight db (base new)
left_there old new (Ok Sound) db sectors size m l e =
    let same : new ≡ old = l.1 in
    (subst IsSound (sym same) l.0, put_right_same db (base new) (ap base same ∙ sound_is old db sectors size l.0 m))
left_there old new (Ok Repaired) db sectors size m l e =
    let r = l.3 in
    (l.2, subst (λ d. IsPutRight d (base new)) (one_base old r.files m.files sectors size r.mends_to m.mends_to ∙ m.is) r.is)
left_there old new (Ok (Strange bad)) db sectors size m l e = absurd (omega (arith, e))
left_there old new (Err (Spaceless need)) db sectors size m l e = absurd (omega (arith, e))
left_there old new (Err (Unsettled bad)) db sectors size m l e = absurd (omega (arith, e))
left_there old new (Err Failed) db sectors size m l e = absurd (omega (arith, e))

-- where there is no catalog the database is the empty one
no_catalog : (files : Table) → is_there catalog_file files ≡ false → mended_base files ≡ empty_database
no_catalog files without = mended_none files (ap whole_bytes (by_file (file_named catalog_file files) refl without))
  where
    by_file : (o : Option File) → file_named catalog_file files ≡ o → is_some o ≡ false → bytes_in_file (file_named catalog_file files) ≡ []
    by_file None e none = ap bytes_in_file e
    by_file (Some f) e none = cc

pub cut_repaired : (status : ℕ) (old new : List ℕ) (held now : Option (List ℕ)) (db : Database) (sectors : ℕ) → length old ≡ 4096 * sectors → ImageMendsTo old (λ mended. mended ≡ db)
    → Repairs status old new held now → (status ≡ 4 → StaysOrMends old new) → status ≢ 5 → RepairsTo status db old new
cut_repaired status old new held now db sectors size m r cut unsaid = ⊎_elim
    (λ (all : (status ≡ status_after r.came) × _). by_came r.came r.leaves all.0)
    (λ (less : (status ≡ 5) × _). absurd (unsaid less.0))
    r.says
  where
    reads : ImageReadsAs old (λ mended. mended ≡ db)
    reads = record { files = m.files; mends_to = m.mends_to; is = m.is }

    -- what an image mends to is the database
    same : (files : Table) → MendsToFiles old files → mended_base files ≡ db
    same files n = one_base old files m.files sectors size n m.mends_to ∙ m.is

    by_cut : StaysOrMends old new → MendsPutRight db new
    by_cut (inl stays) = subst (MendsPutRight db) (sym stays) (record { files = m.files; mends_to = m.mends_to; cut = m.cut; is = put_right_same db (mended_base m.files) m.is })
    by_cut (inr still) = subst (λ d. MendsPutRight d new) (same still.files still.mends_to) still.is

    by_came : (came : Result Came Hindrance) → Leaves old new came → status ≡ status_after came → RepairsTo status db old new
    by_came (Ok Sound) l e = let r = left_there old new (Ok Sound) db sectors size reads l refl in inl (e, record { sound = r.0; base_is = r.1 })
    by_came (Ok Repaired) l e = let r = left_there old new (Ok Repaired) db sectors size reads l refl in inl (e, record { sound = r.0; base_is = r.1 })
    by_came (Ok (Strange bad)) l e = let r = l.strange.of_no_cut m.files m.mends_to m.cut in inr (inr (inr (e, record { same = l.same; empty = sym m.is ∙ no_catalog m.files r.0 })))
    by_came (Err (Spaceless need)) l e = let s = l.2 in inr (inl (e, (need, subst (λ d. MendsButLacks d new need) (same s.files s.mends_to) s.is)))
    by_came (Err (Unsettled bad)) l e = absurd l
    by_came (Err Failed) l e = inr (inr (inl (e, by_cut (cut e))))

pub repaired_base : (old new : List ℕ) (held now : Option (List ℕ)) (db : Database) (sectors : ℕ) → length old ≡ 4096 * sectors → ImageReadsAs old (λ mended. mended ≡ db)
    → Repairs 0 old new held now → IsSound new × IsPutRight db (base new)
repaired_base old new held now db sectors size m r = ⊎_elim
    (λ (all : (0 ≡ status_after r.came) × _). left_there old new r.came db sectors size m r.leaves all.0)
    (λ (less : (0 ≡ 5) × _). absurd (let five : 0 ≡ 5 = less.0 in omega (arith, five)))
    r.says

pub mended_is : (old new : List ℕ) (db : Database) (sectors : ℕ) → length old ≡ 4096 * sectors → ImageReadsAs old (λ mended. mended ≡ db) → IsMended old new → database_in new ≡ db
mended_is old new db sectors size m is =
    one_base old (files_of_image new) m.files sectors size (table_mends old new is.files is.mends is.kept is.only) m.mends_to ∙ m.is
