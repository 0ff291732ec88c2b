-- A file is made obsolete with its log, of which a record is torn: the image is sound then, and has all its other files.
use Rattle.std.proofs.Common.{◌≡◌, ◌≢◌, inl, ⊎_elim, ℕ, ◌+◌, ◌*◌, ◌/◌, ◌≤◌, List, length, get_or, Option, Some, None, refl, ap, sym, subst, ◌∙◌, arith}
use Rattle.std.specs.Prelude.{set, IfOk, Result, Ok, Err}
use Rattle.std.specs.List.{Contains}
use Rattle.std.specs.Option.{IfSome}
use Rattle.std.proofs.lemmas.List.{length-set}
use Rattle.afl_base.specs.Image.{zeros_at}
use Rattle.coffee_layout.specs.Files.{FitsIn, NamedFile, files_of}
use Rattle.coffee_layout.specs.Rules.{broken_image}
use Rattle.coffee_layout.specs.Tiling.{units_of}
use Rattle.coffee_layout.specs.declared.file.FileAt.{FileAt}
use Rattle.coffee_layout.specs.declared.unit.Unit.TheVariants.{Extent}
use Rattle.coffee_merge.specs.Begun.{unit_begun}
use Rattle.coffee_merge.specs.Flags.{flagged, obsoleted}
use Rattle.coffee_merge.specs.Holding.{Entries, HoldsTable, IsIn, Sets, Stays, file_flags, file_header, log_header}
use Rattle.coffee_merge.specs.TableFiles.{file_of}
use Rattle.coffee_merge.proofs.Begun.{begun_active}
use Rattle.coffee_merge.proofs.Commits.{retired}
use Rattle.coffee_merge.proofs.Holdings.{file_unit, holds_tiled, is_in_set, is_in_there, log_unit}
use Rattle.coffee_merge.proofs.MovedFiles.{content_same}
use Rattle.coffee_merge.proofs.SoundFiles.{entry_file, file_entry}
use Rattle.coffee_merge.proofs.SoundImages.{held_sound}
use Rattle.coffee_cuts.specs.Cuts.{IsActiveAt, MendsTo, Unnamed}
use Rattle.coffee_cuts.proofs.Mended.{sparing_without}
use Rattle.coffee_find.specs.Found.{HasPage, IsRecordInside}
use Rattle.coffee_find.specs.declared.trouble.TornRecord.{TornRecord}
use Rattle.coffee_mend.proofs.Beside.{stays, torn_files}
use Rattle.coffee_mend.proofs.HiddenBytes.{blank_but, next_high, next_low}
use Rattle.coffee_mend.proofs.Joins.{log_gone, log_left}
use Rattle.coffee_mend.proofs.LikeSettlings.{HasLogUnit, flagged_but, found_back}
use Rattle.coffee_mend.proofs.Supersedings.{record_fits}
use Rattle.coffee_mend.proofs.TornOwners.{torn_hidden}
use Rattle.coffee_mend.specs.Discarded.{IsDiscarded, discarded}
use Rattle.coffee_mend.specs.Joined.{HidesRecord, IsNextIn, IsSameBut, old_log_header}
use Rattle.coffee_mend.specs.Superseding.{IsTornOf}
use Rattle.padded.proofs.Facts.{none_some, some_same}

module _ (image : List ℕ) (table : Entries) (i : ℕ) (file : FileAt) (place : ℕ) (r : HidesRecord image table None i file place) (same_files : files_of image ≡ files_of (zeros_at image place 128)) where
  abbrev shown : List ℕ
  shown = zeros_at image place 128

  abbrev rest : Entries
  rest = set table i None

  abbrev n : IsNextIn (length image) place file
  n = r.record_is

  holds : HoldsTable shown table None
  holds = r.table_is.holds

  -- the image without the file, and the same where the record is zero
  abbrev gone : List ℕ
  gone = discarded image file n.log

  abbrev clear : List ℕ
  clear = discarded shown file n.log

  half_but : IsSameBut (flagged shown file.page.0 4) (flagged image file.page.0 4) place
  half_but = flagged_but shown image place file.page.0 4 (blank_but image place n.inside)

  gone_but : IsSameBut clear gone place
  gone_but = flagged_but (flagged shown file.page.0 4) (flagged image file.page.0 4) place n.log.0 4 half_but

  low : 256 * n.log.0 + 96 ≤ place
  low = let l = next_low (length image) place file n in omega (arith, l)

  high : place + 128 ≤ 256 * n.log.0 + 4096
  high = next_high (length image) place file n

  unit : unit_begun (units_of shown) 0 file.page.0 ≡ Some (Extent (file_header file))
  unit = file_unit shown table None i file holds r.there

  log_is : unit_begun (units_of shown) 0 n.log.0 ≡ Some (Extent (log_header file.name))
  log_is = log_unit shown table None i file n.log holds r.there n.logged

  eleven : file_flags file.log ≡ 11
  eleven = ap file_flags n.logged

  begun : unit_begun (units_of clear) 0 n.log.0 ≡ Some (Extent (old_log_header file.name))
  begun = log_gone shown file.page.0 n.log.0 (file_header file) file.name (holds_tiled shown table None holds) unit eleven log_is

  sets : Sets shown clear table i None
  sets = subst (λ o. Sets shown (obsoleted shown file.page.0 o) table i None) n.logged (retired shown table i file holds r.there)

  -- an obsolete log has no torn record
  stay : Stays clear gone rest
  stay = let l = low in let h = high in stays clear gone place n.log.0 (old_log_header file.name) gone_but (omega (arith, l)) (omega (arith, h)) begun rest sets.holds refl

  gone_sound : broken_image gone ≡ None
  gone_sound =
      let few = r.table_is.few in
      let long = length-set table i None in
      held_sound gone rest stay.holds (omega (arith, few, long)) (sparing_without table i r.table_is.sparing)

  -- THE OTHER FILES

  same : (k : ℕ) (e : FileAt) → k ≢ i → IsIn table k e → file_of gone e ≡ file_of shown e
  same k e other at =
      let after : IsIn rest k e = is_in_there table i None k e other at in
      content_same shown gone e (holds.stored k e at) (stay.holds.stored k e after) (λ p within. stay.kept k e after p within ∙ sets.others k e other at p within)

  other_than : (k : ℕ) (e : FileAt) → IsIn table k e → e.name ≢ file.name → k ≢ i
  other_than k e at differs here = differs (ap (λ (x : FileAt). x.name) (some_same e file (sym at ∙ ap (λ j. get_or table j None) here ∙ r.there)))

  kept : (f : NamedFile) → Contains (files_of image) f → f.name ≢ file.name → Contains (files_of gone) f
  kept f has differs =
      let at = file_entry shown table f holds (subst (λ fs. Contains fs f) same_files has) in
      let other : at.0 ≢ i = other_than at.0 at.1 at.2 (λ named. differs (ap (λ (x : NamedFile). x.name) at.3 ∙ named)) in
      subst (Contains (files_of gone)) (same at.0 at.1 other at.2 ∙ sym at.3) (entry_file gone rest at.0 at.1 stay.holds (is_in_there table i None at.0 at.1 other at.2))

  only_entry : (f : NamedFile) (k : ℕ) (e : FileAt) → k ≢ i → IsIn table k e → f ≡ file_of gone e → Contains (files_of image) f × (f.name ≢ file.name)
  only_entry f k e other at is = (
    subst (λ fs. Contains fs f) (sym same_files) (subst (Contains (files_of shown)) (sym (same k e other at) ∙ sym is) (entry_file shown table k e holds at)),
    λ named. other (holds.names k i e file at r.there (sym (ap (λ (x : NamedFile). x.name) is) ∙ named)),
  )

  only : (f : NamedFile) → Contains (files_of gone) f → Contains (files_of image) f × (f.name ≢ file.name)
  only f has =
      let at = file_entry gone rest f stay.holds has in
      ⊎_elim
      (λ (a : (at.0 ≡ i) × (None ≡ Some at.1)). absurd (none_some at.1 a.1))
      (λ (a : (at.0 ≢ i) × IsIn table at.0 at.1). only_entry f at.0 at.1 a.0 a.1 at.3)
      (is_in_set table i None at.0 at.1 at.2)

  there : (f : NamedFile) × Contains (files_of image) f × (f.name ≡ file.name)
  there = (file_of shown file, subst (λ fs. Contains fs (file_of shown file)) (sym same_files) (entry_file shown table i file holds r.there), refl)

  -- THE LOG IS NOT OBSOLETE YET

  left : IsActiveAt (flagged shown file.page.0 4) n.log.0 19
  left =
      let l = log_left shown file.page.0 n.log.0 (file_header file) file.name (holds_tiled shown table None holds) unit eleven log_is in
      record {
        header = log_header file.name;
        there = begun_active (units_of (flagged shown file.page.0 4)) n.log.0 (log_header file.name) l.1 refl;
        flags_are = refl;
      }

  between : MendsTo (flagged image file.page.0 4) (files_of gone)
  between =
      let at : HasLogUnit clear n.log.0 (Unnamed n.log.0) = record {
        tiled = holds_tiled clear rest None sets.holds;
        header = old_log_header file.name;
        begun = begun;
        sixteen = refl;
        stands = λ sector page same. cc;
      } in
      record {
        under_way = Unnamed n.log.0;
        found = found_back (flagged shown file.page.0 4) (flagged image file.page.0 4) place n.log.0 half_but low high (Unnamed n.log.0) left at;
        settles = inl gone_sound;
        files_are = refl;
      }

  pub hidden_discards : IsDiscarded image file n.log
  hidden_discards = record { sound = gone_sound; there = there; kept = kept; only = only; between = between }

-- a file whose log has a torn record is gone with it, and no other
pub discards : (image : List ℕ) (sectors : ℕ) → length image ≡ 4096 * sectors → sectors ≤ 4096 → (torn : TornRecord) → IsRecordInside (length image) torn → (file : FileAt) → IsTornOf image torn file → IsDiscarded image file torn.log
discards image sectors size small torn inside file t =
    let fits : torn.place + 128 ≤ length image = record_fits (length image) torn inside in
    let h = torn_hidden image torn.log torn.place sectors file size small fits t.torn t.owner in
    let same : files_of image ≡ files_of (zeros_at image torn.place 128) = torn_files image torn.log.0 torn.place (omega (arith, size)) fits t.torn in
    subst (IsDiscarded image file) (some_same h.1.record_is.log torn.log (sym h.1.record_is.logged ∙ t.owner.logged))
    (hidden_discards image _ h.0 file torn.place h.1 same)

-- WHICH FILE IT IS

-- a file that is found, where one is
pub found_one : {T : Type 0} {P Q : FileAt → Type 0} → (r : Result (Option FileAt) T) → ((f : FileAt) → P f → Q f) → IfOk r (λ o. o ≢ None) → IfOk r (λ o. IfSome o P) → IfOk r (λ o. (f : FileAt) × (o ≡ Some f) × Q f)
found_one (Err e) more some is = tt
found_one (Ok None) more some is = absurd (some refl)
found_one (Ok (Some f)) more some is = (f, refl, more f is)

-- its page lies inside the flash
pub page_inside : (size : ℕ) (f : FileAt) → FitsIn (size / 256) f → HasPage size f.page.0
page_inside size f fits =
    let some = fits.some in
    let placed = fits.placed in
    omega (arith, some, placed)

pub pages_inside : {T : Type 0} → (size : ℕ) (r : Result (Option FileAt) T) → IfOk r (λ o. IfSome o (FitsIn (size / 256))) → IfOk r (λ o. IfSome o (λ f. HasPage size f.page.0))
pages_inside size (Err e) fits = tt
pages_inside size (Ok None) fits = tt
pages_inside size (Ok (Some f)) fits = page_inside size f fits
