-- What a torn record is: one that may be superseded, or one whose file is put together with its log.
use Rattle.std.proofs.Common.{◌≡◌, ◌⊎◌, inl, inr, ⊎_elim, ℕ, ◌+◌, ◌*◌, ◌/◌, ◌<◌, ◌≤◌, List, length, Some, None, refl, ap, sym, subst, ◌∙◌, arith}
use Rattle.std.proofs.lemmas.Bool.{cases_lt}
use Rattle.std.specs.List.{Contains}
use Rattle.afl_base.specs.Image.{zeros_at}
use Rattle.afl_base.specs.declared.ids.PageId.{PageId}
use Rattle.coffee_layout.specs.FileBytes.{file_byte, number_in, record_place, table_of, used_in}
use Rattle.coffee_layout.specs.Files.{entry_of, files_in, files_of, listed}
use Rattle.coffee_layout.specs.Rules.{broken_image}
use Rattle.coffee_layout.specs.Tiling.{units_of}
use Rattle.coffee_layout.specs.Units.{pages_of}
use Rattle.coffee_layout.specs.declared.file.FileAt.{FileAt}
use Rattle.coffee_merge.specs.Holding.{HoldsTable, log_header}
use Rattle.coffee_merge.proofs.MovedFiles.{held_listed}
use Rattle.coffee_merge.proofs.SoundEntries.{table_by}
use Rattle.coffee_merge.proofs.SoundTables.{sound_held}
use Rattle.coffee_cuts.specs.Cuts.{IsActiveAt, IsSuperseding, Nothing, without_two}
use Rattle.coffee_cuts.specs.Superseded.{SupersedesFurther, IsSuperseded}
use Rattle.coffee_cuts.proofs.SupersededRecords.{superseded_files, superseded_sound}
use Rattle.coffee_cuts.proofs.Superseding.{in_use, log_active, one_is_two, superseding_files, two_long}
use Rattle.coffee_cuts.proofs.SupersedingSteps.{goes_on, on_files}
use Rattle.coffee_find.specs.Found.{IsRecordInside, IsSoundBut, IsSupersededAt, without_record}
use Rattle.coffee_find.specs.Search.{IsFirstRegion}
use Rattle.coffee_find.specs.declared.trouble.TornRecord.{TornRecord}
use Rattle.coffee_find.proofs.SettledSizes.{one_owner, without_low}
use Rattle.coffee_mend.proofs.Beside.{log_there}
use Rattle.coffee_mend.specs.Mended.{IsSoundAs, MendsLike}
use Rattle.coffee_mend.specs.Superseding.{GoesOnOrIsDone, HoldsFirst, IsTornOf}

pub record_fits : (size : ℕ) (r : TornRecord) → IsRecordInside size r → r.place + 128 ≤ size
record_fits size r inside =
    let log = inside.log in
    let few = inside.few in
    let place = inside.place in
    omega (arith, log, few, place)

-- the last record of a log is taken away alone
without_last : (image : List ℕ) (r : TornRecord) → r.used ≡ 29 → without_record image (Some r) ≡ zeros_at image r.place 128
without_last image r last = rw last refl

-- the log of a listed file is active
log_of_listed : (image : List ℕ) (file : FileAt) (log : PageId) → broken_image image ≡ None → 256 * pages_of image ≡ length image → Contains (listed image) file → file.log ≡ Some log → IsActiveAt image log.0 19
log_of_listed image file log sound whole there logged =
    let holds : HoldsTable image (table_by (entry_of image) (files_in (units_of image)) 0) None = sound_held image 0 sound whole in
    let at = held_listed image (table_by (entry_of image) (files_in (units_of image)) 0) file holds there in
    record { header = log_header file.name; there = holds.logs at.0 file log at.1 logged; flags_are = refl }

module _ (image : List ℕ) (sectors : ℕ) (size : length image ≡ 4096 * sectors) (r : TornRecord) (inside : IsRecordInside (length image) r) where
  abbrev base : List ℕ
  base = without_record image (Some r)

  whole : 256 * pages_of image ≡ length image
  whole = omega (arith, size)

  -- WHERE IT MAY BE SUPERSEDED

  module _ (s : IsSupersededAt image r) where
    abbrev t : IsSuperseding image
    t = s.superseding

    low : r.used < 29
    low = let f = t.free in let u = s.used_is in omega (arith, f, u)

    two_is : without_two image t.log.0 t.file.used ≡ without_two image r.log.0 r.used
    two_is = ap (λ (l : PageId). without_two image l.0 t.file.used) s.log_is ∙ ap (without_two image r.log.0) s.used_is

    base_is : without_two image t.log.0 t.file.used ≡ base
    base_is = two_is ∙ sym (without_low image r low)

    base_whole : 256 * pages_of base ≡ length base
    base_whole = subst (λ x. 256 * pages_of x ≡ length x) (sym (without_low image r low)) (ap (λ m. 256 * (m / 256)) (two_long image r.log.0 r.used low inside.log) ∙ whole ∙ sym (two_long image r.log.0 r.used low inside.log))

    base_sound : broken_image base ≡ None
    base_sound = subst (λ x. broken_image x ≡ None) base_is t.sound

    base_there : Contains (listed base) t.file
    base_there = subst (λ x. Contains (listed x) t.file) base_is t.there

    t_logged : t.file.log ≡ Some r.log
    t_logged = t.logged ∙ ap Some s.log_is

    base_active : IsActiveAt base r.log.0 19
    base_active = log_of_listed base t.file r.log base_sound base_whole base_there t_logged

    module _ (file : FileAt) (region : List ℕ) (f : IsFirstRegion base r.log file region) where
      one : t.file ≡ file
      one = one_owner base t.file file r.log base_sound base_whole base_there f.there t_logged f.logged

      pub holds_first : HoldsFirst image r region t
      holds_first = record {
        log_is = s.log_is;
        used_is = s.used_is;
        bytes = λ k few. f.bytes k few ∙ ap (λ (x : FileAt). file_byte base x.page.0 x.log k) (sym one) ∙ ap (λ x. file_byte x t.file.page.0 t.file.log k) (sym base_is);
      }

      pub some_size : 1 ≤ file.size → 1 ≤ t.file.size
      some_size some = subst (λ (x : FileAt). 1 ≤ x.size) (sym one) some

      -- a file of no bytes
      module _ (none : file.size ≡ 0) where
        empty : t.file.size ≡ 0
        empty = ap (λ (x : FileAt). x.size) one ∙ none

        alone : zeros_at image (record_place t.log.0 t.file.used) 128 ≡ without_two image t.log.0 t.file.used
        alone =
            let two : List ℕ = without_two image t.log.0 t.file.used in
            let two_whole : 256 * pages_of (without_two image t.log.0 t.file.used) ≡ length (without_two image t.log.0 t.file.used) = subst (λ x. 256 * pages_of x ≡ length x) (sym base_is) base_whole in
            let holds : HoldsTable two (table_by (entry_of two) (files_in (units_of two)) 0) None = sound_held two 0 t.sound two_whole in
            let at = held_listed two (table_by (entry_of two) (files_in (units_of two)) 0) t.file holds t.there in
            let stored = holds.stored at.0 t.file at.1 in
            let some = stored.fits.some in
            let no_bytes = empty in
            one_is_two image t.log.0 t.file.used t.free t.inside
            (λ k few. ⊎_elim
            (λ (low : k < t.done). t.front k low ∙ stored.file.zeros k (omega (arith, no_bytes)) (omega (arith, few, some)))
            (λ (high : t.done ≤ k). t.rest k high few)
            (cases_lt k t.done))
            (⊎_elim
            (λ n. n)
            (λ (n : (number_in (table_of image t.log.0) (t.file.used + 1) ≡ 1) × (t.done ≡ 128) × (1 ≤ t.file.size)). let has = n.2 in absurd (omega (arith, has, no_bytes)))
            t.number)

        used_same : used_in (table_of image r.log.0) ≡ r.used
        used_same = ap (λ (l : PageId). used_in (table_of image l.0)) (sym s.log_is) ∙ in_use image whole t ∙ s.used_is

        zero_is : zeros_at image r.place 128 ≡ base
        zero_is =
            ap (λ p. zeros_at image p 128) (inside.place ∙ ap (λ (l : PageId). record_place l.0 r.used) (sym s.log_is) ∙ ap (record_place t.log.0) (sym s.used_is)) ∙ alone ∙ base_is

        pub empty_of : IsTornOf image r file
        empty_of = record {
          torn = record {
            is_log = subst (λ (l : PageId). IsActiveAt image l.0 19) s.log_is (log_active image whole t);
            free = let l = low in let u = used_same in omega (arith, l, u);
            next = inside.place ∙ ap (record_place r.log.0) (sym used_same);
            sound = ap broken_image zero_is ∙ base_sound;
          };
          owner = record { there = subst (λ x. Contains (listed x) file) (sym zero_is) f.there; logged = f.logged };
        }

  -- EITHER WAY

  -- without the record the image is sound, and the log is active in it
  pub sound_without : IsSoundBut image (Some r) → (broken_image base ≡ None) × IsActiveAt base r.log.0 19
  sound_without (inl t) =
      let is : base ≡ zeros_at image r.place 128 = without_last image r t.0 in
      (ap broken_image is ∙ t.1.sound, subst (λ x. IsActiveAt x r.log.0 19) (sym is) (log_there image r.log.0 r.place whole (record_fits (length image) r inside) t.1))
  sound_without (inr s) = (base_sound s, base_active s)

  -- so it is put together with its log where it is the last one, or its file has no bytes
  pub torn_of : (file : FileAt) (region : List ℕ) → IsFirstRegion base r.log file region → (r.used ≡ 29) ⊎ (file.size ≡ 0) → IsSoundBut image (Some r) → IsTornOf image r file
  torn_of file region f last (inl t) =
      let is : base ≡ zeros_at image r.place 128 = without_last image r t.0 in
      record { torn = t.1; owner = record { there = subst (λ x. Contains (listed x) file) is f.there; logged = f.logged } }
  torn_of file region f last (inr s) = ⊎_elim
      (λ (is : r.used ≡ 29). let less = low s in absurd (omega (arith, less, is)))
      (λ (none : file.size ≡ 0). empty_of s file region f none)
      last

  -- and is superseded elsewhere
  superseded_at : r.used < 29 → IsSoundBut image (Some r) → IsSupersededAt image r
  superseded_at less (inl t) = let last = t.0 in absurd (omega (arith, less, last))
  superseded_at less (inr s) = s

  -- WHAT SUPERSEDING COMES TO

  module _ (new : List ℕ) (file : FileAt) (region : List ℕ) (less : r.used < 29) (some : 1 ≤ file.size) (f : IsFirstRegion base r.log file region) (but : IsSoundBut image (Some r)) where
    abbrev at : IsSupersededAt image r
    at = superseded_at less but

    abbrev t_at : IsSuperseding image
    t_at = at.superseding

    has : 1 ≤ t_at.file.size
    has = some_size at file region f some

    first : HoldsFirst image r region t_at
    first = holds_first at file region f

    -- it is done
    done_sound : IsSuperseded image new t_at → IsSoundAs image new
    done_sound s =
        let same : files_of new ≡ files_of image = superseded_files image new whole t_at has s ∙ sym (superseding_files image whole t_at) in
        record {
          sound = superseded_sound image new whole t_at has s;
          same = record { kept = λ x there. subst (λ fs. Contains fs x) (sym same) there; only = λ x there. subst (λ fs. Contains fs x) same there };
        }

    done_like : IsSuperseded image new t_at → MendsLike image new
    done_like s =
        let d = done_sound s in
        record { files = files_of new; mends = record { under_way = Nothing; found = tt; settles = inl d.sound; files_are = refl }; kept = d.same.kept; only = d.same.only }

    -- or has gone on
    on_like : SupersedesFurther image new t_at → MendsLike image new
    on_like g =
        let same : files_of new ≡ files_of image = on_files image new whole t_at g in
        record {
          files = files_of new;
          mends = record { under_way = Nothing; found = tt; settles = inr (inr (goes_on image new whole t_at g).0); files_are = refl };
          kept = λ x there. subst (λ fs. Contains fs x) (sym same) there;
          only = λ x there. subst (λ fs. Contains fs x) same there;
        }

    pub superseded_as : ((t : IsSuperseding image) → HoldsFirst image r region t → 1 ≤ t.file.size → IsSuperseded image new t) → IsSoundAs image new
    superseded_as known = done_sound (known t_at first has)

    pub superseding_like : ((t : IsSuperseding image) → HoldsFirst image r region t → 1 ≤ t.file.size → GoesOnOrIsDone image new t) → MendsLike image new
    superseding_like known = ⊎_elim (λ g. on_like g) (λ s. done_like s) (known t_at first has)
