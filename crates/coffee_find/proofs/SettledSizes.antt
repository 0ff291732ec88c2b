-- Settling keeps the size of an image, and what a record before the last one of its log shows.
use Rattle.std.proofs.Common.{◌≡◌, ⊎_elim, ℕ, ◌+◌, ◌*◌, ◌/◌, ◌<◌, ◌≢◌, ◌==◌, Bool, true, false, not, List, [], ◌∷◌, length, get_or, Some, None, if◌then◌else◌, refl, ap, sym, subst, ◌∙◌, arith}
use Rattle.std.specs.List.{prefix_len}
use Rattle.std.proofs.lemmas.Bool.{cases_eq, cases_order, not-true}
use Rattle.std.proofs.lemmas.List.FromFn.{get_or-range_with_len, length-range_with_len}
use Rattle.std.proofs.lemmas.List.Sums.{prefix_len_passes, prefix_len_stops}
use Rattle.std.specs.List.{Contains}
use Rattle.afl_base.specs.Image.{zeros_at}
use Rattle.afl_base.specs.declared.ids.PageId.{PageId}
use Rattle.afl_base.proofs.Images.{length_or_at, length_zeros_at}
use Rattle.coffee_layout.specs.FileBytes.{file_byte, number_in, record_place, records, table_of}
use Rattle.coffee_layout.specs.Files.{entry_of, files_in, listed}
use Rattle.coffee_layout.specs.Rules.{broken_image}
use Rattle.coffee_layout.specs.Tiling.{units_of}
use Rattle.coffee_layout.specs.Units.{pages_of}
use Rattle.coffee_layout.specs.declared.file.FileAt.{FileAt}
use Rattle.coffee_layout.proofs.Tests.{false_eq}
use Rattle.coffee_log.proofs.RecordLaws.{kept_number}
use Rattle.coffee_merge.specs.Flags.{flagged}
use Rattle.coffee_merge.specs.Holding.{Entries, HoldsTable}
use Rattle.coffee_merge.proofs.Holdings.{entries_apart}
use Rattle.coffee_merge.proofs.MovedFiles.{held_listed}
use Rattle.coffee_merge.proofs.SoundEntries.{table_by}
use Rattle.coffee_merge.proofs.SoundTables.{sound_held}
use Rattle.padded.proofs.Facts.{lt_true, not_not as not_false, some_same, true_eq}
use Rattle.coffee_cuts.specs.Cuts.{IsNumbered, IsSettled, IsSuperseding, settled, without_two}
use Rattle.coffee_cuts.proofs.Superseding.{two_long, two_others}
use Rattle.coffee_find.specs.Found.{IsInFlash, IsRecordInside, IsSupersededAt, meant, without_record}
use Rattle.coffee_find.specs.Search.{IsBegunOf, IsFirstRegion, IsNextRecord, IsTornAtMost, NamesNone}
use Rattle.coffee_find.specs.declared.trouble.TornRecord.{TornRecord}
use Rattle.coffee_find.specs.declared.trouble.UnderWay.{UnderWay}
use Rattle.coffee_find.specs.declared.trouble.UnderWay.TheVariants.{Nothing, Beginning, Building, Erasing, Unnamed, Naming, Replacing}
use Rattle.coffee_find.proofs.Missed.{settled_supersedes}

flag_long : (image : List ℕ) (page flag : ℕ) → length (flagged image page flag) ≡ length image
flag_long image page flag = length_or_at image (256 * page + 9) (flag ∷ [])

pub settled_long : (image : List ℕ) (way : UnderWay) → IsInFlash (length image) way → length (settled image (meant way)) ≡ length image
settled_long image Nothing lies = refl
settled_long image (Beginning page) lies = flag_long image page.0 34
settled_long image (Building page) lies = flag_long image page.0 5
settled_long image (Erasing sector page) lies = length_zeros_at image (4096 * sector.0) 4096 lies
settled_long image (Unnamed log) lies = flag_long image log.0 4
settled_long image (Naming page) lies = flag_long image page.0 8
settled_long image (Replacing dropped kept) lies = flag_long image dropped.page.0 4

-- a record before the last one is taken away with the one behind it
pub without_low : (image : List ℕ) (r : TornRecord) → r.used < 29 → without_record image (Some r) ≡ without_two image r.log.0 r.used
without_low image r low = ap (λ b. if b then without_two image r.log.0 r.used else zeros_at image r.place 128) (lt_true r.used 29 low)

-- one file of a sound image has a log
pub one_owner : (image : List ℕ) (f g : FileAt) (log : PageId) → broken_image image ≡ None → 256 * pages_of image ≡ length image → Contains (listed image) f → Contains (listed image) g → f.log ≡ Some log → g.log ≡ Some log → f ≡ g
one_owner image f g log sound whole first second a b =
    let table : Entries = table_by (entry_of image) (files_in (units_of image)) 0 in
    let holds : HoldsTable image (table_by (entry_of image) (files_in (units_of image)) 0) None = sound_held image 0 sound whole in
    let i = held_listed image (table_by (entry_of image) (files_in (units_of image)) 0) f holds first in
    let j = held_listed image (table_by (entry_of image) (files_in (units_of image)) 0) g holds second in
    ⊎_elim
    (λ (same : i.0 ≡ j.0). some_same f g (sym i.1 ∙ ap (λ n. get_or (table_by (entry_of image) (files_in (units_of image)) 0) n None) same ∙ j.1))
    (λ (differs : i.0 ≡ j.0 → ⊥).
    let apart = entries_apart image (table_by (entry_of image) (files_in (units_of image)) 0) None i.0 j.0 f g holds i.1 j.1 differs in
    absurd (apart.logs log log a b log.0 (omega arith) (omega arith) (omega arith) (omega arith)))
    (cases_eq i.0 j.0)

-- A RECORD BEFORE THE LAST ONE

module _ (image : List ℕ) (sectors : ℕ) (size : length image ≡ 4096 * sectors) (r : TornRecord) (inside : IsRecordInside (length image) r) (low : r.used < 29) (n : IsNextRecord image r) where
  abbrev base : List ℕ
  base = without_two image r.log.0 r.used

  whole : 256 * pages_of base ≡ length base
  whole = let l = two_long image r.log.0 r.used low inside.log in ap (λ m. 256 * (m / 256)) l ∙ (let e : 256 * pages_of image ≡ length image = omega (arith, size) in e) ∙ sym l

  numbers : (j : ℕ) → j < 30 → j ≢ r.used + 1 → number_in (table_of image r.log.0) j ≡ number_in (table_of base r.log.0) j
  numbers j few other =
      kept_number base image r.log.0 j few
      (two_others image r.log.0 r.used low inside.log (256 * r.log.0 + 32 + 2 * j) (λ a b. omega (arith, a, few)) (λ a b. other (omega (arith, a, b))))
      (two_others image r.log.0 r.used low inside.log (256 * r.log.0 + 32 + 2 * j + 1) (λ a b. omega (arith, a, few)) (λ a b. other (omega (arith, a, b))))

  abbrev test : ℕ → Bool
  test i = not (number_in (table_of image r.log.0) i == 0)

  here_none : number_in (table_of image r.log.0) r.used ≡ 0
  unfolding records
  here_none =
      let u : r.used ≡ prefix_len test records = n.used in
      let long = length-range_with_len 0 30 in
      let stops = prefix_len_stops test records 0 (omega (arith, u, low, long)) in
      let at : get_or records (prefix_len test records) 0 ≡ r.used = ap (λ k. get_or records k 0) (sym u) ∙ get_or-range_with_len 0 30 r.used 0 (omega (arith, low)) ∙ omega arith in
      let is : not (number_in (table_of image r.log.0) r.used == 0) ≡ false = sym (ap test at) ∙ stops in
      true_eq (number_in (table_of image r.log.0) r.used) 0 (not_false (number_in (table_of image r.log.0) r.used == 0) is)

  before_some : (j : ℕ) → j < r.used → number_in (table_of image r.log.0) j ≢ 0
  unfolding records
  before_some j less =
      let u : r.used ≡ prefix_len test records = n.used in
      let passes = prefix_len_passes test records j 0 (omega (arith, u, less)) in
      let at : get_or records j 0 ≡ j = get_or-range_with_len 0 30 j 0 (omega (arith, low, less)) ∙ omega arith in
      let is : not (number_in (table_of image r.log.0) j == 0) ≡ true = sym (ap test at) ∙ passes in
      false_eq (number_in (table_of image r.log.0) j) 0 (not-true (number_in (table_of image r.log.0) j == 0) is)

  -- the file has as many records in use as the image shows
  used_file : (file : FileAt) → broken_image base ≡ None → Contains (listed base) file → file.log ≡ Some r.log → file.used ≡ r.used
  used_file file sound there logged =
      let table : Entries = table_by (entry_of base) (files_in (units_of base)) 0 in
      let holds : HoldsTable base (table_by (entry_of base) (files_in (units_of base)) 0) None = sound_held base 0 sound whole in
      let i = held_listed base (table_by (entry_of base) (files_in (units_of base)) 0) file holds there in
      let log = (holds.stored i.0 file i.1).file.logged r.log logged in
      let few = log.few in
      ⊎_elim
      (λ (same : file.used ≡ r.used). same)
      (⊎_elim
      (λ (less : file.used < r.used). absurd (before_some file.used less (numbers file.used (omega (arith, less, low)) (λ e. omega (arith, e, less)) ∙ log.free_are file.used (omega arith) (omega (arith, less, low)))))
      (λ (more : r.used < file.used). absurd (log.used_are r.used more (sym (numbers r.used (omega (arith, low)) (λ e. omega (arith, e))) ∙ here_none))))
      (cases_order file.used r.used)

  -- what is read of the file and the two records shows that the one may supersede the other
  pub superseded : (file : FileAt) (region bytes : List ℕ) (number : ℕ) → IsFirstRegion base r.log file region → ((k : ℕ) → k < 128 → get_or bytes k 0 ≡ get_or image (r.place + 128 + k) 0)
      → number ≡ number_in (table_of image r.log.0) (r.used + 1) → IsBegunOf bytes region number file.size → IsSupersededAt image r
  superseded file region bytes number f read is b =
      let used : file.used ≡ r.used = used_file file f.sound f.there f.logged in
      let within = b.within in
      let at = inside.place in
      record {
        superseding = record {
          file = file;
          log = r.log;
          logged = f.logged;
          free = omega (arith, used, low);
          inside = inside.log;
          sound = subst (λ n. broken_image (without_two image r.log.0 n) ≡ None) (sym used) f.sound;
          there = subst (λ n. Contains (listed (without_two image r.log.0 n)) file) (sym used) f.there;
          done = b.done;
          within = b.within;
          number = subst (λ n. IsNumbered n b.done file.size) (is ∙ ap (λ n. number_in (table_of image r.log.0) (n + 1)) (sym used)) b.numbered;
          front = λ k less.
              let there : r.place + 128 + k ≡ record_place r.log.0 (file.used + 1) + k = omega (arith, at, used) in
              ap (λ j. get_or image j 0) (sym there) ∙ sym (read k (omega (arith, less, within))) ∙ b.front k less ∙ f.bytes k (omega (arith, less, within))
              ∙ ap (λ n. file_byte (without_two image r.log.0 n) file.page.0 file.log k) (sym used);
          rest = λ k from to.
              let there : r.place + 128 + k ≡ record_place r.log.0 (file.used + 1) + k = omega (arith, at, used) in
              ap (λ j. get_or image j 0) (sym there) ∙ sym (read k to) ∙ b.rest k from to;
        };
        log_is = refl;
        used_is = used;
      }

  module _ (m : IsTornAtMost image r.log.0) (s : IsSettled image) where
    abbrev t : IsSuperseding image
    t = (settled_supersedes image sectors size r.log m (let u = n.used in omega (arith, u, low)) s).0

    t_log : t.log ≡ r.log
    t_log = (settled_supersedes image sectors size r.log m (let u = n.used in omega (arith, u, low)) s).1

    t_used : t.file.used ≡ r.used
    t_used = (settled_supersedes image sectors size r.log m (let u = n.used in omega (arith, u, low)) s).2 ∙ sym n.used

    t_base : without_two image t.log.0 t.file.used ≡ base
    t_base = ap (λ (l : PageId). without_two image l.0 t.file.used) t_log ∙ ap (without_two image r.log.0) t_used

    t_sound : broken_image base ≡ None
    t_sound = subst (λ x. broken_image x ≡ None) t_base t.sound

    t_there : Contains (listed base) t.file
    t_there = subst (λ x. Contains (listed x) t.file) t_base t.there

    t_logged : t.file.log ≡ Some r.log
    t_logged = t.logged ∙ ap Some t_log

    -- so the file is found
    pub not_none : NamesNone base r.log → ⊥
    not_none none = none t_sound t.file t_there t_logged

    -- and what stands behind the record is begun
    pub is_begun : (file : FileAt) (region bytes : List ℕ) (number : ℕ) → IsFirstRegion base r.log file region → ((k : ℕ) → k < 128 → get_or bytes k 0 ≡ get_or image (r.place + 128 + k) 0)
        → number ≡ number_in (table_of image r.log.0) (r.used + 1) → IsBegunOf bytes region number file.size
    is_begun file region bytes number f read is =
        let one : t.file ≡ file = one_owner base t.file file r.log t_sound whole t_there f.there t_logged f.logged in
        let at = inside.place in
        let within = t.within in
        let same_place : (k : ℕ) → r.place + 128 + k ≡ record_place r.log.0 (r.used + 1) + k = λ k. omega (arith, at) in
        let shift : (k : ℕ) → get_or image (record_place t.log.0 (t.file.used + 1) + k) 0 ≡ get_or image (r.place + 128 + k) 0 = λ k.
        ap (λ (l : PageId). get_or image (record_place l.0 (t.file.used + 1) + k) 0) t_log ∙ ap (λ u. get_or image (record_place r.log.0 (u + 1) + k) 0) t_used ∙ ap (λ j. get_or image j 0) (sym (same_place k)) in
        record {
          done = t.done;
          within = t.within;
          numbered =
              subst (λ z. IsNumbered number t.done z) (ap (λ (x : FileAt). x.size) one)
              (subst (λ z. IsNumbered z t.done t.file.size)
              (ap (λ (l : PageId). number_in (table_of image l.0) (t.file.used + 1)) t_log ∙ ap (λ u. number_in (table_of image r.log.0) (u + 1)) t_used ∙ sym is) t.number);
          front = λ k less.
              read k (omega (arith, less, within)) ∙ sym (shift k) ∙ t.front k less ∙ ap (λ x. file_byte x t.file.page.0 t.file.log k) t_base
              ∙ ap (λ (x : FileAt). file_byte base x.page.0 x.log k) one ∙ sym (f.bytes k (omega (arith, less, within)));
          rest = λ k from to. read k to ∙ sym (shift k) ∙ t.rest k from to;
        }
