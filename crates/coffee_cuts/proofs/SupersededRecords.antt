-- Once the record behind a torn one holds the first region of the file, and both have its number, the image is sound, and has the same files.
use Rattle.std.proofs.Common.{◌≡◌, ◌≢◌, ◌⊎◌, inl, inr, ⊎_elim, ℕ, ◌+◌, ◌-◌, ◌*◌, ◌/◌, ◌%◌, ◌<◌, ◌≤◌, ◌==◌, List, [], length, map, get_or, Option, Some, None, refl, ap, sym, subst, ◌∙◌, arith, length-set}
use Rattle.std.specs.Prelude.{set}
use Rattle.std.proofs.lemmas.Bool.{cases_eq, cases_lt}
use Rattle.std.proofs.lemmas.List.{length-append, length-map}
use Rattle.afl_base.specs.declared.ids.PageId.{PageId}
use Rattle.coffee_layout.specs.FileBytes.{extent_place, file_byte, file_bytes, last_in, number_in, place_or, record_place, table_of}
use Rattle.coffee_layout.specs.Files.{Placed, files_in, files_of, kind_of, listed, named_file}
use Rattle.coffee_layout.specs.Rules.{broken_image}
use Rattle.coffee_layout.specs.Tiling.{units_of}
use Rattle.coffee_layout.specs.Units.{pages_of}
use Rattle.coffee_layout.specs.declared.file.FileAt.{FileAt}
use Rattle.coffee_layout.proofs.Frames.{KeepsFile, kept_bytes}
use Rattle.coffee_layout.proofs.Tests.{eq_false}
use Rattle.coffee_log.specs.FileChanges.{FileBecomes}
use Rattle.coffee_log.specs.Logs.{IsLog}
use Rattle.coffee_log.proofs.LastRecords.{last_found, last_is, last_same}
use Rattle.coffee_log.proofs.RecordLaws.{kept_number}
use Rattle.coffee_merge.specs.Holding.{Entries, IsIn, file_header}
use Rattle.coffee_merge.proofs.Contents.{SetsBytes, holds_written_with}
use Rattle.coffee_merge.proofs.Holdings.{entries_apart}
use Rattle.coffee_merge.proofs.SoundHolders.{file_holder, log_is}
use Rattle.coffee_merge.proofs.SoundImages.{held_sound}
use Rattle.coffee_merge.proofs.SoundTables.{sound_few, sound_sparing}
use Rattle.coffee_merge.proofs.SoundUnits.{Among}
use Rattle.flash_range.specs.Range.{Outside}
use Rattle.padded.proofs.Facts.{none_some, some_same}
use Rattle.coffee_cuts.specs.Cuts.{IsSuperseding, without_two}
use Rattle.coffee_cuts.specs.Superseded.{IsSuperseded}
use Rattle.coffee_cuts.proofs.AlikeFiles.{bytes_alike}
use Rattle.coffee_cuts.proofs.Mended.{named, sparing_set}
use Rattle.coffee_cuts.proofs.Superseding.{at, holds, logged, long, table, two_others, whole_base}
use Rattle.coffee_cuts.proofs.TornRecords.{map_among}

module _ (image new : List ℕ) (whole : 256 * pages_of image ≡ length image) (t : IsSuperseding image) (some : 1 ≤ t.file.size) (s : IsSuperseded image new t) where
  abbrev log : ℕ
  log = t.log.0

  abbrev used : ℕ
  used = t.file.used

  abbrev clear : List ℕ
  clear = without_two image t.log.0 t.file.used

  abbrev entries : Entries
  entries = table image whole t

  is : IsIn entries (at image whole t).0 t.file
  is = (at image whole t).1

  same_long : length new ≡ length clear
  same_long = s.long ∙ sym (long image whole t)

  log_was : IsLog clear log used
  log_was = logged image whole t

  -- all other bytes are those without the two
  others : (k : ℕ) → Outside (record_place log used) 256 k → Outside (256 * log + 32 + 2 * used) 4 k → get_or new k 0 ≡ get_or clear k 0
  others k records numbers = s.others k records numbers ∙ two_others image t.log.0 t.file.used t.free t.inside k records (λ a b. numbers (omega (arith, a)) (omega (arith, b)))

  outside_log : (k : ℕ) → Outside (256 * log + 32) 4064 k → get_or new k 0 ≡ get_or clear k 0
  outside_log k out = let f = t.free in others k (λ a b. out (omega (arith, a)) (omega (arith, b, f))) (λ a b. out (omega (arith, a)) (omega (arith, b, f)))

  number_same : (j : ℕ) → j < 30 → j ≢ used → j ≢ used + 1 → number_in (table_of new log) j ≡ number_in (table_of clear log) j
  number_same j few one two =
      let f = t.free in
      kept_number clear new log j few
      (others (256 * log + 32 + 2 * j) (λ a b. omega (arith, a, few)) (λ a b. ⊎_elim (λ (e : j ≡ used). one e) (λ (n : j ≢ used). two (omega (arith, a, b, n))) (cases_eq j used)))
      (others (256 * log + 32 + 2 * j + 1) (λ a b. omega (arith, a, few)) (λ a b. ⊎_elim (λ (e : j ≡ used). one e) (λ (n : j ≢ used). two (omega (arith, a, b, n))) (cases_eq j used)))

  -- THE BYTES OF THE FILE

  not_there : (p : ℕ) (o : Option ℕ) → p + 32 < 256 * t.file.pages → last_in (table_of clear log) (p / 128) 30 ≡ o
      → get_or new (place_or (extent_place t.file.page.0 (128 * (p / 128))) log o + p % 128) 0 ≡ get_or clear (place_or (extent_place t.file.page.0 (128 * (p / 128))) log o + p % 128) 0
  not_there p None within found = outside_log (extent_place t.file.page.0 (128 * (p / 128)) + p % 128) (λ a b.
      ((holds image whole t).stored (at image whole t).0 t.file is).file.apart t.log t.logged ((extent_place t.file.page.0 (128 * (p / 128)) + p % 128) / 256) (omega arith) (omega (arith, within)) (omega (arith, a)) (omega (arith, b)))
  not_there p (Some j) within found =
      let f = last_found (table_of clear log) (p / 128) 30 j found in
      let few = f.0 in
      let number = f.1 in
      let before : j < used = ⊎_elim
      (λ (low : j < used). low)
      (λ (high : used ≤ j). let none = log_was.free_are j high few in absurd (omega (arith, number, none)))
      (cases_lt j used) in
      others (record_place log j + p % 128) (λ a b. omega (arith, a, before)) (λ a b. omega (arith, b, few, t.free))

  in_log : (p : ℕ) → p + 32 < 256 * t.file.pages → file_byte new t.file.page.0 (Some t.log) p ≡ file_byte clear t.file.page.0 (Some t.log) p
  in_log p within = ⊎_elim
      (λ (front : p / 128 ≡ 0).
      let f = t.free in
      let last : last_in (table_of new log) 0 30 ≡ Some (used + 1) = last_is (table_of new log) 0 30 (used + 1) (omega (arith, f)) s.second (λ i a b e.
      let n = number_same i b (λ x. omega (arith, a, x)) (λ x. omega (arith, a, x)) in
      let z = log_was.free_are i (omega (arith, a)) b in
      absurd (omega (arith, e, n, z))) in
      ap (λ o. get_or new (place_or (extent_place t.file.page.0 (128 * (p / 128))) log o + p % 128) 0) (ap (λ r. last_in (table_of new log) r 30) front ∙ last)
      ∙ ap (λ q. get_or new (record_place log (used + 1) + q) 0) (let e : p % 128 ≡ p = omega (arith, front) in e)
      ∙ s.here p (omega (arith, front))
      ∙ ap (λ o. file_byte clear t.file.page.0 o p) t.logged)
      (λ (behind : p / 128 ≢ 0).
      ap (λ o. get_or new (place_or (extent_place t.file.page.0 (128 * (p / 128))) log o + p % 128) 0) (last_same (table_of clear log) (table_of new log) (p / 128) 30 (λ i few. by_record p behind i few (cases_eq i used) (cases_eq i (used + 1))))
      ∙ not_there p (last_in (table_of clear log) (p / 128) 30) within refl)
      (cases_eq (p / 128) 0)
    where
      off : (p : ℕ) → p / 128 ≢ 0 → (i : ℕ) → used ≤ i → i < 30 → number_in (table_of new log) i ≡ 1 → (number_in (table_of new log) i == p / 128 + 1) ≡ (number_in (table_of clear log) i == p / 128 + 1)
      off p behind i from few one =
          let z = log_was.free_are i from few in
          eq_false (number_in (table_of new log) i) (p / 128 + 1) (λ e. behind (omega (arith, one, e))) ∙ sym (eq_false (number_in (table_of clear log) i) (p / 128 + 1) (λ e. absurd (omega (arith, z, e))))

      by_record : (p : ℕ) → p / 128 ≢ 0 → (i : ℕ) → i < 30 → (i ≡ used) ⊎ (i ≢ used) → (i ≡ used + 1) ⊎ (i ≢ used + 1) → (number_in (table_of new log) i == p / 128 + 1) ≡ (number_in (table_of clear log) i == p / 128 + 1)
      by_record p behind i few (inl here) b = off p behind i (omega (arith, here)) few (ap (number_in (table_of new log)) here ∙ s.first)
      by_record p behind i few (inr other) (inl here) = off p behind i (omega (arith, here)) few (ap (number_in (table_of new log)) here ∙ s.second)
      by_record p behind i few (inr other) (inr neither) = ap (λ n. n == p / 128 + 1) (number_same i few other neither)

  same_byte : (p : ℕ) → p + 32 < 256 * t.file.pages → file_byte new t.file.page.0 t.file.log p ≡ file_byte clear t.file.page.0 t.file.log p
  same_byte p within = subst (λ o. file_byte new t.file.page.0 o p ≡ file_byte clear t.file.page.0 o p) (sym t.logged) (in_log p within)

  -- THE LOG

  log_now : IsLog new log (used + 2)
  log_now =
      let f = t.free in
      record {
        few = omega (arith, f);
        used_are = λ i low z. ⊎_elim
            (λ (one : i ≡ used). let n = ap (number_in (table_of new log)) one ∙ s.first in omega (arith, n, z))
            (λ (other : i ≢ used). ⊎_elim
            (λ (two : i ≡ used + 1). let n = ap (number_in (table_of new log)) two ∙ s.second in omega (arith, n, z))
            (λ (neither : i ≢ used + 1). log_was.used_are i (omega (arith, low, other, neither)) (sym (number_same i (omega (arith, low, f)) other neither) ∙ z))
            (cases_eq i (used + 1)))
            (cases_eq i used);
        free_are = λ i from to. number_same i to (λ e. omega (arith, e, from)) (λ e. omega (arith, e, from)) ∙ log_was.free_are i (omega (arith, from)) to;
        gap = λ k from to. others k (λ a b. omega (arith, a, to)) (λ a b. omega (arith, b, from, f)) ∙ log_was.gap k from to;
        clear = λ k from to. others k (λ a b. omega (arith, b, from)) (λ a b. omega (arith, b, from, f)) ∙ log_was.clear k (omega (arith, from)) to;
      }

  becomes : FileBecomes clear new t.file.page.0 t.file.pages t.file.log (used + 2) t.file.size 0 []
  becomes =
      let stored = (holds image whole t).stored (at image whole t).0 t.file is in
      let one : (l : PageId) → t.file.log ≡ Some l → l ≡ t.log = λ l named. some_same l t.log (sym named ∙ t.logged) in
      record {
        kept = record {
          apart = stored.file.apart;
          logged = λ l named. subst (λ (m : PageId). IsLog new m.0 (used + 2)) (sym (one l named)) log_now;
          below = λ l named i low. subst (λ (m : PageId). 128 * (number_in (table_of new m.0) i - 1) < t.file.size) (sym (one l named)) (below i low (stored.file.below t.log t.logged));
          zeros = λ p from to. same_byte p (omega (arith, to)) ∙ stored.file.zeros p from to;
        };
        put = record { here = λ k low. absurd (omega (arith, low)); others = λ p low out. same_byte p (omega (arith, low)) };
        others = λ k out. outside_log k (out.logged t.log t.logged);
      }
    where
      below : (i : ℕ) → i < used + 2 → ((j : ℕ) → j < used → 128 * (number_in (table_of clear log) j - 1) < t.file.size) → 128 * (number_in (table_of new log) i - 1) < t.file.size
      below i low was = ⊎_elim
          (λ (one : i ≡ used). let n = ap (number_in (table_of new log)) one ∙ s.first in omega (arith, n, some))
          (λ (other : i ≢ used). ⊎_elim
          (λ (two : i ≡ used + 1). let n = ap (number_in (table_of new log)) two ∙ s.second in omega (arith, n, some))
          (λ (neither : i ≢ used + 1).
          let b = was i (omega (arith, low, other, neither)) in
          let n = number_same i (omega (arith, low, t.free)) other neither in
          omega (arith, b, n))
          (cases_eq i (used + 1)))
          (cases_eq i used)

  abbrev now : FileAt
  now = record t.file { size = t.file.size; used = used + 2 }

  sets : SetsBytes clear new entries None (at image whole t).0 now
  sets =
      let stored = (holds image whole t).stored (at image whole t).0 t.file is in
      let room = stored.fits.size in
      holds_written_with clear new entries None (at image whole t).0 t.file (used + 2) t.file.size 0 [] (holds image whole t) is same_long becomes room
      (λ none. absurd (none_some t.log (sym none ∙ t.logged)))
      (λ more z. stored.last more (sym (same_byte (t.file.size - 1) (omega (arith, more, room))) ∙ z))

  pub superseded_sound : broken_image new ≡ None
  superseded_sound =
      let few = sound_few clear t.sound (whole_base image whole t) in
      let more = length-set entries (at image whole t).0 (Some now) in
      held_sound new (set entries (at image whole t).0 (Some now)) sets.holds (omega (arith, few, more, length-append (map Some (listed clear)) [], length-map (listed clear) Some))
      (sparing_set entries (at image whole t).0 now (λ i e there. sound_sparing clear 0 i e t.sound (whole_base image whole t) there) (sound_sparing clear 0 (at image whole t).0 t.file t.sound (whole_base image whole t) is))

  -- ALL FILES

  other_file : (k : ℕ) (f : FileAt) → k ≢ (at image whole t).0 → IsIn entries k f → KeepsFile clear new f.page.0 f.pages f.log
  other_file k f other there =
      let apart = entries_apart clear entries None (at image whole t).0 k t.file f (holds image whole t) is there (λ x. other (sym x)) in
      record {
        extent = λ j from to. outside_log j (λ a b. apart.first t.log t.logged (j / 256) (omega (arith, from)) (omega (arith, to)) (omega (arith, a)) (omega (arith, b)));
        logged = λ m named j from to. outside_log j (λ a b. apart.logs t.log m t.logged named (j / 256) (omega (arith, from)) (omega (arith, to)) (omega (arith, a)) (omega (arith, b)));
      }

  same_bytes : (k : ℕ) (f : FileAt) → IsIn entries k f → file_bytes new f.page.0 f.pages f.log ≡ file_bytes clear f.page.0 f.pages f.log
  same_bytes k f there = ⊎_elim
      (λ (same : k ≡ (at image whole t).0).
      let e : t.file ≡ f = some_same t.file f (sym is ∙ ap (λ n. get_or entries n None) (sym same) ∙ there) in
      subst (λ (x : FileAt). file_bytes new x.page.0 x.pages x.log ≡ file_bytes clear x.page.0 x.pages x.log) e
      (bytes_alike new clear t.file.page.0 t.file.pages t.file.log (λ p low. same_byte p (omega (arith, low)))))
      (λ (other : k ≢ (at image whole t).0). kept_bytes clear new f.page.0 f.pages f.log same_long (other_file k f other there))
      (cases_eq k (at image whole t).0)

  file_same : (f : Placed) → Among f (files_in (units_of clear)) → named_file new f ≡ named_file clear f
  file_same f a =
      let by = file_holder clear entries f (holds image whole t) a in
      let entry = by.entry in
      subst (λ x. named_file new x ≡ named_file clear x) (sym by.is)
      (ap (named entry.name (kind_of (file_header entry)))
      (subst (λ o. file_bytes new entry.page.0 entry.pages o ≡ file_bytes clear entry.page.0 entry.pages o) (sym (log_is entry.log)) (same_bytes by.place entry by.is_in)))

  pub superseded_files : files_of new ≡ files_of clear
  superseded_files =
      ap (λ us. map (named_file new) (files_in us)) sets.units
      ∙ map_among (named_file new) (named_file clear) (files_in (units_of clear)) file_same
