-- An image in which a torn record is being superseded breaks no rule before 10, and where that, it is at the record's log: 10, or else 12.
use Rattle.std.proofs.Common.{◌≡◌, ◌≢◌, ◌⊎◌, inl, inr, ⊎_elim, ℕ, ◌+◌, ◌-◌, ◌*◌, ◌/◌, ◌<◌, ◌≤◌, true, not, ◌&&◌, ◌||◌, ◌==◌, nat_le, List, length, drop, get_or, Option, Some, None, refl, ap, sym, ◌∙◌, arith}
use Rattle.std.specs.Prelude.{slice_range}
use Rattle.std.specs.List.{list_any}
use Rattle.std.specs.Option.{option_or}
use Rattle.std.proofs.lemmas.Bool.{cases_eq, cases_lt, not-true}
use Rattle.std.proofs.lemmas.List.{get_or-drop, length-drop}
use Rattle.std.proofs.lemmas.List.FromFn.{get_or-range_with_len, length-range_with_len}
use Rattle.std.proofs.lemmas.List.Sums.{prefix_len_passes}
use Rattle.afl_base.specs.Fit.{fit}
use Rattle.afl_base.proofs.Images.{range_same}
use Rattle.coffee_layout.specs.FileBytes.{number_in, record_place, records, table_of, used_in}
use Rattle.coffee_layout.specs.Files.{NamedFile, Placed, bytes_of, extents, files_in, logs_in}
use Rattle.coffee_layout.specs.Rules.{broken_files, broken_image, first_failing, fits_its_file, has_few_pages, has_fields, is_clear, is_front_filled, names_its_log, names_log}
use Rattle.coffee_layout.specs.Tiling.{at_place, broken_tiling, nowhere, units_of}
use Rattle.coffee_layout.specs.Units.{pages_of}
use Rattle.coffee_layout.specs.declared.file.FileAt.{FileAt}
use Rattle.coffee_layout.specs.declared.unit.BadImage.{BadImage}
use Rattle.coffee_layout.proofs.Tests.{false_eq}
use Rattle.coffee_layout.proofs.Tilings.{unbroken_tiled}
use Rattle.coffee_log.proofs.RecordLaws.{number_image}
use Rattle.coffee_merge.proofs.Holdings.{entries_apart}
use Rattle.coffee_merge.proofs.SoundHolders.{log_among, log_holder}
use Rattle.coffee_merge.proofs.SoundLogs.{all_at}
use Rattle.coffee_merge.proofs.SoundRules.{sound_rules}
use Rattle.coffee_merge.proofs.SoundUnits.{Among, failing_none, none_failing}
use Rattle.flash_range.specs.Range.{Outside}
use Rattle.padded.specs.Zeros.{is_zeros}
use Rattle.padded.proofs.Facts.{some_same, true_eq}
use Rattle.coffee_cuts.specs.Cuts.{IsSuperseding, without_two}
use Rattle.coffee_cuts.proofs.NamedLogs.{few_enough}
use Rattle.coffee_cuts.proofs.Superseding.{at, file_same, holds, logged, long, number_same, outside_log, rules, table, tiled, two_number, two_others, units, whole_base}
use Rattle.coffee_cuts.proofs.TornRule.{by_twelve, fails_at_most, fits_same}

by_ten : (e f g h i j : Option ℕ) (rest : Option BadImage) (page : ℕ) → e ≡ None → f ≡ None → g ≡ None → h ≡ None → i ≡ None → j ≡ Some page
    → option_or (at_place 5 e) (option_or (at_place 6 f) (option_or (at_place 7 g) (option_or (at_place 8 h) (option_or (at_place 9 i) (option_or (at_place 10 j) rest))))) ≡ Some (record { rule = 10; place = page })
by_ten e f g h i j rest page n5 n6 n7 n8 n9 s10 = rw (n5, n6, n7, n8, n9, s10) refl

-- a number behind one that is 0: the numbers are not filled from the front
not_filled : (numbers : List ℕ) (used : ℕ) → used < 29 → number_in numbers used ≡ 0 → number_in numbers (used + 1) ≢ 0 → is_front_filled numbers ≡ true → ⊥
unfolding records
not_filled numbers used free none some filled =
    let all : length (drop (used_in numbers) records) ≡ 30 - used_in numbers = length-drop (used_in numbers) records ∙ ap (λ n. n - used_in numbers) (length-range_with_len 0 30) in
    ⊎_elim
    (λ (low : used < used_in numbers).
    let passes = prefix_len_passes (λ k. not (number_in numbers k == 0)) records used 0 low in
    let at : get_or records used 0 ≡ used = get_or-range_with_len 0 30 used 0 (omega (arith, free)) ∙ omega arith in
    let test : not (number_in numbers used == 0) ≡ true = sym (ap (λ k. not (number_in numbers k == 0)) at) ∙ passes in
    absurd (false_eq (number_in numbers used) 0 (not-true (number_in numbers used == 0) test) none))
    (λ (high : used_in numbers ≤ used).
    let back : used_in numbers + (used + 1 - used_in numbers) ≡ used + 1 = omega (arith, high) in
    let at : get_or (drop (used_in numbers) records) (used + 1 - used_in numbers) 0 ≡ used + 1 =
    get_or-drop (used_in numbers) records (used + 1 - used_in numbers) 0 ∙ ap (λ k. get_or records k 0) back ∙ get_or-range_with_len 0 30 (used + 1) 0 (omega (arith, free)) ∙ omega arith in
    let here = all_at (λ k. number_in numbers k == 0) (drop (used_in numbers) records) (used + 1 - used_in numbers) 0 (omega (arith, all, free, high)) filled in
    some (true_eq (number_in numbers (used + 1)) 0 (sym (ap (λ k. number_in numbers k == 0) at) ∙ here)))
    (cases_lt used (used_in numbers))

module _ (image : List ℕ) (sectors : ℕ) (size : length image ≡ 4096 * sectors) (t : IsSuperseding image) where
  whole : 256 * pages_of image ≡ length image
  whole = omega (arith, size)

  abbrev clear : List ℕ
  clear = without_two image t.log.0 t.file.used

  abbrev files : List Placed
  files = files_in (units_of clear)

  abbrev logs : List Placed
  logs = logs_in (units_of clear)

  -- the bytes of another log
  other_log : (l : Placed) → Among l logs → l.page ≢ t.log.0 → (k : ℕ) → 256 * l.page ≤ k → k < 256 * l.page + 4096 → get_or image k 0 ≡ get_or clear k 0
  other_log l among other k from to =
      let by = log_holder clear (table image whole t) l (holds image whole t) among in
      let at_page : l.page ≡ by.log.0 = ap (λ (e : Placed). e.page) by.is in
      ⊎_elim
      (λ (same : by.place ≡ (at image whole t).0).
      let is : t.file ≡ by.entry = some_same t.file by.entry (sym (at image whole t).1 ∙ ap (λ n. get_or (table image whole t) n None) (sym same) ∙ by.is_in) in
      let one : t.log ≡ by.log = some_same t.log by.log (sym t.logged ∙ ap (λ (e : FileAt). e.log) is ∙ by.logged) in
      absurd (other (at_page ∙ sym (ap (λ p. p.0) one))))
      (λ (differs : by.place ≢ (at image whole t).0).
      let apart = entries_apart clear (table image whole t) None (at image whole t).0 by.place t.file by.entry (holds image whole t) (at image whole t).1 by.is_in (λ s. differs (sym s)) in
      outside_log image whole t k (λ a b. apart.logs t.log by.log t.logged by.logged (k / 256) (omega (arith, from, at_page)) (omega (arith, to, at_page)) (omega (arith, a)) (omega (arith, b))))
      (cases_eq by.place (at image whole t).0)

  other_table : (l : Placed) → Among l logs → l.page ≢ t.log.0 → table_of image l.page ≡ table_of clear l.page
  other_table l among other = range_same image clear (256 * l.page + 32) (256 * l.page + 92) (sym (long image whole t)) (λ k a b. other_log l among other k (omega (arith, a)) (omega (arith, b)))

  -- the second record has its number, and the first has none
  numbered : number_in (table_of image t.log.0) (t.file.used + 1) ≡ 1 → first_failing (λ l. is_front_filled (table_of image l.page)) logs ≡ Some t.log.0
  numbered one =
      let f = t.free in
      let none : number_in (table_of image t.log.0) t.file.used ≡ 0 = number_same image whole t t.file.used (omega (arith, f)) (λ e. omega (arith, e)) ∙ (logged image whole t).free_are t.file.used (omega arith) (omega (arith, f)) in
      ⊎_elim
      (λ (all : first_failing (λ l. is_front_filled (table_of image l.page)) logs ≡ None).
      absurd (not_filled (table_of image t.log.0) t.file.used f none (λ z. omega (arith, one, z))
      (none_failing (λ l. is_front_filled (table_of image l.page)) _ logs all (log_among clear (table image whole t) (at image whole t).0 t.file t.log (holds image whole t) (at image whole t).1 t.logged))))
      (λ (here : first_failing (λ l. is_front_filled (table_of image l.page)) logs ≡ Some t.log.0). here)
      (fails_at_most (λ l. is_front_filled (table_of image l.page)) logs t.log.0 (λ l a other. ap is_front_filled (other_table l a other) ∙ (rules image whole t).filled l a))

  breaks_ten : number_in (table_of image t.log.0) (t.file.used + 1) ≡ 1 → broken_files image (units_of clear) ≡ Some (record { rule = 10; place = t.log.0 })
  breaks_ten one =
      let k = rules image whole t in
      by_ten _ _ _ _ _ _ _ t.log.0 (few_enough files k.few) k.names (failing_none has_fields (extents 0 (units_of clear)) k.fields) (failing_none (names_its_log logs) files k.named) (failing_none (λ l. list_any (names_log l.page) files) logs k.logs) (numbered one)

  -- no record has a number that has none without the two
  module _ (none : number_in (table_of image t.log.0) (t.file.used + 1) ≡ 0) where
    beside : (k : ℕ) → Outside (record_place t.log.0 t.file.used) 256 k → get_or image k 0 ≡ get_or clear k 0
    beside k out =
        let f = t.free in
        let bytes = number_image image t.log.0 (t.file.used + 1) (omega (arith, f)) in
        ⊎_elim
        (λ (before : k < 256 * t.log.0 + 34 + 2 * t.file.used). two_others image t.log.0 t.file.used t.free t.inside k out (λ a b. omega (arith, a, before)))
        (λ (from : 256 * t.log.0 + 34 + 2 * t.file.used ≤ k). ⊎_elim
        (λ (to : k < 256 * t.log.0 + 36 + 2 * t.file.used).
        let zero : get_or image k 0 ≡ 0 = ⊎_elim
        (λ (low : k ≡ 256 * t.log.0 + 32 + 2 * (t.file.used + 1)). ap (λ j. get_or image j 0) low ∙ omega (arith, bytes, none))
        (λ (high : k ≢ 256 * t.log.0 + 32 + 2 * (t.file.used + 1)).
        let e : k ≡ 256 * t.log.0 + 32 + 2 * (t.file.used + 1) + 1 = omega (arith, from, to, high) in
        ap (λ j. get_or image j 0) e ∙ omega (arith, bytes, none))
        (cases_eq k (256 * t.log.0 + 32 + 2 * (t.file.used + 1))) in
        zero ∙ sym (two_number image t.log.0 t.file.used t.free t.inside k from to))
        (λ (behind : 256 * t.log.0 + 36 + 2 * t.file.used ≤ k). two_others image t.log.0 t.file.used t.free t.inside k out (λ a b. omega (arith, b, behind)))
        (cases_lt k (256 * t.log.0 + 36 + 2 * t.file.used)))
        (cases_lt k (256 * t.log.0 + 34 + 2 * t.file.used))

    log_table : (l : Placed) → Among l logs → table_of image l.page ≡ table_of clear l.page
    log_table l among = ⊎_elim
        (λ (same : l.page ≡ t.log.0). range_same image clear (256 * l.page + 32) (256 * l.page + 92) (sym (long image whole t)) (λ k a b. beside k (λ x y. omega (arith, x, b, same))))
        (λ (other : l.page ≢ t.log.0). other_table l among other)
        (cases_eq l.page t.log.0)

    log_clear : (l : Placed) → Among l logs → l.page ≢ t.log.0 → is_clear image l.page ≡ is_clear clear l.page
    log_clear l among other =
        let used : used_in (table_of image l.page) ≡ used_in (table_of clear l.page) = ap used_in (log_table l among) in
        ap (λ xs. is_zeros xs && is_zeros (slice_range image (256 * l.page + 96 + 128 * used_in (table_of image l.page)) (256 * l.page + 4096)))
        (range_same image clear (256 * l.page + 92) (256 * l.page + 96) (sym (long image whole t)) (λ k from to. other_log l among other k (omega (arith, from)) (omega (arith, to))))
        ∙ ap (λ n. is_zeros (slice_range clear (256 * l.page + 92) (256 * l.page + 96)) && is_zeros (slice_range image (256 * l.page + 96 + 128 * n) (256 * l.page + 4096))) used
        ∙ ap (λ xs. is_zeros (slice_range clear (256 * l.page + 92) (256 * l.page + 96)) && is_zeros xs)
        (range_same image clear (256 * l.page + 96 + 128 * used_in (table_of clear l.page)) (256 * l.page + 4096) (sym (long image whole t)) (λ k from to. other_log l among other k (omega (arith, from)) to))

    same_file : (f : Placed) → Among f files → bytes_of image f ≡ bytes_of clear f
    same_file f among = ap (λ (n : NamedFile). n.bytes) (file_same image whole t f among)

    in_files : (broken_files image (units_of clear) ≡ None) ⊎ (broken_files image (units_of clear) ≡ Some (record { rule = 12; place = t.log.0 }))
    in_files =
        let k = rules image whole t in
        let few = (sound_rules clear (whole_base image whole t) t.sound).1 in
        by_twelve _ _ _ _ _ _ _ _ _ t.log.0
        (few_enough files k.few)
        k.names
        (failing_none has_fields (extents 0 (units_of clear)) k.fields)
        (failing_none (names_its_log logs) files k.named)
        (failing_none (λ l. list_any (names_log l.page) files) logs k.logs)
        (failing_none (λ l. is_front_filled (table_of image l.page)) logs (λ l a. ap is_front_filled (log_table l a) ∙ k.filled l a))
        (failing_none (λ l. fits_its_file image files l.page) logs (λ l a. fits_same image clear files l.page same_file (log_table l a) ∙ k.inside l a))
        (fails_at_most (λ l. is_clear image l.page) logs t.log.0 (λ l a other. log_clear l a other ∙ k.clear l a))
        (failing_none (has_few_pages image) files (λ f a. ap (λ bytes. not (f.header.kind == 0) || nat_le f.header.max_pages (2 * fit (length bytes))) (same_file f a) ∙ few f a))

  pub breaks_at_log : (broken_image image ≡ None) ⊎ ((broken_image image ≡ Some (record { rule = 12; place = t.log.0 })) ⊎ (broken_image image ≡ Some (record { rule = 10; place = t.log.0 })))
  unfolding broken_image
  breaks_at_log =
      let same = ap (broken_files image) (units image whole t) in
      let unbroken : broken_tiling nowhere image ≡ None = unbroken_tiled nowhere image (units_of clear) (tiled image whole t) in
      let front = ap (λ o. option_or o (broken_files image (units_of image))) unbroken in
      ⊎_elim
      (λ (none : number_in (table_of image t.log.0) (t.file.used + 1) ≡ 0). ⊎_elim
      (λ (n : broken_files image (units_of clear) ≡ None). inl (front ∙ same ∙ n))
      (λ (s : broken_files image (units_of clear) ≡ Some (record { rule = 12; place = t.log.0 })). inr (inl (front ∙ same ∙ s)))
      (in_files none))
      (λ (one : (number_in (table_of image t.log.0) (t.file.used + 1) ≡ 1) × (t.done ≡ 128) × (1 ≤ t.file.size)). inr (inr (front ∙ same ∙ breaks_ten one.0)))
      t.number
