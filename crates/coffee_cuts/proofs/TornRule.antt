-- An image with a torn record breaks no rule before 12, and that at the record's log.
use Rattle.std.proofs.Common.{◌≡◌, ◌≢◌, ◌⊎◌, inl, inr, ⊎_elim, ℕ, ◌+◌, ◌*◌, ◌<◌, ◌≤◌, Bool, true, not, ◌&&◌, ◌||◌, ◌==◌, nat_le, List, [], ◌∷◌, length, get_or, Option, Some, None, if◌then◌else◌, refl, ap, sym, ◌∙◌, arith}
use Rattle.std.specs.Prelude.{slice_range}
use Rattle.std.specs.List.{list_any}
use Rattle.std.specs.Option.{option_or}
use Rattle.std.proofs.lemmas.Bool.{cases_eq}
use Rattle.afl_base.specs.Fit.{fit}
use Rattle.afl_base.specs.Image.{zeros_at}
use Rattle.afl_base.proofs.Images.{length_zeros_at, range_same}
use Rattle.coffee_header.specs.declared.header.Header.{Header}
use Rattle.coffee_layout.specs.FileBytes.{table_of, used_in}
use Rattle.coffee_layout.specs.Files.{Placed, bytes_of, entry_of, extents, files_in, is_log, logs_in}
use Rattle.coffee_layout.specs.Rules.{broken_files, broken_image, first_failing, fits_its_file, has_few_pages, has_fields, has_regions_inside, is_clear, is_front_filled, names_its_log, names_log}
use Rattle.coffee_layout.specs.Tiling.{at_place, broken_tiling, nowhere, units_of}
use Rattle.coffee_layout.specs.Units.{pages_of}
use Rattle.coffee_layout.proofs.Tilings.{unbroken_tiled}
use Rattle.coffee_merge.specs.Holding.{HoldsTable}
use Rattle.coffee_merge.proofs.SoundEntries.{among_at, entry_at, table_by}
use Rattle.coffee_merge.proofs.SoundRules.{KeepsRules, extent_in, log_fields, sound_rules}
use Rattle.coffee_merge.proofs.SoundTables.{sound_held}
use Rattle.coffee_merge.proofs.SoundUnits.{Among, failing_none, filter_among}
use Rattle.padded.specs.Zeros.{is_zeros}
use Rattle.padded.proofs.Facts.{by_truth}
use Rattle.coffee_cuts.specs.Cuts.{HasTornRecord, next_record}
use Rattle.coffee_cuts.proofs.SettledRules.{fits, settled_kept}
use Rattle.coffee_cuts.proofs.NamedLogs.{few_enough}
use Rattle.coffee_cuts.proofs.TornLogs.{IsTornAt, away, begun, high, low, rest, rules, torn_bytes, units, whole_blank}

-- where all others pass, none fails or this one
pub fails_at_most : (test : Placed → Bool) (es : List Placed) (page : ℕ) → ((x : Placed) → Among x es → x.page ≢ page → test x ≡ true) → (first_failing test es ≡ None) ⊎ (first_failing test es ≡ Some page)
fails_at_most test [] page pass = inl refl
fails_at_most test (e ∷ es) page pass = by_truth (test e)
    (λ good. ⊎_elim
    (λ (n : first_failing test es ≡ None). inl (rw good n))
    (λ (s : first_failing test es ≡ Some page). inr (rw good s))
    (fails_at_most test es page (λ x a. pass x (inr a))))
    (λ bad. ⊎_elim
    (λ (here : e.page ≡ page). inr (rw bad (ap Some here)))
    (λ (other : e.page ≢ page). let p : test e ≡ true = pass e (inl refl) other in let n : ⊥ = cc in absurd n)
    (cases_eq e.page page))

-- the files of a log, where it and their bytes are the same
pub fits_same : (a b : List ℕ) (fs : List Placed) (page : ℕ) → ((f : Placed) → Among f fs → bytes_of a f ≡ bytes_of b f) → table_of a page ≡ table_of b page → fits_its_file a fs page ≡ fits_its_file b fs page
fits_same a b [] page same table = refl
fits_same a b (f ∷ fs) page same table =
    ap (λ n. if names_log page f then has_regions_inside f.header.max_pages (length n) (table_of a page) else fits_its_file a fs page) (same f (inl refl))
    ∙ ap (λ t. if names_log page f then has_regions_inside f.header.max_pages (length (bytes_of b f)) t else fits_its_file a fs page) table
    ∙ ap (λ o. if names_log page f then has_regions_inside f.header.max_pages (length (bytes_of b f)) (table_of b page) else o) (fits_same a b fs page (λ g x. same g (inr x)) table)

pub by_twelve : (e f g h i j k l m : Option ℕ) (page : ℕ) → e ≡ None → f ≡ None → g ≡ None → h ≡ None → i ≡ None → j ≡ None → k ≡ None → (l ≡ None) ⊎ (l ≡ Some page) → m ≡ None
    → (option_or (at_place 5 e) (option_or (at_place 6 f) (option_or (at_place 7 g) (option_or (at_place 8 h) (option_or (at_place 9 i) (option_or (at_place 10 j) (option_or (at_place 11 k) (option_or (at_place 12 l) (option_or (at_place 13 m) None)))))))) ≡ None)
    ⊎ (option_or (at_place 5 e) (option_or (at_place 6 f) (option_or (at_place 7 g) (option_or (at_place 8 h) (option_or (at_place 9 i) (option_or (at_place 10 j) (option_or (at_place 11 k) (option_or (at_place 12 l) (option_or (at_place 13 m) None)))))))) ≡ Some (record { rule = 12; place = page }))
by_twelve e f g h i j k l m page n5 n6 n7 n8 n9 n10 n11 (inl n12) n13 = inl (rw (n5, n6, n7, n8, n9, n10, n11, n12, n13) refl)
by_twelve e f g h i j k l m page n5 n6 n7 n8 n9 n10 n11 (inr s12) n13 = inr (rw (n5, n6, n7, n8, n9, n10, n11, s12) refl)

module _ (image : List ℕ) (sectors : ℕ) (size : length image ≡ 4096 * sectors) (t : HasTornRecord image) where
  whole : 256 * pages_of image ≡ length image
  whole = omega (arith, size)

  abbrev place : ℕ
  place = next_record image t.log

  abbrev zeroed : List ℕ
  zeroed = zeros_at image (next_record image t.log) 128

  inside : place + 128 ≤ length image
  inside = fits image whole t

  at : IsTornAt image t.log place
  at = record { is_log = t.is_log; free = t.free; next = refl; sound = t.sound }

  long : length image ≡ length zeroed
  long = sym (length_zeros_at image place 128 inside)

  keeps : KeepsRules zeroed (units_of zeroed)
  keeps = rules image t.log place whole inside at

  holds : HoldsTable zeroed (table_by (entry_of zeroed) (files_in (units_of zeroed)) 0) None
  holds = sound_held zeroed 0 t.sound (whole_blank image t.log place whole inside at)

  place_is : place ≡ 256 * t.log + 96 + 128 * used_in (table_of image t.log)
  place_is = refl

  -- a log of another page has none of the bytes
  log_bytes : (l : Placed) → Among l (logs_in (units_of zeroed)) → (k : ℕ) → 256 * l.page ≤ k → k < 256 * l.page + 4096 → (l.page ≡ t.log → k < place) → get_or image k 0 ≡ get_or zeroed k 0
  log_bytes l among k from to before = rest image t.log place whole inside at k (λ a b. ⊎_elim
      (λ (same : l.page ≡ t.log). let c = before same in absurd (omega (arith, a, c)))
      (λ (other : l.page ≢ t.log).
      let s = filter_among is_log l (extents 0 (units_of zeroed)) among in
      let there = (extent_in nowhere zeroed (units_of zeroed) l keeps.tiled s.0).begun in
      let sixteen : l.header.max_pages ≡ 16 = ap (λ (h : Header). h.max_pages) (log_fields l (keeps.fields l s.0) s.1) in
      away image place t.log at.is_log.header inside (low image t.log place whole inside at) (high image t.log place whole inside at) (begun image t.log place whole inside at)
      (table_by (entry_of zeroed) (files_in (units_of zeroed)) 0) holds l.page l.header there other k from (omega (arith, to, sixteen)) a b)
      (cases_eq l.page t.log))

  log_table : (l : Placed) → Among l (logs_in (units_of zeroed)) → table_of image l.page ≡ table_of zeroed l.page
  log_table l among = let p = place_is in range_same image zeroed (256 * l.page + 32) (256 * l.page + 92) long
      (λ k from to. log_bytes l among k (omega (arith, from)) (omega (arith, to)) (λ same. omega (arith, same, to, p)))

  log_clear : (l : Placed) → Among l (logs_in (units_of zeroed)) → l.page ≢ t.log → is_clear image l.page ≡ is_clear zeroed l.page
  log_clear l among other =
      let none : l.page ≡ t.log → (k : ℕ) → k < place = λ e k. absurd (other e) in
      let used : used_in (table_of image l.page) ≡ used_in (table_of zeroed l.page) = ap used_in (log_table l among) in
      ap (λ xs. is_zeros xs && is_zeros (slice_range image (256 * l.page + 96 + 128 * used_in (table_of image l.page)) (256 * l.page + 4096)))
      (range_same image zeroed (256 * l.page + 92) (256 * l.page + 96) long (λ k from to. log_bytes l among k (omega (arith, from)) (omega (arith, to)) (λ e. none e k)))
      ∙ ap (λ n. is_zeros (slice_range zeroed (256 * l.page + 92) (256 * l.page + 96)) && is_zeros (slice_range image (256 * l.page + 96 + 128 * n) (256 * l.page + 4096))) used
      ∙ ap (λ xs. is_zeros (slice_range zeroed (256 * l.page + 92) (256 * l.page + 96)) && is_zeros xs)
      (range_same image zeroed (256 * l.page + 96 + 128 * used_in (table_of zeroed l.page)) (256 * l.page + 4096) long (λ k from to. log_bytes l among k (omega (arith, from)) to (λ e. none e k)))

  file_same : (f : Placed) → Among f (files_in (units_of zeroed)) → bytes_of image f ≡ bytes_of zeroed f
  file_same f among =
      let i = among_at (files_in (units_of zeroed)) f among in
      torn_bytes image t.log place whole inside at (table_by (entry_of zeroed) (files_in (units_of zeroed)) 0) holds i.0 (entry_of zeroed f) (entry_at (entry_of zeroed) (files_in (units_of zeroed)) 0 i.0 f i.1)

  in_files : (broken_files image (units_of zeroed) ≡ None) ⊎ (broken_files image (units_of zeroed) ≡ Some (record { rule = 12; place = t.log }))
  in_files =
      let k = keeps in
      let files : List Placed = files_in (units_of zeroed) in
      let logs : List Placed = logs_in (units_of zeroed) in
      let few = (sound_rules zeroed (whole_blank image t.log place whole inside at) t.sound).1 in
      by_twelve _ _ _ _ _ _ _ _ _ t.log
      (few_enough files k.few)
      k.names
      (failing_none has_fields (extents 0 (units_of zeroed)) k.fields)
      (failing_none (names_its_log logs) files k.named)
      (failing_none (λ l. list_any (names_log l.page) files) logs k.logs)
      (failing_none (λ l. is_front_filled (table_of image l.page)) logs (λ l a. ap is_front_filled (log_table l a) ∙ k.filled l a))
      (failing_none (λ l. fits_its_file image files l.page) logs (λ l a. fits_same image zeroed files l.page file_same (log_table l a) ∙ k.inside l a))
      (fails_at_most (λ l. is_clear image l.page) logs t.log (λ l a other. log_clear l a other ∙ k.clear l a))
      (failing_none (has_few_pages image) files (λ f a. ap (λ bytes. not (f.header.kind == 0) || nat_le f.header.max_pages (2 * fit (length bytes))) (file_same f a) ∙ few f a))

  unbroken : broken_tiling nowhere image ≡ None
  unbroken = unbroken_tiled nowhere image (units_of image) (settled_kept image whole (inr (inl t))).tiled

  pub torn_records_break_rule_12 : (broken_image image ≡ None) ⊎ (broken_image image ≡ Some (record { rule = 12; place = t.log }))
  unfolding broken_image
  torn_records_break_rule_12 =
      let same = ap (broken_files image) (units image t.log place whole inside at) in
      let front = ap (λ o. option_or o (broken_files image (units_of image))) unbroken in
      ⊎_elim (λ (n : broken_files image (units_of zeroed) ≡ None). inl (front ∙ same ∙ n))
      (λ (s : broken_files image (units_of zeroed) ≡ Some (record { rule = 12; place = t.log })). inr (front ∙ same ∙ s))
      in_files
