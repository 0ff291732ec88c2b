-- An image in which a torn record is being superseded has the units and the files that it has without the two records.
use Rattle.std.proofs.Common.{◌≡◌, ◌≢◌, ◌⊎◌, inl, inr, ⊎_elim, ℕ, ◌+◌, ◌-◌, ◌*◌, ◌/◌, ◌%◌, ◌<◌, ◌≤◌, ◌==◌, not, List, length, map, get_or, Option, Some, None, refl, ap, sym, subst, ◌∙◌, arith}
use Rattle.std.proofs.lemmas.Bool.{cases_eq, cases_lt}
use Rattle.std.proofs.lemmas.List.{ext_get_or}
use Rattle.std.proofs.lemmas.List.FromFn.{get_or-range_with_len, length-range_with_len}
use Rattle.std.proofs.lemmas.List.Sums.{prefix_len_is}
use Rattle.afl_base.specs.Image.{zeros_at}
use Rattle.afl_base.proofs.Images.{length_zeros_at, zeros_at_before, zeros_at_behind, zeros_at_inside}
use Rattle.coffee_layout.specs.FileBytes.{extent_place, file_byte, file_bytes, last_in, number_in, place_or, record_place, records, table_of, used_in}
use Rattle.coffee_layout.specs.Files.{Placed, entry_of, files_in, files_of, kind_of, named_file}
use Rattle.coffee_layout.specs.Rules.{broken_image}
use Rattle.coffee_layout.specs.Tiling.{IsTiled, nowhere, units_of}
use Rattle.coffee_layout.specs.Units.{pages_of}
use Rattle.coffee_layout.specs.declared.file.FileAt.{FileAt}
use Rattle.coffee_layout.proofs.Frames.{KeepsFile, kept_bytes}
use Rattle.coffee_layout.proofs.Tests.{eq_false}
use Rattle.coffee_layout.proofs.Tilings.{units_tiled}
use Rattle.coffee_log.specs.Logs.{IsLog}
use Rattle.coffee_log.proofs.LastRecords.{last_found, last_is, last_same}
use Rattle.coffee_log.proofs.RecordLaws.{kept_number, number_image}
use Rattle.coffee_merge.specs.Begun.{active_at}
use Rattle.coffee_merge.specs.Holding.{Entries, HoldsTable, IsIn, file_header, log_header}
use Rattle.coffee_merge.proofs.Contents.{changed_tiled}
use Rattle.coffee_merge.proofs.Holdings.{entries_apart}
use Rattle.coffee_merge.proofs.MovedFiles.{held_listed}
use Rattle.coffee_merge.proofs.SoundEntries.{table_by}
use Rattle.coffee_merge.proofs.SoundHolders.{file_holder, log_is}
use Rattle.coffee_merge.proofs.SoundRules.{KeepsRules, sound_rules}
use Rattle.coffee_merge.proofs.SoundTables.{sound_held}
use Rattle.coffee_merge.proofs.SoundUnits.{Among}
use Rattle.flash_range.specs.Range.{Outside}
use Rattle.padded.proofs.Facts.{eq_true, some_same}
use Rattle.coffee_cuts.specs.Cuts.{IsActiveAt, IsSuperseding, without_two}
use Rattle.coffee_cuts.proofs.AlikeFiles.{bytes_alike}
use Rattle.coffee_cuts.proofs.Mended.{named}
use Rattle.coffee_cuts.proofs.TornRecords.{map_among}

-- a byte is one of some, or none
pub in_or_out : (at n k : ℕ) → ((at ≤ k) × (k < at + n)) ⊎ Outside at n k
in_or_out at n k = ⊎_elim
    (λ (before : k < at). inr (λ a b. omega (arith, a, before)))
    (λ (from : at ≤ k). ⊎_elim
    (λ (there : k < at + n). inl (from, there))
    (λ (behind : at + n ≤ k). inr (λ a b. omega (arith, b, behind)))
    (cases_lt k (at + n)))
    (cases_lt k at)

-- bytes beside some that are made zero
pub zeros_beside : (image : List ℕ) (at n k : ℕ) → at + n ≤ length image → Outside at n k → get_or (zeros_at image at n) k 0 ≡ get_or image k 0
zeros_beside image at n k fits out = ⊎_elim
    (λ (before : k < at). zeros_at_before image at n k fits before)
    (λ (from : at ≤ k). ⊎_elim
    (λ (there : k < at + n). absurd (out from there))
    (λ (behind : at + n ≤ k). zeros_at_behind image at n k fits behind)
    (cases_lt k (at + n)))
    (cases_lt k at)

-- THE IMAGE WITHOUT TWO RECORDS OF A LOG

module _ (image : List ℕ) (log used : ℕ) (free : used < 29) (inside : 256 * log + 4096 ≤ length image) where
  abbrev first : List ℕ
  first = zeros_at image (record_place log used) 256

  first_long : length first ≡ length image
  first_long = length_zeros_at image (record_place log used) 256 (omega (arith, free, inside))

  pub two_long : length (without_two image log used) ≡ length image
  two_long = length_zeros_at first (256 * log + 34 + 2 * used) 2 (let f = first_long in omega (arith, free, inside, f)) ∙ first_long

  -- all other bytes are the same
  pub two_others : (k : ℕ) → Outside (record_place log used) 256 k → Outside (256 * log + 34 + 2 * used) 2 k → get_or image k 0 ≡ get_or (without_two image log used) k 0
  two_others k records number =
      sym (zeros_beside first (256 * log + 34 + 2 * used) 2 k (let f = first_long in omega (arith, free, inside, f)) number
      ∙ zeros_beside image (record_place log used) 256 k (omega (arith, free, inside)) records)

  -- the number is 0, and the records are zero
  pub two_number : (k : ℕ) → 256 * log + 34 + 2 * used ≤ k → k < 256 * log + 36 + 2 * used → get_or (without_two image log used) k 0 ≡ 0
  two_number k from to = zeros_at_inside first (256 * log + 34 + 2 * used) 2 k (let f = first_long in omega (arith, free, inside, f)) from (omega (arith, to))

  pub two_records : (k : ℕ) → record_place log used ≤ k → k < record_place log used + 256 → get_or (without_two image log used) k 0 ≡ 0
  two_records k from to =
      zeros_beside first (256 * log + 34 + 2 * used) 2 k (let f = first_long in omega (arith, free, inside, f)) (λ a b. omega (arith, b, from, free))
      ∙ zeros_at_inside image (record_place log used) 256 k (omega (arith, free, inside)) from to

  -- where the second record is zero, and has no number, it is enough that the first is made zero
  pub one_is_two : ((k : ℕ) → k < 128 → get_or image (record_place log (used + 1) + k) 0 ≡ 0) → number_in (table_of image log) (used + 1) ≡ 0 → zeros_at image (record_place log used) 128 ≡ without_two image log used
  one_is_two zero none =
      ext_get_or 0 (zeros_at image (record_place log used) 128) (without_two image log used) (length_zeros_at image (record_place log used) 128 (omega (arith, free, inside)) ∙ sym two_long) (λ k less. by_place k)
    where
      by_place : (k : ℕ) → get_or (zeros_at image (record_place log used) 128) k 0 ≡ get_or (without_two image log used) k 0
      by_place k = ⊎_elim
          (λ (slot : (256 * log + 34 + 2 * used ≤ k) × (k < 256 * log + 34 + 2 * used + 2)).
          let from = slot.0 in
          let to = slot.1 in
          let bytes = number_image image log (used + 1) (omega (arith, free)) in
          zeros_beside image (record_place log used) 128 k (omega (arith, free, inside)) (λ x y. omega (arith, x, to, free))
          ∙ ⊎_elim
          (λ (first : k ≡ 256 * log + 32 + 2 * (used + 1)). ap (λ j. get_or image j 0) first ∙ omega (arith, bytes, none))
          (λ (other : k ≢ 256 * log + 32 + 2 * (used + 1)).
          let e : k ≡ 256 * log + 32 + 2 * (used + 1) + 1 = omega (arith, from, to, other) in
          ap (λ j. get_or image j 0) e ∙ omega (arith, bytes, none))
          (cases_eq k (256 * log + 32 + 2 * (used + 1)))
          ∙ sym (two_number k from (omega (arith, to))))
          (λ (out : Outside (256 * log + 34 + 2 * used) 2 k). ⊎_elim
          (λ (there : (record_place log used ≤ k) × (k < record_place log used + 256)).
          let from = there.0 in
          let to = there.1 in
          ⊎_elim
          (λ (low : k < record_place log used + 128). zeros_at_inside image (record_place log used) 128 k (omega (arith, free, inside)) from low)
          (λ (high : record_place log used + 128 ≤ k).
          let back : record_place log (used + 1) + (k - record_place log (used + 1)) ≡ k = omega (arith, high) in
          zeros_at_behind image (record_place log used) 128 k (omega (arith, free, inside)) high
          ∙ sym (ap (λ j. get_or image j 0) back) ∙ zero (k - record_place log (used + 1)) (omega (arith, to, high)))
          (cases_lt k (record_place log used + 128)) ∙ sym (two_records k from to))
          (λ (beside : Outside (record_place log used) 256 k). zeros_beside image (record_place log used) 128 k (omega (arith, free, inside)) (λ x y. beside x (omega (arith, y))) ∙ two_others k beside out)
          (in_or_out (record_place log used) 256 k))
          (in_or_out (256 * log + 34 + 2 * used) 2 k)

module _ (image : List ℕ) (whole : 256 * pages_of image ≡ length image) (t : IsSuperseding image) where
  abbrev log : ℕ
  log = t.log.0

  abbrev used : ℕ
  used = t.file.used

  abbrev pub base : List ℕ
  base = without_two image t.log.0 t.file.used

  pub long : length base ≡ length image
  long = two_long image t.log.0 t.file.used t.free t.inside

  pub whole_base : 256 * pages_of base ≡ length base
  whole_base = ap (λ m. 256 * (m / 256)) long ∙ whole ∙ sym long

  pub rules : KeepsRules base (units_of base)
  rules = (sound_rules base whole_base t.sound).0

  abbrev pub table : Entries
  table = table_by (entry_of base) (files_in (units_of base)) 0

  pub holds : HoldsTable base table None
  holds = sound_held base 0 t.sound whole_base

  pub at : (i : ℕ) × IsIn table i t.file
  at = held_listed base table t.file holds t.there

  pub logged : IsLog base log used
  logged = (holds.stored at.0 t.file at.1).file.logged t.log t.logged

  -- all bytes but those of the log
  pub outside_log : (k : ℕ) → Outside (256 * t.log.0 + 32) 4064 k → get_or image k 0 ≡ get_or base k 0
  outside_log k out =
      let f = t.free in
      two_others image t.log.0 t.file.used t.free t.inside k (λ a b. out (omega (arith, a)) (omega (arith, b, f))) (λ a b. out (omega (arith, a)) (omega (arith, b, f)))

  -- UNITS

  pub tiled : IsTiled nowhere image (units_of base)
  tiled = changed_tiled base image table None at.0 t.file holds at.1 (sym long) (λ k out. outside_log k (out.logged t.log t.logged))

  pub units : units_of image ≡ units_of base
  units = units_tiled nowhere image (units_of base) tiled

  -- NUMBERS

  abbrev pub numbers : List ℕ → List ℕ
  numbers xs = table_of xs t.log.0

  pub number_same : (j : ℕ) → j < 30 → j ≢ used + 1 → number_in (numbers image) j ≡ number_in (numbers base) j
  number_same j few other =
      let f = t.free in
      kept_number base image t.log.0 j few
      (two_others image t.log.0 t.file.used t.free t.inside (256 * t.log.0 + 32 + 2 * j) (λ a b. omega (arith, a, few)) (λ a b. other (omega (arith, a, b))))
      (two_others image t.log.0 t.file.used t.free t.inside (256 * t.log.0 + 32 + 2 * j + 1) (λ a b. omega (arith, a, few)) (λ a b. other (omega (arith, a, b))))

  pub number_base : number_in (numbers base) (used + 1) ≡ 0
  number_base = let f = t.free in logged.free_are (used + 1) (omega arith) (omega (arith, f))

  -- THE BYTES OF THE FILE

  -- no byte of the file stands in the two records, without them
  not_there : (p : ℕ) (o : Option ℕ) → p + 32 < 256 * t.file.pages → last_in (numbers base) (p / 128) 30 ≡ o
      → get_or image (place_or (extent_place t.file.page.0 (128 * (p / 128))) log o + p % 128) 0 ≡ get_or base (place_or (extent_place t.file.page.0 (128 * (p / 128))) log o + p % 128) 0
  not_there p None within found = outside_log (extent_place t.file.page.0 (128 * (p / 128)) + p % 128) (λ a b.
      (holds.stored at.0 t.file at.1).file.apart t.log t.logged ((extent_place t.file.page.0 (128 * (p / 128)) + p % 128) / 256) (omega arith) (omega (arith, within)) (omega (arith, a)) (omega (arith, b)))
  not_there p (Some j) within found =
      let f = last_found (numbers base) (p / 128) 30 j found in
      let few = f.0 in
      let number = f.1 in
      let before : j < used = ⊎_elim
      (λ (low : j < used). low)
      (λ (high : used ≤ j). let none = logged.free_are j high few in absurd (omega (arith, number, none)))
      (cases_lt j used) in
      two_others image t.log.0 t.file.used t.free t.inside (record_place log j + p % 128) (λ a b. omega (arith, a, before)) (λ a b. omega (arith, b, few, t.free))

  by_last : (p : ℕ) → p + 32 < 256 * t.file.pages → last_in (numbers image) (p / 128) 30 ≡ last_in (numbers base) (p / 128) 30 → file_byte image t.file.page.0 (Some t.log) p ≡ file_byte base t.file.page.0 (Some t.log) p
  by_last p within same =
      ap (λ o. get_or image (place_or (extent_place t.file.page.0 (128 * (p / 128))) log o + p % 128) 0) same
      ∙ not_there p (last_in (numbers base) (p / 128) 30) within refl

  -- the record behind has no number
  by_none : number_in (numbers image) (used + 1) ≡ 0 → (p : ℕ) → p + 32 < 256 * t.file.pages → file_byte image t.file.page.0 (Some t.log) p ≡ file_byte base t.file.page.0 (Some t.log) p
  by_none none p within = by_last p within (last_same (numbers base) (numbers image) (p / 128) 30 (λ i few. ap (λ n. n == p / 128 + 1) (⊎_elim
      (λ (here : i ≡ used + 1). ap (number_in (numbers image)) here ∙ none ∙ sym (ap (number_in (numbers base)) here ∙ number_base))
      (λ (other : i ≢ used + 1). number_same i few other)
      (cases_eq i (used + 1)))))

  -- or that of the first region, and holds it
  by_first : number_in (numbers image) (used + 1) ≡ 1 → t.done ≡ 128 → (p : ℕ) → p + 32 < 256 * t.file.pages → file_byte image t.file.page.0 (Some t.log) p ≡ file_byte base t.file.page.0 (Some t.log) p
  by_first one all p within = ⊎_elim
      (λ (front : p / 128 ≡ 0).
      let f = t.free in
      let last : last_in (numbers image) 0 30 ≡ Some (used + 1) = last_is (numbers image) 0 30 (used + 1) (omega (arith, f)) one (λ i a b.
      let n = number_same i b (λ e. omega (arith, a, e)) in
      let z = logged.free_are i (omega (arith, a)) b in
      λ e. absurd (omega (arith, e, n, z))) in
      ap (λ o. get_or image (place_or (extent_place t.file.page.0 (128 * (p / 128))) log o + p % 128) 0) (ap (λ r. last_in (numbers image) r 30) front ∙ last)
      ∙ ap (λ q. get_or image (record_place log (used + 1) + q) 0) (let e : p % 128 ≡ p = omega (arith, front) in e)
      ∙ t.front p (omega (arith, all, front))
      ∙ ap (λ o. file_byte base t.file.page.0 o p) t.logged)
      (λ (behind : p / 128 ≢ 0). by_last p within (last_same (numbers base) (numbers image) (p / 128) 30 (λ i few. ⊎_elim
      (λ (here : i ≡ used + 1).
      let a : number_in (numbers image) i ≡ 1 = ap (number_in (numbers image)) here ∙ one in
      let b : number_in (numbers base) i ≡ 0 = ap (number_in (numbers base)) here ∙ number_base in
      eq_false (number_in (numbers image) i) (p / 128 + 1) (λ e. behind (omega (arith, a, e))) ∙ sym (eq_false (number_in (numbers base) i) (p / 128 + 1) (λ e. absurd (omega (arith, b, e)))))
      (λ (other : i ≢ used + 1). ap (λ n. n == p / 128 + 1) (number_same i few other))
      (cases_eq i (used + 1)))))
      (cases_eq (p / 128) 0)

  same_byte : (p : ℕ) → p + 32 < 256 * t.file.pages → file_byte image t.file.page.0 t.file.log p ≡ file_byte base t.file.page.0 t.file.log p
  same_byte p within = subst (λ o. file_byte image t.file.page.0 o p ≡ file_byte base t.file.page.0 o p) (sym t.logged) (⊎_elim
      (λ none. by_none none p within)
      (λ (n : (number_in (numbers image) (used + 1) ≡ 1) × (t.done ≡ 128) × (1 ≤ t.file.size)). by_first n.0 n.1 p within)
      t.number)

  -- ALL FILES

  other_file : (k : ℕ) (f : FileAt) → k ≢ at.0 → IsIn table k f → KeepsFile base image f.page.0 f.pages f.log
  other_file k f other there =
      let apart = entries_apart base table None at.0 k t.file f holds at.1 there (λ s. other (sym s)) in
      record {
        extent = λ j from to. outside_log j (λ a b. apart.first t.log t.logged (j / 256) (omega (arith, from)) (omega (arith, to)) (omega (arith, a)) (omega (arith, b)));
        logged = λ m named j from to. outside_log j (λ a b. apart.logs t.log m t.logged named (j / 256) (omega (arith, from)) (omega (arith, to)) (omega (arith, a)) (omega (arith, b)));
      }

  pub same_bytes : (k : ℕ) (f : FileAt) → IsIn table k f → file_bytes image f.page.0 f.pages f.log ≡ file_bytes base f.page.0 f.pages f.log
  same_bytes k f there = ⊎_elim
      (λ (same : k ≡ at.0).
      let is : t.file ≡ f = some_same t.file f (sym at.1 ∙ ap (λ n. get_or table n None) (sym same) ∙ there) in
      subst (λ (x : FileAt). file_bytes image x.page.0 x.pages x.log ≡ file_bytes base x.page.0 x.pages x.log) is
      (bytes_alike image base t.file.page.0 t.file.pages t.file.log (λ p low. same_byte p (omega (arith, low)))))
      (λ (other : k ≢ at.0). kept_bytes base image f.page.0 f.pages f.log (sym long) (other_file k f other there))
      (cases_eq k at.0)

  pub file_same : (f : Placed) → Among f (files_in (units_of base)) → named_file image f ≡ named_file base f
  file_same f a =
      let by = file_holder base table f holds a in
      let entry = by.entry in
      subst (λ x. named_file image x ≡ named_file base x) (sym by.is)
      (ap (named entry.name (kind_of (file_header entry)))
      (subst (λ o. file_bytes image entry.page.0 entry.pages o ≡ file_bytes base entry.page.0 entry.pages o) (sym (log_is entry.log)) (same_bytes by.place entry by.is_in)))

  -- the image has the files that it has without the two records
  pub superseding_files : files_of image ≡ files_of base
  superseding_files =
      ap (λ us. map (named_file image) (files_in us)) units
      ∙ map_among (named_file image) (named_file base) (files_in (units_of base)) file_same

  -- so many records of the log are in use
  pub in_use : used_in (table_of image t.log.0) ≡ t.file.used
  unfolding records
  in_use =
      let f = t.free in
      prefix_len_is (λ i. not (number_in (numbers image) i == 0)) records used 0 (let l = length-range_with_len 0 30 in omega (arith, f, l))
      (λ k l.
      let at_place : get_or records k 0 ≡ k = get_or-range_with_len 0 30 k 0 (omega (arith, l, f)) ∙ omega arith in
      let same = number_same k (omega (arith, l, f)) (λ e. omega (arith, e, l)) in
      rw (at_place, eq_false (number_in (numbers image) k) 0 (λ z. logged.used_are k l (sym same ∙ z))) refl)
      (λ l.
      let at_place : get_or records used 0 ≡ used = get_or-range_with_len 0 30 used 0 (omega (arith, f)) ∙ omega arith in
      let same = number_same used (omega (arith, f)) (λ e. omega (arith, e)) in
      rw (at_place, eq_true (number_in (numbers image) used) 0 (same ∙ logged.free_are used (omega arith) (omega (arith, f)))) refl)

  -- the log is active
  pub log_active : IsActiveAt image t.log.0 19
  log_active = record { header = log_header t.file.name; there = ap (λ us. active_at us t.log.0) units ∙ holds.logs at.0 t.file t.log at.1 t.logged; flags_are = refl }
