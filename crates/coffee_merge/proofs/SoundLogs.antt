-- A log keeps the rules 10 to 12 exactly where its records are filled from the front and what is free is zero.
use Rattle.std.proofs.Common.{◌≡◌, ℕ, zero, suc, ◌+◌, ◌-◌, ◌*◌, ◌≤◌, ◌<◌, Bool, true, false, not, ◌||◌, ◌==◌, nat_le, nat_lt, List, [], ◌∷◌, length, drop, get_or, slice_range, refl, ap, sym, ◌∙◌, ⊎_elim, arith}
use Rattle.std.specs.List.{list_all}
use Rattle.std.proofs.lemmas.Bool.{and_from, cases_lt, le-leb, not-true, or_left, or_right}
use Rattle.std.proofs.lemmas.List.{get_or-drop, get_or_past, length-drop, length-take}
use Rattle.std.proofs.lemmas.List.FromFn.{get_or-range_with_len, length-range_with_len}
use Rattle.std.proofs.lemmas.List.Sums.{prefix_len-le-length, prefix_len_is, prefix_len_passes}
use Rattle.padded.proofs.Facts.{both_parts, lt_true, true_eq, eq_true}
use Rattle.afl_base.proofs.Images.{range_at}
use Rattle.coffee_layout.specs.FileBytes.{number_in, records, table_of, used_in}
use Rattle.coffee_layout.specs.Rules.{has_regions_inside, is_clear, is_front_filled, is_region_inside}
use Rattle.padded.specs.Zeros.{is_zeros}
use Rattle.coffee_layout.proofs.Tests.{eq_false, false_eq, true_lt}
use Rattle.coffee_log.specs.FileChanges.{BeginsBelow}
use Rattle.coffee_log.specs.Logs.{IsLog}
use Rattle.coffee_merge.proofs.SoundUnits.{or_second}

-- TESTS OF ALL ELEMENTS

pub all_at : {A : Type 0} (test : A → Bool) (xs : List A) (k : ℕ) (d : A) → k < length xs → list_all test xs ≡ true → test (get_or xs k d) ≡ true
all_at test [] k d l e = absurd (omega arith)
all_at test (x ∷ xs) zero d l e = (both_parts (test x) (list_all test xs) e).0
all_at test (x ∷ xs) (suc k) d l e = all_at test xs k d (omega arith) (both_parts (test x) (list_all test xs) e).1

pub all_from : {A : Type 0} (test : A → Bool) (xs : List A) (d : A) → ((k : ℕ) → k < length xs → test (get_or xs k d) ≡ true) → list_all test xs ≡ true
all_from test [] d f = refl
all_from test (x ∷ xs) d f = rw (f 0 (omega arith)) (all_from test xs d (λ k l. f (suc k) (omega arith)))

-- bytes of a part that is all zero
zeros_at : (image : List ℕ) (a b k : ℕ) → is_zeros (slice_range image a b) ≡ true → a ≤ k → k < b → get_or image k 0 ≡ 0
zeros_at image a b k z low high =
    let back : a + (k - a) ≡ k = omega arith in
    let there : get_or (slice_range image a b) (k - a) 0 ≡ get_or image k 0 = range_at image a b (k - a) (omega arith) ∙ ap (λ j. get_or image j 0) back in
    ⊎_elim
    (λ (l : k - a < length (slice_range image a b)). sym there ∙ true_eq (get_or (slice_range image a b) (k - a) 0) 0 (all_at (λ x. x == 0) (slice_range image a b) (k - a) 0 l z))
    (λ (l : length (slice_range image a b) ≤ k - a). sym there ∙ get_or_past (slice_range image a b) (k - a) 0 l)
    (cases_lt (k - a) (length (slice_range image a b)))

zeros_from : (image : List ℕ) (a b : ℕ) → ((k : ℕ) → a ≤ k → k < b → get_or image k 0 ≡ 0) → is_zeros (slice_range image a b) ≡ true
zeros_from image a b f = all_from (λ x. x == 0) (slice_range image a b) 0
    (λ k l. ⊎_elim
    (λ (w : a + k < b). eq_true (get_or (slice_range image a b) k 0) 0 (range_at image a b k w ∙ f (a + k) (omega arith) w))
    (λ (w : b ≤ a + k). absurd (omega (arith, length-take (b - a) (drop a image))))
    (cases_lt (a + k) b))

-- RECORDS

record_at : (k d : ℕ) → k < 30 → get_or records k d ≡ k
unfolding records
record_at k d l = get_or-range_with_len 0 30 k d l ∙ omega arith

length_records : length records ≡ 30
unfolding records
length_records = length-range_with_len 0 30

pub used_few : (table : List ℕ) → used_in table ≤ 30
used_few table = omega (arith, prefix_len-le-length (λ i. not (number_in table i == 0)) records, length_records)

-- the rules give a log
pub log_from_rules : (image : List ℕ) (log : ℕ) → is_front_filled (table_of image log) ≡ true → is_clear image log ≡ true → IsLog image log (used_in (table_of image log))
log_from_rules image log filled clear =
    let used = used_in (table_of image log) in
    let few = used_few (table_of image log) in
    let all = length_records in
    let parts = both_parts (is_zeros (slice_range image (256 * log + 92) (256 * log + 96))) (is_zeros (slice_range image (256 * log + 96 + 128 * used_in (table_of image log)) (256 * log + 4096))) clear in
    record {
      few = few;
      used_are = λ i l z.
          let passes = prefix_len_passes (λ k. not (number_in (table_of image log) k == 0)) records i 0 l in
          let at : get_or records i 0 ≡ i = record_at i 0 (omega arith) in
          let here : number_in (table_of image log) i == 0 ≡ false = not-true (number_in (table_of image log) i == 0) (sym (ap (λ k. not (number_in (table_of image log) k == 0)) at) ∙ passes) in
          false_eq (number_in (table_of image log) i) 0 here z;
      free_are = λ i low high.
          let back : used_in (table_of image log) + (i - used_in (table_of image log)) ≡ i = omega arith in
          let at : get_or (drop (used_in (table_of image log)) records) (i - used_in (table_of image log)) 0 ≡ i =
          get_or-drop (used_in (table_of image log)) records (i - used_in (table_of image log)) 0 ∙ ap (λ k. get_or records k 0) back ∙ record_at i 0 high in
          let here = all_at (λ k. number_in (table_of image log) k == 0) (drop (used_in (table_of image log)) records) (i - used_in (table_of image log)) 0 (omega (arith, length-drop (used_in (table_of image log)) records)) filled in
          true_eq (number_in (table_of image log) i) 0 (sym (ap (λ k. number_in (table_of image log) k == 0) at) ∙ here);
      gap = λ k low high. zeros_at image (256 * log + 92) (256 * log + 96) k parts.0 low high;
      clear = λ k low high. zeros_at image (256 * log + 96 + 128 * used_in (table_of image log)) (256 * log + 4096) k parts.1 low high;
    }

-- so many records of a log are in use
pub used_is : (image : List ℕ) (log used : ℕ) → IsLog image log used → used_in (table_of image log) ≡ used
used_is image log used is =
    let few = is.few in
    let all = length_records in
    prefix_len_is (λ i. not (number_in (table_of image log) i == 0)) records used 0 (omega arith)
    (λ k l. let at : get_or records k 0 ≡ k = record_at k 0 (omega arith) in rw (at, eq_false (number_in (table_of image log) k) 0 (is.used_are k l)) refl)
    (λ l. let at : get_or records used 0 ≡ used = record_at used 0 (omega arith) in rw (at, eq_true (number_in (table_of image log) used) 0 (is.free_are used (omega arith) (omega arith))) refl)

pub filled_from_log : (image : List ℕ) (log used : ℕ) → IsLog image log used → is_front_filled (table_of image log) ≡ true
filled_from_log image log used is =
    let n = used_is image log used is in
    let all = length_records in
    all_from (λ i. number_in (table_of image log) i == 0) (drop (used_in (table_of image log)) records) 0
    (λ k l.
    let long : used_in (table_of image log) + k < 30 = omega (arith, length-drop (used_in (table_of image log)) records) in
    let at : get_or (drop (used_in (table_of image log)) records) k 0 ≡ used_in (table_of image log) + k = get_or-drop (used_in (table_of image log)) records k 0 ∙ record_at (used_in (table_of image log) + k) 0 long in
    ap (λ i. number_in (table_of image log) i == 0) at ∙ eq_true (number_in (table_of image log) (used_in (table_of image log) + k)) 0 (is.free_are (used_in (table_of image log) + k) (omega arith) long))

pub clear_from_log : (image : List ℕ) (log used : ℕ) → IsLog image log used → is_clear image log ≡ true
clear_from_log image log used is =
    let n = used_is image log used is in
    and_from (is_zeros (slice_range image (256 * log + 92) (256 * log + 96))) (is_zeros (slice_range image (256 * log + 96 + 128 * used_in (table_of image log)) (256 * log + 4096)))
    (zeros_from image (256 * log + 92) (256 * log + 96) is.gap)
    (zeros_from image (256 * log + 96 + 128 * used_in (table_of image log)) (256 * log + 4096) (λ k low high. is.clear k (omega arith) high))

-- REGIONS

pub below_from_regions : (image : List ℕ) (log pages size : ℕ) → has_regions_inside pages size (table_of image log) ≡ true → IsLog image log (used_in (table_of image log)) → BeginsBelow image log (used_in (table_of image log)) size
below_from_regions image log pages size inside is i l =
    let few = is.few in
    let all = length_records in
    let at : get_or records i 0 ≡ i = record_at i 0 (omega arith) in
    let n = number_in (table_of image log) i in
    let here = all_at (λ k. number_in (table_of image log) k == 0 || is_region_inside pages size (number_in (table_of image log) k)) records i 0 (omega arith) inside in
    let there : (number_in (table_of image log) i == 0 || is_region_inside pages size (number_in (table_of image log) i)) ≡ true =
    sym (ap (λ k. number_in (table_of image log) k == 0 || is_region_inside pages size (number_in (table_of image log) k)) at) ∙ here in
    let region = or_second (number_in (table_of image log) i == 0) (is_region_inside pages size (number_in (table_of image log) i)) there (eq_false (number_in (table_of image log) i) 0 (is.used_are i l)) in
    true_lt (128 * (number_in (table_of image log) i - 1)) size (both_parts (nat_le (number_in (table_of image log) i) (2 * pages)) (nat_lt (128 * (number_in (table_of image log) i - 1)) size) region).1

pub regions_from_below : (image : List ℕ) (log pages used size : ℕ) → IsLog image log used → BeginsBelow image log used size → size + 32 ≤ 256 * pages → has_regions_inside pages size (table_of image log) ≡ true
regions_from_below image log pages used size is below fits =
    let all = length_records in
    all_from (λ k. number_in (table_of image log) k == 0 || is_region_inside pages size (number_in (table_of image log) k)) records 0
    (λ i l.
    let at : get_or records i 0 ≡ i = record_at i 0 (omega arith) in
    ap (λ k. number_in (table_of image log) k == 0 || is_region_inside pages size (number_in (table_of image log) k)) at
    ∙ ⊎_elim
    (λ (u : i < used).
    let b = below i u in
    or_right (number_in (table_of image log) i == 0) (is_region_inside pages size (number_in (table_of image log) i))
    (and_from (nat_le (number_in (table_of image log) i) (2 * pages)) (nat_lt (128 * (number_in (table_of image log) i - 1)) size)
    (le-leb (number_in (table_of image log) i) (2 * pages) (omega arith)) (lt_true (128 * (number_in (table_of image log) i - 1)) size b)))
    (λ (u : used ≤ i). or_left (number_in (table_of image log) i == 0) (is_region_inside pages size (number_in (table_of image log) i)) (eq_true (number_in (table_of image log) i) 0 (is.free_are i u (omega arith))))
    (cases_lt i used))
