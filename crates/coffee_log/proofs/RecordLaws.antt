-- What a further record leaves of a log.
use Rattle.std.proofs.Common.{◌≡◌, ◌≢◌, ℕ, ◌+◌, ◌*◌, ◌≤◌, ◌<◌, List, length, drop, get_or, ap, sym, subst, ◌∙◌, arith, ⊎_elim}
use Rattle.std.proofs.lemmas.Bool.{cases_eq}
use Rattle.std.proofs.lemmas.List.{get_or-drop}
use Rattle.afl_base.specs.Fields.{u16_at}
use Rattle.afl_base.specs.Image.{or_at}
use Rattle.afl_base.proofs.Images.{length_or_at, range_at}
use Rattle.flash_range.specs.Range.{Outside}
use Rattle.flash_range.proofs.Ranges.{or_on_zero, or_outside}
use Rattle.coffee_layout.specs.FileBytes.{number_in, record_place, table_of}
use Rattle.coffee_log.specs.Logs.{IsLog, PutsRecord}

-- the place of the number of record i
abbrev pub number_place : ℕ → ℕ → ℕ
number_place log i = 256 * log + 32 + 2 * i

pub two_bytes : (xs : List ℕ) (at : ℕ) → u16_at xs at ≡ get_or xs at 0 + 256 * get_or xs (at + 1) 0
unfolding u16_at
two_bytes xs at =
    let here : at + 0 ≡ at = omega arith in
    let low : get_or (drop at xs) 0 0 ≡ get_or xs at 0 = get_or-drop at xs 0 0 ∙ ap (λ i. get_or xs i 0) here in
    let high : get_or (drop at xs) 1 0 ≡ get_or xs (at + 1) 0 = get_or-drop at xs 1 0 in
    let end : get_or xs at 0 + 256 * (get_or xs (at + 1) 0 + 256 * 0) ≡ get_or xs at 0 + 256 * get_or xs (at + 1) 0 = omega arith in
    ap (λ x. x + 256 * (get_or (drop at xs) 1 0 + 256 * 0)) low ∙ ap (λ y. get_or xs at 0 + 256 * (y + 256 * 0)) high ∙ end

-- the number of a record is in two bytes of the image
pub number_image : (image : List ℕ) (log i : ℕ) → i < 30 → number_in (table_of image log) i ≡ get_or image (number_place log i) 0 + 256 * get_or image (number_place log i + 1) 0
number_image image log i few =
    let low : get_or (table_of image log) (2 * i) 0 ≡ get_or image (number_place log i) 0 = range_at image (256 * log + 32) (256 * log + 92) (2 * i) (omega arith) in
    let next : 256 * log + 32 + (2 * i + 1) ≡ number_place log i + 1 = omega arith in
    let high : get_or (table_of image log) (2 * i + 1) 0 ≡ get_or image (number_place log i + 1) 0 = range_at image (256 * log + 32) (256 * log + 92) (2 * i + 1) (omega arith) ∙ ap (λ k. get_or image k 0) next in
    two_bytes (table_of image log) (2 * i)
    ∙ ap (λ x. x + 256 * get_or (table_of image log) (2 * i + 1) 0) low
    ∙ ap (λ y. get_or image (number_place log i) 0 + 256 * y) high

-- it stays where they do
pub kept_number : (old new : List ℕ) (log i : ℕ) → i < 30 → get_or new (number_place log i) 0 ≡ get_or old (number_place log i) 0 → get_or new (number_place log i + 1) 0 ≡ get_or old (number_place log i + 1) 0
    → number_in (table_of new log) i ≡ number_in (table_of old log) i
kept_number old new log i few low high =
    number_image new log i few
    ∙ ap (λ x. x + 256 * get_or new (number_place log i + 1) 0) low
    ∙ ap (λ y. get_or old (number_place log i) 0 + 256 * y) high
    ∙ sym (number_image old log i few)

-- what was written, and that all else stays, is a further record
by_bytes : (old new bytes : List ℕ) (log used region : ℕ) → IsLog old log used → used < 30 → number_in (table_of new log) used ≡ region + 1
    → ((k : ℕ) → k < 128 → get_or new (record_place log used + k) 0 ≡ get_or bytes k 0)
    → ((k : ℕ) → Outside (record_place log used) 128 k → Outside (number_place log used) 2 k → get_or new k 0 ≡ get_or old k 0)
    → PutsRecord old new log used region bytes
by_bytes old new bytes log used region was free number here others =
    let numbers : (i : ℕ) → i < 30 → i ≢ used → number_in (table_of new log) i ≡ number_in (table_of old log) i =
    λ i few other. kept_number old new log i few
    (others (number_place log i) (λ a b. omega arith) (λ a b. other (omega arith)))
    (others (number_place log i + 1) (λ a b. omega arith) (λ a b. other (omega arith))) in
    record {
      more = record {
        few = omega arith;
        used_are = λ i below.
            ⊎_elim
            (λ (e : i ≡ used). λ z. let same : number_in (table_of new log) i ≡ number_in (table_of new log) used = ap (λ j. number_in (table_of new log) j) e in absurd (omega arith))
            (λ (other : i ≢ used). λ z. was.used_are i (let l : i < used = omega arith in l) (sym (numbers i (omega arith) other) ∙ z))
            (cases_eq i used);
        free_are = λ i a b. numbers i b (λ e. omega arith) ∙ was.free_are i (omega arith) b;
        gap = λ k a b. others k (λ x y. omega arith) (λ x y. omega arith) ∙ was.gap k a b;
        clear = λ k a b. others k (λ x y. omega arith) (λ x y. omega arith) ∙ was.clear k (omega arith) b;
      };
      number = number;
      numbers = numbers;
      here = here;
      others = others;
    }

-- two programs into zeros: first the bytes of the record, then its number
pub puts_record : (image bytes number : List ℕ) (log used region : ℕ) → length bytes ≡ 128 → length number ≡ 2 → u16_at number 0 ≡ region + 1 → used < 30 → 256 * log + 4096 ≤ length image → IsLog image log used
    → PutsRecord image (or_at (or_at image (record_place log used) bytes) (number_place log used) number) log used region bytes
puts_record image bytes number log used region long two is free fits was =
    let mid = or_at image (record_place log used) bytes in
    let new = or_at (or_at image (record_place log used) bytes) (number_place log used) number in
    let size : length (or_at image (record_place log used) bytes) ≡ length image = length_or_at image (record_place log used) bytes in
    let others : (k : ℕ) → Outside (record_place log used) 128 k → Outside (number_place log used) 2 k → get_or new k 0 ≡ get_or image k 0 =
    λ k a b. or_outside mid (number_place log used) number k (λ x y. b x (omega arith)) ∙ or_outside image (record_place log used) bytes k (λ x y. a x (omega arith)) in
    let here : (k : ℕ) → k < 128 → get_or new (record_place log used + k) 0 ≡ get_or bytes k 0 =
    λ k l. or_outside mid (number_place log used) number (record_place log used + k) (λ x y. omega arith) ∙ or_on_zero image (record_place log used) bytes k (omega arith) (omega arith) (was.clear (record_place log used + k) (omega arith) (omega arith)) in
    let zero_sum : get_or image (number_place log used) 0 + 256 * get_or image (number_place log used + 1) 0 ≡ 0 = sym (number_image image log used free) ∙ was.free_are used (omega arith) free in
    let first : number_place log used + 0 ≡ number_place log used = omega arith in
    let low_zero : get_or mid (number_place log used + 0) 0 ≡ 0 = ap (λ k. get_or mid k 0) first ∙ or_outside image (record_place log used) bytes (number_place log used) (λ x y. omega arith) ∙ omega arith in
    let high_zero : get_or mid (number_place log used + 1) 0 ≡ 0 = or_outside image (record_place log used) bytes (number_place log used + 1) (λ x y. omega arith) ∙ omega arith in
    let low : get_or new (number_place log used) 0 ≡ get_or number 0 0 = ap (λ k. get_or new k 0) (sym first) ∙ or_on_zero mid (number_place log used) number 0 (omega arith) (omega arith) low_zero in
    let high : get_or new (number_place log used + 1) 0 ≡ get_or number 1 0 = or_on_zero mid (number_place log used) number 1 (omega arith) (omega arith) high_zero in
    let now : number_in (table_of new log) used ≡ region + 1 =
    number_image new log used free
    ∙ ap (λ x. x + 256 * get_or new (number_place log used + 1) 0) low
    ∙ ap (λ y. get_or number 0 0 + 256 * y) high
    ∙ sym (two_bytes number 0) ∙ is in
    by_bytes image new bytes log used region was free now here others

pub programs_record : (image mid new bytes number : List ℕ) (log used region record_at number_at : ℕ) → mid ≡ or_at image record_at bytes → new ≡ or_at mid number_at number → record_at ≡ record_place log used → number_at ≡ number_place log used
    → length bytes ≡ 128 → length number ≡ 2 → u16_at number 0 ≡ region + 1 → used < 30 → 256 * log + 4096 ≤ length image → IsLog image log used → PutsRecord image new log used region bytes
programs_record image mid new bytes number log used region record_at number_at first second here there long two is free fits was =
    let same : or_at (or_at image (record_place log used) bytes) (number_place log used) number ≡ new =
    sym (second ∙ ap (λ m. or_at m number_at number) (first ∙ ap (λ k. or_at image k bytes) here) ∙ ap (λ k. or_at (or_at image (record_place log used) bytes) k number) there) in
    subst (λ n. PutsRecord image n log used region bytes) same (puts_record image bytes number log used region long two is free fits was)
