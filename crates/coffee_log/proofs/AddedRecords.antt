-- Records that come to a log one after the other.
use Rattle.std.proofs.Common.{◌≡◌, ℕ, zero, suc, ◌+◌, ◌-◌, ◌*◌, ◌/◌, ◌%◌, ◌≤◌, ◌<◌, List, get_or, refl, ap, sym, subst, ◌∙◌, arith, ⊎_elim}
use Rattle.std.proofs.lemmas.Bool.{cases_lt}
use Rattle.afl_base.specs.Regions.{regions}
use Rattle.coffee_layout.specs.FileBytes.{number_in, record_place, table_of}
use Rattle.flash_range.specs.Range.{Outside}
use Rattle.coffee_log.specs.FileChanges.{Apart}
use Rattle.coffee_log.specs.Logs.{AddsRecords, IsLog, PutsRecord}
use Rattle.coffee_log.proofs.RecordLaws.{kept_number, number_place}

-- no record
pub adds_none : (image : List ℕ) (log used region capacity : ℕ) → IsLog image log used → AddsRecords image image log used used region capacity
adds_none image log used region capacity is = record {
  more = is;
  rising = λ i from to. absurd (omega arith);
  before = λ i low. refl;
  tail = λ i k from to low behind. absurd (omega arith);
  kept = λ k from to. refl;
}

-- one record
pub adds_one : (old new buffer : List ℕ) (log used region capacity : ℕ) → PutsRecord old new log used region buffer → ((k : ℕ) → k < 128 → capacity ≤ 128 * region + k → get_or buffer k 0 ≡ 0) → AddsRecords old new log used (used + 1) region capacity
adds_one old new buffer log used region capacity puts zeros =
    let few = puts.more.few in
    record {
      more = puts.more;
      rising = λ i from to. let e : i ≡ used = omega arith in let n : region + 1 ≡ region + (i - used) + 1 = omega arith in ap (λ j. number_in (table_of new log) j) e ∙ puts.number ∙ n;
      before = λ i low. puts.numbers i (omega arith) (λ e. omega arith);
      tail = λ i k from to low behind. let e : i ≡ used = omega arith in ap (λ j. get_or new (record_place log j + k) 0) e ∙ puts.here k low ∙ zeros k low (omega arith);
      kept = λ k from to. puts.others k (λ a b. omega arith) (λ a b. omega arith);
    }

-- the same where the record was put into an image that is the old one
pub part_adds : (old mid new buffer : List ℕ) (log used number region capacity : ℕ) → IsLog old log used → mid ≡ old → number ≡ region → (IsLog mid log used → PutsRecord mid new log used number buffer)
    → ((k : ℕ) → k < 128 → capacity ≤ 128 * region + k → get_or buffer k 0 ≡ 0) → AddsRecords old new log used (used + 1) region capacity
part_adds old mid new buffer log used number region capacity was same here puts zeros =
    adds_one old new buffer log used region capacity (subst (λ r. PutsRecord old new log used r buffer) here (subst (λ i. PutsRecord i new log used number buffer) same (puts (subst (λ i. IsLog i log used) (sym same) was)))) zeros

-- and one more behind others
pub adds_more : (old mid new : List ℕ) (log from to region next capacity : ℕ) → from ≤ to → next ≡ region + (to - from) → AddsRecords old mid log from to region capacity → AddsRecords mid new log to (to + 1) next capacity → AddsRecords old new log from (to + 1) region capacity
adds_more old mid new log from to region next capacity rises is first second = record {
  more = second.more;
  rising = λ i low high. ⊎_elim
      (λ (a : i < to). second.before i a ∙ first.rising i low a)
      (λ (a : to ≤ i). let n : next + (i - to) + 1 ≡ region + (i - from) + 1 = omega arith in second.rising i a high ∙ n)
      (cases_lt i to);
  before = λ i low. second.before i (omega arith) ∙ first.before i low;
  tail = λ i k low high few behind. ⊎_elim
      (λ (a : i < to). second.kept (record_place log i + k) (omega arith) (omega arith) ∙ first.tail i k low a few behind)
      (λ (a : to ≤ i). second.tail i k a high few (omega arith))
      (cases_lt i to);
  kept = λ k low high. second.kept k low (omega arith) ∙ first.kept k low high;
}

-- the region of the next byte comes behind those of the records
pub next_region : (at done records used : ℕ) → records ≡ used + regions at done → (0 < done → (at + done) % 128 ≡ 0) → (at + done) / 128 ≡ at / 128 + (records - used)
next_region at zero records used count turn = omega arith
next_region at (suc d) records used count turn = let t : (at + suc d) % 128 ≡ 0 = turn (omega arith) in omega arith

-- they stay where the log does
pub adds_kept : (old mid new : List ℕ) (log from to region capacity : ℕ) → from ≤ to → AddsRecords old mid log from to region capacity
    → ((k : ℕ) → 256 * log + 32 ≤ k → k < 256 * log + 4096 → get_or new k 0 ≡ get_or mid k 0) → AddsRecords old new log from to region capacity
adds_kept old mid new log from to region capacity rises first same =
    let was = first.more in
    let few = was.few in
    let number : (i : ℕ) → i < 30 → number_in (table_of new log) i ≡ number_in (table_of mid log) i =
    λ i low. kept_number mid new log i low (same (number_place log i) (omega arith) (omega arith)) (same (number_place log i + 1) (omega arith) (omega arith)) in
    record {
      more = record {
        few = was.few;
        used_are = λ i low none. was.used_are i low (sym (number i (omega arith)) ∙ none);
        free_are = λ i low high. number i high ∙ was.free_are i low high;
        gap = λ k low high. same k (omega arith) (omega arith) ∙ was.gap k low high;
        clear = λ k low high. same k (omega arith) (omega arith) ∙ was.clear k low high;
      };
      rising = λ i low high. number i (omega arith) ∙ first.rising i low high;
      before = λ i low. number i (omega arith) ∙ first.before i low;
      tail = λ i k low high small behind. same (record_place log i + k) (omega arith) (omega arith) ∙ first.tail i k low high small behind;
      kept = λ k low high. same k (omega arith) (omega arith) ∙ first.kept k low high;
    }

-- a range of an extent lies outside of its log
pub range_apart : (old new : List ℕ) (page pages at n log : ℕ) → Apart page pages log → at + n + 32 ≤ 256 * pages → ((k : ℕ) → Outside (256 * page + 32 + at) n k → get_or new k 0 ≡ get_or old k 0)
    → (k : ℕ) → 256 * log + 32 ≤ k → k < 256 * log + 4096 → get_or new k 0 ≡ get_or old k 0
range_apart old new page pages at n log apart fits others = λ k from to. others k (λ a b. apart (k / 256) (omega arith) (omega arith) (omega arith) (omega arith))
