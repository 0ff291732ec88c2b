-- What the bytes of a bucket say of the file.
use Rattle.std.proofs.Common.{◌≡◌, ◌≢◌, ◌≤◌, ◌<◌, ◌+◌, ℕ, ℤ, pos, List, length, false, refl, arith, ◌∙◌, sym, ◌⊎◌, ⊎_elim}
use Rattle.std.specs.Prelude.{slice_range, slice_index}
use Rattle.std.specs.Ordering.{int_eq}
use Rattle.std.proofs.lemmas.Bool.Decides.{Decides-int_eq}
use Rattle.afl_base.specs.Fields.{i32_at, u16_at}
use Rattle.index_tree.specs.Buckets.{IsFilledBucket}
use Rattle.index_tree.specs.Pairs.{Pair}
use Rattle.index_tree.specs.TreeFile.{HoldsPairs, bucket_place, key_at, next_at, numbered_place, slot_at}
use Rattle.index_tree.specs.Buckets.{HasPair}
use Rattle.index_maxheap.specs.Verify.{IsTail}
use Rattle.index_tree.proofs.Frames.{part_same, u16_same}
use Rattle.index_maxheap.proofs.Walked.{filled_is, holds_part, key_part, last_part, slot_part}

pub eq_false : (x y : ℤ) → int_eq x y ≡ false → x ≢ y
eq_false x y e = λ s. grind (arith, Decides-int_eq)

pub next_part : (file part : List ℕ) (place : ℕ) → part ≡ slice_range file place (place + 195) → u16_at part 192 ≡ next_at file place
next_part file part place is = u16_same part file 192 (place + 192) (part_same file part place (place + 195) 192 2 is (omega arith))

module _ (file part : List ℕ) (number level : ℕ) (q : Pair) (is : part ≡ slice_range file (numbered_place number) (numbered_place number + 195)) where
  pub wrong_slot : u16_at part 4 ≢ q.slot + 1 → HasPair file number 0 q → ⊥
  wrong_slot wrong has = wrong (slot_part file part (numbered_place number) 0 is (omega arith) ∙ has.slot)

  pub wrong_key : i32_at part 0 ≢ q.key → HasPair file number 0 q → ⊥
  wrong_key wrong has = wrong (key_part file part (numbered_place number) 0 is (omega arith) ∙ has.key)

  pub wrong_blank : (rest : List Pair) (fill i : ℕ) → HoldsPairs file (numbered_place number) rest → IsFilledBucket part fill → fill ≤ i → i < 32 → (slot_at part 0 i ≢ 0) ⊎ (key_at part 0 i ≢ pos 0) → ⊥
  wrong_blank rest fill i holds filled up short wrong =
      let here = holds_part file part (numbered_place number) rest is holds in
      let many = filled_is part rest fill here filled in
      ⊎_elim
      (λ (s : slot_at part 0 i ≢ 0). s (here.empty i short (omega (arith, many, up, short))))
      (λ (k : key_at part 0 i ≢ pos 0). k (here.blank i short (omega (arith, many, up, short))))
      wrong

  pub wrong_next : u16_at part 192 ≢ 0 → level < 4 → (level < 4 → next_at file (numbered_place number) ≡ 0) → ⊥
  wrong_next wrong low upper = wrong (next_part file part (numbered_place number) is ∙ upper low)

  pub right_pair : number ≢ 0 → bucket_place number ≤ length file → u16_at part 4 ≡ q.slot + 1 → i32_at part 0 ≡ q.key → slice_index part 194 ≡ 1 → HasPair file number 0 q
  right_pair some within slot key last = record {
    some = some;
    within = within;
    slot = sym (slot_part file part (numbered_place number) 0 is (omega arith)) ∙ slot;
    key = sym (key_part file part (numbered_place number) 0 is (omega arith)) ∙ key;
    last = sym (last_part file part (numbered_place number) is) ∙ last;
  }

  pub right_tail : (fill next : ℕ) → IsFilledBucket part fill → ((i : ℕ) → fill ≤ i → i < 32 → (slot_at part 0 i ≡ 0) × (key_at part 0 i ≡ pos 0)) → next ≡ u16_at part 192 → (level < 4 → next ≡ 0) → IsTail file number (numbered_place number) next fill level
  right_tail fill next filled blank onward upper = record {
    at = refl;
    onward = onward ∙ next_part file part (numbered_place number) is;
    few = filled.most;
    some = λ i h. (let most = filled.most in λ z. filled.some i h (slot_part file part (numbered_place number) i is (omega (arith, most, h)) ∙ z));
    empty = λ i h k. sym (slot_part file part (numbered_place number) i is h) ∙ (blank i k h).0;
    blank = λ i h k. sym (key_part file part (numbered_place number) i is h) ∙ (blank i k h).1;
    upper = upper;
  }
