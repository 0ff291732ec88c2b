-- What a look at a bucket finds, and how a walk goes on.
use Rattle.std.proofs.Common.{◌≡◌, ◌≢◌, ◌≤◌, ◌<◌, ◌+◌, ◌*◌, ◌-◌, ℕ, ℤ, zero, suc, List, length, get_or, refl, arith, ap, ◌∙◌, ⊎_elim}
use Rattle.std.specs.Prelude.{min, slice_range}
use Rattle.afl_base.specs.Fields.{u16_at}
use Rattle.index_tree.specs.Buckets.{IsFilledBucket}
use Rattle.index_tree.specs.Ends.{spot_behind, spot_of}
use Rattle.index_tree.specs.Pairs.{Pair, goes, reaching}
use Rattle.index_tree.specs.TreeFile.{HoldsPairs, IsBucket, next_number, key_at, last_at, number_of, numbered_place, slot_at}
use Rattle.index_tree.proofs.Frames.{SameBytes, i32_same, part_same, u16_same}
use Rattle.index_tree.proofs.Shared.{order}

-- ---- a bucket's bytes alone

part_at : (file part : List ℕ) (place p q n : ℕ) → part ≡ slice_range file place (place + 195) → q ≡ place + p → p + n ≤ 195 → SameBytes part file p q n
part_at file part place p q n is at fits = rw at (part_same file part place (place + 195) p n is (omega arith))

pub slot_part : (file part : List ℕ) (place pair : ℕ) → part ≡ slice_range file place (place + 195) → pair < 32 → slot_at part 0 pair ≡ slot_at file place pair
slot_part file part place pair is short = u16_same part file (0 + 6 * pair + 4) (place + 6 * pair + 4) (part_at file part place (0 + 6 * pair + 4) (place + 6 * pair + 4) 2 is (omega arith) (omega arith))

pub key_part : (file part : List ℕ) (place pair : ℕ) → part ≡ slice_range file place (place + 195) → pair < 32 → key_at part 0 pair ≡ key_at file place pair
key_part file part place pair is short = i32_same part file (0 + 6 * pair) (place + 6 * pair) (part_at file part place (0 + 6 * pair) (place + 6 * pair) 4 is (omega arith) (omega arith))

pub last_part : (file part : List ℕ) (place : ℕ) → part ≡ slice_range file place (place + 195) → last_at part 0 ≡ last_at file place
last_part file part place is = part_at file part place 194 (place + 194) 1 is (omega arith) (omega arith) 0 (omega arith) ∙ (let e : place + 194 + 0 ≡ place + 194 = omega arith in ap (λ (j : ℕ). get_or file j 0) e)

pub holds_part : (file part : List ℕ) (place : ℕ) (rest : List Pair) → part ≡ slice_range file place (place + 195) → HoldsPairs file place rest → HoldsPairs part 0 rest
holds_part file part place rest is holds = record {
  slot = λ i h k. slot_part file part place i is h ∙ holds.slot i h k;
  key = λ i h k. key_part file part place i is h ∙ holds.key i h k;
  empty = λ i h k. slot_part file part place i is h ∙ holds.empty i h k;
  blank = λ i h k. key_part file part place i is h ∙ holds.blank i h k;
  last = last_part file part place is ∙ holds.last;
}

pub filled_is : (bytes : List ℕ) (rest : List Pair) (n : ℕ) → HoldsPairs bytes 0 rest → IsFilledBucket bytes n → n ≡ min 32 (length rest)
filled_is bytes rest n holds is =
    let most = is.most in
    ⊎_elim
    (λ (up : n ≤ length rest). ⊎_elim
    (λ (all : 32 ≤ n). omega arith)
    (λ (short : n < 32). ⊎_elim
    (λ (down : length rest ≤ n). omega arith)
    (λ (more : n < length rest). let none = is.empty short in let some = holds.slot n short more in absurd (omega (arith, none, some)))
    (order (length rest) n))
    (order 32 n))
    (λ (past : length rest < n). absurd (is.some (length rest) past (holds.empty (length rest) (omega arith) (omega arith))))
    (order n (length rest))

-- a look finds how many pairs stand in a bucket
pub looked : (file part : List ℕ) (number n : ℕ) (rest : List Pair) → number ≢ 0 → part ≡ slice_range file (numbered_place number) (numbered_place number + 195) → IsBucket file number rest → IsFilledBucket part n → n ≡ min 32 (length rest)
looked file part number n rest some is bucket filled = filled_is part rest n (holds_part file part (numbered_place number) rest is (bucket.holds some)) filled

-- ---- the way on

behind_spot : (bytes : List ℕ) (key : ℤ) (hop n : ℕ) → n ≢ 0 → next_number bytes key hop n ≡ u16_at bytes (spot_behind key hop n)
behind_spot bytes key zero n some = refl
behind_spot bytes key (suc zero) n some = refl
behind_spot bytes key (suc (suc zero)) n some = refl
behind_spot bytes key (suc (suc (suc zero))) n some = refl
behind_spot bytes key (suc (suc (suc (suc hop)))) zero some = absurd (some refl)
behind_spot bytes key (suc (suc (suc (suc hop)))) (suc b) some = let e : suc b - 1 ≡ b = omega arith in rw e refl

pub number_spot : (bytes : List ℕ) (key : ℤ) (hop : ℕ) → number_of bytes key hop ≢ 0 → number_of bytes key (suc hop) ≡ u16_at bytes (spot_of bytes key (suc hop))
number_spot bytes key hop some = behind_spot bytes key hop (number_of bytes key hop) some

pub full_more : (key : ℤ) (ps : List Pair) (hop : ℕ) → ((i : ℕ) → i < hop → 32 ≤ length (reaching (goes key) i ps)) → 32 ≤ length (reaching (goes key) hop ps) → (i : ℕ) → i < hop + 1 → 32 ≤ length (reaching (goes key) i ps)
full_more key ps hop full now i h = ⊎_elim (λ (k : hop ≤ i). let e : i ≡ hop = omega arith in rw e now) (λ (k : i < hop). full i k) (order hop i)
