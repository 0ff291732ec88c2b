-- The next slot's pair is seen.
use Rattle.std.proofs.Common.{◌≡◌, ◌≢◌, ◌≤◌, ◌<◌, ◌+◌, ◌*◌, ◌/◌, ◌%◌, ℕ, ℤ, zero, suc, List, [], length, get_or, replicate, set, refl, arith, ap, ◌∙◌, sym, ⊎_elim, subst}
use Rattle.std.specs.Prelude.{None, slice_range}
use Rattle.std.proofs.lemmas.List.{length-set}
use Rattle.afl_base.specs.Fields.{i32_at, u16_at}
use Rattle.db_model.specs.HashTree.{buckets, node}
use Rattle.index_tree.specs.Ends.{IsPathEnd}
use Rattle.index_tree.specs.Loads.{CountsPairs, IsLevel, opened_bucket}
use Rattle.index_tree.specs.Pairs.{Pair, goes, pair_keys, pair_of, pairs_of, reaching}
use Rattle.index_tree.specs.TreeFile.{IsTree, number_of, numbered_place}
use Rattle.index_tree.specs.Buckets.{HasPair}
use Rattle.index_maxheap.specs.Verify.{AreHeads, IsTail, Opens, Verifies, hop_of}
use Rattle.index_tree.proofs.Added.{zero_or}
use Rattle.index_tree.proofs.Frames.{i32_same, part_same, u16_same}
use Rattle.index_tree.proofs.Loaded.{counts_more, counts_none, end_level, loaded, pairs_more, reach_none, zeros_few}
use Rattle.index_tree.proofs.PutBucket.{behind_chain}
use Rattle.index_tree.proofs.Shared.{order}
use Rattle.index_tree.proofs.Expected.{expected}
use Rattle.index_maxheap.proofs.Verified.{number_node, seen_more, tails_bucket, tails_pair}

module _ (bytes loads places nexts fills : List ℕ) (f : ℕ → ℤ) (slot level : ℕ) (v : Verifies bytes loads places nexts fills (pairs_of f slot)) (lev : IsLevel loads (f slot) level) where
  abbrev pub key : ℤ
  key = f slot

  abbrev pub n : ℕ
  n = node (f slot) level

  abbrev pub load : ℕ
  load = get_or loads (node (f slot) level) 0

  pub end_ : (hop : ℕ) × IsPathEnd (pairs_of f slot) (f slot) hop × (hop ≡ level + load / 32) × (length (reaching (goes (f slot)) hop (pairs_of f slot)) ≡ load % 32)
  end_ = end_level loads (pairs_of f slot) (f slot) level v.counts lev

  pub hop : ℕ
  hop = end_.0

  counts : (next : List Pair) → next ≡ pairs_of f (slot + 1) → CountsPairs (set loads n (load + 1)) next
  counts next is = rw (is, pairs_more f slot) (counts_more loads (pairs_of f slot) (pair_of f slot) level v.counts lev)

  pub buckets_one : (m : ℕ) → m ≡ opened_bucket (load % 32) → buckets (pair_keys (pairs_of f (slot + 1))) ≡ buckets (pair_keys (pairs_of f slot)) + m
  buckets_one m is = ap (λ (xs : List Pair). buckets (pair_keys xs)) (pairs_more f slot) ∙ (loaded loads (f slot) level lev).buckets (pairs_of f slot) slot v.counts ∙ ap (λ (k : ℕ). buckets (pair_keys (pairs_of f slot)) + k) (sym is)

  -- ---- a pair in a bucket that is open

  open_tail : load % 32 ≢ 0 → IsTail bytes (number_of bytes (f slot) hop) (get_or places n 0) (get_or nexts n 0) (get_or fills n 0) level
  unfolding hop end_
  open_tail partial =
      let some : 0 < load % 32 = positive (load % 32) partial in
      subst (λ (h : ℕ). IsTail bytes (number_of bytes (f slot) h) (get_or places n 0) (get_or nexts n 0) (get_or fills n 0) level) (quotient level load end_.0 some end_.2) (v.tails (f slot) level lev.low (omega (arith, some)))
    where
      positive : (m : ℕ) → m ≢ 0 → 0 < m
      positive zero s = absurd (s refl)
      positive (suc m) s = omega arith

      quotient : (l m h : ℕ) → 0 < m % 32 → h ≡ l + m / 32 → hop_of l m ≡ h
      quotient l m h s e = omega (arith, s, e)

  pub pair_seen : load % 32 ≢ 0 → i32_at bytes (get_or places n 0 + 6 * (load % 32)) ≡ f slot → u16_at bytes (get_or places n 0 + 6 * (load % 32) + 4) ≡ slot + 1 → Verifies bytes (set loads n (load + 1)) places nexts fills (pairs_of f (slot + 1))
  unfolding hop end_
  pair_seen partial key_is slot_is =
      let tail = open_tail partial in
      let len = end_.3 in
      let place = tail.at in
      let some : 0 < length (reaching (goes (f slot)) end_.0 (pairs_of f slot)) = positive (load % 32) (length (reaching (goes (f slot)) end_.0 (pairs_of f slot))) len partial in
      let has = v.seen (f slot) end_.0 some in
      let one : HasPair bytes (number_of bytes (f slot) end_.0) (length (reaching (goes (f slot)) end_.0 (pairs_of f slot))) (pair_of f slot) = record {
        some = has.some;
        within = has.within;
        slot = rw (len, sym place) slot_is;
        key = rw (len, sym place) key_is;
        last = has.last;
      } in
      record {
        counts = counts (pairs_of f (slot + 1)) refl;
        three = v.three;
        seen = rw (pairs_more f slot) (seen_more bytes (pairs_of f slot) (pair_of f slot) end_.0 v.seen end_.1 one);
        tails = tails_pair bytes loads places nexts fills (f slot) level lev.low v.counts.long v.tails partial;
      }
    where
      positive : (m l : ℕ) → l ≡ m → m ≢ 0 → 0 < l
      positive zero l e s = absurd (s refl)
      positive (suc m) l e s = omega (arith, e)

  pub pair_wrong : load % 32 ≢ 0 → (i32_at bytes (get_or places n 0 + 6 * (load % 32)) ≡ f slot → u16_at bytes (get_or places n 0 + 6 * (load % 32) + 4) ≢ slot + 1) → (slots : ℕ) → slot < slots → IsTree bytes (pairs_of f slots) → ⊥
  unfolding hop end_
  pair_wrong partial wrong slots small tree =
      let tail = open_tail partial in
      let len = end_.3 in
      let place = tail.at in
      let has = expected bytes f slots slot end_.0 tree small end_.1 in
      wrong (rw place (rw len at has.key)) (rw place (rw len at has.slot))

  -- ---- a pair that opens a bucket

  pub number_is : (heads : List ℕ) (number : ℕ) → AreHeads heads bytes → load % 32 ≡ 0 → n ≤ 340 → (load ≡ 0 → number ≡ u16_at heads (2 * n)) → (load ≢ 0 → number ≡ get_or nexts n 0) → number ≡ number_of bytes (f slot) hop
  unfolding hop end_
  number_is heads number are whole small first later = ⊎_elim
      (λ (z : load ≡ 0).
      let is = end_.2 in
      let e : end_.0 ≡ level = omega (arith, z, is) in
      first z ∙ are n small ∙ sym (number_node bytes (f slot) level lev.low) ∙ ap (number_of bytes (f slot)) (sym e))
      (λ (s : load ≢ 0).
      let low = lev.low in
      let deep : 4 ≤ level = ⊎_elim (λ (x : 4 ≤ level). x) (λ (x : level < 4). let room = lev.room x in absurd (s (omega (arith, room, whole)))) (order 4 level) in
      let is = end_.2 in
      let some : 0 < load = positive load s in
      let last : ℕ = hop_of level load in
      let e : end_.0 ≡ suc last = omega (arith, is, whole, some) in
      let before : 32 ≤ length (reaching (goes (f slot)) last (pairs_of f slot)) = end_.1.full last (omega (arith, e)) in
      let there = (v.seen (f slot) last (omega (arith, before))).some in
      later s ∙ (v.tails (f slot) level low some).onward ∙ sym (behind_chain bytes (f slot) last (number_of bytes (f slot) last) there (omega (arith, deep))) ∙ ap (number_of bytes (f slot)) (sym e))
      (zero_or load)
    where
      positive : (m : ℕ) → m ≢ 0 → 0 < m
      positive zero s = absurd (s refl)
      positive (suc m) s = omega arith

  pub bucket_seen : (number next fill place : ℕ) → load % 32 ≡ 0 → number ≡ number_of bytes (f slot) hop → place ≡ numbered_place number → HasPair bytes number 0 (pair_of f slot) → IsTail bytes number (numbered_place number) next fill level →
      Verifies bytes (set loads n (load + 1)) (set places n place) (set nexts n next) (set fills n fill) (pairs_of f (slot + 1))
  unfolding hop end_
  bucket_seen number next fill place whole is at one tail =
      let len : length (reaching (goes (f slot)) end_.0 (pairs_of f slot)) ≡ 0 = end_.3 ∙ whole in
      let here : HasPair bytes (number_of bytes (f slot) end_.0) (length (reaching (goes (f slot)) end_.0 (pairs_of f slot))) (pair_of f slot) = rw (sym is, len) one in
      record {
        counts = counts (pairs_of f (slot + 1)) refl;
        three = (length-set places n place ∙ v.three.0, length-set nexts n next ∙ v.three.1, length-set fills n fill ∙ v.three.2);
        seen = rw (pairs_more f slot) (seen_more bytes (pairs_of f slot) (pair_of f slot) end_.0 v.seen end_.1 here);
        tails = rw at (tails_bucket bytes loads places nexts fills (f slot) level end_.0 (numbered_place number) next fill lev v.counts.long v.three.0 v.three.1 v.three.2 v.tails end_.2 whole (subst (λ (m : ℕ). IsTail bytes m (numbered_place number) next fill level) is tail));
      }

  pub bucket_wrong : (number : ℕ) → load % 32 ≡ 0 → number ≡ number_of bytes (f slot) hop → Opens None bytes number level (pair_of f slot) → (slots : ℕ) → slot < slots → IsTree bytes (pairs_of f slots) → ⊥
  unfolding hop end_
  bucket_wrong number whole is wrong slots small tree =
      let len : length (reaching (goes (f slot)) end_.0 (pairs_of f slot)) ≡ 0 = end_.3 ∙ whole in
      let has = expected bytes f slots slot end_.0 tree small end_.1 in
      let here : HasPair bytes number 0 (pair_of f slot) = rw (sym is, len) at has in
      let bucket = tree.each (f slot) end_.0 in
      wrong (reaching (goes (f slot)) end_.0 (pairs_of f slots)) here (rw (sym is) at (bucket.holds (rw is at here.some)))
      (λ low.
      let room = lev.room low in
      let e : end_.0 ≡ level = let h = end_.2 in omega (arith, h, room) in
      rw is (tree.upper (f slot) end_.0 (omega (arith, e, low)) (rw is at here.some)))

pub six_slot : (file part : List ℕ) (at : ℕ) → part ≡ slice_range file at (at + 6) → u16_at part 4 ≡ u16_at file (at + 4)
six_slot file part at is = u16_same part file 4 (at + 4) (part_same file part at (at + 6) 4 2 is (omega arith))

pub six_key : (file part : List ℕ) (at : ℕ) → part ≡ slice_range file at (at + 6) → i32_at part 0 ≡ i32_at file at
six_key file part at is = let e : at + 0 ≡ at = omega arith in rw e at (i32_same part file 0 (at + 0) (part_same file part at (at + 6) 0 4 is (omega arith)))

-- no slot is seen yet
pub verifies_none : (bytes : List ℕ) → Verifies bytes (replicate 341 0) (replicate 341 0) (replicate 341 0) (replicate 341 0) []
verifies_none bytes = record {
  counts = counts_none;
  three = (refl, refl, refl);
  seen = λ key h some. let none = ap length (reach_none key h) in absurd (omega (arith, none, some));
  tails = λ key l low some. let few = zeros_few (node key l) 0 in absurd (omega (arith, few, some));
}
