-- A pair that is written behind those of a bucket.
use Rattle.std.proofs.lemmas.Grind.{common_steps}
use Rattle.std.proofs.Common.{◌≡◌, ◌≢◌, ◌≤◌, ◌<◌, ◌+◌, ◌*◌, ℕ, List, [], ◌∷◌, ◌++◌, length, arith, ap, ◌∙◌, sym, ◌⊎◌, inl, inr, ⊎_elim, subst, length-append}
use Rattle.std.proofs.lemmas.List.{get_or_append_left}
use Rattle.std.proofs.Math.Seq.{get_or-append_seam}
use Rattle.afl_base.specs.Fields.{i32_at, put_at, u16_at}
use Rattle.afl_base.proofs.FieldLaws.{length-put_at}
use Rattle.db_model.specs.HashTree.{buckets}
use Rattle.index_tree.specs.Buckets.{IsPairBytes}
use Rattle.index_tree.specs.Ends.{IsPathEnd}
use Rattle.index_tree.specs.Pairs.{Pair, goes, pair_keys, reaching}
use Rattle.index_tree.specs.Places.{IsGrown, SlotsRise}
use Rattle.index_tree.specs.TreeFile.{HoldsPairs, IsTree, bucket_place, key_at, next_at, number_of, numbered_place, slot_at}
use Rattle.index_tree.proofs.Added.{AddsPair, KeepsBucket, pair_added}
use Rattle.index_tree.proofs.Counted.{buckets_more, opened_some as opened_none}
use Rattle.index_tree.proofs.Frames.{i32_same, put_here, u16_same}
use Rattle.index_tree.proofs.Shared.{order}
use Rattle.index_tree.proofs.Spots.{apart_places, byte_stays, i32_stays, numbers_stay, u16_stays}

-- a pair lies in its bucket
before_or : (i pair place k : ℕ) → i ≢ pair → (place + 6 * i + 6 ≤ place + 6 * pair) ⊎ (place + 6 * pair + 6 ≤ place + 6 * i)
before_or i pair place k other = grind (arith, common_steps, order)

slot_other : (xs w : List ℕ) (place pair i : ℕ) → length w ≡ 6 → place + 6 * pair + 6 ≤ length xs → i ≢ pair → slot_at (put_at xs (place + 6 * pair) w) place i ≡ slot_at xs place i
slot_other xs w place pair i long fits other = grind (arith, common_steps, u16_stays, before_or)

key_other : (xs w : List ℕ) (place pair i : ℕ) → length w ≡ 6 → place + 6 * pair + 6 ≤ length xs → i ≢ pair → key_at (put_at xs (place + 6 * pair) w) place i ≡ key_at xs place i
key_other xs w place pair i long fits other = grind (arith, common_steps, i32_stays, before_or)

slot_here : (xs w : List ℕ) (at : ℕ) → length w ≡ 6 → at + 6 ≤ length xs → u16_at (put_at xs at w) (at + 4) ≡ u16_at w 4
slot_here xs w at long fits = u16_same (put_at xs at w) w (at + 4) 4 (put_here xs w at 4 2 (omega arith) (omega arith))

key_here : (xs w : List ℕ) (at : ℕ) → length w ≡ 6 → at + 6 ≤ length xs → i32_at (put_at xs at w) at ≡ i32_at w 0
key_here xs w at long fits = let e : at + 0 ≡ at = omega arith in subst (λ (p : ℕ). i32_at (put_at xs at w) p ≡ i32_at w 0) e (i32_same (put_at xs at w) w (at + 0) 0 (put_here xs w at 0 4 (omega arith) (omega arith)))

-- the bucket holds one pair more
pub holds_put : (old w : List ℕ) (place : ℕ) (rest : List Pair) (q : Pair) → HoldsPairs old place rest → length rest < 32 → IsPairBytes w q → place + 195 ≤ length old → HoldsPairs (put_at old (place + 6 * length rest) w) place (rest ++ q ∷ [])
holds_put old w place rest q holds room is fits = grind (arith, common_steps, get_or-append_seam, slot_here, slot_other, get_or_append_left, order, key_here, key_other, byte_stays)

-- another bucket keeps its pairs
bucket_apart : (old w : List ℕ) (n m pair : ℕ) → n ≢ 0 → m ≢ 0 → n ≢ m → length w ≡ 6 → pair < 32 → bucket_place m ≤ length old → KeepsBucket old (put_at old (numbered_place m + 6 * pair) w) (numbered_place n)
bucket_apart old w n m pair some more other long short fits = record {
  slot = λ i h. u16_stays old w (numbered_place m + 6 * pair) (numbered_place n + 6 * i + 4) (omega arith)
      (⊎_elim (λ (a : numbered_place n + (6 * i + 4) + 2 ≤ numbered_place m + 6 * pair). inl (omega arith)) (λ (b : numbered_place m + 6 * pair + 6 ≤ numbered_place n + (6 * i + 4)). inr (omega arith)) (apart_places n m (6 * i + 4) (6 * pair) 2 6 some more other (omega arith) (omega arith)));
  key = λ i h. i32_stays old w (numbered_place m + 6 * pair) (numbered_place n + 6 * i) (omega arith)
      (⊎_elim (λ (a : numbered_place n + 6 * i + 4 ≤ numbered_place m + 6 * pair). inl (omega arith)) (λ (b : numbered_place m + 6 * pair + 6 ≤ numbered_place n + 6 * i). inr (omega arith)) (apart_places n m (6 * i) (6 * pair) 4 6 some more other (omega arith) (omega arith)));
  last = byte_stays old w (numbered_place m + 6 * pair) (numbered_place n + 194) (omega arith)
      (⊎_elim (λ (a : numbered_place n + 194 + 1 ≤ numbered_place m + 6 * pair). inl (omega arith)) (λ (b : numbered_place m + 6 * pair + 6 ≤ numbered_place n + 194). inr (omega arith)) (apart_places n m 194 (6 * pair) 1 6 some more other (omega arith) (omega arith)));
  rest = λ x h. byte_stays old w (numbered_place m + 6 * pair) (numbered_place n + x) (omega arith)
      (⊎_elim (λ (a : numbered_place n + x + 1 ≤ numbered_place m + 6 * pair). inl (omega arith)) (λ (b : numbered_place m + 6 * pair + 6 ≤ numbered_place n + x). inr (omega arith)) (apart_places n m x (6 * pair) 1 6 some more other (omega arith) (omega arith)));
}

next_stays : (old w : List ℕ) (n m pair : ℕ) → n ≢ 0 → m ≢ 0 → length w ≡ 6 → pair < 32 → bucket_place m ≤ length old → next_at (put_at old (numbered_place m + 6 * pair) w) (numbered_place n) ≡ next_at old (numbered_place n)
next_stays old w n m pair some more long short fits = grind (arith, common_steps, u16_stays, order)

pub adds_pair : (old w : List ℕ) (ps : List Pair) (q : Pair) (hop : ℕ) → IsTree old ps → IsPathEnd ps q.key hop → number_of old q.key hop ≢ 0 → IsPairBytes w q →
    AddsPair old (put_at old (numbered_place (number_of old q.key hop) + 6 * length (reaching (goes q.key) hop ps)) w) ps q hop
adds_pair old w ps q hop tree end some is =
    let m : ℕ = number_of old q.key hop in
    let rest : List Pair = reaching (goes q.key) hop ps in
    let long : length w ≡ 6 = is.long in
    let short : length rest < 32 = end.room in
    let fits : bucket_place m ≤ length old = (tree.each q.key hop).within some in
    let at : ℕ = numbered_place m + 6 * length rest in
    let heads : (p : ℕ) → p + 2 ≤ 682 → u16_at (put_at old at w) p ≡ u16_at old p = λ p h. u16_stays old w at p (omega arith) (inl (omega arith)) in
    record {
      full = end.full;
      room = end.room;
      some = some;
      numbers = numbers_stay old (put_at old at w) heads (λ n k. next_stays old w n m (length rest) k some long short fits);
      size = length-put_at old w at (omega arith);
      others = λ n k other. bucket_apart old w n m (length rest) k some other long short fits;
      here = holds_put old w (numbered_place m) rest q ((tree.each q.key hop).holds some) short is (omega arith);
    }

pub pair_put : (old w : List ℕ) (ps : List Pair) (q : Pair) (hop : ℕ) → IsTree old ps → SlotsRise ps → length ps < 32768 → IsPathEnd ps q.key hop → number_of old q.key hop ≢ 0 → IsPairBytes w q →
    IsGrown old (put_at old (numbered_place (number_of old q.key hop) + 6 * length (reaching (goes q.key) hop ps)) w) ps (q ∷ [])
pair_put old w ps q hop tree rises few end some is =
    let m : ℕ = number_of old q.key hop in
    let rest : List Pair = reaching (goes q.key) hop ps in
    let at : ℕ = numbered_place m + 6 * length rest in
    let new : List ℕ = put_at old at w in
    let long : length w ≡ 6 = is.long in
    let short : length rest < 32 = end.room in
    let fits : bucket_place m ≤ length old = (tree.each q.key hop).within some in
    let adds = adds_pair old w ps q hop tree end some is in
    let sum : length (ps ++ q ∷ []) ≡ length ps + length (q ∷ []) = length-append ps (q ∷ []) in
    let count : buckets (pair_keys (ps ++ q ∷ [])) ≡ buckets (pair_keys ps) = buckets_more ps q hop end ∙ rw (opened_none (length rest) ((tree.each q.key hop).some some)) (omega arith) in
    record {
      tree = record {
        few = omega (arith, sum);
        size = adds.size ∙ tree.size ∙ ap bucket_place (sym count);
        mark = byte_stays old w at 682 (omega arith) (inl (omega arith)) ∙ tree.mark;
        each = pair_added old new ps q hop tree rises adds;
        upper = λ key h k z.
            let same = adds.numbers key h in
            rw same (next_stays old w (number_of old key h) m (length rest) (rw same at z) some long short fits ∙ tree.upper key h k (rw same at z));
      };
      keeps = λ key h k. adds.numbers key h;
    }
