-- What an insert makes.
use Rattle.std.proofs.lemmas.Grind.{common_steps}
use Rattle.std.proofs.Common.{◌≡◌, ◌≢◌, ◌≤◌, ◌<◌, ◌+◌, ◌*◌, ◌-◌, ◌/◌, ◌^◌, ℕ, ℤ, pos, zero, suc, List, [], ◌∷◌, ◌++◌, length, get_or, replicate, refl, arith, ap, ◌∙◌, sym, ◌⊎◌, inl, inr, ⊎_elim}
use Rattle.std.specs.Prelude.{FitsSigned, slice_set, IsTrue}
use Rattle.std.specs.Int.{w32}
use Rattle.std.specs.Prelude.{Result, Ok, Err, OnOk}
use Rattle.std.proofs.lemmas.List.{get_or-replicate, get_or-set_other, get_or-set_same, length-set}
use Rattle.afl_base.specs.Fields.{i32_at, i32_bytes, put_at, u16_at, u16_bytes}
use Rattle.afl_base.specs.Files.{Becomes, State, bytes_at, size_at}
use Rattle.afl_base.proofs.FieldLaws.{i32_at-put_at, length-put_at, u16_at-put_at}
use Rattle.db_model.specs.HashTree.{buckets}
use Rattle.index_tree.specs.Buckets.{IsFirstBucket, IsPairBytes}
use Rattle.index_tree.specs.Ends.{IsPathEnd, spot_of}
use Rattle.index_tree.specs.Pairs.{Pair, goes, pair_keys, reaching}
use Rattle.index_tree.specs.Places.{IsGrown, SlotsRise}
use Rattle.index_tree.specs.TreeFile.{IsTree, bucket_place, number_of, numbered_place}
use Rattle.index_tree.proofs.Counted.{length-keys}
use Rattle.index_tree.proofs.Frames.{SameBytes, i32_same, u16_same}
use Rattle.index_tree.proofs.PutBucket.{appends, bucket_put}
use Rattle.index_tree.proofs.PutPair.{pair_put}
use Rattle.index_tree.proofs.Shared.{order}
use Rattle.index_tree.proofs.Spots.{byte_stays, i32_stays, u16_stays}
use Rattle.db_model.proofs.Buckets.{buckets_bound}

-- a path has one end

pub one_end : (ps : List Pair) (key : ℤ) (h k : ℕ) → IsPathEnd ps key h → IsPathEnd ps key k → h ≡ k
one_end ps key h k a b = ⊎_elim
    (λ (up : h ≤ k). ⊎_elim (λ (down : k ≤ h). omega arith) (λ (less : h < k). let much = b.full h less in let few = a.room in absurd (omega (arith, much, few))) (order k h))
    (λ (less : k < h). let much = a.full k less in let few = b.room in absurd (omega (arith, much, few)))
    (order h k)

-- ---- what is inserted

pub grown_here : (old new w : List ℕ) (ps : List Pair) (q : Pair) (hop n pair : ℕ) → IsTree old ps → SlotsRise ps → length ps < 32768 → IsPathEnd ps q.key hop → number_of old q.key hop ≡ n → length (reaching (goes q.key) hop ps) ≡ pair → n ≢ 0 → IsPairBytes w q →
    new ≡ put_at old (bucket_place (n - 1) + 6 * pair) w → IsGrown old new ps (q ∷ [])
grown_here old new w ps q hop n pair tree rises few end is many some pair_is new_is =
    rw (new_is, sym is, sym many) (pair_put old w ps q hop tree rises few end (rw is some) pair_is)

pub grown_new : (old new w two_ : List ℕ) (ps : List Pair) (q : Pair) (hop at : ℕ) → IsTree old ps → SlotsRise ps → length ps < 32768 → IsPathEnd ps q.key hop → number_of old q.key hop ≡ 0 → at ≡ spot_of old q.key hop → at + 3 ≤ length old → IsFirstBucket w q →
    length two_ ≡ 2 → u16_at two_ 0 ≡ (length old - 683) / 195 + 1 → new ≡ put_at (old ++ w) at two_ → IsGrown old new ps (q ∷ [])
grown_new old new w two_ ps q hop at tree rises few end none spot fits first long number new_is =
    let size : length old ≡ bucket_place (buckets (pair_keys ps)) = tree.size in
    let n : ℕ = (length old - 683) / 195 + 1 in
    rw (new_is, spot) (bucket_put old (put_at (old ++ w) (spot_of old q.key hop) two_) ps q hop n
    (appends old w two_ ps q hop n tree rises end none first (rw (sym spot) fits) long number (λ z. omega arith) (place_is (length old) (buckets (pair_keys ps)) size)) few end)
  where
    place_is : (len b : ℕ) → len ≡ bucket_place b → numbered_place ((len - 683) / 195 + 1) ≡ len
    place_is len b e = omega arith

-- a tree is small
pub tree_small : (bytes : List ℕ) (ps : List Pair) → IsTree bytes ps → length bytes ≤ 268000
tree_small bytes ps tree =
    let size : length bytes ≡ bucket_place (buckets (pair_keys ps)) = tree.size in
    let many = buckets_bound (pair_keys ps) in
    let same = length-keys ps in
    let few = tree.few in
    omega (arith, size, many, same, few)

-- ---- bytes

pub long_i32 : (z : ℤ) → length (i32_bytes z) ≡ 4
unfolding i32_bytes
long_i32 z = refl

pub pair_is : (a b c : List ℕ) (key : ℤ) (n slot : ℕ) → length a ≡ 6 → b ≡ put_at a 0 (i32_bytes key) → c ≡ put_at b 4 (u16_bytes n) → length (i32_bytes key) ≡ 4 → length (u16_bytes n) ≡ 2 → FitsSigned w32 key → n ≡ slot + 1 → n < 2 ^ 16 → IsPairBytes c (record { key = key; slot = slot })
pair_is a b c key n slot long b_is c_is four two fits is small = grind (arith, common_steps, length-put_at, i32_stays, i32_at-put_at, u16_at-put_at)

set_same : (xs : List ℕ) (at v p n : ℕ) → (p + n ≤ at) ⊎ (at < p) → SameBytes (slice_set xs at v) xs p p n
set_same xs at v p n (inl before) = λ i h. get_or-set_other xs at (p + i) v 0 (λ z. omega arith)
set_same xs at v p n (inr after) = λ i h. get_or-set_other xs at (p + i) v 0 (λ z. omega arith)

zeros_two : u16_at (0 ∷ 0 ∷ []) 0 ≡ 0
unfolding u16_at
zeros_two = refl

zeros_four : i32_at (0 ∷ 0 ∷ 0 ∷ 0 ∷ []) 0 ≡ pos 0
unfolding i32_at
zeros_four = refl

zero_two : (i : ℕ) → i < 2 → ◌≡◌ {A = ℕ} (get_or (0 ∷ 0 ∷ []) (0 + i) 0) 0
zero_two zero h = refl
zero_two (suc zero) h = refl
zero_two (suc (suc i)) h = absurd (omega arith)

zero_four : (i : ℕ) → i < 4 → ◌≡◌ {A = ℕ} (get_or (0 ∷ 0 ∷ 0 ∷ 0 ∷ []) (0 + i) 0) 0
zero_four zero h = refl
zero_four (suc zero) h = refl
zero_four (suc (suc zero)) h = refl
zero_four (suc (suc (suc zero))) h = refl
zero_four (suc (suc (suc (suc i)))) h = absurd (omega arith)

pub zero_u16 : (n p : ℕ) → p + 2 ≤ n → u16_at (replicate n 0) p ≡ 0
zero_u16 n p fits = u16_same (replicate n 0) (0 ∷ 0 ∷ []) p 0 (λ i h. get_or-replicate n (p + i) 0 0 (omega arith) ∙ sym (zero_two i h)) ∙ zeros_two

pub zero_i32 : (n p : ℕ) → p + 4 ≤ n → i32_at (replicate n 0) p ≡ pos 0
zero_i32 n p fits = i32_same (replicate n 0) (0 ∷ 0 ∷ 0 ∷ 0 ∷ []) p 0 (λ i h. get_or-replicate n (p + i) 0 0 (omega arith) ∙ sym (zero_four i h)) ∙ zeros_four

-- a bucket of zeros, with one pair and its last byte
pub first_is : (b c : List ℕ) (key : ℤ) (n slot : ℕ) → b ≡ put_at (replicate 195 0) 0 (i32_bytes key) → c ≡ put_at b 4 (u16_bytes n) → length (i32_bytes key) ≡ 4 → length (u16_bytes n) ≡ 2 → FitsSigned w32 key → n ≡ slot + 1 → n < 2 ^ 16 →
    IsFirstBucket (slice_set c 194 1) (record { key = key; slot = slot })
first_is b c key n slot b_is c_is four two fits is small =
    let zeros : List ℕ = replicate 195 0 in
    let d : List ℕ = slice_set c 194 1 in
    let long_b : length b ≡ 195 = rw b_is (length-put_at zeros (i32_bytes key) 0 (omega arith)) in
    let long_c : length c ≡ 195 = rw c_is (length-put_at b (u16_bytes n) 4 (omega arith) ∙ long_b) in
    let slots : (p : ℕ) → 6 ≤ p → p + 2 ≤ 194 → u16_at d p ≡ 0 = λ p up down.
    let one : u16_at d p ≡ u16_at c p = u16_same d c p p (set_same c 194 1 p 2 (inl (omega arith))) in
    let two_ : u16_at c p ≡ u16_at b p = ap (λ (xs : List ℕ). u16_at xs p) c_is ∙ u16_stays b (u16_bytes n) 4 p (omega (arith, long_b, two)) (inr (omega (arith, two, up))) in
    let three : u16_at b p ≡ u16_at zeros p = ap (λ (xs : List ℕ). u16_at xs p) b_is ∙ u16_stays zeros (i32_bytes key) 0 p (omega (arith, four)) (inr (omega (arith, four, up))) in
    one ∙ two_ ∙ three ∙ zero_u16 195 p (omega arith) in
    let keys : (p : ℕ) → 6 ≤ p → p + 4 ≤ 194 → i32_at d p ≡ pos 0 = λ p up down.
    let one : i32_at d p ≡ i32_at c p = i32_same d c p p (set_same c 194 1 p 4 (inl (omega arith))) in
    let two_ : i32_at c p ≡ i32_at b p = ap (λ (xs : List ℕ). i32_at xs p) c_is ∙ i32_stays b (u16_bytes n) 4 p (omega (arith, long_b, two)) (inr (omega (arith, two, up))) in
    let three : i32_at b p ≡ i32_at zeros p = ap (λ (xs : List ℕ). i32_at xs p) b_is ∙ i32_stays zeros (i32_bytes key) 0 p (omega (arith, four)) (inr (omega (arith, four, up))) in
    one ∙ two_ ∙ three ∙ zero_i32 195 p (omega arith) in
    let slot_0 : u16_at d 4 ≡ slot + 1 =
    let one : u16_at d 4 ≡ u16_at c 4 = u16_same d c 4 4 (set_same c 194 1 4 2 (inl (omega arith))) in
    let two_ : u16_at c 4 ≡ n = ap (λ (xs : List ℕ). u16_at xs 4) c_is ∙ u16_at-put_at b 4 n (omega (arith, long_b)) small in
    one ∙ two_ ∙ is in
    let key_0 : i32_at d 0 ≡ key =
    let one : i32_at d 0 ≡ i32_at c 0 = i32_same d c 0 0 (set_same c 194 1 0 4 (inl (omega arith))) in
    let two_ : i32_at c 0 ≡ i32_at b 0 = ap (λ (xs : List ℕ). i32_at xs 0) c_is ∙ i32_stays b (u16_bytes n) 4 0 (omega (arith, long_b, two)) (inl (omega arith)) in
    let three : i32_at b 0 ≡ key = ap (λ (xs : List ℕ). i32_at xs 0) b_is ∙ i32_at-put_at zeros 0 key (omega arith) fits in
    one ∙ two_ ∙ three in
    record {
      long = length-set c 194 1 ∙ long_c;
      holds = record {
        slot = λ i h k. let z : i ≡ 0 = omega (arith, k) in rw z slot_0;
        key = λ i h k. let z : i ≡ 0 = omega (arith, k) in rw z key_0;
        empty = λ i h k. slots (0 + 6 * i + 4) (omega (arith, k)) (omega (arith, h));
        blank = λ i h k. keys (0 + 6 * i) (omega (arith, k)) (omega (arith, h));
        last = get_or-set_same c 194 1 0 (omega (arith, long_c));
      };
      next = slots (0 + 192) (omega arith) (omega arith);
      zeros = λ x up down.
          let e : x + 0 ≡ x = omega arith in
          let one : get_or d x 0 ≡ get_or c x 0 = rw e at (set_same c 194 1 x 1 (inl (omega (arith, down))) 0 (omega arith)) in
          let two_ : get_or c x 0 ≡ get_or b x 0 = ap (λ (xs : List ℕ). get_or xs x 0) c_is ∙ byte_stays b (u16_bytes n) 4 x (omega (arith, long_b, two)) (inr (omega (arith, two, up))) in
          let three : get_or b x 0 ≡ get_or zeros x 0 = ap (λ (xs : List ℕ). get_or xs x 0) b_is ∙ byte_stays zeros (i32_bytes key) 0 x (omega (arith, four)) (inr (omega (arith, four, up))) in
          one ∙ two_ ∙ three ∙ get_or-replicate 195 x 0 0 (omega (arith, down));
    }

-- ---- changes of the file

-- ---- answers

pub on_ok : {T E P Q : Type 0} (r : Result T E) → (P → Q) → OnOk r P → OnOk r Q
on_ok (Ok x) f p = f p
on_ok (Err e) f p = p

-- the file after a pair was put into a bucket
pub by_pair : (old new : State) (index : ℕ) (ps : List Pair) (q : Pair) (hop n pair : ℕ) → IsTrue old.tells → IsTree (bytes_at old.files index) ps → SlotsRise ps → length ps < 32768 → IsPathEnd ps q.key hop → number_of (bytes_at old.files index) q.key hop ≡ n →
    length (reaching (goes q.key) hop ps) ≡ pair → n ≢ 0 →
    ((w : List ℕ) × IsPairBytes w q × Becomes old new index (size_at old.files index) (put_at (bytes_at old.files index) (bucket_place (n - 1) + 6 * pair) w)) → IsGrown (bytes_at old.files index) (bytes_at new.files index) ps (q ∷ [])
by_pair old new index ps q hop n pair told tree rises few end is many some put =
    grown_here (bytes_at old.files index) (bytes_at new.files index) put.0 ps q hop n pair tree rises few end is many some put.1 (put.2.bytes told)

-- the file after a bucket was put at the end of a path
pub by_bucket : (old new : State) (index : ℕ) (ps : List Pair) (q : Pair) (hop at : ℕ) → IsTrue old.tells → IsTree (bytes_at old.files index) ps → SlotsRise ps → length ps < 32768 → IsPathEnd ps q.key hop → number_of (bytes_at old.files index) q.key hop ≡ 0 →
    at ≡ spot_of (bytes_at old.files index) q.key hop → at + 3 ≤ size_at old.files index →
    ((w two_ : List ℕ) × IsFirstBucket w q × (length two_ ≡ 2) × (u16_at two_ 0 ≡ (size_at old.files index - 683) / 195 + 1) × Becomes old new index (size_at old.files index + 195) (put_at (bytes_at old.files index ++ w) at two_)) →
    IsGrown (bytes_at old.files index) (bytes_at new.files index) ps (q ∷ [])
by_bucket old new index ps q hop at told tree rises few end none spot fits put =
    grown_new (bytes_at old.files index) (bytes_at new.files index) put.0 put.1 ps q hop at tree rises few end none spot fits put.2 put.3 put.4 (put.5.bytes told)
