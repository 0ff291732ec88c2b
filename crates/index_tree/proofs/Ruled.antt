-- A file that meets the rules is the tree of its slots' pairs.
use Rattle.std.proofs.lemmas.Grind.{common_steps}
use Rattle.std.proofs.Common.{◌≡◌, ◌≢◌, ◌≤◌, ◌<◌, ◌+◌, ◌-◌, ℕ, ℤ, zero, suc, List, [], ◌∷◌, ◌++◌, length, drop, get_or, map, Bool, true, false, refl, arith, ap, ◌∙◌, sym, ◌⊎◌, inl, inr, ⊎_elim, subst, length-append}
use Rattle.std.specs.Prelude.{◌==◌, nat_eq, nat_le, min}
use Rattle.std.specs.List.{filter, range_with_len}
use Rattle.std.proofs.lemmas.Bool.Decides.{nat_tests}
use Rattle.std.proofs.lemmas.List.{get_or_append_left}
use Rattle.std.proofs.lemmas.List.FromFn.{get_or-map-range_with_len, length-map-range_with_len}
use Rattle.db_model.specs.HashTree.{node}
use Rattle.index_tree.specs.Pairs.{Pair, goes, no_pair, pair_of, pairs_of, reaching, sifted}
use Rattle.index_tree.specs.Places.{SlotsRise}
use Rattle.index_tree.specs.Rules.{MeetsRules, bucket_count, slot_on}
use Rattle.index_tree.specs.TreeFile.{HoldsPairs, IsBucket, number_of, numbered_place, slot_at}
use Rattle.index_tree.proofs.Added.{number_same, zero_or}
use Rattle.index_tree.proofs.Filters.{In, Parts, drop_first, filter_commutes, filter_in, in_filter, in_pairs, in_some, pairs_in, rises_map, rises_same, some_in, split_parts}
use Rattle.index_tree.proofs.Shared.{Same, goes_self, order, rises_filter, same_way}
use Rattle.index_tree.proofs.Spots.{chain_same, digit_same, node_same}

-- ---- pairs that go a way

rises_sifted : (test : ℕ → Pair → Bool) (hop : ℕ) (ps : List Pair) → SlotsRise ps → SlotsRise (sifted test hop ps)
rises_sifted test zero ps h = h
rises_sifted test (suc hop) ps h = rises_filter (test hop) (sifted test hop ps) (rises_sifted test hop ps h)

sifted_goes : (test : ℕ → Pair → Bool) (hop : ℕ) (ps : List Pair) (p : Pair) → In p (sifted test hop ps) → (In p ps) × ((i : ℕ) → i < hop → test i p ≡ true)
sifted_goes test zero ps p i = (i, λ j k. absurd (omega arith))
sifted_goes test (suc hop) ps p i =
    let both = filter_in (test hop) p (sifted test hop ps) i in
    let deep = sifted_goes test hop ps p both.1 in
    (deep.0, λ j k. ⊎_elim (λ (here : hop ≤ j). let e : j ≡ hop = omega arith in rw e both.0) (λ (less : j < hop). deep.1 j less) (order hop j))

goes_sifted : (test : ℕ → Pair → Bool) (hop : ℕ) (ps : List Pair) (p : Pair) → In p ps → ((i : ℕ) → i < hop → test i p ≡ true) → In p (sifted test hop ps)
goes_sifted test zero ps p i goes_ = i
goes_sifted test (suc hop) ps p i goes_ = in_filter (test hop) p (sifted test hop ps) (goes_sifted test hop ps p i (λ j k. goes_ j (omega arith))) (goes_ hop (omega arith))

-- the same node is the same way
node_ways : (a b : ℤ) (hop : ℕ) → node a (min hop 4) ≡ node b (min hop 4) → (i : ℕ) → i < hop → Same a b i
node_ways a b hop e i h = grind (arith, common_steps, chain_same, digit_same, node_same, order)

-- ---- how many pairs of a bucket are filled

record Front (f : ℕ → ℕ) (m : ℕ) : Type 0 where
  most : m ≤ 32
  some : (i : ℕ) → i < m → f i ≢ 0
  none : (i : ℕ) → m ≤ i → i < 32 → f i ≡ 0

up_from : (f : ℕ → ℕ) (m d : ℕ) → ((i : ℕ) → i + 1 < 32 → f i ≡ 0 → f (i + 1) ≡ 0) → f m ≡ 0 → m + d < 32 → f (m + d) ≡ 0
up_from f m zero front z h = let e : m + 0 ≡ m = omega arith in rw e z
up_from f m (suc d) front z h = let e : m + suc d ≡ m + d + 1 = omega arith in rw e (front (m + d) (omega arith) (up_from f m d front z (omega arith)))

front_to : (f : ℕ → ℕ) (n : ℕ) → n ≤ 32 → ((i : ℕ) → i + 1 < 32 → f i ≡ 0 → f (i + 1) ≡ 0) → ((i : ℕ) → i < n → f i ≢ 0) ⊎ ((m : ℕ) × Front f m)
front_to f zero h front = inl (λ i k. absurd (omega arith))
front_to f (suc n) h front = ⊎_elim
    (λ (all : (i : ℕ) → i < n → f i ≢ 0). ⊎_elim
    (λ (z : f n ≡ 0). inr (n, record { most = omega arith; some = all; none = λ i a b. let e : i ≡ n + (i - n) = omega arith in subst (λ (j : ℕ). f j ≡ 0) (sym e) (up_from f n (i - n) front z (omega arith)) }))
    (λ (s : f n ≢ 0). inl (λ i k. ⊎_elim (λ (here : n ≤ i). let e : i ≡ n = omega arith in rw e s) (λ (less : i < n). all i less) (order n i)))
    (zero_or (f n)))
    (λ (found : (m : ℕ) × Front f m). inr found)
    (front_to f n (omega arith) front)

front_of : (f : ℕ → ℕ) → ((i : ℕ) → i + 1 < 32 → f i ≡ 0 → f (i + 1) ≡ 0) → (m : ℕ) × Front f m
front_of f front = ⊎_elim (λ (all : (i : ℕ) → i < 32 → f i ≢ 0). (32, record { most = omega arith; some = all; none = λ i a b. absurd (omega arith) })) (λ (found : (m : ℕ) × Front f m). found) (front_to f 32 (omega arith) front)

-- ---- the tests on hops

at_hop : (ℕ → ℕ) → ℕ → Pair → Bool
at_hop hop h p = hop p.slot == h

from_hop : (ℕ → ℕ) → ℕ → Pair → Bool
from_hop hop h p = nat_le h (hop p.slot)

hop_parts : (hop : ℕ → ℕ) (h : ℕ) (p : Pair) → Parts (from_hop hop h) (at_hop hop h) (from_hop hop (suc h)) p
unfolding at_hop from_hop
hop_parts hop h p = ⊎_elim
    (λ (low : h ≤ hop p.slot). ⊎_elim
    (λ (here : hop p.slot ≤ h). let e : hop p.slot ≡ h = omega arith in inl (yes_le h (hop p.slot) low, yes_eq (hop p.slot) h e, no_le (suc h) (hop p.slot) (omega arith)))
    (λ (deep : h < hop p.slot). inr (inl (yes_le h (hop p.slot) low, no_eq (hop p.slot) h (λ e. omega arith), yes_le (suc h) (hop p.slot) (omega arith))))
    (order (hop p.slot) h))
    (λ (up : hop p.slot < h). inr (inr (no_le h (hop p.slot) up, no_eq (hop p.slot) h (λ e. omega arith), no_le (suc h) (hop p.slot) (omega arith))))
    (order h (hop p.slot))
  where
    yes_le : (m n : ℕ) → m ≤ n → nat_le m n ≡ true
    yes_le m n h = grind (arith, nat_tests)

    no_le : (m n : ℕ) → n < m → nat_le m n ≡ false
    no_le m n h = grind (arith, nat_tests)

    yes_eq : (m n : ℕ) → m ≡ n → nat_eq m n ≡ true
    yes_eq m n h = grind (arith, nat_tests)

    no_eq : (m n : ℕ) → m ≢ n → nat_eq m n ≡ false
    no_eq m n h = grind (arith, nat_tests)

is_at : (hop : ℕ → ℕ) (h : ℕ) (p : Pair) → at_hop hop h p ≡ true → hop p.slot ≡ h
unfolding at_hop
is_at hop h p t = eq_of (hop p.slot) h t
  where
    eq_of : (m n : ℕ) → nat_eq m n ≡ true → m ≡ n
    eq_of m n t = grind arith

at_is : (hop : ℕ → ℕ) (h : ℕ) (p : Pair) → hop p.slot ≡ h → at_hop hop h p ≡ true
unfolding at_hop
at_is hop h p e = eq_to (hop p.slot) h e
  where
    eq_to : (m n : ℕ) → m ≡ n → nat_eq m n ≡ true
    eq_to m n h = grind (arith, nat_tests)

is_from : (hop : ℕ → ℕ) (h : ℕ) (p : Pair) → from_hop hop h p ≡ true → h ≤ hop p.slot
unfolding from_hop
is_from hop h p t = le_of h (hop p.slot) t
  where
    le_of : (m n : ℕ) → nat_le m n ≡ true → m ≤ n
    le_of m n t = grind (arith, nat_tests)

from_zero : (hop : ℕ → ℕ) (ps : List Pair) → filter (from_hop hop 0) ps ≡ ps
unfolding from_hop
from_zero hop [] = refl
from_zero hop (p ∷ ps) = rw (zero_le (hop p.slot)) (ap (λ (zs : List Pair). p ∷ zs) (from_zero hop ps))
  where
    zero_le : (n : ℕ) → nat_le 0 n ≡ true
    zero_le n = grind (arith, nat_tests)

-- ---- a file that meets the rules

module _ (bytes : List ℕ) (key : ℕ → ℤ) (slots : ℕ) (r : MeetsRules bytes key slots) where
  abbrev pub ps : List Pair
  ps = pairs_of key slots

  -- a path has the buckets before each of its buckets, and they are full
  lower : (k : ℤ) (h m : ℕ) → h ≤ m → number_of bytes k m ≢ 0 → number_of bytes k h ≢ 0
  lower k h zero up some = let e : h ≡ 0 = omega arith in rw e some
  lower k h (suc m) up some = ⊎_elim
      (λ (here : suc m ≤ h). let e : h ≡ suc m = omega arith in rw e some)
      (λ (less : h < suc m). lower k h m (omega arith) (r.full k m some).0)
      (order (suc m) h)

  full_before : (k : ℤ) (h m : ℕ) → h < m → number_of bytes k m ≢ 0 → slot_on bytes k h 31 ≢ 0
  full_before k h m less some = (r.full k h (lower k (suc h) m (omega arith) some)).1

  -- the bucket of a number
  below : (k : ℤ) (h : ℕ) → number_of bytes k h ≢ 0 → number_of bytes k h - 1 < bucket_count bytes
  below k h some = let n = r.named k h in omega arith

  in_ps : (p : Pair) → In p ps → (p.slot < slots) × (p ≡ pair_of key p.slot)
  in_ps p i =
      let found = in_pairs (pair_of key) p 0 slots i in
      let e : p.slot ≡ found.0 = ap (λ (q : Pair). q.slot) found.3 in
      let small : found.0 < 0 + slots = found.2 in
      (omega arith, found.3 ∙ ap (pair_of key) (sym e))

  ps_in : (s : ℕ) → s < slots → In (pair_of key s) ps
  ps_in s h = pairs_in (pair_of key) 0 slots s (omega arith) (omega arith)

  rises_ps : SlotsRise ps
  rises_ps = rises_map (pair_of key) 0 slots (λ i j a b c. b)

  -- the pairs that go the way of a key to a hop
  S : ℤ → ℕ → List Pair
  S k h = sifted (goes k) h ps

  way : (k : ℤ) (h : ℕ) (p : Pair) → In p (S k h) → (i : ℕ) → i < h → Same k p.key i
  unfolding S
  way k h p i = λ j l. same_way k p.key j p ((sifted_goes (goes k) h ps p i).1 j l) (goes_self p.key j p refl)

  in_S : (k : ℤ) (h : ℕ) (p : Pair) → In p (S k h) → In p ps
  unfolding S
  in_S k h p i = (sifted_goes (goes k) h ps p i).0

  S_in : (k : ℤ) (h : ℕ) (p : Pair) → In p ps → ((i : ℕ) → i < h → Same k p.key i) → In p (S k h)
  unfolding S
  S_in k h p i way_ = goes_sifted (goes k) h ps p i (λ j l. way_ j l p ∙ goes_self p.key j p refl)

  key_is : (p : Pair) → In p ps → p.key ≡ key p.slot
  key_is p i = ap (λ (q : Pair). q.key) (in_ps p i).1

  -- the pair of a slot that goes the way, at its own hop
  slot_there : (k : ℤ) (h : ℕ) (p : Pair) → In p (S k h) → r.hop p.slot ≡ h → (number_of bytes k h ≢ 0) × (slot_on bytes k h (r.pair p.slot) ≡ p.slot + 1)
  slot_there k h p i e =
      let small = (in_ps p (in_S k h p i)).0 in
      let is_key = key_is p (in_S k h p i) in
      let same : number_of bytes k h ≡ number_of bytes (key p.slot) (r.hop p.slot) = number_same bytes k p.key h (way k h p i) ∙ ap (λ (z : ℤ). number_of bytes z h) is_key ∙ ap (number_of bytes (key p.slot)) (sym e) in
      (rw same (r.there p.slot small), ap (λ (n : ℕ). slot_at bytes (numbered_place n) (r.pair p.slot)) same ∙ r.slot p.slot small)

  -- the slot that stands in a pair of a bucket of a path
  its_slot : (k : ℤ) (h i : ℕ) → number_of bytes k h ≢ 0 → i < 32 → slot_on bytes k h i ≢ 0 →
      (slot_on bytes k h i - 1 < slots) × (r.hop (slot_on bytes k h i - 1) ≡ h) × (r.pair (slot_on bytes k h i - 1) ≡ i) × ((j : ℕ) → j < h → Same k (key (slot_on bytes k h i - 1)) j) × (number_of bytes (key (slot_on bytes k h i - 1)) (r.hop (slot_on bytes k h i - 1)) ≡ number_of bytes k h)
  its_slot k h i some short filled =
      let s : ℕ = slot_on bytes k h i - 1 in
      let most : slot_on bytes k h i ≤ slots = r.known (number_of bytes k h - 1) i (below k h some) short in
      let small : s < slots = omega arith in
      let there = r.there s small in
      let back : s + 1 ≡ slot_on bytes k h i = omega arith in
      let one = r.only (number_of bytes k h - 1) (number_of bytes (key s) (r.hop s) - 1) i (r.pair s) (below k h some) (below (key s) (r.hop s) there) short (r.short s small) filled (sym (r.slot s small ∙ back)) in
      let e : number_of bytes k h - 1 ≡ number_of bytes (key s) (r.hop s) - 1 = one.0 in
      let same : number_of bytes k h ≡ number_of bytes (key s) (r.hop s) = omega (arith, e, some, there) in
      let once = r.once k (key s) h (r.hop s) some same in
      (small, sym once.0, sym one.1, node_ways k (key s) h once.1, sym same)

  -- ---- the pairs of one bucket

  A : ℕ → Pair → Bool
  A h = at_hop r.hop h

  D : ℕ → Pair → Bool
  D h = from_hop r.hop h

  entry : ℤ → ℕ → ℕ → Pair
  entry k h i = pair_of key (slot_on bytes k h i - 1)

  held : ℤ → ℕ → ℕ → List Pair
  held k h m = map (entry k h) (range_with_len 0 m)

  filled : (k : ℤ) (h : ℕ) → number_of bytes k h ≢ 0 → (m : ℕ) × Front (slot_on bytes k h) m
  filled k h some = front_of (slot_on bytes k h) (λ i a z. r.front (number_of bytes k h - 1) i (below k h some) a z)

  held_is : (k : ℤ) (h m : ℕ) → number_of bytes k h ≢ 0 → Front (slot_on bytes k h) m → filter (A h) (S k h) ≡ held k h m
  unfolding A S held entry
  held_is k h m some front =
      rises_same (filter (A h) (S k h)) (held k h m)
      (rises_filter (A h) (S k h) (rises_sifted (goes k) h ps rises_ps))
      (rises_map (entry k h) 0 m (λ i j a b c.
      let most = front.most in
      let x : slot_on bytes k h i ≢ 0 = front.some i (omega arith) in
      let y : slot_on bytes k h j ≢ 0 = front.some j (omega arith) in
      let up : slot_on bytes k h i < slot_on bytes k h j = r.rise k h h i j (inr (refl, b)) (omega arith) (omega arith) some x y in
      less_by_one (slot_on bytes k h i) (slot_on bytes k h j) x up))
      (λ p i.
      let both = filter_in (A h) p (S k h) i in
      let at : r.hop p.slot ≡ h = is_at r.hop h p both.0 in
      let small = (in_ps p (in_S k h p both.1)).0 in
      let there = slot_there k h p both.1 at in
      let n : ℕ = r.pair p.slot in
      let short : n < 32 = r.short p.slot small in
      let is : slot_on bytes k h n ≡ p.slot + 1 = there.1 in
      let inside : n < m = ⊎_elim (λ (out : m ≤ n). absurd (plus_one p.slot (sym is ∙ front.none n out short))) (λ (in_ : n < m). in_) (order m n) in
      let e : slot_on bytes k h n - 1 ≡ p.slot = omega (arith, is) in
      let same : entry k h n ≡ p = ap (pair_of key) e ∙ sym (in_ps p (in_S k h p both.1)).1 in
      subst (λ (q : Pair). In q (held k h m)) same (pairs_in (entry k h) 0 m n (omega arith) (omega arith)))
      (λ p i.
      let found = in_pairs (entry k h) p 0 m i in
      let n : ℕ = found.0 in
      let inside : n < 0 + m = found.2 in
      let most = front.most in
      let its = its_slot k h n some (omega arith) (front.some n (omega arith)) in
      subst (λ (q : Pair). In q (filter (A h) (S k h))) (sym found.3)
      (in_filter (A h) (entry k h n) (S k h) (S_in k h (entry k h n) (ps_in (slot_on bytes k h n - 1) its.0) its.3) (at_is r.hop h (entry k h n) its.1)))
    where
      less_by_one : (a b : ℕ) → a ≢ 0 → a < b → a - 1 < b - 1
      less_by_one a b s h = omega arith

      plus_one : (a : ℕ) → a + 1 ≡ 0 → ⊥
      plus_one a e = omega arith

  -- the pairs at a hop come before those behind it
  ordered : (k : ℤ) (h : ℕ) (p q : Pair) → In p (S k h) → In q (S k h) → A h p ≡ true → D (suc h) q ≡ true → p.slot < q.slot
  unfolding A D
  ordered k h p q i j a d =
      let at : r.hop p.slot ≡ h = is_at r.hop h p a in
      let deep : suc h ≤ r.hop q.slot = is_from r.hop (suc h) q d in
      let small = (in_ps q (in_S k h q j)).0 in
      let small_p = (in_ps p (in_S k h p i)).0 in
      let one = slot_there k h p i at in
      let its_key : q.key ≡ key q.slot = key_is q (in_S k h q j) in
      let same : number_of bytes k h ≡ number_of bytes (key q.slot) h = number_same bytes k q.key h (way k h q j) ∙ ap (λ (z : ℤ). number_of bytes z h) its_key in
      let first : slot_on bytes (key q.slot) h (r.pair p.slot) ≡ p.slot + 1 = ap (λ (n : ℕ). slot_at bytes (numbered_place n) (r.pair p.slot)) (sym same) ∙ one.1 in
      let second : slot_on bytes (key q.slot) (r.hop q.slot) (r.pair q.slot) ≡ q.slot + 1 = r.slot q.slot small in
      let up = r.rise (key q.slot) h (r.hop q.slot) (r.pair p.slot) (r.pair q.slot) (inl deep) (r.short p.slot small_p) (r.short q.slot small) (r.there q.slot small) (λ z. omega (arith, z, first)) (λ z. omega (arith, z, second)) in
      omega (arith, up, first, second)

  -- where a pair lies deeper, the bucket is full
  deeper_full : (k : ℤ) (h : ℕ) (q : Pair) → In q (S k h) → D (suc h) q ≡ true → (number_of bytes k h ≢ 0) × (slot_on bytes k h 31 ≢ 0)
  unfolding D
  deeper_full k h q j d =
      let deep : suc h ≤ r.hop q.slot = is_from r.hop (suc h) q d in
      let small = (in_ps q (in_S k h q j)).0 in
      let its_key : q.key ≡ key q.slot = key_is q (in_S k h q j) in
      let same : number_of bytes k h ≡ number_of bytes (key q.slot) h = number_same bytes k q.key h (way k h q j) ∙ ap (λ (z : ℤ). number_of bytes z h) its_key in (
        rw same (lower (key q.slot) h (r.hop q.slot) (omega arith) (r.there q.slot small)),
        rw same (full_before (key q.slot) h (r.hop q.slot) (omega arith) (r.there q.slot small)),
      )

  parts : (k : ℤ) (h : ℕ) → filter (D h) (S k h) ≡ filter (A h) (S k h) ++ filter (D (suc h)) (S k h)
  unfolding A D S
  parts k h = split_parts (D h) (A h) (D (suc h)) (S k h) (rises_sifted (goes k) h ps rises_ps) (hop_parts r.hop h) (ordered k h)

  -- the pairs at a hop fill the bucket, where there are deeper ones
  at_full : (k : ℤ) (h : ℕ) → 0 < length (filter (D (suc h)) (S k h)) → length (filter (A h) (S k h)) ≡ 32
  unfolding A D held
  at_full k h some =
      let q = some_in (filter (D (suc h)) (S k h)) some in
      let both = filter_in (D (suc h)) q.0 (S k h) q.1 in
      let full = deeper_full k h q.0 both.1 both.0 in
      let front = filled k h full.0 in
      let most = front.1.most in
      let all : front.0 ≡ 32 = ⊎_elim (λ (x : front.0 ≤ 31). absurd (full.1 (front.1.none 31 x (omega arith)))) (λ (x : 31 < front.0). omega arith) (order front.0 31) in
      ap length (held_is k h front.0 full.0 front.1) ∙ length-map-range_with_len (entry k h) 0 front.0 ∙ all

  at_few : (k : ℤ) (h : ℕ) → length (filter (A h) (S k h)) ≤ 32
  unfolding A held
  at_few k h = ⊎_elim
      (λ (none : length (filter (A h) (S k h)) ≤ 0). omega arith)
      (λ (some : 0 < length (filter (A h) (S k h))).
      let p = some_in (filter (A h) (S k h)) some in
      let both = filter_in (A h) p.0 (S k h) p.1 in
      let there = slot_there k h p.0 both.1 (is_at r.hop h p.0 both.0) in
      let front = filled k h there.0 in
      let most = front.1.most in
      let len : length (filter (A h) (S k h)) ≡ front.0 = ap length (held_is k h front.0 there.0 front.1) ∙ length-map-range_with_len (entry k h) 0 front.0 in
      omega (arith, len, most))
      (order (length (filter (A h) (S k h))) 0)

  -- what reaches a bucket are the pairs of this way that lie there or deeper
  reached : (k : ℤ) (h : ℕ) → reaching (goes k) h ps ≡ filter (D h) (S k h)
  unfolding A D S
  reached k zero = sym (from_zero r.hop ps)
  reached k (suc h) =
      ap (λ (zs : List Pair). filter (goes k h) (drop 32 zs)) (reached k h ∙ parts k h)
      ∙ ap (filter (goes k h)) (drop_first (filter (A h) (S k h)) (filter (D (suc h)) (S k h)) (at_few k h) (at_full k h))
      ∙ filter_commutes (goes k h) (D (suc h)) (S k h)

  -- ---- each bucket

  holds : (k : ℤ) (h : ℕ) → number_of bytes k h ≢ 0 → HoldsPairs bytes (numbered_place (number_of bytes k h)) (reaching (goes k) h ps)
  unfolding held entry
  holds k h some =
      let front = filled k h some in
      let m : ℕ = front.0 in
      let b : ℕ = number_of bytes k h - 1 in
      let most : m ≤ 32 = front.1.most in
      let deep : List Pair = filter (D (suc h)) (S k h) in
      let is : reaching (goes k) h ps ≡ held k h m ++ deep = reached k h ∙ parts k h ∙ ap (λ (zs : List Pair). zs ++ deep) (held_is k h m some front.1) in
      let long : length (held k h m) ≡ m = length-map-range_with_len (entry k h) 0 m in
      let sum : length (held k h m ++ deep) ≡ length (held k h m) + length deep = length-append (held k h m) deep in
      let total : length (reaching (goes k) h ps) ≡ m + length deep = ap length is ∙ omega (arith, sum, long) in
      let inside : (i : ℕ) → i < 32 → i < length (reaching (goes k) h ps) → i < m = λ i a c. ⊎_elim
      (λ (out : m ≤ i).
      let more : 0 < length deep = omega (arith, total, c, out) in
      let full : m ≡ 32 = sym long ∙ ap length (sym (held_is k h m some front.1)) ∙ at_full k h more in
      absurd (omega (arith, full, out, a)))
      (λ (in_ : i < m). in_) (order m i) in
      let there : (i : ℕ) → i < m → get_or (reaching (goes k) h ps) i no_pair ≡ entry k h i = λ i a.
      ap (λ (zs : List Pair). get_or zs i no_pair) is ∙ get_or_append_left (held k h m) deep no_pair i (omega (arith, long, a)) ∙ get_or-map-range_with_len (entry k h) 0 m i i no_pair a (omega arith) in
      record {
        slot = λ i a c.
            let s : slot_on bytes k h i ≢ 0 = front.1.some i (inside i a c) in
            rw (there i (inside i a c)) (one_less (slot_on bytes k h i) s);
        key = λ i a c.
            let s : slot_on bytes k h i ≢ 0 = front.1.some i (inside i a c) in
            let its = its_slot k h i some a s in
            let at_key = r.its_key (slot_on bytes k h i - 1) its.0 in
            rw (there i (inside i a c)) (rw (its.4, its.2) at at_key);
        empty = λ i a c. front.1.none i (omega (arith, total, c)) a;
        blank = λ i a c. r.blank b i (below k h some) a (front.1.none i (omega (arith, total, c)) a);
        last = r.last b (below k h some);
      }
    where
      one_less : (n : ℕ) → n ≢ 0 → n ≡ n - 1 + 1
      one_less n s = omega arith

  pub each : (k : ℤ) (h : ℕ) → IsBucket bytes (number_of bytes k h) (reaching (goes k) h ps)
  unfolding D A
  each k h = record {
    none = λ z. empty_of (reaching (goes k) h ps) (λ some.
        let p = some_in (filter (D h) (S k h)) (subst (λ (zs : List Pair). 0 < length zs) (reached k h) some) in
        let both = filter_in (D h) p.0 (S k h) p.1 in
        let small = (in_ps p.0 (in_S k h p.0 both.1)).0 in
        let at : h ≤ r.hop p.0.slot = is_from r.hop h p.0 both.0 in
        let its_key : p.0.key ≡ key p.0.slot = key_is p.0 (in_S k h p.0 both.1) in
        let same : number_of bytes k h ≡ number_of bytes (key p.0.slot) h = number_same bytes k p.0.key h (way k h p.0 both.1) ∙ ap (λ (x : ℤ). number_of bytes x h) its_key in
        lower (key p.0.slot) h (r.hop p.0.slot) at (r.there p.0.slot small) (sym same ∙ z));
    some = λ some.
        let b : ℕ = number_of bytes k h - 1 in
        let front = filled k h some in
        let s : slot_on bytes k h 0 ≢ 0 = r.some b (below k h some) in
        let its = its_slot k h 0 some (omega arith) s in
        let in_here : In (entry_ k h) (filter (A h) (S k h)) = in_filter (A h) (entry_ k h) (S k h) (S_in k h (entry_ k h) (ps_in (slot_on bytes k h 0 - 1) its.0) its.3) (at_is r.hop h (entry_ k h) its.1) in
        let sum : length (filter (A h) (S k h) ++ filter (D (suc h)) (S k h)) ≡ length (filter (A h) (S k h)) + length (filter (D (suc h)) (S k h)) = length-append (filter (A h) (S k h)) (filter (D (suc h)) (S k h)) in
        let many : 0 < length (filter (A h) (S k h)) = in_some (entry_ k h) (filter (A h) (S k h)) in_here in
        rw (reached k h ∙ parts k h) (omega (arith, sum, many));
    within = λ some. let n = r.named k h in let w = r.whole in omega (arith, n, w);
    holds = λ some. holds k h some;
  }
    where
      empty_of : (xs : List Pair) → (0 < length xs → ⊥) → xs ≡ []
      empty_of [] no_more = refl
      empty_of (x ∷ xs) no_more = absurd (no_more (omega arith))

      entry_ : ℤ → ℕ → Pair
      entry_ j g = pair_of key (slot_on bytes j g 0 - 1)
