-- The tree of slots' pairs meets the rules.
use Rattle.std.proofs.lemmas.Grind.{common_steps}
use Rattle.std.proofs.Common.{◌≡◌, ◌≢◌, ◌≤◌, ◌<◌, ◌+◌, ◌-◌, ℕ, ℤ, pos, Bool, true, zero, suc, List, [], ◌∷◌, ◌++◌, length, drop, get_or, refl, arith, ap, ◌∙◌, sym, ◌⊎◌, inl, inr, ⊎_elim, subst}
use Rattle.std.specs.Prelude.{min}
use Rattle.db_model.specs.HashTree.{buckets}
use Rattle.index_tree.specs.Ends.{IsPathEnd}
use Rattle.index_tree.specs.Loads.{opened_bucket}
use Rattle.index_tree.specs.Pairs.{Pair, goes, pair_keys, no_pair, pair_of, pairs_of, reaching}
use Rattle.index_tree.specs.Places.{SlotsRise}
use Rattle.index_tree.specs.Rules.{MeetsRules, bucket_count, slot_on}
use Rattle.index_tree.specs.TreeFile.{HoldsPairs, IsTree, bucket_place, key_at, last_at, number_of, numbered_place, slot_at}
use Rattle.index_tree.proofs.Added.{number_same, same_bucket, same_node}
use Rattle.index_tree.proofs.Bijections.{count, count_more, count_none, onto}
use Rattle.index_tree.proofs.Counted.{buckets_more}
use Rattle.index_tree.proofs.Filters.{In, above_in, filter_in, in_pairs, rises_map}
use Rattle.index_tree.proofs.Loaded.{end_there, pairs_more}
use Rattle.index_tree.proofs.Owned.{in_drop, in_reach, none_of}
use Rattle.index_tree.proofs.Shared.{Same, goes_self, order, reach_same, rises_reach, same_way}
use Rattle.index_tree.proofs.Expected.{expected}
use Rattle.padded.proofs.Facts.{neither_less}

-- ---- members of lists that rise

pub in_get : (xs : List Pair) (i : ℕ) → i < length xs → In (get_or xs i no_pair) xs
in_get [] i h = absurd (omega arith)
in_get (x ∷ xs) zero h = inl refl
in_get (x ∷ xs) (suc i) h = inr (in_get xs i (omega (arith, h)))

pub rises_index : (xs : List Pair) (i j : ℕ) → SlotsRise xs → i < j → j < length xs → (get_or xs i no_pair).slot < (get_or xs j no_pair).slot
rises_index [] i j r a b = absurd (omega arith)
rises_index (x ∷ xs) zero zero r a b = absurd (omega arith)
rises_index (x ∷ xs) zero (suc j) r a b = above_in x.slot (get_or xs j no_pair) xs r.0 (in_get xs j (omega (arith, b)))
rises_index (x ∷ xs) (suc i) zero r a b = absurd (omega arith)
rises_index (x ∷ xs) (suc i) (suc j) r a b = rises_index xs i j r.1 (omega (arith, a)) (omega (arith, b))

rises_behind : (xs : List Pair) (i m : ℕ) (p : Pair) → SlotsRise xs → i < m → i < length xs → In p (drop m xs) → (get_or xs i no_pair).slot < p.slot
rises_behind [] i m p r a b c = absurd (omega arith)
rises_behind (x ∷ xs) i zero p r a b c = absurd (omega arith)
rises_behind (x ∷ xs) zero (suc m) p r a b c = above_in x.slot p xs r.0 (in_drop p m xs c)
rises_behind (x ∷ xs) (suc i) (suc m) p r a b c = rises_behind xs i m p r.1 (omega (arith, a)) (omega (arith, b)) c

-- what reaches a later hop went on from an earlier one
in_earlier : (test : ℕ → Pair → Bool) (ps : List Pair) (p : Pair) (g h : ℕ) → g ≤ h → In p (reaching test h ps) → In p (reaching test g ps)
in_earlier test ps p g zero up i = let e : g ≡ 0 = omega arith in rw e i
in_earlier test ps p g (suc h) up i = ⊎_elim
    (λ (here : suc h ≤ g). let e : g ≡ suc h = omega arith in rw e i)
    (λ (less : g < suc h). in_earlier test ps p g h (omega (arith, less)) (in_drop p 32 (reaching test h ps) (filter_in (test h) p (drop 32 (reaching test h ps)) i).1))
    (order (suc h) g)

pub reach_goes : (test : ℕ → Pair → Bool) (ps : List Pair) (p : Pair) (h i : ℕ) → i < h → In p (reaching test h ps) → test i p ≡ true
reach_goes test ps p h i less member =
    let on = in_earlier test ps p (suc i) h less member in
    (filter_in (test i) p (drop 32 (reaching test i ps)) on).0

pub earlier_less : (test : ℕ → Pair → Bool) (ps : List Pair) (p : Pair) (g h i : ℕ) → SlotsRise ps → g < h → i < 32 → i < length (reaching test g ps) → In p (reaching test h ps) → (get_or (reaching test g ps) i no_pair).slot < p.slot
earlier_less test ps p g h i r less short there member =
    let on = in_earlier test ps p (suc g) h less member in
    rises_behind (reaching test g ps) i 32 p (rises_reach test g ps r) short there (filter_in (test g) p (drop 32 (reaching test g ps)) on).1

-- ---- a slot that opens a bucket

not_open : (l : ℕ) → 0 < l → opened_bucket l ≡ 1 → ⊥
not_open zero h t = omega arith
not_open (suc l) h t = omega arith

module _ (bytes : List ℕ) (f : ℕ → ℤ) (n : ℕ) (few_slots : n ≤ 32768) (tree : IsTree bytes (pairs_of f n)) where
  abbrev pub ps : List Pair
  ps = pairs_of f n

  abbrev pub many : ℕ
  many = bucket_count bytes

  rises_ps : SlotsRise (pairs_of f n)
  rises_ps = rises_map (pair_of f) 0 n (λ i j a b c. b)

  end_of : (s : ℕ) → (hop : ℕ) × IsPathEnd (pairs_of f s) (f s) hop
  end_of s = end_there (f s) (pairs_of f s)

  whole : length bytes ≡ bucket_place (bucket_count bytes)
  whole = let size = tree.size in omega (arith, size)

  count_is : buckets (pair_keys (pairs_of f n)) ≡ bucket_count bytes
  count_is = let size = tree.size in omega (arith, size)

  named : (k : ℤ) (h : ℕ) → number_of bytes k h ≤ bucket_count bytes
  named k h = grind (arith, common_steps, whole, order)

  o : ℕ → ℕ
  o i = opened_bucket (length (reaching (goes (f i)) (end_of i).0 (pairs_of f i)))

  o_one : (i : ℕ) → o i ≤ 1
  unfolding o
  o_one i = few (length (reaching (goes (f i)) (end_of i).0 (pairs_of f i)))
    where
      few : (l : ℕ) → opened_bucket l ≤ 1
      few zero = omega arith
      few (suc l) = omega arith

  total : (i : ℕ) → buckets (pair_keys (pairs_of f i)) ≡ count o i
  unfolding o
  total zero = sym (count_none o)
  total (suc i) =
      let before = total i in
      let more = buckets_more (pairs_of f i) (pair_of f i) (end_of i).0 (end_of i).1 in
      let next : pairs_of f (suc i) ≡ pairs_of f i ++ pair_of f i ∷ [] = subst (λ (m : ℕ). pairs_of f m ≡ pairs_of f i ++ pair_of f i ∷ []) (plus_one i) (pairs_more f i) in
      ap (λ (xs : List Pair). buckets (pair_keys xs)) next ∙ more ∙ ap (λ (m : ℕ). m + o i) before ∙ sym (count_more o i)
    where
      plus_one : (m : ℕ) → m + 1 ≡ suc m
      plus_one m = omega arith

  number : ℕ → ℕ
  number s = number_of bytes (f s) (end_of s).0

  -- its bucket begins with it
  begins : (s : ℕ) → s < n → o s ≡ 1 → (number s ≢ 0) × (slot_at bytes (numbered_place (number s)) 0 ≡ s + 1)
  unfolding o number
  begins s small marked =
      let h : ℕ = (end_of s).0 in
      let none : reaching (goes (f s)) h (pairs_of f s) ≡ [] = none_of (reaching (goes (f s)) h (pairs_of f s)) (λ x. not_open (length (reaching (goes (f s)) h (pairs_of f s))) x marked) in
      let has = expected bytes f n s h tree small (end_of s).1 in
      let at : slot_at bytes (numbered_place (number_of bytes (f s) h)) (length (reaching (goes (f s)) h (pairs_of f s))) ≡ s + 1 = has.slot in
      (has.some, subst (λ (xs : List Pair). slot_at bytes (numbered_place (number_of bytes (f s) h)) (length xs) ≡ s + 1) none at)

  owned : (b : ℕ) → b < bucket_count bytes → (k : ℤ) × (hop : ℕ) × (number_of bytes k hop ≡ b + 1)
  unfolding number
  owned b inside =
      let found = onto (bucket_count bytes) n o (λ s. number s - 1) o_one
      (λ s small marked. let x = begins s small marked in let y = named (f s) (end_of s).0 in let z = x.0 in omega (arith, y, z))
      (λ s t a m c d e.
      let x = begins s a m in let y = begins t c d in
      let p = x.0 in let q = y.0 in
      let same : number s ≡ number t = omega (arith, e, p, q) in
      let u = x.1 in
      let w : slot_at bytes (numbered_place (number s)) 0 ≡ t + 1 = rw same y.1 in
      omega (arith, u, w))
      (sym (total n) ∙ count_is) b inside in
      let s : ℕ = found.0 in
      let x = begins s found.1 found.2 in
      let p = x.0 in
      let e = found.3 in
      (f s, (end_of s).0, omega (arith, p, e))

  -- ---- the pair that stands somewhere

  stands : (k : ℤ) (h i : ℕ) → number_of bytes k h ≢ 0 → i < 32 → slot_on bytes k h i ≢ 0 → (i < length (reaching (goes k) h ps)) × (slot_on bytes k h i ≡ (get_or (reaching (goes k) h ps) i no_pair).slot + 1)
  stands k h i some short filled = ⊎_elim
      (λ (out : length (reaching (goes k) h ps) ≤ i). absurd (filled (((tree.each k h).holds some).empty i short out)))
      (λ (inside : i < length (reaching (goes k) h ps)). (inside, ((tree.each k h).holds some).slot i short inside))
      (order (length (reaching (goes k) h ps)) i)

  its_pair : (k : ℤ) (h i : ℕ) → i < length (reaching (goes k) h ps) → (s : ℕ) × (s < n) × (get_or (reaching (goes k) h ps) i no_pair ≡ pair_of f s)
  its_pair k h i inside =
      let found = in_pairs (pair_of f) (get_or (reaching (goes k) h ps) i no_pair) 0 n (in_reach (goes k) h ps (get_or (reaching (goes k) h ps) i no_pair) (in_get (reaching (goes k) h ps) i inside)) in
      let small : found.0 < 0 + n = found.2 in
      (found.0, omega (arith, small), found.3)

  rise : (k : ℤ) (g h i j : ℕ) → (g < h) ⊎ ((g ≡ h) × (i < j)) → i < 32 → j < 32 → number_of bytes k h ≢ 0 → slot_on bytes k g i ≢ 0 → slot_on bytes k h j ≢ 0 → number_of bytes k g ≢ 0 → slot_on bytes k g i < slot_on bytes k h j
  rise k g h i j where_ short_i short_j some x y some_g =
      let a = stands k g i some_g short_i x in
      let b = stands k h j some short_j y in
      let p = a.1 in
      let q = b.1 in
      ⊎_elim
      (λ (less : g < h). let up = earlier_less (goes k) ps (get_or (reaching (goes k) h ps) j no_pair) g h i rises_ps less short_i a.0 (in_get (reaching (goes k) h ps) j b.0) in omega (arith, p, q, up))
      (λ (same : (g ≡ h) × (i < j)).
      let there : i < length (reaching (goes k) h ps) = subst (λ (l : ℕ). i < length (reaching (goes k) l ps)) same.0 a.0 in
      let up = rises_index (reaching (goes k) h ps) i j (rises_reach (goes k) h ps rises_ps) same.1 b.0 in
      let p_ : slot_on bytes k g i ≡ (get_or (reaching (goes k) h ps) i no_pair).slot + 1 = subst (λ (l : ℕ). slot_on bytes k g i ≡ (get_or (reaching (goes k) l ps) i no_pair).slot + 1) same.0 p in
      omega (arith, p_, q, up))
      where_

  -- a pair stands in one place
  alone : (j k : ℤ) (g h a b : ℕ) → a < 32 → b < 32 → a < length (reaching (goes j) g ps) → b < length (reaching (goes k) h ps) → get_or (reaching (goes j) g ps) a no_pair ≡ get_or (reaching (goes k) h ps) b no_pair → (g ≡ h) × (a ≡ b) × ((i : ℕ) → i < g → Same j k i)
  alone j k g h a b short_a short_b in_a in_b same =
      let p : Pair = get_or (reaching (goes j) g ps) a no_pair in
      let q : Pair = get_or (reaching (goes k) h ps) b no_pair in
      let member_p : In p (reaching (goes j) g ps) = in_get (reaching (goes j) g ps) a in_a in
      let member_q : In q (reaching (goes k) h ps) = in_get (reaching (goes k) h ps) b in_b in
      let to_p : (i : ℕ) → i < g → Same j p.key i = λ i l. same_way j p.key i p (reach_goes (goes j) ps p g i l member_p) (goes_self p.key i p refl) in
      let to_q : (i : ℕ) → i < h → Same k p.key i = λ i l. same_way k p.key i p (subst (λ (r : Pair). goes k i r ≡ true) (sym same) (reach_goes (goes k) ps q h i l member_q)) (goes_self p.key i p refl) in
      let here : reaching (goes j) g ps ≡ reaching (goes p.key) g ps = reach_same j p.key ps g to_p in
      let there : reaching (goes k) h ps ≡ reaching (goes p.key) h ps = reach_same k p.key ps h to_q in
      let p_here : get_or (reaching (goes p.key) g ps) a no_pair ≡ p = ap (λ (xs : List Pair). get_or xs a no_pair) (sym here) in
      let p_there : get_or (reaching (goes p.key) h ps) b no_pair ≡ p = ap (λ (xs : List Pair). get_or xs b no_pair) (sym there) ∙ sym same in
      let a_in : a < length (reaching (goes p.key) g ps) = subst (λ (xs : List Pair). a < length xs) here in_a in
      let b_in : b < length (reaching (goes p.key) h ps) = subst (λ (xs : List Pair). b < length xs) there in_b in
      let in_g : In p (reaching (goes p.key) g ps) = subst (λ (r : Pair). In r (reaching (goes p.key) g ps)) p_here (in_get (reaching (goes p.key) g ps) a a_in) in
      let in_h : In p (reaching (goes p.key) h ps) = subst (λ (r : Pair). In r (reaching (goes p.key) h ps)) p_there (in_get (reaching (goes p.key) h ps) b b_in) in
      let not_up : g < h → ⊥ = λ less. (let up = earlier_less (goes p.key) ps p g h a rises_ps less short_a a_in in_h in let e = ap (λ (r : Pair). r.slot) p_here in omega (arith, up, e)) in
      let not_down : h < g → ⊥ = λ less. (let up = earlier_less (goes p.key) ps p h g b rises_ps less short_b b_in in_g in let e = ap (λ (r : Pair). r.slot) p_there in omega (arith, up, e)) in
      let hops : g ≡ h = neither_less g h not_up not_down in
      let p_again : get_or (reaching (goes p.key) g ps) b no_pair ≡ p = subst (λ (l : ℕ). get_or (reaching (goes p.key) l ps) b no_pair ≡ p) (sym hops) p_there in
      let b_again : b < length (reaching (goes p.key) g ps) = subst (λ (l : ℕ). b < length (reaching (goes p.key) l ps)) (sym hops) b_in in
      let risen = rises_reach (goes p.key) g ps rises_ps in
      let e = ap (λ (r : Pair). r.slot) p_here in
      let e_ = ap (λ (r : Pair). r.slot) p_again in
      let places : a ≡ b = neither_less a b (λ less. (let up = rises_index (reaching (goes p.key) g ps) a b risen less b_again in omega (arith, up, e, e_))) (λ less. (let up = rises_index (reaching (goes p.key) g ps) b a risen less a_in in omega (arith, up, e, e_))) in
      (hops, places, λ i l. λ r. to_p i l r ∙ sym (to_q i (omega (arith, l, hops)) r))

  bucket_of : (b : ℕ) → b < bucket_count bytes → (k : ℤ) × (h : ℕ) × (number_of bytes k h ≢ 0) × (numbered_place (number_of bytes k h) ≡ bucket_place b)
  bucket_of b inside =
      let own = owned b inside in
      let e = own.2 in
      (own.0, own.1, λ z. omega (arith, z, e), place_is (number_of bytes own.0 own.1) b e)
    where
      place_is : (m c : ℕ) → m ≡ c + 1 → numbered_place m ≡ bucket_place c
      place_is m c e = omega (arith, e)

  reached : (k : ℤ) (h : ℕ) → number_of bytes k h ≢ 0 → 0 < length (reaching (goes k) h ps)
  reached k h some = (tree.each k h).some some

  number_some : (k : ℤ) (h : ℕ) → 0 < length (reaching (goes k) h ps) → number_of bytes k h ≢ 0
  number_some k h some = λ z. let none : length (reaching (goes k) h ps) ≡ 0 = ap length ((tree.each k h).none z) in omega (arith, none, some)

  first_in : (xs : List Pair) → 0 < length xs → (p : Pair) × In p xs
  first_in [] h = absurd (omega arith)
  first_in (x ∷ xs) h = (x, inl refl)

  length_in : (p : Pair) (xs : List Pair) → In p xs → 0 < length xs
  length_in p [] i = absurd i
  length_in p (x ∷ xs) i = omega arith

  earlier_some : (k : ℤ) (g h : ℕ) → g ≤ h → number_of bytes k h ≢ 0 → number_of bytes k g ≢ 0
  earlier_some k g h up some =
      let p = first_in (reaching (goes k) h ps) (reached k h some) in
      number_some k g (length_in p.0 (reaching (goes k) g ps) (in_earlier (goes k) ps p.0 g h up p.1))

  front_holds : (b i : ℕ) → b < bucket_count bytes → i + 1 < 32 → slot_at bytes (bucket_place b) i ≡ 0 → slot_at bytes (bucket_place b) (i + 1) ≡ 0
  front_holds b i inside short z =
      let own = bucket_of b inside in
      let holds : HoldsPairs bytes (bucket_place b) (reaching (goes own.0) own.1 ps) = subst (λ (p : ℕ). HoldsPairs bytes p (reaching (goes own.0) own.1 ps)) own.3 ((tree.each own.0 own.1).holds own.2) in
      ⊎_elim
      (λ (out : length (reaching (goes own.0) own.1 ps) ≤ i). holds.empty (i + 1) short (omega (arith, out)))
      (λ (in_ : i < length (reaching (goes own.0) own.1 ps)). let s = holds.slot i (omega (arith, short)) in_ in absurd (omega (arith, s, z)))
      (order (length (reaching (goes own.0) own.1 ps)) i)

  blank_holds : (b i : ℕ) → b < bucket_count bytes → i < 32 → slot_at bytes (bucket_place b) i ≡ 0 → key_at bytes (bucket_place b) i ≡ pos 0
  blank_holds b i inside short z =
      let own = bucket_of b inside in
      let holds : HoldsPairs bytes (bucket_place b) (reaching (goes own.0) own.1 ps) = subst (λ (p : ℕ). HoldsPairs bytes p (reaching (goes own.0) own.1 ps)) own.3 ((tree.each own.0 own.1).holds own.2) in
      ⊎_elim
      (λ (out : length (reaching (goes own.0) own.1 ps) ≤ i). holds.blank i short out)
      (λ (in_ : i < length (reaching (goes own.0) own.1 ps)). let s = holds.slot i short in_ in absurd (omega (arith, s, z)))
      (order (length (reaching (goes own.0) own.1 ps)) i)

  pub tree_rules : MeetsRules bytes f n
  tree_rules = record {
    front = front_holds;
    blank = blank_holds;
    some = λ b inside.
        let own = bucket_of b inside in
        let s = ((tree.each own.0 own.1).holds own.2).slot 0 (omega arith) (reached own.0 own.1 own.2) in
        let s_ : slot_at bytes (bucket_place b) 0 ≡ (get_or (reaching (goes own.0) own.1 ps) 0 no_pair).slot + 1 = subst (λ (p : ℕ). slot_at bytes p 0 ≡ (get_or (reaching (goes own.0) own.1 ps) 0 no_pair).slot + 1) own.3 s in
        λ z. omega (arith, s_, z);
    full = λ k h some.
        let p = first_in (reaching (goes k) (suc h) ps) (reached k (suc h) some) in
        let member = (filter_in (goes k h) p.0 (drop 32 (reaching (goes k) h ps)) p.1).1 in
        let long : 32 < length (reaching (goes k) h ps) = longer p.0 32 (reaching (goes k) h ps) member in
        let here = number_some k h (omega (arith, long)) in
        let s = ((tree.each k h).holds here).slot 31 (omega arith) (omega (arith, long)) in
        (here, λ z. omega (arith, s, z));
    upper = tree.upper;
    whole = whole;
    named = named;
    owned = owned;
    once = λ j k g h some e.
        let both = same_bucket bytes ps tree.each rises_ps j k g h some e in
        (both.0, same_node j k (min g 4) (omega arith) (λ i l. both.1 i (omega (arith, l))));
    mark = tree.mark;
    last = λ b inside. let own = bucket_of b inside in subst (λ (p : ℕ). last_at bytes p ≡ 1) own.3 ((tree.each own.0 own.1).holds own.2).last;
    hop = λ s. (end_of s).0;
    pair = λ s. length (reaching (goes (f s)) (end_of s).0 (pairs_of f s));
    short = λ s small. (end_of s).1.room;
    there = λ s small. (expected bytes f n s (end_of s).0 tree small (end_of s).1).some;
    slot = λ s small. (expected bytes f n s (end_of s).0 tree small (end_of s).1).slot;
    its_key = λ s small. (expected bytes f n s (end_of s).0 tree small (end_of s).1).key;
    only = λ b c i j inside_b inside_c short_i short_j some same.
        let own = bucket_of b inside_b in
        let its = bucket_of c inside_c in
        let x : slot_on bytes own.0 own.1 i ≢ 0 = subst (λ (p : ℕ). slot_at bytes p i ≢ 0) (sym own.3) some in
        let y : slot_on bytes its.0 its.1 j ≢ 0 = subst (λ (p : ℕ). slot_at bytes p j ≢ 0) (sym its.3) (λ z. some (same ∙ z)) in
        let p = stands own.0 own.1 i own.2 short_i x in
        let q = stands its.0 its.1 j its.2 short_j y in
        let pp = its_pair own.0 own.1 i p.0 in
        let qq = its_pair its.0 its.1 j q.0 in
        let one : slot_on bytes own.0 own.1 i ≡ slot_on bytes its.0 its.1 j = ap (λ (r : ℕ). slot_at bytes r i) own.3 ∙ same ∙ sym (ap (λ (r : ℕ). slot_at bytes r j) its.3) in
        let s = ap (λ (r : Pair). r.slot) pp.2 in
        let t = ap (λ (r : Pair). r.slot) qq.2 in
        let u = p.1 in
        let v = q.1 in
        let slots : pp.0 ≡ qq.0 = omega (arith, one, s, t, u, v) in
        let there = alone own.0 its.0 own.1 its.1 i j short_i short_j p.0 q.0 (pp.2 ∙ ap (pair_of f) slots ∙ sym qq.2) in
        let numbers : number_of bytes own.0 own.1 ≡ number_of bytes its.0 its.1 = number_same bytes own.0 its.0 own.1 there.2 ∙ ap (number_of bytes its.0) there.0 in
        let place : bucket_place b ≡ bucket_place c = sym own.3 ∙ ap numbered_place numbers ∙ its.3 in
        (omega (arith, place), there.1);
    known = λ b i inside short. ⊎_elim
        (λ (z : slot_at bytes (bucket_place b) i ≤ 0). omega (arith, z))
        (λ (s : 0 < slot_at bytes (bucket_place b) i).
        let own = bucket_of b inside in
        let x : slot_on bytes own.0 own.1 i ≢ 0 = subst (λ (p : ℕ). slot_at bytes p i ≢ 0) (sym own.3) (λ z. omega (arith, z, s)) in
        let p = stands own.0 own.1 i own.2 short x in
        let pp = its_pair own.0 own.1 i p.0 in
        let e = ap (λ (r : Pair). r.slot) pp.2 in
        let u = p.1 in
        let small = pp.1 in
        subst (λ (r : ℕ). slot_at bytes r i ≤ n) own.3 (omega (arith, e, u, small)))
        (order (slot_at bytes (bucket_place b) i) 0);
    rise = λ k g h i j where_ short_i short_j some x y. rise k g h i j where_ short_i short_j some x y (earlier_some k g h (⊎_elim (λ (l : g < h). omega (arith, l)) (λ (s : (g ≡ h) × (i < j)). let e = s.0 in omega (arith, e)) where_) some);
  }
    where
      longer : (p : Pair) (m : ℕ) (xs : List Pair) → In p (drop m xs) → m < length xs
      longer p zero [] i = absurd i
      longer p zero (x ∷ xs) i = omega arith
      longer p (suc m) [] i = absurd i
      longer p (suc m) (x ∷ xs) i = let deep = longer p m xs i in omega (arith, deep)
