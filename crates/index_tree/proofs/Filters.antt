-- Pairs in lists whose slots rise.
use Rattle.std.proofs.Common.{◌≡◌, ◌≤◌, ◌<◌, ◌+◌, ℕ, zero, suc, List, [], ◌∷◌, ◌++◌, length, drop, map, Bool, true, false, cond, refl, arith, ap, ◌∙◌, sym, ◌⊎◌, inl, inr, ⊎_elim}
use Rattle.std.specs.List.{filter, range_with_len}
use Rattle.std.proofs.lemmas.List.{append-nil, drop_all, drop_at}
use Rattle.index_tree.specs.Pairs.{Pair}
use Rattle.index_tree.specs.Places.{Above, SlotsRise}

abbrev pub In : Pair → List Pair → Type 0
In p [] = ⊥
In p (q ∷ qs) = (p ≡ q) ⊎ In p qs

in_cond : (p q : Pair) (b : Bool) (qs : List Pair) → In p qs → In p (cond b (q ∷ qs) qs)
in_cond p q true qs i = inr i
in_cond p q false qs i = i

in_head : (p q : Pair) (b : Bool) (qs : List Pair) → p ≡ q → b ≡ true → In p (cond b (q ∷ qs) qs)
in_head p q true qs e t = inl e
in_head p q false qs e t = absurd (cc)

pub in_filter : (f : Pair → Bool) (p : Pair) (qs : List Pair) → In p qs → f p ≡ true → In p (filter f qs)
in_filter f p [] i t = i
in_filter f p (q ∷ qs) (inl e) t = in_head p q (f q) (filter f qs) e (ap f (sym e) ∙ t)
in_filter f p (q ∷ qs) (inr i) t = in_cond p q (f q) (filter f qs) (in_filter f p qs i t)

out_cond : (f : Pair → Bool) (p q : Pair) (b : Bool) (fs qs : List Pair) → f q ≡ b → (In p fs → (f p ≡ true) × In p qs) → In p (cond b (q ∷ fs) fs) → (f p ≡ true) × In p (q ∷ qs)
out_cond f p q true fs qs t deep (inl e) = (ap f e ∙ t, inl e)
out_cond f p q true fs qs t deep (inr i) = ((deep i).0, inr (deep i).1)
out_cond f p q false fs qs t deep i = ((deep i).0, inr (deep i).1)

pub filter_in : (f : Pair → Bool) (p : Pair) (qs : List Pair) → In p (filter f qs) → (f p ≡ true) × In p qs
filter_in f p [] i = absurd i
filter_in f p (q ∷ qs) i = out_cond f p q (f q) (filter f qs) qs refl (filter_in f p qs) i

pub above_in : (slot : ℕ) (p : Pair) (qs : List Pair) → Above slot qs → In p qs → slot < p.slot
above_in slot p [] a i = absurd i
above_in slot p (q ∷ qs) a (inl e) = rw e a.0
above_in slot p (q ∷ qs) a (inr i) = above_in slot p qs a.1 i

step_none : (f : Pair → Bool) (p : Pair) (b : Bool) (fs : List Pair) → f p ≡ b → (f p ≡ true → ⊥) → fs ≡ [] → cond b (p ∷ fs) fs ≡ []
step_none f p true fs t no_way e = absurd (no_way t)
step_none f p false fs t no_way e = e

pub none_in : (f : Pair → Bool) (qs : List Pair) → ((p : Pair) → In p qs → f p ≡ true → ⊥) → filter f qs ≡ []
none_in f [] out = refl
none_in f (q ∷ qs) out = step_none f q (f q) (filter f qs) refl (out q (inl refl)) (none_in f qs (λ p i. out p (inr i)))

pub some_in : (qs : List Pair) → 0 < length qs → (p : Pair) × In p qs
some_in [] h = absurd (omega arith)
some_in (q ∷ qs) h = (q, inl refl)

pub in_some : (p : Pair) (qs : List Pair) → In p qs → 0 < length qs
in_some p [] i = absurd i
in_some p (q ∷ qs) i = omega arith

-- ---- two lists that rise and have the same pairs are one

tail_in : (x y p : Pair) (xs ys : List Pair) → x ≡ y → Above x.slot xs → In p xs → In p (y ∷ ys) → In p ys
tail_in x y p xs ys e a i (inl same) = let up : x.slot < p.slot = above_in x.slot p xs a i in let is : p.slot ≡ x.slot = ap (λ (q : Pair). q.slot) (same ∙ sym e) in absurd (omega (arith, up, is))
tail_in x y p xs ys e a i (inr j) = j

head_same : (x y : Pair) (xs ys : List Pair) → Above x.slot xs → Above y.slot ys → In x (y ∷ ys) → In y (x ∷ xs) → x ≡ y
head_same x y xs ys a b (inl e) j = e
head_same x y xs ys a b (inr i) (inl e) = sym e
head_same x y xs ys a b (inr i) (inr j) = let up : y.slot < x.slot = above_in y.slot x ys b i in let down : x.slot < y.slot = above_in x.slot y xs a j in absurd (omega (arith, up, down))

pub rises_same : (xs ys : List Pair) → SlotsRise xs → SlotsRise ys → ((p : Pair) → In p xs → In p ys) → ((p : Pair) → In p ys → In p xs) → xs ≡ ys
rises_same [] [] a b f g = refl
rises_same [] (y ∷ ys) a b f g = absurd (g y (inl refl))
rises_same (x ∷ xs) [] a b f g = absurd (f x (inl refl))
rises_same (x ∷ xs) (y ∷ ys) a b f g =
    let e : x ≡ y = head_same x y xs ys a.0 b.0 (f x (inl refl)) (g y (inl refl)) in
    rw e (ap (λ (zs : List Pair). y ∷ zs) (rises_same xs ys a.1 b.1 (λ p i. tail_in x y p xs ys e a.0 i (f p (inr i))) (λ p i. tail_in y x p ys xs (sym e) b.0 i (g p (inr i)))))

-- ---- a list whose parts come one behind the other

abbrev pub Parts : (Pair → Bool) → (Pair → Bool) → (Pair → Bool) → Pair → Type 0
Parts h f g p = ((h p ≡ true) × (f p ≡ true) × (g p ≡ false)) ⊎ (((h p ≡ true) × (f p ≡ false) × (g p ≡ true)) ⊎ ((h p ≡ false) × (f p ≡ false) × (g p ≡ false)))

pub split_parts : (h f g : Pair → Bool) (ps : List Pair) → SlotsRise ps → ((p : Pair) → Parts h f g p) → ((p q : Pair) → In p ps → In q ps → f p ≡ true → g q ≡ true → p.slot < q.slot) → filter h ps ≡ filter f ps ++ filter g ps
split_parts h f g [] rises parts order = refl
split_parts h f g (p ∷ ps) rises parts order =
    let deep : filter h ps ≡ filter f ps ++ filter g ps = split_parts h f g ps rises.1 parts (λ a b i j. order a b (inr i) (inr j)) in
    ⊎_elim
    (λ (x : (h p ≡ true) × (f p ≡ true) × (g p ≡ false)). rw (x.0, x.1, x.2) (ap (λ (zs : List Pair). p ∷ zs) deep))
    (λ (rest : ((h p ≡ true) × (f p ≡ false) × (g p ≡ true)) ⊎ ((h p ≡ false) × (f p ≡ false) × (g p ≡ false))). ⊎_elim
    (λ (x : (h p ≡ true) × (f p ≡ false) × (g p ≡ true)).
    let nothing : filter f ps ≡ [] = none_in f ps (λ q i t. let up : p.slot < q.slot = above_in p.slot q ps rises.0 i in let down : q.slot < p.slot = order q p (inr i) (inl refl) t x.2 in omega (arith, up, down)) in
    let rest_ : filter h ps ≡ filter g ps = deep ∙ ap (λ (zs : List Pair). zs ++ filter g ps) nothing in
    rw (x.0, x.1, x.2, nothing) (ap (λ (zs : List Pair). p ∷ zs) rest_))
    (λ (x : (h p ≡ false) × (f p ≡ false) × (g p ≡ false)). rw (x.0, x.1, x.2) deep)
    rest)
    (parts p)

commute_step : (f g : Pair → Bool) (p : Pair) (a b : Bool) (fg gf fs gs : List Pair) → f p ≡ a → g p ≡ b → filter f gs ≡ filter g fs → filter f (cond b (p ∷ gs) gs) ≡ filter g (cond a (p ∷ fs) fs)
commute_step f g p true true fg gf fs gs x y e = rw (x, y) (ap (λ (zs : List Pair). p ∷ zs) e)
commute_step f g p true false fg gf fs gs x y e = rw y e
commute_step f g p false true fg gf fs gs x y e = rw x e
commute_step f g p false false fg gf fs gs x y e = e

pub filter_commutes : (f g : Pair → Bool) (ps : List Pair) → filter f (filter g ps) ≡ filter g (filter f ps)
filter_commutes f g [] = refl
filter_commutes f g (p ∷ ps) = commute_step f g p (f p) (g p) [] [] (filter f ps) (filter g ps) refl refl (filter_commutes f g ps)

-- the second part begins only behind 32
pub drop_first : (xs ys : List Pair) → length xs ≤ 32 → (0 < length ys → length xs ≡ 32) → drop 32 (xs ++ ys) ≡ ys
drop_first xs [] few full = ap (drop 32) (append-nil xs) ∙ drop_all 32 xs few
drop_first xs (y ∷ ys) few full = drop_at xs (y ∷ ys) 32 (full (omega arith))

-- ---- the pairs of slots

pub in_pairs : (f : ℕ → Pair) (p : Pair) (from n : ℕ) → In p (map f (range_with_len from n)) → (i : ℕ) × (from ≤ i) × (i < from + n) × (p ≡ f i)
in_pairs f p from zero i = absurd i
in_pairs f p from (suc n) (inl e) = (from, omega arith, omega arith, e)
in_pairs f p from (suc n) (inr i) = let deep = in_pairs f p (from + 1) n i in let a : from + 1 ≤ deep.0 = deep.1 in let b : deep.0 < from + 1 + n = deep.2 in (deep.0, omega arith, omega arith, deep.3)

pub pairs_in : (f : ℕ → Pair) (from n i : ℕ) → from ≤ i → i < from + n → In (f i) (map f (range_with_len from n))
pairs_in f from zero i a b = absurd (omega arith)
pairs_in f from (suc n) i a b = ⊎_elim
    (λ (here : i ≤ from). let e : i ≡ from = omega arith in inl (ap f e))
    (λ (later : from < i). inr (pairs_in f (from + 1) n i (omega arith) (omega arith)))
    (order i from)
  where
    order : (m k : ℕ) → (m ≤ k) ⊎ (k < m)
    order m k = grind arith

above_map : (f : ℕ → Pair) (slot from n : ℕ) → ((i : ℕ) → from ≤ i → i < from + n → slot < (f i).slot) → Above slot (map f (range_with_len from n))
above_map f slot from zero up = tt
above_map f slot from (suc n) up = (up from (omega arith) (omega arith), above_map f slot (from + 1) n (λ i a b. up i (omega arith) (omega arith)))

pub rises_map : (f : ℕ → Pair) (from n : ℕ) → ((i j : ℕ) → from ≤ i → i < j → j < from + n → (f i).slot < (f j).slot) → SlotsRise (map f (range_with_len from n))
rises_map f from zero up = tt
rises_map f from (suc n) up = (above_map f (f from).slot (from + 1) n (λ i a b. up from i (omega arith) (omega arith) (omega arith)), rises_map f (from + 1) n (λ i j a b c. up i j (omega arith) b (omega arith)))
