use Rattle.std.proofs.Common.{◌≡◌, ◌≤◌, ◌<◌, ◌+◌, ℕ, ℤ, zero, suc, List, [], ◌∷◌, ◌++◌, length, drop, Bool, true, false, cond, refl, arith, ap, ◌∙◌, sym, add-one, ◌⊎◌, inl, inr, eq-eqb, ⊎_elim, length-append, subst}
use Rattle.std.specs.Prelude.{nat_eq, ⊤}
use Rattle.std.specs.List.{filter}
use Rattle.std.proofs.lemmas.List.{append-nil, drop_all}
use Rattle.index_tree.specs.Pairs.{Pair, goes, reaching, sifted}
use Rattle.index_tree.specs.Places.{Above, SlotsRise}
use Rattle.index_tree.proofs.Reach.{reach-append}

-- two keys go the same way at a hop
abbrev pub Same : ℤ → ℤ → ℕ → Type 0
Same a b hop = (p : Pair) → goes a hop p ≡ goes b hop p

pub eqb-eq : (m n : ℕ) → nat_eq m n ≡ true → m ≡ n
eqb-eq m n e = grind arith

-- a pair that goes both ways
pub same_way : (a b : ℤ) (hop : ℕ) (p : Pair) → goes a hop p ≡ true → goes b hop p ≡ true → Same a b hop
same_way a b zero p h k = λ q. rw (sym (eqb-eq _ _ h)) (rw (sym (eqb-eq _ _ k)) refl)
same_way a b (suc zero) p h k = λ q. rw (sym (eqb-eq _ _ h)) (rw (sym (eqb-eq _ _ k)) refl)
same_way a b (suc (suc zero)) p h k = λ q. rw (sym (eqb-eq _ _ h)) (rw (sym (eqb-eq _ _ k)) refl)
same_way a b (suc (suc (suc zero))) p h k = λ q. rw (sym (eqb-eq _ _ h)) (rw (sym (eqb-eq _ _ k)) refl)
same_way a b (suc (suc (suc (suc hop)))) p h k = λ q. refl

filter_same : (f g : Pair → Bool) → ((p : Pair) → f p ≡ g p) → (ps : List Pair) → filter f ps ≡ filter g ps
filter_same f g same [] = refl
filter_same f g same (p ∷ ps) = rw (same p) (ap (λ xs. cond (g p) (p ∷ xs) xs) (filter_same f g same ps))

-- what reaches a bucket depends on the way there alone
pub reach_same : (a b : ℤ) (ps : List Pair) (hop : ℕ) → ((i : ℕ) → i < hop → Same a b i) → reaching (goes a) hop ps ≡ reaching (goes b) hop ps
reach_same a b ps zero same = refl
reach_same a b ps (suc hop) same =
    filter_same (goes a hop) (goes b hop) (same hop (omega arith)) (drop 32 (reaching (goes a) hop ps))
    ∙ ap (λ xs. filter (goes b hop) (drop 32 xs)) (reach_same a b ps hop (λ i h. same i (omega arith)))

abbrev pub Full : ℤ → List Pair → ℕ → Type 0
Full key ps hop = (i : ℕ) → i < hop → 32 ≤ length (reaching (goes key) i ps)

pub order : (m n : ℕ) → (m ≤ n) ⊎ (n < m)
order m n = grind arith

full_more : (key : ℤ) (ps : List Pair) (hop : ℕ) → Full key ps hop → 32 ≤ length (reaching (goes key) hop ps) → Full key ps (hop + 1)
full_more key ps hop full now = λ i h. ⊎_elim (λ (k : hop ≤ i). let e : i ≡ hop = omega arith in rw e now) (λ (k : i < hop). full i k) (order hop i)

pub empty_on : (test : ℕ → Pair → Bool) (ps : List Pair) (h m : ℕ) → reaching test h ps ≡ [] → h ≤ m → reaching test m ps ≡ []
empty_on test ps h zero e k = let z : h ≡ 0 = omega arith in subst (λ x. reaching test x ps ≡ []) z e
empty_on test ps h (suc m) e k =
    ⊎_elim (λ (below : h ≤ m). ap (λ xs. filter (test m) (drop 32 xs)) (empty_on test ps h m e below))
    (λ (here : m < h). let same : suc m ≡ h = omega arith in subst (λ x. reaching test x ps ≡ []) (sym same) e) (order h m)

-- nothing goes on from a bucket with room
pub empty_next : (test : ℕ → Pair → Bool) (ps : List Pair) (hop : ℕ) → length (reaching test hop ps) ≤ 32 → reaching test (suc hop) ps ≡ []
empty_next test ps hop short = ap (filter (test hop)) (drop_all 32 (reaching test hop ps) short)

abbrev pub Sifted : (ℕ → Pair → Bool) → ℕ → Pair → Type 0
Sifted test hop q = (sifted test hop (q ∷ []) ≡ []) ⊎ ((sifted test hop (q ∷ []) ≡ q ∷ []) × ((i : ℕ) → i < hop → test i q ≡ true))

one_more : (test : ℕ → Pair → Bool) (hop : ℕ) (q : Pair) (b : Bool) → test hop q ≡ b → sifted test hop (q ∷ []) ≡ q ∷ [] → ((i : ℕ) → i < hop → test i q ≡ true) → Sifted test (suc hop) q
one_more test hop q true e same passes = inr (rw same (rw e refl), λ i h. ⊎_elim (λ (k : hop ≤ i). let here : i ≡ hop = omega arith in rw here e) (λ (k : i < hop). passes i k) (order hop i))
one_more test hop q false e same passes = inl (rw same (rw e refl))

pub one : (test : ℕ → Pair → Bool) (hop : ℕ) (q : Pair) → Sifted test hop q
one test zero q = inr (refl, λ i h. absurd (omega arith))
one test (suc hop) q =
    ⊎_elim (λ (none : sifted test hop (q ∷ []) ≡ []). inl (ap (filter (test hop)) none))
    (λ (all : (sifted test hop (q ∷ []) ≡ q ∷ []) × ((i : ℕ) → i < hop → test i q ≡ true)). one_more test hop q (test hop q) refl all.0 all.1) (one test hop q)

sifted_short : (test : ℕ → Pair → Bool) (hop : ℕ) (q : Pair) → length (sifted test hop (q ∷ [])) ≤ 1
sifted_short test hop q = ⊎_elim (λ (none : sifted test hop (q ∷ []) ≡ []). rw none (omega arith)) (λ (all : (sifted test hop (q ∷ []) ≡ q ∷ []) × ((i : ℕ) → i < hop → test i q ≡ true)). rw all.0 (omega arith)) (one test hop q)

-- behind a bucket with room nothing changes
pub stays : (key : ℤ) (ps : List Pair) (q : Pair) (hop later : ℕ) → Full key ps hop → length (reaching (goes key) hop ps) < 32 → hop < later →
    reaching (goes key) later (ps ++ q ∷ []) ≡ reaching (goes key) later ps
stays key ps q hop later full room after =
    let grown : reaching (goes key) hop (ps ++ q ∷ []) ≡ reaching (goes key) hop ps ++ sifted (goes key) hop (q ∷ []) = reach-append (goes key) ps (q ∷ []) hop full in
    let few : length (sifted (goes key) hop (q ∷ [])) ≤ 1 = sifted_short (goes key) hop q in
    let sum : length (reaching (goes key) hop ps ++ sifted (goes key) hop (q ∷ [])) ≡ length (reaching (goes key) hop ps) + length (sifted (goes key) hop (q ∷ [])) = length-append (reaching (goes key) hop ps) (sifted (goes key) hop (q ∷ [])) in
    let short : length (reaching (goes key) hop (ps ++ q ∷ [])) ≤ 32 = rw grown (omega arith) in
    empty_on (goes key) (ps ++ q ∷ []) (suc hop) later (empty_next (goes key) (ps ++ q ∷ []) hop short) (omega arith)
    ∙ sym (empty_on (goes key) ps (suc hop) later (empty_next (goes key) ps hop (omega arith)) (omega arith))

-- the first bucket with room before a hop, if there is one
pub full_or_room : (key : ℤ) (ps : List Pair) (hop : ℕ) → Full key ps hop ⊎ ((i : ℕ) × (i < hop) × Full key ps i × (length (reaching (goes key) i ps) < 32))
full_or_room key ps zero = inl (λ i h. absurd (omega arith))
full_or_room key ps (suc hop) =
    ⊎_elim
    (λ (full : Full key ps hop). ⊎_elim (λ (now : 32 ≤ length (reaching (goes key) hop ps)). inl (rw (sym (add-one hop)) (full_more key ps hop full now)))
    (λ (room : length (reaching (goes key) hop ps) < 32). inr (hop, omega arith, full, room)) (order 32 (length (reaching (goes key) hop ps))))
    (λ (found : (i : ℕ) × (i < hop) × Full key ps i × (length (reaching (goes key) i ps) < 32)). let before : found.0 < hop = found.1 in inr (found.0, omega arith, found.2, found.3))
    (full_or_room key ps hop)

-- what reaches a bucket after an insert: the same, or the pair behind it where the two keys share the way there
abbrev pub Grows : ℤ → List Pair → Pair → ℕ → Type 0
Grows key ps q hop =
    (reaching (goes key) hop (ps ++ q ∷ []) ≡ reaching (goes key) hop ps)
    ⊎ (Full key ps hop × (reaching (goes key) hop (ps ++ q ∷ []) ≡ reaching (goes key) hop ps ++ q ∷ []) × ((i : ℕ) → i < hop → Same key q.key i))

pub goes_self : (key : ℤ) (hop : ℕ) (q : Pair) → key ≡ q.key → goes key hop q ≡ true
goes_self key zero q e = rw e (eq-eqb _ _ refl)
goes_self key (suc zero) q e = rw e (eq-eqb _ _ refl)
goes_self key (suc (suc zero)) q e = rw e (eq-eqb _ _ refl)
goes_self key (suc (suc (suc zero))) q e = rw e (eq-eqb _ _ refl)
goes_self key (suc (suc (suc (suc hop)))) q e = refl

pub grows : (key : ℤ) (ps : List Pair) (q : Pair) (hop : ℕ) → Grows key ps q hop
grows key ps q hop =
    ⊎_elim
    (λ (full : Full key ps hop).
    let grown : reaching (goes key) hop (ps ++ q ∷ []) ≡ reaching (goes key) hop ps ++ sifted (goes key) hop (q ∷ []) = reach-append (goes key) ps (q ∷ []) hop full in
    ⊎_elim
    (λ (none : sifted (goes key) hop (q ∷ []) ≡ []). inl (grown ∙ ap (λ xs. reaching (goes key) hop ps ++ xs) none ∙ append-nil (reaching (goes key) hop ps)))
    (λ (all : (sifted (goes key) hop (q ∷ []) ≡ q ∷ []) × ((i : ℕ) → i < hop → goes key i q ≡ true)).
    inr (full, grown ∙ ap (λ xs. reaching (goes key) hop ps ++ xs) all.0, λ i h. same_way key q.key i q (all.1 i h) (goes_self q.key i q refl)))
    (one (goes key) hop q))
    (λ (found : (i : ℕ) × (i < hop) × Full key ps i × (length (reaching (goes key) i ps) < 32)). inl (stays key ps q found.0 hop found.2 found.3 found.1))
    (full_or_room key ps hop)

above_filter : (test : Pair → Bool) (s : ℕ) (ps : List Pair) → Above s ps → Above s (filter test ps)
above_filter test s [] h = tt
above_filter test s (p ∷ ps) h = elim (test p) as (λ b. Above s (cond b (p ∷ filter test ps) (filter test ps))) [ true ↦ (h.0, above_filter test s ps h.1) | false ↦ above_filter test s ps h.1 ]

above_drop : (n s : ℕ) (ps : List Pair) → Above s ps → Above s (drop n ps)
above_drop zero s ps h = h
above_drop (suc n) s [] h = tt
above_drop (suc n) s (p ∷ ps) h = above_drop n s ps h.1

pub rises_filter : (test : Pair → Bool) (ps : List Pair) → SlotsRise ps → SlotsRise (filter test ps)
rises_filter test [] h = tt
rises_filter test (p ∷ ps) h = elim (test p) as (λ b. SlotsRise (cond b (p ∷ filter test ps) (filter test ps))) [ true ↦ (above_filter test p.slot ps h.0, rises_filter test ps h.1) | false ↦ rises_filter test ps h.1 ]

rises_drop : (n : ℕ) (ps : List Pair) → SlotsRise ps → SlotsRise (drop n ps)
rises_drop zero ps h = h
rises_drop (suc n) [] h = tt
rises_drop (suc n) (p ∷ ps) h = rises_drop n ps h.1

pub rises_reach : (test : ℕ → Pair → Bool) (hop : ℕ) (ps : List Pair) → SlotsRise ps → SlotsRise (reaching test hop ps)
rises_reach test zero ps h = h
rises_reach test (suc hop) ps h = rises_filter (test hop) (drop 32 (reaching test hop ps)) (rises_drop 32 (reaching test hop ps) (rises_reach test hop ps h))

-- what goes on from a bucket lies above its first pair
above_next : (test : ℕ → Pair → Bool) (hop : ℕ) (ps : List Pair) (p : Pair) (rest : List Pair) → SlotsRise ps → reaching test hop ps ≡ p ∷ rest → Above p.slot (reaching test (suc hop) ps)
above_next test hop ps p rest rises is =
    let risen : SlotsRise (p ∷ rest) = subst (λ xs. SlotsRise xs) is (rises_reach test hop ps rises) in
    above_filter (test hop) p.slot (drop 32 (reaching test hop ps)) (rw is (above_drop 31 p.slot rest risen.0))

above_later : (test : ℕ → Pair → Bool) (hop later : ℕ) (ps : List Pair) (s : ℕ) → Above s (reaching test (suc hop) ps) → hop < later → Above s (reaching test later ps)
above_later test hop zero ps s h k = absurd (omega arith)
above_later test hop (suc later) ps s h k =
    ⊎_elim (λ (here : later ≤ hop). let same : later ≡ hop = omega arith in subst (λ x. Above s (reaching test (suc x) ps)) (sym same) h)
    (λ (on : hop < later). above_filter (test later) s (drop 32 (reaching test later ps)) (above_drop 32 s (reaching test later ps) (above_later test hop later ps s h on))) (order later hop)

-- each pair that reaches a bucket passes the tests before it
abbrev pub AllPass : (Pair → Bool) → List Pair → Type 0
AllPass test [] = ⊤
AllPass test (p ∷ ps) = (test p ≡ true) × AllPass test ps

pass_cons : (test other : Pair → Bool) (p : Pair) (ps : List Pair) (b : Bool) → (b ≡ true → other p ≡ true) → AllPass other ps → AllPass other (cond b (p ∷ ps) ps)
pass_cons test other p ps true keeps all = (keeps refl, all)
pass_cons test other p ps false keeps all = all

pass_filter : (test : Pair → Bool) (ps : List Pair) → AllPass test (filter test ps)
pass_filter test [] = tt
pass_filter test (p ∷ ps) = pass_cons test test p (filter test ps) (test p) (λ e. e) (pass_filter test ps)

pass_keep : (test other : Pair → Bool) (ps : List Pair) → AllPass other ps → AllPass other (filter test ps)
pass_keep test other [] all = tt
pass_keep test other (p ∷ ps) all = pass_cons test other p (filter test ps) (test p) (λ e. all.0) (pass_keep test other ps all.1)

pass_drop : (other : Pair → Bool) (n : ℕ) (ps : List Pair) → AllPass other ps → AllPass other (drop n ps)
pass_drop other zero ps all = all
pass_drop other (suc n) [] all = tt
pass_drop other (suc n) (p ∷ ps) all = pass_drop other n ps all.1

pass_reach : (test : ℕ → Pair → Bool) (hop i : ℕ) (ps : List Pair) → i < hop → AllPass (test i) (reaching test hop ps)
pass_reach test zero i ps h = absurd (omega arith)
pass_reach test (suc hop) i ps h =
    ⊎_elim (λ (here : hop ≤ i). let same : hop ≡ i = omega arith in subst (λ x. AllPass (test x) (reaching test (suc hop) ps)) same (pass_filter (test hop) (drop 32 (reaching test hop ps))))
    (λ (before : i < hop). pass_keep (test hop) (test i) (drop 32 (reaching test hop ps)) (pass_drop (test i) 32 (reaching test hop ps) (pass_reach test hop i ps before))) (order hop i)

head_passes : (test : ℕ → Pair → Bool) (hop i : ℕ) (ps : List Pair) (p : Pair) (rest : List Pair) → reaching test hop ps ≡ p ∷ rest → i < hop → test i p ≡ true
head_passes test hop i ps p rest is h = let all : AllPass (test i) (p ∷ rest) = subst (λ xs. AllPass (test i) xs) is (pass_reach test hop i ps h) in all.0

below_itself : (ps : List Pair) (a b : ℤ) (h k : ℕ) (p : Pair) (xs ys : List Pair) → SlotsRise ps → reaching (goes a) h ps ≡ p ∷ xs → reaching (goes b) k ps ≡ p ∷ ys → h < k → ⊥
below_itself ps a b h k p xs ys rises here there less =
    let same : reaching (goes a) h ps ≡ reaching (goes b) h ps = reach_same a b ps h (λ i j. same_way a b i p (head_passes (goes a) h i ps p xs here j) (head_passes (goes b) k i ps p ys there (omega arith))) in
    let above : Above p.slot (p ∷ ys) = subst (λ xs. Above p.slot xs) there (above_later (goes b) h k ps p.slot (above_next (goes b) h ps p xs rises (sym same ∙ here)) less) in
    let absurdity : p.slot < p.slot = above.0 in
    omega arith

-- two buckets with the same first pair are one
pub apart : (ps : List Pair) (a b : ℤ) (h k : ℕ) (p : Pair) (xs ys : List Pair) → SlotsRise ps → reaching (goes a) h ps ≡ p ∷ xs → reaching (goes b) k ps ≡ p ∷ ys → (h ≡ k) × ((i : ℕ) → i < h → Same a b i)
apart ps a b h k p xs ys rises here there =
    ⊎_elim
    (λ (up : h ≤ k). ⊎_elim
    (λ (down : k ≤ h). let same : h ≡ k = omega arith in (same, λ i j. same_way a b i p (head_passes (goes a) h i ps p xs here j) (head_passes (goes b) k i ps p ys there (omega arith))))
    (λ (less : h < k). absurd (below_itself ps a b h k p xs ys rises here there less)) (order k h))
    (λ (less : k < h). absurd (below_itself ps b a k h p ys xs rises there here less)) (order h k)
