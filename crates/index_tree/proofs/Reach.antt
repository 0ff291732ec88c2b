use Rattle.std.proofs.lemmas.Grind.{common_steps}
use Rattle.std.proofs.Common.{◌≡◌, ◌≤◌, ◌<◌, ◌+◌, ◌-◌, ◌*◌, ℕ, zero, suc, List, [], ◌∷◌, ◌++◌, length, drop, Bool, true, false, cond, refl, arith, ap, ◌∙◌, sym, add-one, length-append}
use Rattle.std.specs.List.{filter}
use Rattle.std.proofs.lemmas.List.{drop-append-le, drop_all, length-drop}
use Rattle.std.proofs.lemmas.List.Elements.{filter-append}
use Rattle.db_model.proofs.Standing.{false_true as no_truth}
use Rattle.index_tree.specs.Pairs.{reaching, sifted}
use Rattle.index_tree.specs.Places.{IsPlace, ahead_of_place}
use Rattle.padded.proofs.Facts.{filter_few}

weaker_step : {P : Type 0} (mine test : P → Bool) (p : P) (xs ys : List P) (a b : Bool) → filter mine xs ≡ ys → mine p ≡ a → test p ≡ b → (a ≡ true → b ≡ true) → filter mine (cond b (p ∷ xs) xs) ≡ cond a (p ∷ ys) ys
weaker_step mine test p xs ys true true e m t w = rw m (ap (λ zs. p ∷ zs) e)
weaker_step mine test p xs ys true false e m t w = absurd (no_truth (w refl))
weaker_step mine test p xs ys false true e m t w = rw m e
weaker_step mine test p xs ys false false e m t w = e

-- a weaker test takes nothing away
pub filter_weaker : {P : Type 0} (mine test : P → Bool) → ((p : P) → mine p ≡ true → test p ≡ true) → (ps : List P) → filter mine (filter test ps) ≡ filter mine ps
filter_weaker mine test weaker [] = refl
filter_weaker mine test weaker (p ∷ ps) =
    weaker_step mine test p (filter test ps) (filter mine ps) (mine p) (test p) (filter_weaker mine test weaker ps) refl refl (weaker p)

-- a place at the end of a full bucket is one at the start of the next
pub ahead_hop : {P : Type 0} (mine : P → Bool) (test : ℕ → P → Bool) → ((hop : ℕ) (p : P) → mine p ≡ true → test hop p ≡ true) → (ps : List P) (hop : ℕ) → ahead_of_place mine test ps hop 32 ≡ ahead_of_place mine test ps (hop + 1) 0
ahead_hop mine test goes ps hop = rw add-one (sym (filter_weaker mine (test hop) (goes hop) (drop 32 (reaching test hop ps))))

pub sifted-mine : {P : Type 0} (mine : P → Bool) (test : ℕ → P → Bool) → ((hop : ℕ) (p : P) → mine p ≡ true → test hop p ≡ true) → (hop : ℕ) (ps : List P) → filter mine (sifted test hop ps) ≡ filter mine ps
sifted-mine mine test goes zero ps = refl
sifted-mine mine test goes (suc hop) ps = filter_weaker mine (test hop) (goes hop) (sifted test hop ps) ∙ sifted-mine mine test goes hop ps

-- later pairs go behind all that reaches a bucket
pub reach-append : {P : Type 0} (test : ℕ → P → Bool) (ps qs : List P) (hop : ℕ) → ((i : ℕ) → i < hop → 32 ≤ length (reaching test i ps)) → reaching test hop (ps ++ qs) ≡ reaching test hop ps ++ sifted test hop qs
reach-append test ps qs zero full = refl
reach-append test ps qs (suc hop) full =
    ap (λ xs. filter (test hop) (drop 32 xs)) (reach-append test ps qs hop (λ i h. full i (omega arith)))
    ∙ ap (filter (test hop)) (drop-append-le 32 (reaching test hop ps) (sifted test hop qs) (full hop (omega arith)))
    ∙ filter-append (test hop) (drop 32 (reaching test hop ps)) (sifted test hop qs)

-- later pairs of the key come behind those that were ahead
pub ahead-append : {P : Type 0} (mine : P → Bool) (test : ℕ → P → Bool) → ((hop : ℕ) (p : P) → mine p ≡ true → test hop p ≡ true) → (ps qs : List P) (hop pair : ℕ) → IsPlace test ps hop pair → ahead_of_place mine test (ps ++ qs) hop pair ≡ ahead_of_place mine test ps hop pair ++ filter mine qs
ahead-append mine test goes ps qs hop pair place = grind (arith, common_steps, reach-append, drop-append-le, filter-append, sifted-mine)

pub reach-longer : {P : Type 0} (test : ℕ → P → Bool) (ps qs : List P) (hop : ℕ) → ((i : ℕ) → i < hop → 32 ≤ length (reaching test i ps)) → length (reaching test hop ps) ≤ length (reaching test hop (ps ++ qs))
reach-longer test ps qs hop full = rw (reach-append test ps qs hop full) (rw (length-append (reaching test hop ps) (sifted test hop qs)) (omega arith))

-- a place stays good through later inserts
pub place-append : {P : Type 0} (test : ℕ → P → Bool) (ps qs : List P) (hop pair : ℕ) → IsPlace test ps hop pair → IsPlace test (ps ++ qs) hop pair
place-append test ps qs hop pair place = record {
  full = λ i h. let more = reach-longer test ps qs i (λ j k. place.full j (omega arith)) in let now = place.full i h in omega arith;
  within = let more = reach-longer test ps qs hop place.full in let now = place.within in omega arith;
  short = place.short;
}

-- nothing is ahead at the end of a bucket that is not full
pub ahead_end : {P : Type 0} (mine : P → Bool) (test : ℕ → P → Bool) (ps : List P) (hop pair : ℕ) → length (reaching test hop ps) ≤ pair → ahead_of_place mine test ps hop pair ≡ []
ahead_end mine test ps hop pair h = ap (filter mine) (drop_all pair (reaching test hop ps) h)

-- the first place has all pairs of the key ahead: the pairs of a key along its path are all its pairs, in order
pub ahead_first : {P : Type 0} (mine : P → Bool) (test : ℕ → P → Bool) (ps : List P) → ahead_of_place mine test ps 0 0 ≡ filter mine ps
ahead_first mine test ps = refl

-- each full bucket takes 32 pairs from those that go on
pub deep : {P : Type 0} (test : ℕ → P → Bool) (ps : List P) (hop : ℕ) → ((i : ℕ) → i < hop → 32 ≤ length (reaching test i ps)) → 32 * hop + length (reaching test hop ps) ≤ length ps
deep test ps zero full = omega arith
deep test ps (suc hop) full =
    let before : 32 * hop + length (reaching test hop ps) ≤ length ps = deep test ps hop (λ i h. full i (omega arith)) in
    let enough : 32 ≤ length (reaching test hop ps) = full hop (omega arith) in
    let less : length (filter (test hop) (drop 32 (reaching test hop ps))) ≤ length (drop 32 (reaching test hop ps)) = filter_few (test hop) (drop 32 (reaching test hop ps)) in
    let cut : length (drop 32 (reaching test hop ps)) ≡ length (reaching test hop ps) - 32 = length-drop 32 (reaching test hop ps) in
    omega arith
