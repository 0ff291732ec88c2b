-- The least and the greatest of some numbers, and how many numbers they leave on either side.
use Rattle.std.proofs.Common.{◌≡◌, ◌+◌, ◌<◌, List, [], ◌∷◌, length, Some, None, refl, ap, ◌∙◌, subst, arith, true, if◌then◌else◌}
use Rattle.std.specs.Prelude.{ℤ, ◌≤ℤ◌, int_le}
use Rattle.std.specs.Int.{int_min, int_max}
use Rattle.std.specs.List.{fold}
use Rattle.std.proofs.lemmas.Int.{ints, clamps}
use Rattle.db_model.specs.declared.commands.Agg.{Agg}
use Rattle.aggregate.specs.Ends.{AreEnds, lesser, greater}
use Rattle.aggregate.specs.Limits.{least_sum, greatest_sum}
use Rattle.std.specs.Prelude.{Option}
use Rattle.db_model.specs.Answers.{least, greatest}
use Rattle.aggregate.specs.Order.{up_to, below}
use Rattle.aggregate.proofs.Rising.{AtMostEach, below-least}

fold_min-le : (a : ℤ) (xs : List ℤ) → AtMostEach (fold int_min a xs) (a ∷ xs)
fold_min-le a [] = (omega (arith, ints), tt)
fold_min-le a (x ∷ xs) =
    let ih : AtMostEach (fold int_min (int_min a x) xs) (int_min a x ∷ xs) = fold_min-le (int_min a x) xs in
    let h : fold int_min (int_min a x) xs ≤ℤ int_min a x = ih.0 in
    (omega (arith, ints, clamps), (omega (arith, ints, clamps), ih.1))

-- each number is at most m
AtLeastEach : ℤ → List ℤ → Type 0
AtLeastEach m [] = Unit {0}
AtLeastEach m (x ∷ xs) = (x ≤ℤ m) × AtLeastEach m xs

fold_max-ge : (a : ℤ) (xs : List ℤ) → AtLeastEach (fold int_max a xs) (a ∷ xs)
unfolding AtLeastEach
fold_max-ge a [] = (omega (arith, ints), tt)
fold_max-ge a (x ∷ xs) =
    let ih : AtLeastEach (fold int_max (int_max a x) xs) (int_max a x ∷ xs) = fold_max-ge (int_max a x) xs in
    let h : int_max a x ≤ℤ fold int_max (int_max a x) xs = ih.0 in
    (omega (arith, ints, clamps), (omega (arith, ints, clamps), ih.1))

up_to-greatest : (m : ℤ) (xs : List ℤ) → AtLeastEach m xs → up_to m xs ≡ length xs
unfolding AtLeastEach
up_to-greatest m [] s = refl
up_to-greatest m (x ∷ xs) s =
    let h : x ≤ℤ m = s.0 in
    let e : int_le x m ≡ true = grind (arith, ints) in
    let r : up_to m xs ≡ length xs = up_to-greatest m xs s.1 in
    ap (λ b. (if b then 1 else 0) + up_to m xs) e ∙ omega arith

-- no number is below the least
pub below-the_least : (ns : List ℤ) (m : ℤ) → least ns ≡ Some m → below m ns ≡ 0
below-the_least [] m e = cc
below-the_least (n ∷ ns) m e = let f : fold int_min n ns ≡ m = cc in below-least m (n ∷ ns) (subst (λ z. AtMostEach z (n ∷ ns)) f (fold_min-le n ns))

-- each number is at most the greatest
pub up_to-the_greatest : (ns : List ℤ) (m : ℤ) → greatest ns ≡ Some m → up_to m ns ≡ length ns
unfolding AtLeastEach
up_to-the_greatest [] m e = cc
up_to-the_greatest (n ∷ ns) m e = let f : fold int_max n ns ≡ m = cc in up_to-greatest m (n ∷ ns) (subst (λ z. AtLeastEach z (n ∷ ns)) f (fold_max-ge n ns))

pub length-the_least : (ns : List ℤ) (m : ℤ) → least ns ≡ Some m → 0 < length ns
length-the_least [] m e = cc
length-the_least (n ∷ ns) m e = omega arith

-- what the ends say where there are some
pub ends-are : (agg : Agg) (l g : Option ℤ) (a b : ℤ) → l ≡ Some a → g ≡ Some b → AreEnds agg l g → (least_sum agg ≤ℤ a) × (a ≤ℤ b) × (b ≤ℤ greatest_sum agg)
ends-are agg l g a b e f h = rw (e, f) at h

-- one more number that the aggregate takes
pub AreEnds-more : (agg : Agg) (l g : Option ℤ) (n : ℤ) → least_sum agg ≤ℤ n → n ≤ℤ greatest_sum agg → AreEnds agg l g → AreEnds agg (lesser l n) (greater g n)
AreEnds-more agg None None n a b h = (a, omega (arith, ints), b)
AreEnds-more agg (Some l) (Some g) n a b h =
    let low : least_sum agg ≤ℤ l = h.0 in
    let mid : l ≤ℤ g = h.1 in
    let high : g ≤ℤ greatest_sum agg = h.2 in
    (omega (arith, ints, clamps), omega (arith, ints, clamps), omega (arith, ints, clamps))
AreEnds-more agg None (Some g) n a b h = absurd h
AreEnds-more agg (Some l) None n a b h = absurd h
