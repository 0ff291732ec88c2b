use Rattle.std.proofs.Common.{◌≡◌, ℕ, zero, suc, ◌+◌, ◌<◌, ◌≤◌, Bool, true, false, cond, List, [], ◌∷◌, ◌++◌, refl, ap, arith, Some, slice_get, ◌∙◌, ◌⊎◌, ⊎_elim, inl, inr, if◌then◌else◌}
use Rattle.std.specs.Prelude.{ℤ, pos, ◌+ℤ◌, ◌≤ℤ◌, ◌<ℤ◌, int_le, int_lt}
use Rattle.std.proofs.lemmas.Int.{ints}
use Rattle.db_model.specs.Answers.{placed, rising}
use Rattle.aggregate.specs.Order.{up_to, below}

-- m is at most each number
abbrev pub AtMostEach : ℤ → List ℤ → Type 0
AtMostEach m [] = Unit {0}
AtMostEach m (x ∷ xs) = (m ≤ℤ x) × AtMostEach m xs

abbrev pub Rises : List ℤ → Type 0
Rises [] = Unit {0}
Rises (x ∷ xs) = AtMostEach x xs × Rises xs

le_true : (a b : ℤ) → int_le a b ≡ true → a ≤ℤ b
le_true a b h = grind (arith, ints)

le_false : (a b : ℤ) → int_le a b ≡ false → b <ℤ a
le_false a b h = grind (arith, ints)

lt_true : (a b : ℤ) → int_lt a b ≡ true → a <ℤ b
lt_true a b h = grind (arith, ints)

lt_false : (a b : ℤ) → int_lt a b ≡ false → b ≤ℤ a
lt_false a b h = grind (arith, ints)

is_le : (a b : ℤ) → a ≤ℤ b → int_le a b ≡ true
is_le a b h = grind (arith, ints)

not_le : (a b : ℤ) → b <ℤ a → int_le a b ≡ false
not_le a b h = grind (arith, ints)

pub is_lt : (a b : ℤ) → a <ℤ b → int_lt a b ≡ true
is_lt a b h = grind (arith, ints)

pub not_lt : (a b : ℤ) → b ≤ℤ a → int_lt a b ≡ false
not_lt a b h = grind (arith, ints)

int_cases : (a b : ℤ) → (a <ℤ b) ⊎ (b ≤ℤ a)
int_cases a b = by_test (int_lt a b) refl
  where
    by_test : (t : Bool) → int_lt a b ≡ t → (a <ℤ b) ⊎ (b ≤ℤ a)
    by_test true e = inl (lt_true a b e)
    by_test false e = inr (lt_false a b e)

equal_z : (a b : ℤ) → a ≤ℤ b → b ≤ℤ a → a ≡ b
equal_z a b h k = omega (arith, ints)

AtMostEach-lower : (a b : ℤ) (xs : List ℤ) → a ≤ℤ b → AtMostEach b xs → AtMostEach a xs
AtMostEach-lower a b [] h s = tt
AtMostEach-lower a b (x ∷ xs) h s = (let k : b ≤ℤ x = s.0 in omega (arith, ints), AtMostEach-lower a b xs h s.1)

AtMostEach-insert : (m x : ℤ) (ys : List ℤ) → m ≤ℤ x → AtMostEach m ys → AtMostEach m (placed x ys)
AtMostEach-insert m x [] h s = (h, tt)
AtMostEach-insert m x (y ∷ ys) h s = elim (int_le x y) as (λ b. AtMostEach m (cond b (x ∷ (y ∷ ys)) (y ∷ placed x ys))) [ true ↦ (h, s) | false ↦ (s.0, AtMostEach-insert m x ys h s.1) ]

rises_inserted : (x y : ℤ) (ys : List ℤ) (b : Bool) → int_le x y ≡ b → Rises (y ∷ ys) → Rises (placed x ys) → Rises (cond b (x ∷ (y ∷ ys)) (y ∷ placed x ys))
rises_inserted x y ys true e s r = ((le_true x y e, AtMostEach-lower x y ys (le_true x y e) s.0), s)
rises_inserted x y ys false e s r = (AtMostEach-insert y x ys (let l : y <ℤ x = le_false x y e in omega (arith, ints)) s.0, r)

Rises-insert : (x : ℤ) (ys : List ℤ) → Rises ys → Rises (placed x ys)
Rises-insert x [] s = (tt, tt)
Rises-insert x (y ∷ ys) s = rises_inserted x y ys (int_le x y) refl s (Rises-insert x ys s.1)

pub Rises-rising : (xs : List ℤ) → Rises (rising xs)
Rises-rising [] = tt
Rises-rising (x ∷ xs) = Rises-insert x (rising xs) (Rises-rising xs)

swap_counts : (a b c : ℕ) → a + (b + c) ≡ b + (a + c)
swap_counts a b c = omega arith

up_to-insert : (m x : ℤ) (ys : List ℤ) → up_to m (placed x ys) ≡ up_to m (x ∷ ys)
up_to-insert m x [] = refl
up_to-insert m x (y ∷ ys) = elim (int_le x y) as (λ b. up_to m (cond b (x ∷ (y ∷ ys)) (y ∷ placed x ys)) ≡ up_to m (x ∷ (y ∷ ys))) [
  | true ↦ refl
  | false ↦ ap (λ n. (if int_le y m then 1 else 0) + n) (up_to-insert m x ys) ∙ swap_counts (if int_le y m then 1 else 0) (if int_le x m then 1 else 0) (up_to m ys)
]

below-insert : (m x : ℤ) (ys : List ℤ) → below m (placed x ys) ≡ below m (x ∷ ys)
below-insert m x [] = refl
below-insert m x (y ∷ ys) = elim (int_le x y) as (λ b. below m (cond b (x ∷ (y ∷ ys)) (y ∷ placed x ys)) ≡ below m (x ∷ (y ∷ ys))) [
  | true ↦ refl
  | false ↦ ap (λ n. (if int_lt y m then 1 else 0) + n) (below-insert m x ys) ∙ swap_counts (if int_lt y m then 1 else 0) (if int_lt x m then 1 else 0) (below m ys)
]

pub up_to-rising : (m : ℤ) (xs : List ℤ) → up_to m (rising xs) ≡ up_to m xs
up_to-rising m [] = refl
up_to-rising m (x ∷ xs) = up_to-insert m x (rising xs) ∙ ap (λ n. (if int_le x m then 1 else 0) + n) (up_to-rising m xs)

pub below-rising : (m : ℤ) (xs : List ℤ) → below m (rising xs) ≡ below m xs
below-rising m [] = refl
below-rising m (x ∷ xs) = below-insert m x (rising xs) ∙ ap (λ n. (if int_lt x m then 1 else 0) + n) (below-rising m xs)

pub below-least : (m : ℤ) (xs : List ℤ) → AtMostEach m xs → below m xs ≡ 0
below-least m [] s = refl
below-least m (x ∷ xs) s = let e : int_lt x m ≡ false = not_lt x m s.0 in ap (λ b. (if b then 1 else 0) + below m xs) e ∙ (let r : below m xs ≡ 0 = below-least m xs s.1 in omega arith)

up_to-above : (m y : ℤ) (xs : List ℤ) → m <ℤ y → AtMostEach y xs → up_to m xs ≡ 0
up_to-above m y [] h s = refl
up_to-above m y (x ∷ xs) h s =
    let k : y ≤ℤ x = s.0 in
    let l : m <ℤ x = omega (arith, ints) in
    let e : int_le x m ≡ false = not_le x m l in
    let r : up_to m xs ≡ 0 = up_to-above m y xs h s.1 in
    ap (λ b. (if b then 1 else 0) + up_to m xs) e ∙ omega arith

-- One step: the head is below m, is m, or is above it.
counted_at : (m y : ℤ) (ys : List ℤ) (k : ℕ) (lt le : Bool) → int_lt y m ≡ lt → int_le y m ≡ le → AtMostEach y ys
    → (if lt then 1 else 0) + below m ys ≤ k → k < (if le then 1 else 0) + up_to m ys
    → ((j : ℕ) → below m ys ≤ j → j < up_to m ys → slice_get ys j ≡ Some m)
    → slice_get (y ∷ ys) k ≡ Some m
counted_at m y ys zero true le e f s lo hi rest = absurd (omega arith)
counted_at m y ys zero false true e f s lo hi rest = ap (λ z. Some z) (equal_z y m (le_true y m f) (lt_false y m e))
counted_at m y ys zero false false e f s lo hi rest = let g : up_to m ys ≡ 0 = up_to-above m y ys (le_false y m f) s in absurd (omega arith)
counted_at m y ys (suc j) true true e f s lo hi rest = rest j (omega arith) (omega arith)
counted_at m y ys (suc j) true false e f s lo hi rest = let a : y <ℤ m = lt_true y m e in let b : m <ℤ y = le_false y m f in absurd (omega (arith, ints))
counted_at m y ys (suc j) false true e f s lo hi rest =
    let g : below m ys ≡ 0 = below-least m ys (AtMostEach-lower m y ys (lt_false y m e) s) in
    rest j (omega arith) (omega arith)
counted_at m y ys (suc j) false false e f s lo hi rest = let g : up_to m ys ≡ 0 = up_to-above m y ys (le_false y m f) s in absurd (omega arith)

counted : (m : ℤ) (ys : List ℤ) (k : ℕ) → Rises ys → below m ys ≤ k → k < up_to m ys → slice_get ys k ≡ Some m
counted m [] k s lo hi = absurd (omega arith)
counted m (y ∷ ys) k s lo hi = counted_at m y ys k (int_lt y m) (int_le y m) refl refl s.0 lo hi (λ j l h. counted m ys j s.1 l h)

-- The number at place k in rising order is the one that at most k numbers are below, and more than k at most.
pub rising-at : (m : ℤ) (xs : List ℤ) (k : ℕ) → below m xs ≤ k → k < up_to m xs → slice_get (rising xs) k ≡ Some m
rising-at m xs k lo hi = counted m (rising xs) k (Rises-rising xs) (rw (below-rising m xs) lo) (rw (up_to-rising m xs) hi)

-- what is below the next number is at most this one
step_test : (x m : ℤ) → int_lt x (m +ℤ pos 1) ≡ int_le x m
step_test x m = grind (arith, ints)

pub below-next : (m : ℤ) (xs : List ℤ) → below (m +ℤ pos 1) xs ≡ up_to m xs
below-next m [] = refl
below-next m (x ∷ xs) = rw (step_test x m, below-next m xs) refl

-- more numbers are below a greater bound
below_step : (a b x : ℤ) → a ≤ℤ b → (if int_lt x a then 1 else 0) ≤ (if int_lt x b then 1 else 0)
below_step a b x h = ⊎_elim
    (λ (l : x <ℤ a). let e = is_lt x a l in let f = is_lt x b (omega (arith, ints, l)) in rw (e, f) (omega arith))
    (λ (l : a ≤ℤ x). let e = not_lt x a l in rw e (omega arith))
    (int_cases x a)

pub below-order : (a b : ℤ) (xs : List ℤ) → a ≤ℤ b → below a xs ≤ below b xs
below-order a b [] h = omega arith
below-order a b (x ∷ xs) h = omega (arith, below_step a b x h, below-order a b xs h)

pub below-append : (m : ℤ) (xs : List ℤ) (x : ℤ) → below m (xs ++ x ∷ []) ≡ below m xs + (if int_lt x m then 1 else 0)
below-append m [] x = omega arith
below-append m (y ∷ ys) x = let r : below m (ys ++ x ∷ []) ≡ below m ys + (if int_lt x m then 1 else 0) = below-append m ys x in omega arith
