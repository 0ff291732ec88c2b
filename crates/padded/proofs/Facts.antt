-- Small facts on truth, numbers, options, lists and results that many proofs need.
use Rattle.std.proofs.Common.{◌≡◌, ℕ, zero, suc, ◌+◌, ◌-◌, ◌*◌, ◌≤◌, ◌<◌, ◌⊎◌, inl, inr, Bool, true, false, ◌&&◌, ◌||◌, ◌==◌, not, cond, if◌then◌else◌, List, [], ◌∷◌, ◌++◌, take, drop, drop-cons, length, map, filter, get_or, replicate, Option, Some, None, option_map, refl, sym, ap, ◌∙◌, add-one, arith}
use Rattle.std.specs.Prelude.{IsErrAnd, Result, Ok, Err, OnErr, is_some, nat_le, nat_lt, slice_range}
use Rattle.std.specs.Int.{byte_at, from_bool}
use Rattle.std.specs.List.{list_all, AllByRecursion}
use Rattle.std.specs.Str.{bytes_eq}
use Rattle.std.proofs.lemmas.Slice.Eq.{bytes_eq-Decides}
use Rattle.std.proofs.lemmas.Bool.Decides.{nat_tests}
use Rattle.std.proofs.lemmas.List.{drop-append-le, length-drop, take-append-le}

-- ---- truth

pub both_parts : (a b : Bool) → (a && b) ≡ true → (a ≡ true) × (b ≡ true)
both_parts true b e = (refl, e)
both_parts false b e = cc

pub both_true : (a b : Bool) → a ≡ true → b ≡ true → (a && b) ≡ true
both_true true b e f = f
both_true false b e f = e

pub first_part : (a b : Bool) → (a && b) ≡ true → a ≡ true
first_part true b e = refl
first_part false b e = absurd (cc)

pub second_part : (a b : Bool) → (a && b) ≡ true → b ≡ true
second_part true b e = e
second_part false b e = absurd (cc)

pub either_part : (a b : Bool) → (a || b) ≡ true → (a ≡ true) ⊎ (b ≡ true)
either_part true b e = inl refl
either_part false b e = inr e

pub neither : (a b : Bool) → a || b ≡ false → (a ≡ false) × (b ≡ false)
neither true b e = cc
neither false b e = (refl, e)

pub neither_left : (a b : Bool) → (a || b) ≡ false → a ≡ false
neither_left true b h = h
neither_left false b h = refl

pub neither_right : (a b : Bool) → (a || b) ≡ false → b ≡ false
neither_right true b h = cc
neither_right false b h = h

pub either_right : (a b : Bool) → b ≡ true → (a || b) ≡ true
either_right true b h = refl
either_right false b h = h

pub other_side : (a b : Bool) → a ≡ false → a || b ≡ true → b ≡ true
other_side true b e f = cc
other_side false b e f = f

pub false_right : (a b : Bool) → b ≡ false → (a && b) ≡ false
false_right true b e = e
false_right false b e = refl

pub not_alone : (a b : Bool) → a && not b ≡ false → b ≡ false → a ≡ false
not_alone true true e f = cc
not_alone true false e f = cc
not_alone false b e f = refl

pub false_by : (b : Bool) → (b ≡ true → ⊥) → b ≡ false
false_by true h = absurd (h refl)
false_by false h = refl

pub true_or_false : (b : Bool) → (b ≡ true) ⊎ (b ≡ false)
true_or_false true = inl refl
true_or_false false = inr refl

pub yes_no : {A : Type 0} (b : Bool) → b ≡ true → b ≡ false → A
yes_no true e f = cc
yes_no false e f = cc

pub by_truth : {P : Type 0} (b : Bool) → (b ≡ true → P) → (b ≡ false → P) → P
by_truth true f g = f refl
by_truth false f g = g refl

pub not_not : (b : Bool) → not b ≡ false → b ≡ true
not_not true e = refl
not_not false e = absurd (cc)

pub untrue : (b : Bool) → not b ≡ true → b ≡ false
untrue false e = refl
untrue true e = cc

pub false_true : (t : Bool) → t ≡ false → t ≡ true → ⊥
false_true t e f = let n : false ≡ true = sym e ∙ f in cc

pub either_way : {A : Type 0} (b : Bool) (x : A) → (if b then x else x) ≡ x
either_way true x = refl
either_way false x = refl

pub bool_below : (b : Bool) → from_bool b ≤ 1
bool_below true = omega arith
bool_below false = omega arith

-- ---- numbers

pub zero_or_more : (n : ℕ) → (n ≡ 0) ⊎ (0 < n)
zero_or_more zero = inl refl
zero_or_more (suc n) = inr (omega arith)

pub suc_not_zero : (b : ℕ) → (suc b == 0) ≡ false
suc_not_zero b = grind (arith, nat_tests)

pub one_more_times : (pass cost : ℕ) → (pass + 1) * cost ≡ pass * cost + cost
one_more_times pass cost = grind arith

pub le_true : (a b : ℕ) → a ≤ b → nat_le a b ≡ true
le_true a b h = grind (arith, nat_tests)

pub lt_true : (a b : ℕ) → a < b → nat_lt a b ≡ true
lt_true a b h = grind (arith, nat_tests)

pub lt_false : (a b : ℕ) → b ≤ a → nat_lt a b ≡ false
lt_false a b h = grind (arith, nat_tests)

pub true_le : (m n : ℕ) → nat_le m n ≡ true → m ≤ n
true_le m n h = grind (arith, nat_tests)

pub eq_true : (m n : ℕ) → m ≡ n → m == n ≡ true
eq_true m n h = grind (arith, nat_tests)

pub true_eq : (m n : ℕ) → m == n ≡ true → m ≡ n
true_eq m n h = grind (arith, nat_tests)

pub neither_less : (a b : ℕ) → (a < b → ⊥) → (b < a → ⊥) → a ≡ b
neither_less a b f g = grind (arith, f, g)

pub byte_small : (at n : ℕ) → byte_at at n < 256
byte_small zero n = omega arith
byte_small (suc at) n = omega arith

-- ---- options

pub some_same : {A : Type 0} (a b : A) → Some a ≡ Some b → a ≡ b
some_same a b e = cc

pub some_alike : {A : Type 0} {x y : A} → Some x ≡ Some y → x ≡ y
some_alike e = cc

pub none_some : {A : Type 0} (x : A) → None ≡ Some x → ⊥
none_some x e = cc

pub never_some : {A : Type 0} {x : A} → None ≡ Some x → ⊥
never_some e = cc

pub none_is_some : {X : Type 0} {x : X} {o : Option X} → o ≡ None → o ≡ Some x → ⊥
none_is_some {x = x} none some = let e : None ≡ Some x = sym none ∙ some in let n : ⊥ = cc in n

pub some_found : {A : Type 0} (o : Option A) → is_some o ≡ true → (x : A) × (o ≡ Some x)
some_found None e = cc
some_found (Some x) e = (x, refl)

-- what is seen at a place of a list of options
pub seen_at : {A B : Type 0} (f : A → B) (xs : List (Option A)) (i : ℕ) → get_or (map (option_map f) xs) i None ≡ option_map f (get_or xs i None)
seen_at f [] i = refl
seen_at f (o ∷ xs) zero = refl
seen_at f (o ∷ xs) (suc i) = seen_at f xs i

pub none_there : {A : Type 0} (n k : ℕ) → get_or (replicate {A = Option A} n None) k None ≡ None
none_there zero k = refl
none_there (suc n) zero = refl
none_there (suc n) (suc k) = none_there n k

pub some_inside : {A : Type 0} (xs : List (Option A)) (i : ℕ) (x : A) → get_or xs i None ≡ Some x → i < length xs
some_inside [] i x e = absurd (cc)
some_inside (o ∷ xs) zero x e = omega arith
some_inside (o ∷ xs) (suc i) x e = omega (arith, some_inside xs i x e)

-- ---- lists

filter_step : {A : Type 0} (t : Bool) (x : A) (xs : List A) (n : ℕ) → length xs ≤ n → length (if t then x ∷ xs else xs) ≤ suc n
filter_step true x xs n h = omega arith
filter_step false x xs n h = omega arith

pub filter_few : {A : Type 0} (test : A → Bool) (xs : List A) → length (filter test xs) ≤ length xs
filter_few test [] = omega arith
filter_few test (x ∷ xs) = filter_step (test x) x (filter test xs) (length xs) (filter_few test xs)

pub all_zeros : (k : ℕ) → list_all (λ b. b == 0) (replicate k 0) ≡ true
all_zeros zero = refl
all_zeros (suc k) = all_zeros k

pub bytes_eq_same : (m n : List ℕ) → m ≡ n → bytes_eq m n ≡ true
bytes_eq_same m n e = (bytes_eq-Decides m n).1 e

pub slice_of_front : (xs ys : List ℕ) (a b : ℕ) → a ≤ b → b ≤ length xs → slice_range (xs ++ ys) a b ≡ slice_range xs a b
slice_of_front xs ys a b order inside =
    ap (take (b - a)) (drop-append-le a xs ys (omega (arith, order, inside)))
    ∙ take-append-le (b - a) (drop a xs) ys (omega (arith, length-drop a xs, order, inside))

pub drop_item : {X : Type 0} (xs : List X) (i : ℕ) (x : X) → i < length xs → x ≡ get_or xs i x → drop i xs ≡ x ∷ drop (i + 1) xs
drop_item xs i x inside is = drop-cons xs i x inside ∙ ap (λ y. y ∷ drop (suc i) xs) (sym is) ∙ ap (λ n. x ∷ drop n xs) (sym (add-one i))

pub cond_alike : (b c : Bool) → b ≡ c → (a : ℕ) (xs ys : List ℕ) → xs ≡ ys → cond b (a ∷ xs) xs ≡ cond c (a ∷ ys) ys
cond_alike true true e a xs ys same = ap (λ (zs : List ℕ). a ∷ zs) same
cond_alike false false e a xs ys same = same
cond_alike true false e a xs ys same = absurd (cc)
cond_alike false true e a xs ys same = absurd (cc)

pub all_front : {A : Type 0} (P : A → Type 0) (xs ys : List A) → AllByRecursion P (xs ++ ys) → AllByRecursion P xs
all_front P [] ys h = tt
all_front P (x ∷ xs) ys h = (h.0, all_front P xs ys h.1)

pub all_append : {A : Type 0} (P : A → Type 0) (xs ys : List A) → AllByRecursion P xs → AllByRecursion P ys → AllByRecursion P (xs ++ ys)
all_append P [] ys h i = i
all_append P (x ∷ xs) ys h i = (h.0, all_append P xs ys h.1 i)

-- ---- results

-- what holds anyhow holds where there is an error: for the exits of `?`
pub on_err : {T E P : Type 0} (r : Result T E) → P → OnErr r P
on_err (Ok x) p = tt
on_err (Err e) p = p

pub err_is : {T E : Type 0} (r : Result T E) (e : E) → IsErrAnd r (λ y. y ≡ e) → r ≡ Err e
err_is (Ok x) e is = absurd is
err_is (Err y) e is = ap Err is
