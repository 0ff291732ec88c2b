-- As many slots as keys pass a test, and what each plan may read.
use Rattle.std.proofs.Common.{◌≡◌, ◌≤◌, ◌+◌, ℕ, ℤ, zero, suc, List, [], ◌∷◌, length, get_or, Bool, true, false, cond, refl, arith, ap, ◌∙◌}
use Rattle.std.specs.List.{filter, range_with_len}
use Rattle.db_model.specs.Row.{Row, no_row}
use Rattle.db_model.specs.Step.{keys}
use Rattle.index_set.specs.Complete.{key_at_place}

-- one more on both sides, or on neither
longer : {A B : Type 0} (b : Bool) (x : A) (y : B) (xs : List A) (ys : List B) → length xs ≡ length ys → length (cond b (x ∷ xs) xs) ≡ length (cond b (y ∷ ys) ys)
longer true x y xs ys e = ap suc e
longer false x y xs ys e = e

-- slots counted from one place on are those from the next, moved
moved : (p q : ℕ → Bool) (from n : ℕ) → ((i : ℕ) → p (suc i) ≡ q i) → length (filter p (range_with_len (suc from) n)) ≡ length (filter q (range_with_len from n))
moved p q from zero same = refl
moved p q from (suc n) same = let e : suc from + 1 ≡ suc (from + 1) = omega arith in rw (same from) (longer (q from) (suc from) from (filter p (range_with_len (suc from + 1) n)) (filter q (range_with_len (from + 1) n)) (rw e (moved p q (from + 1) n same)))

-- as many slots as keys pass a test
counted : (test : ℤ → Bool) (attribute : ℕ) (rows : List Row) → length (filter (λ slot. test (key_at_place attribute (get_or rows slot no_row))) (range_with_len 0 (length rows))) ≡ length (filter test (keys attribute rows))
counted test attribute [] = refl
counted test attribute (row ∷ rows) =
    longer (test (key_at_place attribute row)) 0 (key_at_place attribute row) (filter (λ slot. test (key_at_place attribute (get_or (row ∷ rows) slot no_row))) (range_with_len 1 (length rows))) (filter test (keys attribute rows))
    (moved (λ slot. test (key_at_place attribute (get_or (row ∷ rows) slot no_row))) (λ slot. test (key_at_place attribute (get_or rows slot no_row))) 0 (length rows) (λ i. refl) ∙ counted test attribute rows)

-- of fewer slots no more pass
with_one : (b : Bool) (x : ℕ) (xs ys : List ℕ) → length xs ≤ length ys → length (cond b (x ∷ xs) xs) ≤ length (cond b (x ∷ ys) ys)
with_one true x xs ys h = omega (arith, h)
with_one false x xs ys h = h

fewer : (p : ℕ → Bool) (from n m : ℕ) → n ≤ m → length (filter p (range_with_len from n)) ≤ length (filter p (range_with_len from m))
fewer p from zero m h = omega arith
fewer p from (suc n) zero h = absurd (omega (arith, h))
fewer p from (suc n) (suc m) h = with_one (p from) from (filter p (range_with_len (from + 1) n)) (filter p (range_with_len (from + 1) m)) (fewer p (from + 1) n m (omega (arith, h)))

pub few_counted : (test : ℤ → Bool) (attribute : ℕ) (rows : List Row) (slots : ℕ) → slots ≤ length rows → length (filter (λ slot. test (key_at_place attribute (get_or rows slot no_row))) (range_with_len 0 slots)) ≤ length (filter test (keys attribute rows))
few_counted test attribute rows slots h =
    let less = fewer (λ slot. test (key_at_place attribute (get_or rows slot no_row))) 0 slots (length rows) h in
    let same = counted test attribute rows in
    omega (arith, less, same)

at_most_one : (b : Bool) (x n : ℕ) (xs : List ℕ) → length xs ≤ n → length (cond b (x ∷ xs) xs) ≤ n + 1
at_most_one true x n xs h = omega (arith, h)
at_most_one false x n xs h = omega (arith, h)

-- at most all pass
pub all_counted : (p : ℕ → Bool) (from n : ℕ) → length (filter p (range_with_len from n)) ≤ n
all_counted p from zero = omega arith
all_counted p from (suc n) = let e : suc n ≡ n + 1 = omega arith in rw e (at_most_one (p from) from n (filter p (range_with_len (from + 1) n)) (all_counted p (from + 1) n))
