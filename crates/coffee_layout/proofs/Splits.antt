-- A list in front of a place, what stands there, and what stands behind.
use Rattle.std.proofs.Common.{◌≡◌, ℕ, zero, suc, ◌+◌, ◌<◌, List, [], ◌∷◌, ◌++◌, length, take, drop, refl, ap, sym, ◌∙◌, arith, append_assoc}
use Rattle.std.proofs.lemmas.List.{take_at, drop_at, length-append}

pub record Split {A : Type 0} (xs : List A) (i : ℕ) : Type 0 where
  pub front : List A
  pub here : A
  pub rest : List A
  pub whole : xs ≡ front ++ here ∷ rest
  pub size : length front ≡ i

pub split : {A : Type 0} (xs : List A) (i : ℕ) → i < length xs → Split xs i
split [] i h = absurd (omega arith)
split (x ∷ xs) zero h = record { front = []; here = x; rest = xs; whole = refl; size = refl }
split (x ∷ xs) (suc i) h =
    let s = split xs i (omega arith) in
    record { front = x ∷ s.front; here = s.here; rest = s.rest; whole = ap (λ t. x ∷ t) s.whole; size = ap (λ n. suc n) s.size }

pub take_here : {A : Type 0} (front : List A) (x : A) (rest : List A) (i : ℕ) → length front ≡ i → take i (front ++ x ∷ rest) ≡ front
take_here front x rest i e = take_at front (x ∷ rest) i e

pub drop_here : {A : Type 0} (front : List A) (x : A) (rest : List A) (i : ℕ) → length front ≡ i → drop i (front ++ x ∷ rest) ≡ x ∷ rest
drop_here front x rest i e = drop_at front (x ∷ rest) i e

pub take_behind : {A : Type 0} (front : List A) (x : A) (rest : List A) (i : ℕ) → length front ≡ i → take (i + 1) (front ++ x ∷ rest) ≡ front ++ x ∷ []
take_behind {A = A} front x rest i e =
    ap (take (i + 1)) (sym (append_assoc front (x ∷ []) rest)) ∙ take_at (front ++ x ∷ []) rest (i + 1) (omega (arith, length-append front (x ∷ [])))

pub drop_behind : {A : Type 0} (front : List A) (x : A) (rest : List A) (i : ℕ) → length front ≡ i → drop (i + 1) (front ++ x ∷ rest) ≡ rest
drop_behind front x rest i e =
    ap (drop (i + 1)) (sym (append_assoc front (x ∷ []) rest)) ∙ drop_at (front ++ x ∷ []) rest (i + 1) (omega (arith, length-append front (x ∷ [])))
