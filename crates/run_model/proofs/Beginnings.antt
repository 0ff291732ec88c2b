-- Two fronts of one list.
use Rattle.std.proofs.Common.{◌≡◌, ◌<◌, List, [], ◌∷◌, ◌++◌, length, ap, sym, ◌∙◌, arith}

unfoldable pub head_of : {X : Type 0} → X → List X → X
head_of d [] = d
head_of d (x ∷ xs) = x

unfoldable pub tail_of : {X : Type 0} → List X → List X
tail_of [] = []
tail_of (x ∷ xs) = xs

-- of two fronts of a list the shorter one and the next item begin the longer one
pub record Begins {X : Type 0} (xs ys : List X) (x : X) : Type 0 where
  pub mid : List X
  pub is : ys ≡ (xs ++ x ∷ []) ++ mid

pub begins : {X : Type 0} (xs ys : List X) (x y : X) (us vs : List X) → xs ++ x ∷ us ≡ ys ++ y ∷ vs → length xs < length ys → Begins xs ys x
unfolding head_of tail_of
begins [] [] x y us vs same less = absurd (omega (arith, less))
begins [] (b ∷ ys) x y us vs same less = record { mid = ys; is = ap (λ h. h ∷ ys) (sym (ap (head_of x) same)) }
begins (a ∷ xs) [] x y us vs same less = absurd (omega (arith, less))
begins (a ∷ xs) (b ∷ ys) x y us vs same less = more (begins xs ys x y us vs (ap tail_of same) (omega (arith, less)))
  where
    more : Begins xs ys x → Begins (a ∷ xs) (b ∷ ys) x
    more r = record { mid = r.mid; is = ap (λ h. h ∷ ys) (sym (ap (head_of a) same)) ∙ ap (λ t. a ∷ t) r.is }
