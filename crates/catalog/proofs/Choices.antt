-- What an answer that is Some where a test passes says of the test, and the other way round.
use Rattle.std.proofs.Common.{◌≡◌, ℕ, Bool, true, false, ◌&&◌, refl, ap, arith, Some, None}
use Rattle.std.specs.Prelude.{◌==◌, if◌then◌else◌, not}
use Rattle.std.specs.Bool.{then_some}
use Rattle.std.proofs.lemmas.Bool.Decides.{nat_tests}

pub some_if : {X : Type 0} (b : Bool) (a x : X) → Some a ≡ (if b then Some x else None) → (b ≡ true) × (a ≡ x)
some_if true a x e = (refl, cc)
some_if false a x e = absurd (cc)

pub none_if : {X : Type 0} (b : Bool) (x : X) → None ≡ (if b then Some x else None) → b ≡ false
none_if true x e = absurd (cc)
none_if false x e = refl

pub if_some : {X : Type 0} (b : Bool) (a x : X) → b ≡ true → a ≡ x → Some a ≡ (if b then Some x else None)
if_some true a x e f = ap (λ y. Some y) f
if_some false a x e f = absurd (cc)

pub if_none : {X : Type 0} (b : Bool) (x : X) → b ≡ false → None ≡ (if b then Some x else None)
if_none true x e = absurd (cc)
if_none false x e = refl

pub and_left : (a b : Bool) → a ≡ false → (a && b) ≡ false
and_left false b e = refl
and_left true b e = absurd (cc)

pub and_last : (s d t : Bool) → true ≡ s → false ≡ d → (s && not d && not t) ≡ not t
and_last true false t e f = refl
and_last true true t e f = absurd (cc)
and_last false d t e f = absurd (cc)

pub then_some_if : {X : Type 0} (b : Bool) (x : X) → then_some b x ≡ (if b then Some x else None)
then_some_if true x = refl
then_some_if false x = refl

pub not_equal : (a b : ℕ) → (a ≡ b → ⊥) → (a == b) ≡ false
not_equal a b h = grind (arith, nat_tests)

pub and_after : (a b : Bool) → true ≡ a → (a && b) ≡ b
and_after true b e = refl
and_after false b e = absurd (cc)
