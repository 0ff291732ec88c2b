-- What holds of a command's result, refusal by refusal.
use Rattle.std.proofs.Common.{◌≡◌, refl, ap, subst, Bool, true, false, Option, Some, None}
use Rattle.std.specs.Prelude.{Ok, Err, Result}
use Rattle.db_model.specs.declared.refusals.Refusal.{Refusal}
use Rattle.db_model.specs.Refusing.{◌>>=◌, ◌>>◌, refuse_if, refuse_found, found_or}

-- what holds of a result where it is one
pub record Yields {A : Type 0} (Q : A → Type 0) (x : Result A Refusal) : Type 0 where
  pub yields : (d : A) → x ≡ Ok d → Q d

pub ok_same : {A : Type 0} {x y : A} → ◌≡◌ {A = Result A Refusal} (Ok x) (Ok y) → x ≡ y
ok_same e = cc

pub err_ok : {A : Type 0} {refusal : Refusal} {x : A} → ◌≡◌ {A = Result A Refusal} (Err refusal) (Ok x) → ⊥
err_ok e = cc

pub yields_ok : {A : Type 0} (Q : A → Type 0) (x : A) → Q x → Yields Q (Ok x)
yields_ok Q x q = record { yields = λ d e. subst Q (ok_same e) q }

pub yields_by : {A B : Type 0} (Q : B → Type 0) (x : Result A Refusal) (f : A → Result B Refusal) → ((v : A) → x ≡ Ok v → Yields Q (f v)) → Yields Q (◌>>=◌ x f)
yields_by Q (Ok v) f h = h v refl
yields_by Q (Err refusal) f h = record { yields = λ d e. absurd (err_ok e) }

pub yields_then : {A B : Type 0} (Q : B → Type 0) (x : Result A Refusal) (rest : Result B Refusal) → ((v : A) → x ≡ Ok v → Yields Q rest) → Yields Q (◌>>◌ x rest)
yields_then Q (Ok v) rest h = h v refl
yields_then Q (Err refusal) rest h = record { yields = λ d e. absurd (err_ok e) }

-- the same where what came before is of no matter
pub yields_behind : {A B : Type 0} (Q : B → Type 0) (x : Result A Refusal) (rest : Result B Refusal) → Yields Q rest → Yields Q (◌>>◌ x rest)
yields_behind Q x rest h = yields_then Q x rest (λ v e. h)

pub yields_unless : {B : Type 0} (Q : B → Type 0) (b : Bool) (refusal : Refusal) (rest : Result B Refusal) → (b ≡ false → Yields Q rest) → Yields Q (◌>>◌ (refuse_if b refusal) rest)
yields_unless Q true refusal rest h = record { yields = λ d e. absurd (err_ok e) }
yields_unless Q false refusal rest h = h refl

pub yields_none : {A B : Type 0} (Q : B → Type 0) (o : Option A) (refusal : A → Refusal) (rest : Result B Refusal) → (o ≡ None → Yields Q rest) → Yields Q (◌>>◌ (refuse_found o refusal) rest)
yields_none Q None refusal rest h = h refl
yields_none Q (Some x) refusal rest h = record { yields = λ d e. absurd (err_ok e) }

pub found_ok : {A : Type 0} (o : Option A) (refusal : Refusal) (x : A) → found_or o refusal ≡ Ok x → o ≡ Some x
found_ok None refusal x e = absurd (err_ok e)
found_ok (Some y) refusal x e = ap (λ x. Some x) (ok_same e)

pub yields_found : {A B : Type 0} (Q : B → Type 0) (o : Option A) (refusal : Refusal) (f : A → Result B Refusal) → ((v : A) → o ≡ Some v → Yields Q (f v)) → Yields Q (◌>>=◌ (found_or o refusal) f)
yields_found Q o refusal f h = yields_by Q (found_or o refusal) f (λ v e. h v (found_ok o refusal v e))
