-- What follows of a result from what is known of it.
use Rattle.std.proofs.Common.{Option, Some, None}
use Rattle.std.specs.Prelude.{IfNone, IfOk, Result, Ok, Err}

pub ok_then : {T E : Type 0} (P Q : T → Type 0) (r : Result T E) → ((x : T) → P x → Q x) → IfOk r P → IfOk r Q
ok_then P Q (Ok x) f known = f x known
ok_then P Q (Err e) f known = tt

pub none_then : {T E : Type 0} (P Q : Type 0) (r : Result (Option T) E) → (P → Q) → IfOk r (λ o. IfNone o P) → IfOk r (λ o. IfNone o Q)
none_then P Q (Ok None) f known = f known
none_then P Q (Ok (Some x)) f known = tt
none_then P Q (Err e) f known = tt
