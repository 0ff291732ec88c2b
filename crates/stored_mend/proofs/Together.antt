-- Two calls, one after the other.
use Rattle.std.proofs.Common.{◌≡◌, ◌≤◌, ◌∙◌, ℕ, false, true, List, arith}
use Rattle.std.specs.Prelude.{Err, Ok, OnOk, Result}
use Rattle.std.specs.Result.{IsErr}
use Rattle.afl_base.specs.Files.{State}
use Rattle.afl_base.specs.Keeping.{ChangesOrLacks}
use Rattle.afl_base.specs.declared.kind.FileError.{FileError}
use Rattle.afl_base.proofs.CauseLaws.{rose_later}

-- what follows where the last one succeeds
pub on_ok : {T E : Type 0} (r : Result T E) (P Q : Type 0) → (P → Q) → OnOk r P → OnOk r Q
on_ok (Ok x) P Q f p = f p
on_ok (Err e) P Q f p = p

-- and nothing where it fails
pub not_ok : {T E : Type 0} (r : Result T E) (P : Type 0) → IsErr r → OnOk r P
not_ok (Ok x) P is = let no : false ≡ true = is in absurd (cc)
not_ok (Err x) P is = tt

-- the answer is that of the last one
pub lacks_then : {S T U : Type 0} (state : S → State) (borrows : S → List ℕ) (reads faults : S → ℕ) (lacking : S → ℕ → Type 0) (a b c : S) (first : Result T FileError) (last : Result U FileError)
    → ChangesOrLacks state borrows reads faults lacking a b first → ChangesOrLacks state borrows reads faults lacking b c last → ChangesOrLacks state borrows reads faults lacking a c last
lacks_then state borrows reads faults lacking a b c first last x y = record {
  store = y.store ∙ x.store;
  lent = y.lent ∙ x.lent;
  later = omega (arith, x.later, y.later);
  lacks = y.lacks;
  cause = record {
    later = omega (arith, x.cause.later, y.cause.later);
    failed = λ e. rose_later (faults a) (faults b) (faults c) x.cause.later (y.cause.failed e);
  };
}
