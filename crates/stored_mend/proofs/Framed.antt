-- What is kept of files that are lent, behind several calls.
use Rattle.std.proofs.Common.{◌≡◌, ◌≤◌, ◌∙◌, ℕ, List, length, refl, subst, sym, arith}
use Rattle.std.specs.Prelude.{Err, IsErrAnd, IsErrOf, Ok, OnOk, Result}
use Rattle.afl_base.specs.Causes.{Rose}
use Rattle.afl_base.specs.FileErrors.{OnSpace}
use Rattle.afl_base.specs.Files.{State}
use Rattle.afl_base.specs.Keeping.{Changes, ChangesOrLacks}
use Rattle.afl_base.specs.declared.kind.FileError.{FileError}
use Rattle.afl_base.specs.declared.kind.FileError.TheVariants.{Failed, Space}
use Rattle.afl_base.proofs.CauseLaws.{rose_later}

-- of a call that failed nothing is said
pub not_ok : {T E : Type 0} (P : Type 0) (Q : E → Type 0) (r : Result T E) → IsErrAnd r Q → OnOk r P
not_ok P Q (Ok x) failed = absurd failed
not_ok P Q (Err e) failed = tt

-- an error is the same whatever the answer would have been
space_any : (A T : Type 0) (e : FileError) (P : ℕ → Type 0) → OnSpace {T = A} (Err e) P → OnSpace {T = T} (Err e) P
space_any A T (Space need) P p = p
space_any A T Failed P p = tt

failed_any : (A T : Type 0) (e : FileError) (P : Type 0) → (IsErrOf {T = A} (Err e) Failed → P) → IsErrOf {T = T} (Err e) Failed → P
failed_any A T (Space need) P f h = let no : ◌≡◌ {A = Result T FileError} (Err (Space need)) (Err Failed) = h in absurd (cc)
failed_any A T Failed P f h = f refl

module _ {S : Type 0} (state : S → State) (borrows : S → List ℕ) (reads faults : S → ℕ) (lacking : S → ℕ → Type 0) where
  pub changes_ok : {A E T : Type 0} (old new : S) (r : Result A E) (x : T) → Changes state borrows reads faults old new r → ChangesOrLacks state borrows reads faults lacking old new (Ok x)
  changes_ok old new r x c = record {
    store = c.store;
    lent = c.lent;
    later = c.later;
    lacks = tt;
    cause = record { later = c.cause.later; failed = λ e. let no : ◌≡◌ {A = Result _ FileError} (Ok x) (Err Failed) = e in absurd (cc) };
  }

  -- a failure that is handed on
  pub changes_failed : (B E T : Type 0) (old new : S) (e : E) (result : Result T FileError) → result ≡ Err Failed → Changes {T = B} state borrows reads faults old new (Err e) → ChangesOrLacks state borrows reads faults lacking old new result
  changes_failed B E T old new e result is d =
      subst (λ (r : Result T FileError). ChangesOrLacks state borrows reads faults lacking old new r) (sym is)
      (record { store = d.store; lent = d.lent; later = d.later; lacks = tt; cause = record { later = d.cause.later; failed = λ h. d.cause.failed } })

  -- and one that found no space
  pub changes_space : (A E T : Type 0) (old new : S) (r : Result A E) (need : ℕ) → Changes state borrows reads faults old new r → lacking new need → ChangesOrLacks {T = T} state borrows reads faults lacking old new (Err (Space need))
  changes_space A E T old new r need c lacks = record {
    store = c.store;
    lent = c.lent;
    later = c.later;
    lacks = lacks;
    cause = record { later = c.cause.later; failed = λ e. let no : ◌≡◌ {A = Result T FileError} (Err (Space need)) (Err Failed) = e in absurd (cc) };
  }

  -- behind a call that changed files, another one that did, or found no space
  pub then_ok : {A E B T : Type 0} (old mid new : S) (r : Result A E) (q : Result B FileError) (x : T) → Changes state borrows reads faults old mid r → ChangesOrLacks state borrows reads faults lacking mid new q
      → ChangesOrLacks state borrows reads faults lacking old new (Ok x)
  then_ok old mid new r q x c d = record {
    store = d.store ∙ c.store;
    lent = d.lent ∙ c.lent;
    later = let a = c.later in let b = d.later in omega (arith, a, b);
    lacks = tt;
    cause = record {
      later = let a = c.cause.later in let b = d.cause.later in omega (arith, a, b);
      failed = λ e. let no : ◌≡◌ {A = Result _ FileError} (Ok x) (Err Failed) = e in absurd (cc);
    };
  }

  -- and one that failed
  pub then_err : (B T : Type 0) (old mid new : S) (e : FileError) (result : Result T FileError) → result ≡ Err e → length (state mid).store ≡ length (state old).store → borrows mid ≡ borrows old → reads old ≤ reads mid
      → faults old ≤ faults mid → ChangesOrLacks {T = B} state borrows reads faults lacking mid new (Err e) → ChangesOrLacks state borrows reads faults lacking old new result
  then_err B T old mid new e result is store lent later risen d =
      subst (λ (r : Result T FileError). ChangesOrLacks state borrows reads faults lacking old new r) (sym is)
      (record {
        store = d.store ∙ store;
        lent = d.lent ∙ lent;
        later = let b = d.later in omega (arith, later, b);
        lacks = space_any B T e (λ need. lacking new need) d.lacks;
        cause = record {
          later = let b = d.cause.later in omega (arith, risen, b);
          failed = failed_any B T e (Rose (faults old) (faults new)) (λ h. rose_later (faults old) (faults mid) (faults new) risen (d.cause.failed h));
        };
      })

  pub kept_ok : {T : Type 0} (old new : S) (x : T) → length (state new).store ≡ length (state old).store → borrows new ≡ borrows old → reads old ≤ reads new → faults old ≤ faults new → ChangesOrLacks state borrows reads faults lacking old new (Ok x)
  kept_ok old new x store lent later risen = record {
    store = store;
    lent = lent;
    later = later;
    lacks = tt;
    cause = record { later = risen; failed = λ e. let no : ◌≡◌ {A = Result _ FileError} (Ok x) (Err Failed) = e in absurd (cc) };
  }

  -- the same of calls that ask for no space
  pub changes_err : (B T E : Type 0) (old mid new : S) (e : E) (result : Result T E) → result ≡ Err e → length (state mid).store ≡ length (state old).store → borrows mid ≡ borrows old → reads old ≤ reads mid → faults old ≤ faults mid
      → Changes {T = B} state borrows reads faults mid new (Err e) → Changes state borrows reads faults old new result
  changes_err B T E old mid new e result is store lent later risen d =
      subst (λ (r : Result T E). Changes state borrows reads faults old new r) (sym is)
      (record {
        store = d.store ∙ store;
        lent = d.lent ∙ lent;
        later = let b = d.later in omega (arith, later, b);
        cause = record {
          later = let b = d.cause.later in omega (arith, risen, b);
          failed = rose_later (faults old) (faults mid) (faults new) risen d.cause.failed;
        };
      })
