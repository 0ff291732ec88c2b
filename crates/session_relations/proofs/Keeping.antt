-- Errors that are handed on, and what calls keep that come one behind another.
use Rattle.std.proofs.Common.{◌≡◌, ℕ, ◌+◌, ◌≤◌, min, refl, ap, sym, subst, ◌∙◌, arith, Ok, Err}
use Rattle.std.specs.Prelude.{Result, IsErrAnd, IsErrOf}
use Rattle.std.proofs.lemmas.Result.{err_from_is_err_and}
use Rattle.afl_base.specs.declared.files.Files.{Ghosts as FilesOf}
use Rattle.afl_base.specs.declared.kind.FileError.{FileError}
use Rattle.afl_base.specs.declared.kind.FileError.TheVariants.{Failed, Space}
use Rattle.afl_base.specs.FileErrors.{OnSpace}
use Rattle.afl_base.specs.Keeping.{ChangesOrLacks}

rose_then : (most a b c : ℕ) → a ≤ b → min (b + 1) most ≤ c → min (a + 1) most ≤ c
rose_then most a b c h rose = omega (arith, h, rose)

-- ---- an error that is handed on

-- what holds anyhow
pub on_space : {T P : Type 0} (r : Result T FileError) → P → OnSpace r (λ _. P)
on_space (Ok x) p = tt
on_space (Err (Space need)) p = p
on_space (Err Failed) p = tt

-- what follows where there was no space
pub space_handed : {T U : Type 0} (r : Result T FileError) (q : Result U FileError) (e : FileError) (P Q : ℕ → Type 0) → r ≡ Err e → IsErrAnd q (λ y. y ≡ e)
    → ((need : ℕ) → P need → Q need) → OnSpace r P → OnSpace q Q
space_handed {T = T} {U = U} r q e P Q was is follows h =
    let said = err_from_is_err_and q is in
    subst (λ (z : Result U FileError). OnSpace z Q) (sym (said.1 ∙ ap (λ (y : FileError). Err y) said.2)) (by_error e (subst (λ (z : Result T FileError). OnSpace z P) was h))
  where
    by_error : (e : FileError) → OnSpace {T = T} (Err e) P → OnSpace {T = U} (Err e) Q
    by_error (Space need) p = follows need p
    by_error Failed p = tt

-- it is Failed where that was
pub failed_handed : {T U : Type 0} (r : Result T FileError) (q : Result U FileError) (e : FileError) → r ≡ Err e → IsErrAnd q (λ y. y ≡ e) → IsErrOf q Failed → IsErrOf r Failed
failed_handed {U = U} r q e was is failed =
    let said = err_from_is_err_and q is in
    let same : said.0 ≡ Failed = err_same said.0 Failed (sym said.1 ∙ failed) in
    was ∙ ap (λ (y : FileError). Err y) (sym said.2 ∙ same)
  where
    err_same : (x y : FileError) → ◌≡◌ {A = Result U FileError} (Err x) (Err y) → x ≡ y
    err_same x y e = cc

-- ---- what a call keeps that ends with an error of another's, or comes behind another

module _ {V T U : Type 0} (v : FilesOf V) where
  pub changes_handed : (a b : V) (r : Result T FileError) (q : Result U FileError) (e : FileError) → r ≡ Err e → IsErrAnd q (λ y. y ≡ e)
      → ChangesOrLacks v.state v.lent v.reads v.faults v.lacks a b r → ChangesOrLacks v.state v.lent v.reads v.faults v.lacks a b q
  changes_handed a b r q e was is f =
      let said = err_from_is_err_and q is in
      let P : Result T FileError → Type 0 = λ z. ChangesOrLacks v.state v.lent v.reads v.faults v.lacks a b z in
      let Q : Result U FileError → Type 0 = λ z. ChangesOrLacks v.state v.lent v.reads v.faults v.lacks a b z in
      subst Q (sym (said.1 ∙ ap (λ (y : FileError). Err y) said.2)) (by_error e (subst P was f))
    where
      by_error : (e : FileError) → ChangesOrLacks {T = T} v.state v.lent v.reads v.faults v.lacks a b (Err e) → ChangesOrLacks {T = U} v.state v.lent v.reads v.faults v.lacks a b (Err e)
      by_error (Space need) f = record { store = f.store; lent = f.lent; later = f.later; lacks = f.lacks; cause = record { later = f.cause.later; failed = λ is. absurd (cc) } }
      by_error Failed f = record { store = f.store; lent = f.lent; later = f.later; lacks = tt; cause = record { later = f.cause.later; failed = λ is. f.cause.failed refl } }

  pub changes_then : (a b c : V) (first : Result T FileError) (second : Result U FileError) → ChangesOrLacks v.state v.lent v.reads v.faults v.lacks a b first
      → ChangesOrLacks v.state v.lent v.reads v.faults v.lacks b c second → ChangesOrLacks v.state v.lent v.reads v.faults v.lacks a c second
  changes_then a b c first second f h = record {
    store = h.store ∙ f.store;
    lent = h.lent ∙ f.lent;
    later = omega (arith, f.later, h.later);
    lacks = h.lacks;
    cause = record { later = omega (arith, f.cause.later, h.cause.later); failed = λ is. rose_then _ (v.faults a) (v.faults b) (v.faults c) f.cause.later (h.cause.failed is) };
  }

  pub changes_done : (a b : V) (r : Result T FileError) (x : U) → ChangesOrLacks v.state v.lent v.reads v.faults v.lacks a b r → ChangesOrLacks v.state v.lent v.reads v.faults v.lacks a b (Ok x)
  changes_done a b r x f = record { store = f.store; lent = f.lent; later = f.later; lacks = tt; cause = record { later = f.cause.later; failed = λ is. absurd (cc) } }
