-- The entries of the files, and the rules that look at them.
use Rattle.std.proofs.Common.{◌≡◌, ℕ, ◌+◌, ◌-◌, Bool, true, false, cond, ⊎_elim, ◌||◌, not, ◌==◌, List, [], ◌∷◌, map, Option, Some, None, if◌then◌else◌, refl, ap, sym, arith}
use Rattle.std.specs.List.{list_any, filter}
use Rattle.coffee_header.specs.declared.header.Header.{Header}
use Rattle.coffee_layout.specs.FileBytes.{table_of}
use Rattle.coffee_layout.specs.Files.{Placed, entry_of, entry_with, is_log, log_of}
use Rattle.coffee_layout.specs.Rules.{first_failing, fits_its_file, names_log}
use Rattle.coffee_layout.specs.Walks.{fits_entry, is_its_log}
use Rattle.coffee_layout.proofs.Tests.{eq_false, eq_same, false_eq}
use Rattle.padded.proofs.Facts.{true_or_false, true_eq}

its_number : (page n : ℕ) → is_its_log page (if n == 0 then None else Some (record { 0 = n - 1 })) ≡ (n == page + 1)
its_number page n =
    ⊎_elim
    (λ (t : n == 0 ≡ true). let z = true_eq n 0 t in rw t (sym (eq_false n (page + 1) (λ e. absurd (omega arith)))))
    (λ (t : n == 0 ≡ false). let some = false_eq n 0 t in rw t (eq_same (n - 1) page n (page + 1) (λ e. omega arith) (λ e. omega arith)))
    (true_or_false (n == 0))

-- the log of an entry is the one that the header names
pub its_log : (page : ℕ) (h : Header) → is_its_log page (log_of h) ≡ (h.log_page == page + 1)
its_log page h = its_number page h.log_page

pub named_same : (page : ℕ) (files : List Placed) → list_any (λ f. is_its_log page f.log) (map (λ f. entry_with f 0 0) files) ≡ list_any (names_log page) files
named_same page [] = refl
named_same page (f ∷ fs) = rw (its_log page f.header, named_same page fs) refl

pub fits_same : (image : List ℕ) (files : List Placed) (page : ℕ) → fits_entry page (table_of image page) (map (entry_of image) files) ≡ fits_its_file image files page
fits_same image [] page = refl
fits_same image (f ∷ fs) page = rw (its_log page f.header, fits_same image fs page) refl

failing_turn : (l : Bool) (test : Placed → Bool) (e : Placed) (es : List Placed) (rest : Option ℕ) → rest ≡ first_failing test es
    → (if not l || test e then rest else Some e.page) ≡ first_failing test (cond l (e ∷ es) es)
failing_turn true test e es rest is = ap (λ r. if test e then r else Some e.page) is
failing_turn false test e es rest is = is

-- a test of the logs alone
pub failing_filter : (test : Placed → Bool) (es : List Placed) → first_failing (λ e. not (is_log e) || test e) es ≡ first_failing test (filter is_log es)
failing_filter test [] = refl
failing_filter test (e ∷ es) = failing_turn (is_log e) test e (filter is_log es) (first_failing (λ g. not (is_log g) || test g) es) (failing_filter test es)
