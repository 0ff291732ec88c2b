-- Each page is counted once.
use Rattle.std.proofs.Common.{◌≡◌, ℕ, ◌+◌, Bool, true, false, not, ◌||◌, ◌==◌, List, [], ◌∷◌, cond, refl, arith}
use Rattle.std.proofs.lemmas.Bool.Decides.{nat_tests}
use Rattle.coffee_layout.specs.Units.{is_free, size_of, total}
use Rattle.coffee_layout.specs.declared.unit.Unit.{Unit}
use Rattle.coffee_layout.specs.declared.unit.Unit.TheVariants.{Free, Isolated, Extent}
use Rattle.run_look.specs.Pages.{all_pages, holds_file, holds_log, is_old, page_counts, pages_if}
use Rattle.run_look.proofs.Counts.{one_off}

-- what is a log is no file
apart : (flags : ℕ) → flags == 19 ≡ true → flags == 2 || flags == 3 || flags == 11 ≡ false
apart flags e = grind (arith, nat_tests)

one_use : (file log : Bool) (n : ℕ) → (log ≡ true → file ≡ false) → cond file n 0 + cond log n 0 + cond (not (file || log)) n 0 ≡ n
one_use true true n h = absurd (let e : true ≡ false = h refl in let f : ⊥ = cc in f)
one_use true false n h = omega arith
one_use false true n h = omega arith
one_use false false n h = omega arith

unit_once : (u : Unit) → pages_if is_free u + pages_if holds_file u + pages_if holds_log u + pages_if is_old u ≡ size_of u
unit_once Free = omega arith
unit_once Isolated = omega arith
unit_once (Extent h) =
    let once = one_use (h.flags == 2 || h.flags == 3 || h.flags == 11) (h.flags == 19) h.max_pages (apart h.flags) in
    omega (arith, once)

pub all_once : (us : List Unit) → all_pages (page_counts us) ≡ total us
all_once [] = omega arith
all_once (u ∷ us) =
    let a = one_off is_free u us in
    let b = one_off holds_file u us in
    let c = one_off holds_log u us in
    let d = one_off is_old u us in
    let one = unit_once u in
    let rest = all_once us in
    omega (arith, a, b, c, d, one, rest)
