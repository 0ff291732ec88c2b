-- A page that is not zero.
use Rattle.std.proofs.Common.{◌≡◌, ℕ, ◌+◌, ◌*◌, ◌≤◌, ◌<◌, true, false, List, length, ap, sym, ◌∙◌, arith}
use Rattle.std.specs.Prelude.{slice_range}
use Rattle.padded.specs.Zeros.{is_zeros}
use Rattle.padded.proofs.Facts.{false_by, yes_no}
use Rattle.coffee_cuts.proofs.ZeroPages.{page_zero}

-- a page that is not zero lies in no zero pages
pub page_not_zero : (image bytes : List ℕ) (from to page : ℕ) → from ≤ page → page < to → 256 * to ≤ length image → bytes ≡ slice_range image (256 * page + 0) (256 * page + 0 + 256) → is_zeros bytes ≡ false
    → false ≡ is_zeros (slice_range image (256 * from) (256 * to))
page_not_zero image bytes from to page low high inside read bad = sym (false_by (is_zeros (slice_range image (256 * from) (256 * to))) (λ z.
    let zero = page_zero image (256 * from) (256 * to) page z (omega (arith, low)) (omega (arith, high)) (omega (arith, high, inside)) in
    let e : 256 * page + 0 ≡ 256 * page = omega arith in
    let all : is_zeros (slice_range image (256 * page + 0) (256 * page + 0 + 256)) ≡ true = ap (λ n. is_zeros (slice_range image n (n + 256))) e ∙ ap is_zeros zero in
    yes_no (is_zeros bytes) (ap is_zeros read ∙ all) bad))
