-- Pages that are all zero, one behind the other.
use Rattle.std.proofs.Common.{◌≡◌, ℕ, ◌+◌, ◌*◌, ◌≤◌, true, List, ap, sym, slice_range, ◌∙◌, arith}
use Rattle.padded.specs.Zeros.{is_zeros}
use Rattle.coffee_layout.proofs.Zeros.{zeros_more}

-- a page more
pub zeros_page : (image bytes : List ℕ) (from page : ℕ) → from ≤ page → bytes ≡ slice_range image (256 * page + 0) (256 * page + 0 + 256) → is_zeros bytes ≡ true
    → is_zeros (slice_range image (256 * from) (256 * page)) ≡ true → is_zeros (slice_range image (256 * from) (256 * (page + 1))) ≡ true
zeros_page image bytes from page order is zeros before =
    let start : 256 * page + 0 ≡ 256 * page = omega arith in
    let end : 256 * page + 0 + 256 ≡ 256 * (page + 1) = omega arith in
    let same : bytes ≡ slice_range image (256 * page) (256 * (page + 1)) = is ∙ ap (λ a. slice_range image a (256 * page + 0 + 256)) start ∙ ap (λ b. slice_range image (256 * page) b) end in
    sym (zeros_more image (256 * from) (256 * page) (256 * (page + 1)) (omega (arith, order)) (omega arith) before) ∙ ap is_zeros (sym same) ∙ zeros
