-- What is read of the front of a page.
use Rattle.std.proofs.Common.{◌≡◌, ℕ, ◌+◌, ◌*◌, ◌≤◌, List, length, slice_range, arith, ap, ◌∙◌}
use Rattle.afl_base.proofs.Images.{range_in_page}
use Rattle.coffee_layout.specs.Units.{unit_at, unit_of}

pub unit_read : (image bytes : List ℕ) (page : ℕ) → 256 * page + 256 ≤ length image → bytes ≡ slice_range image (256 * page + 0) (256 * page + 0 + 32) → unit_of bytes ≡ unit_at image page
unit_read image bytes page exists is =
    let e : 256 * page + 0 + 32 ≡ 256 * page + 32 = omega arith in
    ap unit_of (is ∙ ap (λ b. slice_range image (256 * page + 0) b) e ∙ range_in_page image page 0 32 (omega arith) (omega arith) exists)
