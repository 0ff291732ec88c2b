-- A cramped image has few sectors, by the sizes of its files.
use Rattle.std.proofs.Common.{◌≡◌, ℕ, zero, suc, ◌+◌, ◌*◌, ◌%◌, ◌≤◌, Bool, true, false, cond, ◌&&◌, nat_le, ◌==◌, List, [], ◌∷◌, Option, Some, None, refl, arith}
use Rattle.padded.proofs.Facts.{both_parts, true_le, true_eq}
use Rattle.afl_base.specs.Fit.{fit, first_fit}
use Rattle.afl_base.specs.declared.ids.PageId.{PageId}
use Rattle.afl_base.specs.declared.kind.Kind.{Kind}
use Rattle.afl_base.specs.declared.kind.Kind.TheVariants.{Doubling, Fixed}
use Rattle.coffee_layout.specs.Marks.{IsCramped}
use Rattle.coffee_layout.specs.Units.{total}
use Rattle.coffee_layout.specs.Walks.{has_few, has_few_of}
use Rattle.coffee_layout.specs.declared.file.FileAt.{FileAt}
use Rattle.coffee_layout.specs.declared.unit.Unit.{Unit}
use Rattle.coffee_merge.specs.Holding.{IsIn, Entries, has_shape}
use Rattle.coffee_merge.proofs.ExtentShares.{HoldsExtents, extent_share, extent_shares, file_shares, log_share, reach}
use Rattle.afl_base.specs.Shares.{file_share, gap_for, touched_of}
use Rattle.coffee_merge.proofs.Begun.{HavePages}
use Rattle.coffee_merge.proofs.Pigeons.{cramped_spread}
use Rattle.coffee_merge.proofs.TableShares.{spread_held}

first_fit_eights : (t p s : ℕ) → p % 8 ≡ 0 → first_fit t p s % 8 ≡ 0
first_fit_eights zero p s e = e
first_fit_eights (suc t) p s e = by_test (nat_le (s + 32) (256 * p)) (first_fit t (2 * p) s) (first_fit_eights t (2 * p) s (omega (arith, e)))
  where
    by_test : (b : Bool) (n : ℕ) → n % 8 ≡ 0 → cond b p n % 8 ≡ 0
    by_test true n h = e
    by_test false n h = h

fit_eights : (s : ℕ) → fit s % 8 ≡ 0
unfolding fit
fit_eights s = first_fit_eights 11 16 s refl

reach_few : (kind : Kind) (pages size : ℕ) → has_shape kind pages ≡ true → has_few_of kind pages size ≡ true → reach pages ≤ touched_of kind size
reach_few Doubling pages size shape few =
    let eights = fit_eights size in
    let twice = true_le pages (2 * fit size) few in
    omega (arith, eights, twice)
reach_few (Fixed n) pages size shape few =
    let parts = both_parts (n == pages && nat_le 1 n) (nat_le n 15) shape in
    let same = true_eq n pages (both_parts (n == pages) (nat_le 1 n) parts.0).0 in
    let most = true_le n 15 parts.1 in
    omega (arith, same, most)

log_few : (gap : ℕ) (log : Option PageId) → log_share gap log ≤ 2 + gap
log_few gap None = omega arith
log_few gap (Some l) = omega arith

share_few : (gap : ℕ) (e : FileAt) → has_shape e.kind e.pages ≡ true → has_few e ≡ true → extent_share gap e ≤ file_share gap e.kind e.size
share_few gap e shape few =
    let own = reach_few e.kind e.pages e.size shape few in
    let log = log_few gap e.log in
    omega (arith, own, log)

shares_few : (gap : ℕ) (table : Entries) → ((i : ℕ) (e : FileAt) → IsIn table i e → (has_shape e.kind e.pages ≡ true) × (has_few e ≡ true)) → extent_shares gap table ≤ file_shares gap table
shares_few gap [] each = omega arith
shares_few gap (None ∷ table) each = shares_few gap table (λ i e. each (suc i) e)
shares_few gap (Some e ∷ table) each =
    let here = each 0 e refl in
    let few = share_few gap e here.0 here.1 in
    let rest = shares_few gap table (λ i d. each (suc i) d) in
    omega (arith, few, rest)

-- a cramped image has no more sectors than the files of its table take, and one gap
pub cramped_files : (us : List Unit) (table : Entries) (n sectors : ℕ) → IsCramped us n → 1 ≤ n → 16 * sectors ≡ total us → HavePages us → HoldsExtents us table
    → ((i : ℕ) (e : FileAt) → IsIn table i e → (has_shape e.kind e.pages ≡ true) × (has_few e ≡ true))
    → sectors ≤ file_shares (gap_for n) table + gap_for n
cramped_files us table n sectors c some whole have held each =
    let all = cramped_spread us n sectors c some whole have in
    let extents = spread_held (gap_for n) us table have held in
    let files = shares_few (gap_for n) table each in
    omega (arith, all, extents, files)
