-- Bytes that are zero, pages of them, and the free pages that they are.
use Rattle.std.proofs.Common.{◌≡◌, ℕ, zero, suc, ◌+◌, ◌-◌, ◌*◌, ◌/◌, ◌%◌, ◌<◌, ◌≤◌, Bool, true, false, ◌==◌, List, [], ◌∷◌, ◌++◌, length, replicate, get_or, Option, Some, None, if◌then◌else◌, refl, ap, sym, subst, ◌∙◌, arith}
use Rattle.std.specs.Prelude.{slice_range}
use Rattle.std.proofs.lemmas.List.{ext_get_or}
use Rattle.afl_base.specs.Image.{page_bytes}
use Rattle.afl_base.proofs.Images.{byte_in_page, length_range, range_at}
use Rattle.coffee_header.specs.Headers.{is_flags}
use Rattle.coffee_header.specs.declared.header.Header.{Header}
use Rattle.coffee_layout.specs.Tiling.{KeepRules, broken_at, broken_unit, nowhere}
use Rattle.coffee_layout.specs.Units.{pages_of, unit_at}
use Rattle.coffee_layout.specs.declared.unit.Unit.{Unit}
use Rattle.coffee_layout.specs.declared.unit.Unit.TheVariants.{Free}
use Rattle.padded.proofs.Facts.{both_parts, true_eq}
use Rattle.padded.specs.Zeros.{is_zeros}
pub use Rattle.coffee_merge.proofs.Beginning.{zero_at as zero_part}

-- images of one length whose pages are the same are one image
pub images_same : (old new : List ℕ) → length new ≡ length old → ((p : ℕ) → page_bytes new p ≡ page_bytes old p) → new ≡ old
images_same old new long same =
    ext_get_or 0 new old long (λ k h. byte_in_page new k ∙ ap (λ xs. get_or xs (k % 256) 0) (same (k / 256)) ∙ sym (byte_in_page old k))

-- ---- zeros

-- bytes that are all zero
pub all_zero : (bytes : List ℕ) (n : ℕ) → length bytes ≡ n → is_zeros bytes ≡ true → bytes ≡ replicate n 0
all_zero [] zero e z = refl
all_zero [] (suc n) e z = absurd (omega (arith, e))
all_zero (b ∷ bytes) zero e z = absurd (omega (arith, e))
all_zero (b ∷ bytes) (suc n) e z =
    let p = both_parts (b == 0) (is_zeros bytes) z in
    ap (λ x. x ∷ bytes) (true_eq b 0 p.0) ∙ ap (λ t. 0 ∷ t) (all_zero bytes n (omega (arith, e)) p.1)

pub zeros_from : (xs : List ℕ) → ((k : ℕ) → k < length xs → get_or xs k 0 ≡ 0) → is_zeros xs ≡ true
zeros_from [] f = refl
zeros_from (x ∷ xs) f = rw (f 0 (omega arith)) (zeros_from xs (λ k less. f (suc k) (omega (arith, less))))

pub page_zero : (image : List ℕ) (a b page : ℕ) → is_zeros (slice_range image a b) ≡ true → a ≤ 256 * page → 256 * page + 256 ≤ b → 256 * page + 256 ≤ length image → page_bytes image page ≡ replicate 256 0
page_zero image a b page z low high exists =
    let long : length (page_bytes image page) ≡ 256 = length_range image (256 * page) (256 * page + 256) exists ∙ omega arith in
    all_zero (page_bytes image page) 256 long (zeros_from (page_bytes image page) (λ k less.
    let back : a + (256 * page + k - a) ≡ 256 * page + k = omega (arith, low) in
    range_at image (256 * page) (256 * page + 256) k (omega (arith, less, long))
    ∙ ap (λ i. get_or image i 0) (sym back)
    ∙ sym (range_at image a b (256 * page + k - a) (omega (arith, low, high, less, long)))
    ∙ zero_part (slice_range image a b) (256 * page + k - a) z))

-- free units stand in pages that are zero
pub free_page : (image : List ℕ) (page : ℕ) (free : Bool) → unit_at image page ≡ Some Free → broken_at nowhere image page free ≡ None → is_zeros (page_bytes image page) ≡ true
free_page image page free is kept = by_zeros (is_zeros (page_bytes image page)) (sym (ap (broken_unit false (is_zeros (page_bytes image page)) (pages_of image) page free) is) ∙ kept)
  where
    by_zeros : (b : Bool) → ◌≡◌ {A = Option ℕ} (if b then None else Some 3) None → b ≡ true
    by_zeros true e = refl
    by_zeros false e = cc

pub free_pages_zero : (image : List ℕ) (n page k : ℕ) (free : Bool) (rest : List Unit) → KeepRules nowhere image page free (replicate n Free ++ rest) → k < n → is_zeros (page_bytes image (page + k)) ≡ true
free_pages_zero image zero page k free rest keep less = absurd (omega (arith, less))
free_pages_zero image (suc n) page zero free rest keep less =
    let here : page ≡ page + 0 = omega arith in
    subst (λ p. is_zeros (page_bytes image p) ≡ true) here (free_page image page free keep.0 keep.1)
free_pages_zero image (suc n) page (suc k) free rest keep less =
    let e : page + 1 + k ≡ page + suc k = omega arith in
    subst (λ p. is_zeros (page_bytes image p) ≡ true) e (free_pages_zero image n (page + 1) k true rest keep.2 (omega (arith, less)))

-- no flags are 0
pub flags_of_zero : (h : Header) → h.flags ≡ 0 → is_flags h.flags ≡ true → ⊥
flags_of_zero h z e = let f : is_flags 0 ≡ true = ap is_flags (sym z) ∙ e in let n : ⊥ = cc in n
