-- The regions of a file that were looked at lack a bit of a torn record, or the last of them has all.
use Rattle.std.proofs.Common.{◌≡◌, ⊎_elim, ℕ, ◌+◌, ◌*◌, ◌<◌, ◌≤◌, List, bit_or, get_or, ap, sym, subst, ◌∙◌, arith}
use Rattle.std.proofs.lemmas.Bool.{cases_lt}
use Rattle.coffee_layout.specs.declared.file.FileAt.{FileAt}
use Rattle.coffee_mend.specs.Completed.{HasAllBits, IsFirstWith, IsRegion, LackBits, record_at}

-- the bytes of a region are known
same_region : (image : List ℕ) (file : FileAt) (region : ℕ) (a b : List ℕ) → IsRegion image file region a → IsRegion image file region b → (k : ℕ) → k < 128 → get_or a k 0 ≡ get_or b k 0
same_region image file region a b x y k few = ⊎_elim
    (λ (within : 128 * region + k + 32 < 256 * file.pages). x.here k few within ∙ sym (y.here k few within))
    (λ (behind : 256 * file.pages ≤ 128 * region + k + 32). x.behind k few behind ∙ sym (y.behind k few behind))
    (cases_lt (128 * region + k + 32) (256 * file.pages))

module _ (image : List ℕ) (place : ℕ) (file : FileAt) (region : ℕ) (bytes torn : List ℕ) (read : torn ≡ record_at image place) (lacks : LackBits image place file region) (is : IsRegion image file region bytes) where
  -- so one region more lacks a bit
  pub lacks_more : (HasAllBits bytes torn → ⊥) → LackBits image place file (region + 1)
  lacks_more lack r other less these all = ⊎_elim
      (λ (before : r < region). lacks r other before these all)
      (λ (from : region ≤ r).
      let last : r ≡ region = omega (arith, from, less) in
      let here : IsRegion image file region other = subst (λ n. IsRegion image file n other) last these in
      lack (λ k few.
      let same = same_region image file region other bytes here is k few in
      ap (λ xs. bit_or (get_or xs k 0) (get_or bytes k 0)) read ∙ ap (bit_or (get_or (record_at image place) k 0)) (sym same) ∙ all k few ∙ same))
      (cases_lt r region)

  -- or it is the first that has all
  pub first_with : 128 * region < file.size → HasAllBits bytes torn → IsFirstWith image place file region bytes
  first_with begins all = record { begins = begins; is = is; all = subst (HasAllBits bytes) read all; first = lacks }
