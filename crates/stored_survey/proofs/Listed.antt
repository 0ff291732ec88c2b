-- A catalog that was read of its slots.
use Rattle.std.proofs.Common.{◌≡◌, ℕ, zero, suc, ◌+◌, ◌<◌, ◌≤◌, Bool, true, false, ◌==◌, List, length, Option, Some, None, if◌then◌else◌, refl, ap, sym, ◌∙◌, arith}
use Rattle.std.specs.List.{list_any}
use Rattle.afl_base.specs.Files.{Table, bytes_at}
use Rattle.catalog.specs.Rules.{breaks_index, first}
use Rattle.catalog.proofs.Firsts.{first_more, first_none}
use Rattle.db_model.specs.declared.schemas.Schema.{Schema}
use Rattle.db_model.specs.Catalog.{catalog_of}
use Rattle.padded.proofs.Facts.{none_some}
use Rattle.stored.specs.Mended.{has_time, mended_catalog, whole_catalog}
use Rattle.stored.proofs.FilesOf.{first_false}
use Rattle.stored_mend.specs.Mending.{IsWholeCatalog}
use Rattle.stored_survey.specs.Asked.{HasNoHalf}
use Rattle.stored_survey.proofs.SlotsRead.{whole_is}

module _ (files : Table) (cat : ℕ) (w : IsWholeCatalog files cat) where
  -- the version
  pub version_is : (relations : List (Option Schema)) (size version : ℕ) → relations ≡ (catalog_of (whole_catalog files)).relations → size ≡ length (bytes_at files cat)
      → version ≡ (if list_any has_time relations then 2 else if size == 1472 then 1 else 2) → version ≡ (mended_catalog files).version
  unfolding mended_catalog
  version_is relations size version same long is =
      is
      ∙ ap (λ (rs : List (Option Schema)). if list_any has_time rs then 2 else if size == 1472 then 1 else 2) same
      ∙ ap (λ (n : ℕ). if list_any has_time (catalog_of (whole_catalog files)).relations then 2 else if n == 1472 then 1 else 2) (long ∙ ap (λ (xs : List ℕ). length xs) (whole_is files cat w))

  -- all indexes may stand
  pub all_stand : first 8 (breaks_index (bytes_at files cat)) ≡ None → (i : ℕ) → i < 8 → breaks_index (whole_catalog files) i ≡ false
  all_stand none i below = ap (λ (xs : List ℕ). breaks_index xs i) (sym (whole_is files cat w)) ∙ first_false (breaks_index (bytes_at files cat)) 8 i below none

  first_upto : (test : ℕ → Bool) (n : ℕ) → ((k : ℕ) → k < n → test k ≡ false) → first n test ≡ None
  first_upto test zero all = first_none test
  first_upto test (suc n) all =
      let next : suc n ≡ n + 1 = omega arith in
      ap (λ (m : ℕ). first m test) next ∙ first_more test n (first_upto test n (λ k below. all k (omega (arith, below)))) (all n (omega arith))

  -- or one may not, beside anything that is half done
  pub one_falls : (slot : ℕ) → first 8 (breaks_index (bytes_at files cat)) ≡ Some slot → HasNoHalf files
  one_falls slot found half h =
      let none : first 8 (breaks_index (bytes_at files cat)) ≡ None =
      first_upto (breaks_index (bytes_at files cat)) 8 (λ k below. ap (λ (xs : List ℕ). breaks_index xs k) (whole_is files cat w) ∙ h.indexes k below) in
      none_some slot (sym none ∙ found)
