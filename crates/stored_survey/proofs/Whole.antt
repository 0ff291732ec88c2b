-- The tables that a cut can have left, by their catalogs.
use Rattle.std.proofs.Common.{◌≡◌, ◌⊎◌, inl, inr, ⊎_elim, ℕ, zero, suc, ◌+◌, ◌<◌, ◌≤◌, Bool, true, false, not, List, [], length, Option, Some, None, if◌then◌else◌, refl, ap, sym, ◌∙◌, arith}
use Rattle.std.specs.Prelude.{nat_lt}
use Rattle.std.proofs.lemmas.Bool.{cases_lt}
use Rattle.afl_base.specs.Files.{File, Table, place}
use Rattle.catalog.specs.Rules.{catalog_bytes_in, first, is_of_database, is_stranger}
use Rattle.catalog.proofs.Firsts.{first_more, first_none}
use Rattle.padded.proofs.Facts.{lt_false, none_some, some_same}
use Rattle.stored.specs.CutTables.{IsBegun, IsCutTable, IsHalfDone}
use Rattle.stored.specs.Mended.{whole_bytes, whole_catalog}
use Rattle.stored.proofs.FilesOf.{first_false, in_table}
use Rattle.stored.proofs.MendedBase.{whole_long}
use Rattle.stored.specs.declared.half.Half.{Half}
use Rattle.stored_survey.specs.Pieces.{HasNoStranger, IsSomeHalfDone}

pub short_catalog : (files : Table) → whole_catalog files ≡ [] → length (catalog_bytes_in files) < 1472
short_catalog files none = ⊎_elim
    (λ (less : length (catalog_bytes_in files) < 1472). less)
    (λ (long : 1472 ≤ length (catalog_bytes_in files)).
    let e : length (catalog_bytes_in files) ≡ 0 = ap (λ (xs : List ℕ). length xs) (sym (whole_long (catalog_bytes_in files) long) ∙ none) in
    absurd (omega (arith, long, e)))
    (cases_lt (length (catalog_bytes_in files)) 1472)

pub begun_cut : (files : Table) → HasNoStranger files → IsBegun files → IsCutTable files
begun_cut files known begun = record { known = known; done = inl begun }

pub cut_begun : (files : Table) → length (catalog_bytes_in files) < 1472 → IsCutTable files → IsBegun files
cut_begun files short cut = ⊎_elim
    (λ (begun : IsBegun files). begun)
    (λ (some : IsSomeHalfDone files). let long = some.1.whole in absurd (omega (arith, short, long)))
    cut.done

pub half_cut : (files : Table) → HasNoStranger files → IsSomeHalfDone files → IsCutTable files
half_cut files known some = record { known = known; done = inr some }

pub cut_half : (files : Table) → 1472 ≤ length (catalog_bytes_in files) → IsCutTable files → IsSomeHalfDone files
cut_half files long cut = ⊎_elim
    (λ (begun : IsBegun files). let short = begun.short in absurd (omega (arith, short, long)))
    (λ (some : IsSomeHalfDone files). some)
    cut.done

-- ---- strangers

pub no_stranger : (files : Table) → length files ≡ 32 → first 32 (is_stranger files) ≡ None → HasNoStranger files
no_stranger files size none id = by_place (place files id) refl
  where
    by_place : (o : Option File) → place files id ≡ o → is_stranger files id ≡ false
    by_place None e = ap (λ o. elim o [ None ↦ false | Some f ↦ not (is_of_database f.name f.kind) ]) e
    by_place (Some f) e = first_false (is_stranger files) 32 id (in_table files size id f e) none

never_first : (test : ℕ → Bool) → ((k : ℕ) → test k ≡ false) → (n : ℕ) → first n test ≡ None
never_first test none zero = first_none test
never_first test none (suc n) = let next : suc n ≡ n + 1 = omega arith in ap (λ (m : ℕ). first m test) next ∙ first_more test n (never_first test none n) (none n)

pub a_stranger : (files : Table) (k : ℕ) → Some k ≡ first 32 (is_stranger files) → HasNoStranger files → ⊥
a_stranger files k is known = none_some k (sym (is ∙ never_first (is_stranger files) known 32))
