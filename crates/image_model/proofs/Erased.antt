-- The erased image is sound, and its database is empty.
use Rattle.std.proofs.Common.{◌≡◌, ℕ, zero, suc, ◌+◌, ◌-◌, ◌*◌, ◌<◌, ◌≤◌, ◌⊎◌, inl, inr, Bool, true, false, List, [], ◌∷◌, length, replicate, Some, None, if◌then◌else◌, refl, ap, sym, subst, ◌∙◌, arith}
use Rattle.std.specs.Prelude.{nat_lt, take}
use Rattle.std.proofs.lemmas.Bool.{cases_lt}
use Rattle.std.proofs.lemmas.List.{take-replicate, drop-replicate, length-replicate}
use Rattle.afl_base.specs.Image.{page_bytes}
use Rattle.coffee_layout.specs.Files.{extents, files_in as placed_files}
use Rattle.coffee_layout.specs.Rules.{broken_files, broken_image}
use Rattle.coffee_layout.specs.Tiling.{broken_at, broken_from, broken_tiling, broken_unit, nowhere, units_from, units_of}
use Rattle.coffee_layout.specs.Units.{pages_of, unit_at, unit_of}
use Rattle.padded.specs.Zeros.{is_zeros}
use Rattle.afl_base.specs.Files.{Table}
use Rattle.db_model.specs.Database.{empty_database}
use Rattle.image_model.specs.Images.{IsSound, base, files_of_image}
use Rattle.catalog.specs.Rules.{breaks_files, breaks_index, breaks_relation, broken_catalog, first, first_broken}
use Rattle.stored.specs.Base.{base_of}
use Rattle.stored.specs.Sound.{IsSoundTable}
use Rattle.coffee_layout.specs.declared.unit.Unit.TheVariants.{Free, Isolated, Extent}
use Rattle.padded.proofs.Facts.{lt_true, lt_false, none_there}

abbrev erased : ℕ → List ℕ
erased n = replicate (256 * n) 0

page_zero : (n page : ℕ) → page < n → page_bytes (erased n) page ≡ replicate 256 0
page_zero n page h =
    let count : 256 * page + 256 - 256 * page ≡ 256 = omega arith in
    let low : 256 * page + 256 - 256 * page ≤ 256 * n - 256 * page = omega arith in
    ap (λ xs. take (256 * page + 256 - 256 * page) xs) (drop-replicate (256 * page) (256 * n) 0)
    ∙ take-replicate (256 * page + 256 - 256 * page) (256 * n - 256 * page) 0 low
    ∙ ap (λ k. replicate k 0) count

zeros_free : unit_of (take 32 (replicate 256 0)) ≡ Some Free
unfolding unit_of
zeros_free = refl

free_here : (n page : ℕ) → page < n → unit_at (erased n) page ≡ Some Free
free_here n page h = ap (λ bs. unit_of (take 32 bs)) (page_zero n page h) ∙ zeros_free

pages_here : (n : ℕ) → pages_of (erased n) ≡ n
pages_here n = let long : length (erased n) ≡ 256 * n = length-replicate {A = ℕ} (256 * n) 0 in omega (arith, long)

kept_here : (n page : ℕ) (after : Bool) → page < n → broken_at nowhere (erased n) page after ≡ None
kept_here n page after h =
    ap (λ o. broken_unit false (is_zeros (page_bytes (erased n) page)) (pages_of (erased n)) page after o) (free_here n page h)
    ∙ ap (λ bs. broken_unit false (is_zeros bs) (pages_of (erased n)) page after (Some Free)) (page_zero n page h)

units_in : (n t page : ℕ) → page < n → units_from (suc t) (erased n) page ≡ Free ∷ units_from t (erased n) (page + 1)
units_in n t page h =
    ap (λ k. if nat_lt page k then elim (unit_at (erased n) page) [ None ↦ [] | Some u ↦ u ∷ units_from t (erased n) (page + elim u [ Free ↦ 1 | Isolated ↦ 1 | Extent x ↦ x.max_pages ]) ] else []) (pages_here n)
    ∙ ap (λ b. if b then elim (unit_at (erased n) page) [ None ↦ [] | Some u ↦ u ∷ units_from t (erased n) (page + elim u [ Free ↦ 1 | Isolated ↦ 1 | Extent x ↦ x.max_pages ]) ] else []) (lt_true page n h)
    ∙ ap (λ o. elim o [ None ↦ [] | Some u ↦ u ∷ units_from t (erased n) (page + elim u [ Free ↦ 1 | Isolated ↦ 1 | Extent x ↦ x.max_pages ]) ]) (free_here n page h)

units_out : (n t page : ℕ) → n ≤ page → units_from t (erased n) page ≡ []
units_out n zero page h = refl
units_out n (suc t) page h = rw (pages_here n, lt_false page n h) refl

no_extents : (n t page from : ℕ) → extents from (units_from t (erased n) page) ≡ []
no_extents n zero page from = refl
no_extents n (suc t) page from = by_place (cases_lt page n) (no_extents n t (page + 1) (from + 1))
  where
    by_place : ((page < n) ⊎ (n ≤ page)) → extents (from + 1) (units_from t (erased n) (page + 1)) ≡ [] → extents from (units_from (suc t) (erased n) page) ≡ []
    by_place (inl h) rest = ap (extents from) (units_in n t page h) ∙ rest
    by_place (inr h) rest = ap (extents from) (units_out n (suc t) page h)

kept_from : (n t page : ℕ) (after : Bool) → n ≤ page + t → broken_from nowhere (erased n) page after (units_from t (erased n) page) ≡ None
kept_from n zero page after h = rw (pages_here n, lt_false page n (omega (arith, h))) refl
kept_from n (suc t) page after h = by_place (cases_lt page n) (kept_from n t (page + 1) true (omega (arith, h)))
  where
    by_place : ((page < n) ⊎ (n ≤ page)) → broken_from nowhere (erased n) (page + 1) true (units_from t (erased n) (page + 1)) ≡ None
        → broken_from nowhere (erased n) page after (units_from (suc t) (erased n) page) ≡ None
    by_place (inl i) rest = ap (broken_from nowhere (erased n) page after) (units_in n t page i) ∙ (rw (kept_here n page after i) rest)
    by_place (inr i) rest = ap (broken_from nowhere (erased n) page after) (units_out n (suc t) page i) ∙ (rw (pages_here n, lt_false page n i) refl)

no_extents_in : (n : ℕ) → extents 0 (units_of (erased n)) ≡ []
unfolding units_of
no_extents_in n = no_extents n (pages_of (erased n)) 0 0

no_files : (n : ℕ) → placed_files (units_of (erased n)) ≡ []
no_files n = rw (no_extents_in n) refl

tiling_kept : (n : ℕ) → broken_tiling nowhere (erased n) ≡ None
unfolding units_of
tiling_kept n = kept_from n (pages_of (erased n)) 0 false (omega (arith, pages_here n))

files_kept : (n : ℕ) → broken_files (erased n) (units_of (erased n)) ≡ None
files_kept n = rw (no_extents_in n) refl

volume_sound : (n : ℕ) → broken_image (erased n) ≡ None
unfolding broken_image
volume_sound n = rw (tiling_kept n) (files_kept n)

-- ---- the database

abbrev empty_table : Table
empty_table = replicate 32 None

files_erased : (n : ℕ) → files_of_image (erased n) ≡ empty_table
unfolding files_of_image
files_erased n = rw (no_files n) refl

base_empty : base_of empty_table ≡ empty_database
base_empty = refl

database_kept : first_broken empty_table ≡ None
unfolding first_broken broken_catalog first breaks_files breaks_relation breaks_index
database_kept = refl

table_sound : IsSoundTable empty_table
table_sound = record {
  catalog = database_kept;
  rows = λ slot h schema there. absurd (let e : None ≡ Some schema = sym (none_there 8 slot) ∙ there in let n : ⊥ = cc in n);
  indexes = λ slot h index there. absurd (let e : None ≡ Some index = sym (none_there 8 slot) ∙ there in let n : ⊥ = cc in n);
}

pub erased_sound : (sectors : ℕ) → IsSound (replicate (4096 * sectors) 0)
erased_sound sectors =
    let n : 256 * (16 * sectors) ≡ 4096 * sectors = omega arith in
    subst (λ k. IsSound (replicate k 0)) n (record {
      volume = volume_sound (16 * sectors);
      database = subst IsSoundTable (sym (files_erased (16 * sectors))) table_sound;
    })

base_here : (n : ℕ) → base (erased n) ≡ empty_database
unfolding base
base_here n = rw (files_erased n) base_empty

pub erased_base : (sectors : ℕ) → base (replicate (4096 * sectors) 0) ≡ empty_database
erased_base sectors =
    let n : 256 * (16 * sectors) ≡ 4096 * sectors = omega arith in
    subst (λ k. base (replicate k 0) ≡ empty_database) n (base_here (16 * sectors))
