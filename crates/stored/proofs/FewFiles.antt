-- The files of a database are few.
use Rattle.std.proofs.Common.{◌≡◌, ℕ, zero, suc, ◌+◌, ◌<◌, ◌≤◌, ⊎_elim, ◌⊎◌, true, List, [], ◌∷◌, Some, None, refl, ap, ◌∙◌, arith}
use Rattle.std.proofs.lemmas.Bool.{cases_lt}
use Rattle.afl_base.specs.Files.{AreDistinct, File, Table, place, used}
use Rattle.afl_base.specs.declared.kind.Kind.TheVariants.{Doubling, Fixed}
use Rattle.catalog.specs.Rules.{is_of_database}
use Rattle.space_model.specs.FileNames.{catalog_file, rows_file, tree_file}
use Rattle.stored.proofs.FilesOf.{IsNumbered, by_kind}
use Rattle.stored.proofs.TableSums.{named_part, over, over_le, over_one, over_sum, over_zero, part_here}

used_over : (files : Table) → used files ≡ over (λ f. 1) files
used_over [] = refl
used_over (None ∷ files) = used_over files
used_over (Some f ∷ files) = let e = used_over files in omega (arith, e)

-- one for a file with one of the first so many names
abbrev numbered_part : (ℕ → List ℕ) → ℕ → File → ℕ
numbered_part name zero f = 0
numbered_part name (suc n) f = named_part (name n) 1 f + numbered_part name n f

over_numbered : (name : ℕ → List ℕ) (n : ℕ) (files : Table) → AreDistinct files → over (numbered_part name n) files ≤ n
over_numbered name zero files d = let e = over_zero files in omega (arith, e)
over_numbered name (suc n) files d =
    let sum = over_sum (named_part (name n) 1) (numbered_part name n) files in
    let here = over_one (name n) 1 files d in
    let rest = over_numbered name n files d in
    omega (arith, sum, here, rest)

has_part : (name : ℕ → List ℕ) (n slot : ℕ) (f : File) → slot < n → f.name ≡ name slot → 1 ≤ numbered_part name n f
has_part name zero slot f below e = absurd (omega (arith, below))
has_part name (suc n) slot f below e = ⊎_elim
    (λ (before : slot < n). let rest = has_part name n slot f before e in omega (arith, rest))
    (λ (last : n ≤ slot).
    let same : slot ≡ n = omega (arith, below, last) in
    let here = part_here (name n) 1 f (e ∙ ap name same) in
    omega (arith, here))
    (cases_lt slot n)

abbrev all_parts : File → ℕ
all_parts f = named_part catalog_file 1 f + (numbered_part rows_file 8 f + numbered_part tree_file 8 f)

one_part : (f : File) → is_of_database f.name f.kind ≡ true → 1 ≤ all_parts f
one_part f e = ⊎_elim
    (λ (c : (f.name ≡ catalog_file) × (f.kind ≡ Fixed 6)). let here = part_here catalog_file 1 f c.0 in omega (arith, here))
    (λ (n : (IsNumbered 84 f.name ⊎ IsNumbered 88 f.name) × (f.kind ≡ Doubling)). ⊎_elim
    (λ (t : IsNumbered 84 f.name). let here = has_part rows_file 8 t.slot f t.below t.is in omega (arith, here))
    (λ (x : IsNumbered 88 f.name). let here = has_part tree_file 8 x.slot f x.below x.is in omega (arith, here))
    n.0)
    (by_kind f.name f.kind e)

-- a catalog, and eight files of rows and eight trees at most
pub few_files : (files : Table) → AreDistinct files → ((id : ℕ) (f : File) → place files id ≡ Some f → is_of_database f.name f.kind ≡ true) → used files ≤ 17
few_files files d known =
    let all = used_over files in
    let each = over_le (λ f. 1) all_parts files (λ id f e. one_part f (known id f e)) in
    let two = over_sum (named_part catalog_file 1) (λ f. numbered_part rows_file 8 f + numbered_part tree_file 8 f) files in
    let three = over_sum (numbered_part rows_file 8) (numbered_part tree_file 8) files in
    let catalog = over_one catalog_file 1 files d in
    let rows = over_numbered rows_file 8 files d in
    let trees = over_numbered tree_file 8 files d in
    omega (arith, all, each, two, three, catalog, rows, trees)
