-- The files of a database take no more than the sectors that are counted for it.
use Rattle.std.proofs.Common.{◌≡◌, ℕ, zero, suc, ◌+◌, ◌*◌, ◌<◌, ◌≤◌, ◌⊎◌, inl, inr, List, [], ◌∷◌, ◌++◌, length, map, get_or, Option, Some, None, refl, ap, sym, ◌∙◌, arith}
use Rattle.std.specs.Prelude.{unwrap_or}
use Rattle.afl_base.specs.Files.{AreDistinct, File, Table}
use Rattle.db_model.specs.declared.schemas.IndexKind.TheVariants.{MaxHeap}
use Rattle.db_model.specs.Catalog.{Index}
use Rattle.db_model.specs.Cost.{sum}
use Rattle.db_model.specs.Database.{Relation, Database, used_things}
use Rattle.db_model.specs.Step.{keys}
use Rattle.space_model.specs.Enough.{enough, file_sizes, index_sizes, rows_in, rows_size, touched, tree_size, tree_sizes}
use Rattle.space_model.specs.FileNames.{catalog_file, rows_file, tree_file}
use Rattle.stored.specs.Sizes.{HasFilesOf, IsCatalogFile, IsRowsOf, IsTreeFileOf}
use Rattle.afl_base.specs.Shares.{file_share, gap_for, shares}
use Rattle.stored.proofs.TableSums.{named_part, over, over_le, over_one, over_sum, over_zero, part_here}
use Rattle.space_model.proofs.WantsMost.{heap_sizes}

-- what a growing file of so many bytes takes
abbrev size_share : ℕ → ℕ → ℕ
size_share gap size = touched size + 2 + 2 * gap

abbrev size_shares : ℕ → List ℕ → ℕ
size_shares gap [] = 0
size_shares gap (size ∷ sizes) = size_share gap size + size_shares gap sizes

size_shares-append : (gap : ℕ) (xs ys : List ℕ) → size_shares gap (xs ++ ys) ≡ size_shares gap xs + size_shares gap ys
size_shares-append gap [] ys = omega arith
size_shares-append gap (x ∷ xs) ys = let e = size_shares-append gap xs ys in omega (arith, e)

size_shares_are : (gap : ℕ) (sizes : List ℕ) → size_shares gap sizes ≡ sum (map touched sizes) + 2 * length sizes + 2 * (length sizes * gap)
size_shares_are gap [] = let none : 0 * gap ≡ 0 = grind arith in omega (arith, none)
size_shares_are gap (size ∷ sizes) =
    let e = size_shares_are gap sizes in
    let more : (1 + length sizes) * gap ≡ gap + length sizes * gap = grind arith in
    omega (arith, e, more)

-- ---- parts

-- a file's part, if it has one of these sizes and the name
abbrev sized_part : ℕ → List ℕ → List ℕ → File → ℕ
sized_part gap name [] f = 0
sized_part gap name (size ∷ sizes) f = named_part name (size_share gap size) f + sized_part gap name sizes f

abbrev rows_parts : ℕ → ℕ → List (Option Relation) → File → ℕ
rows_parts gap n [] f = 0
rows_parts gap n (None ∷ slots) f = rows_parts gap (n + 1) slots f
rows_parts gap n (Some r ∷ slots) f = named_part (rows_file n) (size_share gap (rows_size r)) f + rows_parts gap (n + 1) slots f

abbrev tree_parts : ℕ → Database → ℕ → List (Option Index) → File → ℕ
tree_parts gap db n [] f = 0
tree_parts gap db n (None ∷ slots) f = tree_parts gap db (n + 1) slots f
tree_parts gap db n (Some index ∷ slots) f = sized_part gap (tree_file n) (index_sizes db index) f + tree_parts gap db (n + 1) slots f

abbrev all_parts : ℕ → Database → File → ℕ
all_parts gap db f = named_part catalog_file (4 + 2 * gap) f + (rows_parts gap 0 db.relations f + tree_parts gap db 0 db.indexes f)

-- ---- their sums

over_sized : (gap : ℕ) (name : List ℕ) (sizes : List ℕ) (files : Table) → AreDistinct files → over (sized_part gap name sizes) files ≤ size_shares gap sizes
over_sized gap name [] files d = let e = over_zero files in omega (arith, e)
over_sized gap name (size ∷ sizes) files d =
    let sum = over_sum (named_part name (size_share gap size)) (sized_part gap name sizes) files in
    let here = over_one name (size_share gap size) files d in
    let rest = over_sized gap name sizes files d in
    omega (arith, sum, here, rest)

over_rows : (gap n : ℕ) (slots : List (Option Relation)) (files : Table) → AreDistinct files → over (rows_parts gap n slots) files ≤ size_shares gap (map rows_size (used_things slots))
over_rows gap n [] files d = let e = over_zero files in omega (arith, e)
over_rows gap n (None ∷ slots) files d = over_rows gap (n + 1) slots files d
over_rows gap n (Some r ∷ slots) files d =
    let sum = over_sum (named_part (rows_file n) (size_share gap (rows_size r))) (rows_parts gap (n + 1) slots) files in
    let here = over_one (rows_file n) (size_share gap (rows_size r)) files d in
    let rest = over_rows gap (n + 1) slots files d in
    omega (arith, sum, here, rest)

over_trees : (gap : ℕ) (db : Database) (n : ℕ) (slots : List (Option Index)) (files : Table) → AreDistinct files → over (tree_parts gap db n slots) files ≤ size_shares gap (tree_sizes db (used_things slots))
over_trees gap db n [] files d = let e = over_zero files in omega (arith, e)
over_trees gap db n (None ∷ slots) files d = over_trees gap db (n + 1) slots files d
over_trees gap db n (Some index ∷ slots) files d =
    let sum = over_sum (sized_part gap (tree_file n) (index_sizes db index)) (tree_parts gap db (n + 1) slots) files in
    let here = over_sized gap (tree_file n) (index_sizes db index) files d in
    let rest = over_trees gap db (n + 1) slots files d in
    let both = size_shares-append gap (index_sizes db index) (tree_sizes db (used_things slots)) in
    omega (arith, sum, here, rest, both)

-- ---- each file has its part

rows_have : (gap n : ℕ) (slots : List (Option Relation)) (slot : ℕ) (r : Relation) (f : File) → get_or slots slot None ≡ Some r → f.name ≡ rows_file (n + slot) → size_share gap (rows_size r) ≤ rows_parts gap n slots f
rows_have gap n [] slot r f is named = cc
rows_have gap n (None ∷ slots) zero r f is named = cc
rows_have gap n (None ∷ slots) (suc slot) r f is named =
    let next : n + suc slot ≡ n + 1 + slot = omega arith in rows_have gap (n + 1) slots slot r f is (named ∙ ap rows_file next)
rows_have gap n (Some s ∷ slots) zero r f is named =
    let same : s ≡ r = ap (λ o. unwrap_or o s) is in
    let here : n + 0 ≡ n = omega arith in
    let part = part_here (rows_file n) (size_share gap (rows_size s)) f (named ∙ ap rows_file here) in
    let size : size_share gap (rows_size s) ≡ size_share gap (rows_size r) = ap (λ x. size_share gap (rows_size x)) same in
    omega (arith, part, size)
rows_have gap n (Some s ∷ slots) (suc slot) r f is named =
    let next : n + suc slot ≡ n + 1 + slot = omega arith in
    let rest = rows_have gap (n + 1) slots slot r f is (named ∙ ap rows_file next) in
    omega (arith, rest)

tree_has : (gap : ℕ) (db : Database) (n : ℕ) (index : Index) (f : File) → index.kind ≡ MaxHeap → f.name ≡ tree_file n
    → size_share gap (tree_size (keys index.attribute (rows_in db index.relation))) ≤ sized_part gap (tree_file n) (index_sizes db index) f
tree_has gap db n index f heap named =
    let size : ℕ = tree_size (keys index.attribute (rows_in db index.relation)) in
    let part = part_here (tree_file n) (size_share gap size) f named in
    rw (heap_sizes index.kind (size ∷ []) heap) (omega (arith, part))

trees_have : (gap : ℕ) (db : Database) (n : ℕ) (slots : List (Option Index)) (slot : ℕ) (index : Index) (f : File) → get_or slots slot None ≡ Some index → index.kind ≡ MaxHeap → f.name ≡ tree_file (n + slot)
    → size_share gap (tree_size (keys index.attribute (rows_in db index.relation))) ≤ tree_parts gap db n slots f
trees_have gap db n [] slot index f is heap named = cc
trees_have gap db n (None ∷ slots) zero index f is heap named = cc
trees_have gap db n (None ∷ slots) (suc slot) index f is heap named =
    let next : n + suc slot ≡ n + 1 + slot = omega arith in trees_have gap db (n + 1) slots slot index f is heap (named ∙ ap tree_file next)
trees_have gap db n (Some i ∷ slots) zero index f is heap named =
    let same : i ≡ index = ap (λ o. unwrap_or o i) is in
    let here : n + 0 ≡ n = omega arith in
    let part = tree_has gap db n i f (ap (λ x. x.kind) same ∙ heap) (named ∙ ap tree_file here) in
    let size : size_share gap (tree_size (keys i.attribute (rows_in db i.relation))) ≡ size_share gap (tree_size (keys index.attribute (rows_in db index.relation))) =
    ap (λ x. size_share gap (tree_size (keys x.attribute (rows_in db x.relation)))) same in
    omega (arith, part, size)
trees_have gap db n (Some i ∷ slots) (suc slot) index f is heap named =
    let next : n + suc slot ≡ n + 1 + slot = omega arith in
    let rest = trees_have gap db (n + 1) slots slot index f is heap (named ∙ ap tree_file next) in
    omega (arith, rest)

file_has : (gap : ℕ) (db : Database) (f : File) → IsCatalogFile f ⊎ (IsRowsOf db f ⊎ IsTreeFileOf db f) → file_share gap f.kind (length f.bytes) ≤ all_parts gap db f
file_has gap db f (inl c) =
    let part = part_here catalog_file (4 + 2 * gap) f c.name in
    let share : file_share gap f.kind (length f.bytes) ≡ 4 + 2 * gap = ap (λ k. file_share gap k (length f.bytes)) c.kind in
    omega (arith, part, share)
file_has gap db f (inr (inl r)) =
    let here : 0 + r.slot ≡ r.slot = omega arith in
    let part = rows_have gap 0 db.relations r.slot r.relation f r.there (r.name ∙ ap rows_file (sym here)) in
    let share : file_share gap f.kind (length f.bytes) ≡ size_share gap (rows_size r.relation) = ap (λ k. file_share gap k (length f.bytes)) r.kind ∙ ap (λ size. size_share gap size) r.size in
    omega (arith, part, share)
file_has gap db f (inr (inr t)) =
    let here : 0 + t.slot ≡ t.slot = omega arith in
    let part = trees_have gap db 0 db.indexes t.slot t.index f t.there t.heap (t.name ∙ ap tree_file (sym here)) in
    let share : file_share gap f.kind (length f.bytes) ≡ size_share gap (tree_size (keys t.index.attribute (rows_in db t.index.relation))) = ap (λ k. file_share gap k (length f.bytes)) t.kind ∙ ap (λ size. size_share gap size) t.size in
    omega (arith, part, share)

shares_over : (gap : ℕ) (files : Table) → shares gap files ≡ over (λ f. file_share gap f.kind (length f.bytes)) files
shares_over gap [] = refl
shares_over gap (None ∷ files) = shares_over gap files
shares_over gap (Some f ∷ files) = let e = shares_over gap files in omega (arith, e)

-- the files of a database take no more than its sizes say
pub shares_of : (gap : ℕ) (db : Database) (files : Table) → HasFilesOf db files → shares gap files ≤ 4 + 2 * gap + size_shares gap (file_sizes db)
shares_of gap db files h =
    let all = shares_over gap files in
    let each = over_le (λ f. file_share gap f.kind (length f.bytes)) (all_parts gap db) files (λ id f is. file_has gap db f (h.each id f is)) in
    let two = over_sum (named_part catalog_file (4 + 2 * gap)) (λ f. rows_parts gap 0 db.relations f + tree_parts gap db 0 db.indexes f) files in
    let three = over_sum (rows_parts gap 0 db.relations) (tree_parts gap db 0 db.indexes) files in
    let catalog = over_one catalog_file (4 + 2 * gap) files h.distinct in
    let rows = over_rows gap 0 db.relations files h.distinct in
    let trees = over_trees gap db 0 db.indexes files h.distinct in
    let both = size_shares-append gap (map rows_size (used_things db.relations)) (tree_sizes db (used_things db.indexes)) in
    omega (arith, all, each, two, three, catalog, rows, trees, both)

-- a flash of no more sectors than the files take with a gap beside each has fewer than are enough
pub fewer_than_enough : (db : Database) (files : Table) (n sectors : ℕ) → HasFilesOf db files → sectors ≤ shares (gap_for n) files + gap_for n → sectors < enough db n
fewer_than_enough db files n sectors h few =
    let sizes = shares_of (gap_for n) db files h in
    let sum = size_shares_are (gap_for n) (file_sizes db) in
    let gaps : (2 * (1 + length (file_sizes db)) + 1) * gap_for n ≡ 2 * (length (file_sizes db) * gap_for n) + 3 * gap_for n = grind arith in
    omega (arith, few, sizes, sum, gaps)
