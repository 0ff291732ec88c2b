-- What is read of the slots of a catalog that has all of them.
use Rattle.std.proofs.Common.{◌≡◌, ◌⊎◌, inl, inr, ⊎_elim, ℕ, ◌+◌, ◌*◌, ◌<◌, ◌≤◌, Bool, true, false, not, ◌&&◌, List, length, map, take, get_or, Option, Some, None, if◌then◌else◌, refl, ap, sym, subst, ◌∙◌, arith}
use Rattle.std.specs.Prelude.{is_some, slice_get, slice_range}
use Rattle.std.specs.List.{list_any, range_with_len}
use Rattle.std.proofs.lemmas.Bool.{cases_lt}
use Rattle.std.proofs.lemmas.List.{get_or_past}
use Rattle.std.proofs.lemmas.List.FromFn.{get_or-map-range_with_len, length-map-range_with_len}
use Rattle.afl_base.specs.Files.{Table}
use Rattle.catalog.specs.Rules.{allows_at, breaks_index, is_behind, is_index_behind, is_index_form, is_same_place, is_sound_index, is_surplus_table, is_tree, stands_on}
use Rattle.db_model.specs.declared.schemas.Attribute.{Attribute}
use Rattle.db_model.specs.declared.schemas.IndexKind.{IndexKind}
use Rattle.db_model.specs.declared.schemas.IndexKind.TheVariants.{Inline, MaxHeap, MemHash}
use Rattle.db_model.specs.declared.schemas.Schema.{Schema}
use Rattle.db_model.specs.Catalog.{Index, catalog_of, index_at, index_slot_of, relation_at}
use Rattle.db_model.specs.Step.{allows}
use Rattle.padded.proofs.Facts.{both_parts, none_some, not_not, some_found, some_same}
use Rattle.space_model.specs.FileNames.{is_there, tree_file}
use Rattle.stored.specs.CutTables.{index_read, relation}
use Rattle.stored.specs.Mended.{mended_catalog, standing, whole_catalog}

-- ---- relations

pub relations_read : (files : Table) → (mended_catalog files).relations ≡ (catalog_of (whole_catalog files)).relations
unfolding mended_catalog
relations_read files = refl

pub relation_at_slot : (files : Table) (k : ℕ) → k < 8 → relation files k ≡ relation_at (whole_catalog files) k
relation_at_slot files k below =
    ap (λ (os : List (Option Schema)). get_or os k None) (relations_read files)
    ∙ get_or-map-range_with_len (relation_at (whole_catalog files)) 0 8 k k None below (omega arith)

-- no relation is read behind the eight slots
below_eight : {X : Type 0} (f : ℕ → Option X) (k : ℕ) (x : X) → get_or (map f (range_with_len 0 8)) k None ≡ Some x → k < 8
below_eight f k x e = ⊎_elim
    (λ (less : k < 8). less)
    (λ (past : 8 ≤ k).
    let size = length-map-range_with_len f 0 8 in
    let none : get_or (map f (range_with_len 0 8)) k None ≡ None = get_or_past (map f (range_with_len 0 8)) k None (omega (arith, size, past)) in
    absurd (none_some x (sym none ∙ e)))
    (cases_lt k 8)

pub relation_below : (files : Table) (k : ℕ) (schema : Schema) → relation files k ≡ Some schema → k < 8
relation_below files k schema e =
    below_eight (relation_at (whole_catalog files)) k schema (sym (ap (λ (os : List (Option Schema)). get_or os k None) (relations_read files)) ∙ e)

-- ---- indexes

pub index_at_slot : (files : Table) (i : ℕ) → i < 8 → index_read files i ≡ index_at (whole_catalog files) i
index_at_slot files i below = get_or-map-range_with_len (index_at (whole_catalog files)) 0 8 i i None below (omega arith)

pub index_below : (files : Table) (i : ℕ) (index : Index) → index_read files i ≡ Some index → i < 8
index_below files i index e = below_eight (index_at (whole_catalog files)) i index e

-- what stands in a slot, where the tree is there that it has
pub index_standing : (files : Table) (i : ℕ) → i < 8 → get_or (mended_catalog files).indexes i None ≡ standing files i (index_read files i)
unfolding mended_catalog
index_standing files i below =
    get_or-map-range_with_len (λ (slot : ℕ). standing files slot (get_or (catalog_of (whole_catalog files)).indexes slot None)) 0 8 i i None below (omega arith)

pub standing_below : (files : Table) (i : ℕ) (index : Index) → get_or (mended_catalog files).indexes i None ≡ Some index → i < 8
unfolding mended_catalog
standing_below files i index e = below_eight (λ (slot : ℕ). standing files slot (get_or (catalog_of (whole_catalog files)).indexes slot None)) i index e

-- an index that stands is the one that is read, and its tree is there
pub record IsStanding (files : Table) (i : ℕ) (index : Index) : Type 0 where
  pub below : i < 8
  pub read : index_read files i ≡ Some index
  pub tree : is_tree (Some index) ≡ true → is_there (tree_file i) files ≡ true

pub stands_as_read : (files : Table) (i : ℕ) (index : Index) → get_or (mended_catalog files).indexes i None ≡ Some index → IsStanding files i index
stands_as_read files i index e =
    let below = standing_below files i index e in
    by_slot (index_read files i) refl (sym (index_standing files i below) ∙ e)
  where
    by_tests : (o : Option Index) (tree there : Bool) → is_tree o ≡ tree → is_there (tree_file i) files ≡ there → (if tree && not there then None else o) ≡ Some index
        → (o ≡ Some index) × (is_tree (Some index) ≡ true → is_there (tree_file i) files ≡ true)
    by_tests o true true t f g = (g, λ (_ : is_tree (Some index) ≡ true). f)
    by_tests o true false t f g = absurd (none_some index g)
    by_tests o false there t f g = (g, λ (yes_tree : is_tree (Some index) ≡ true). absurd (let no : false ≡ true = sym t ∙ ap is_tree g ∙ yes_tree in let n : ⊥ = cc in n))

    by_slot : (o : Option Index) → index_read files i ≡ o → standing files i o ≡ Some index → IsStanding files i index
    by_slot o is s =
        let both = by_tests o (is_tree o) (is_there (tree_file i) files) refl refl s in
        record { below = standing_below files i index e; read = is ∙ both.0; tree = both.1 }

-- and an index that is read stands, where its tree is there
pub read_stands : (files : Table) (i : ℕ) (index : Index) → i < 8 → index_read files i ≡ Some index → (is_tree (Some index) ≡ true → is_there (tree_file i) files ≡ true)
    → get_or (mended_catalog files).indexes i None ≡ Some index
read_stands files i index below e there =
    index_standing files i below ∙ ap (standing files i) e ∙ by_tests (is_tree (Some index)) (is_there (tree_file i) files) refl refl
  where
    by_tests : (tree here : Bool) → is_tree (Some index) ≡ tree → is_there (tree_file i) files ≡ here → (if tree && not here then None else Some index) ≡ Some index
    by_tests true true t f = refl
    by_tests true false t f = absurd (let no : false ≡ true = sym f ∙ there t in let n : ⊥ = cc in n)
    by_tests false here t f = refl

pub tree_of : (index : Index) → index.kind ≡ MaxHeap → is_tree (Some index) ≡ true
tree_of index e = ap (λ (kind : IndexKind). elim kind [ Inline ↦ false | MaxHeap ↦ true | MemHash ↦ false ]) e

pub heap_of : (index : Index) → is_tree (Some index) ≡ true → index.kind ≡ MaxHeap
heap_of index e = by_kind index.kind e
  where
    by_kind : (kind : IndexKind) → elim kind [ Inline ↦ false | MaxHeap ↦ true | MemHash ↦ false ] ≡ true → kind ≡ MaxHeap
    by_kind Inline e = cc
    by_kind MaxHeap e = refl
    by_kind MemHash e = cc

-- ---- what an index stands on

pub record StandsOn (files : Table) (index : Index) : Type 0 where
  pub below : index.relation < 8
  pub schema : Schema
  pub relation_is : relation files index.relation ≡ Some schema
  pub attribute : Attribute
  pub placed : slice_get schema.attributes index.attribute ≡ Some attribute
  pub allowed : allows index.kind attribute.domain ≡ true

pub stands : (files : Table) (i : ℕ) (index : Index) → i < 8 → index_read files i ≡ Some index → breaks_index (whole_catalog files) i ≡ false → StandsOn files index
unfolding breaks_index
stands files i index below e sound =
    let bytes : List ℕ = whole_catalog files in
    let slot : List ℕ = slice_range bytes (1408 + 8 * i) (1408 + 8 * i + 8) in
    let relations : List (Option Schema) = (catalog_of bytes).relations in
    let before : List (Option Index) = take i (catalog_of bytes).indexes in
    let read : index_slot_of slot ≡ Some index = sym (index_at_slot files i below) ∙ e in
    let parts = both_parts (is_index_form slot (index_slot_of slot)) (is_behind relations before (index_slot_of slot)) (not_not (is_sound_index slot relations before) sound) in
    let behind : is_index_behind relations before index ≡ true = subst (λ (o : Option Index). is_behind relations before o ≡ true) read parts.1 in
    let three = both_parts (stands_on index (get_or relations index.relation None) && not (list_any (is_same_place index) before)) (not (is_surplus_table before index)) behind in
    let on = both_parts (stands_on index (get_or relations index.relation None)) (not (list_any (is_same_place index) before)) three.0 in
    by_relation (get_or relations index.relation None) refl on.0
  where
    on_attribute : (schema : Schema) → relation files index.relation ≡ Some schema → (o : Option Attribute) → slice_get schema.attributes index.attribute ≡ o
        → elim o [ None ↦ false | Some a ↦ allows index.kind a.domain ] ≡ true → StandsOn files index
    on_attribute schema r None at t = cc
    on_attribute schema r (Some a) at t = record { below = relation_below files index.relation schema r; schema = schema; relation_is = r; attribute = a; placed = at; allowed = t }

    by_relation : (o : Option Schema) → get_or (catalog_of (whole_catalog files)).relations index.relation None ≡ o → stands_on index o ≡ true → StandsOn files index
    by_relation None r t = cc
    by_relation (Some schema) r t =
        on_attribute schema (ap (λ (os : List (Option Schema)). get_or os index.relation None) (relations_read files) ∙ r) (slice_get schema.attributes index.attribute) refl t
