-- Rows of which a part is there: which of them may be filled, and relations whose rows are whole again.
use Rattle.std.specs.Prelude.{◌≡◌, ◌⊎◌, ℕ, ◌<◌, ◌≤◌, Bool, true, not, ◌||◌, ◌==◌, List, [], ◌∷◌, length, nat_lt, int_le, slice_get, Option, Some, None, IsTrue}
use Rattle.std.specs.List.{list_all}
use Rattle.afl_base.specs.declared.kind.Kind.TheVariants.{Doubling}
use Rattle.afl_base.specs.Files.{File, IsNamed, IsUnnamed, State, Table, bytes_at, file_at}
use Rattle.catalog.specs.Rules.{catalog_in}
use Rattle.db_model.specs.declared.schemas.Attribute.{Attribute}
use Rattle.db_model.specs.declared.schemas.IndexKind.{IndexKind}
use Rattle.db_model.specs.declared.schemas.IndexKind.TheVariants.{Inline, MaxHeap, MemHash}
use Rattle.db_model.specs.declared.schemas.Schema.{Schema}
use Rattle.db_model.specs.Catalog.{Catalog, Index}
use Rattle.db_model.specs.Row.{Row, row_length, row_of, slots_in_bytes}
use Rattle.db_model.specs.Step.{key_of, slots_limit}
use Rattle.space_model.specs.FileNames.{bytes_named, rows_file}
use Rattle.stored.specs.CutTables.{relation}
use Rattle.stored.specs.Mended.{mended_catalog}
use Rattle.stored.specs.declared.half.Half.{Half}
use Rattle.stored_mend.specs.Filled.{FillsPart, IsFilledUp, IsRemovedRow, part_of_row, row_before}
use Rattle.stored_mend.specs.Rows.{MayEndAt, whole_length, whole_rows}
use Rattle.stored_mend.specs.Stages.{IsCatalogSound}
use Rattle.tuple_file.specs.Tuples.{AreRows}

-- ---- what indexes ask of one more row

-- the number of a row at a place is not below that of the last row
abbrev pub is_in_order : (place : ℕ) → Option Row → Row → Bool
is_in_order place None row = true
is_in_order place (Some last) row = int_le (key_of (slice_get last.tuple place)) (key_of (slice_get row.tuple place))

-- an index takes a row behind so many others: INLINE where its number does not fall, MEMHASH up to 2,048 rows
abbrev pub takes_next : IndexKind → (place slots : ℕ) → Option Row → Row → Bool
takes_next Inline place slots last row = is_in_order place last row
takes_next MaxHeap place slots last row = true
takes_next MemHash place slots last row = nat_lt slots 2048

-- an index of another relation takes any row
abbrev pub slot_takes : (relation slots : ℕ) → Option Row → Row → Option Index → Bool
slot_takes relation slots last row None = true
slot_takes relation slots last row (Some index) = not (index.relation == relation) || takes_next index.kind index.attribute slots last row

-- each index of a relation takes the row
abbrev pub all_take : List (Option Index) → (relation slots : ℕ) → Option Row → Row → Bool
all_take indexes relation slots last row = list_all (slot_takes relation slots last row) indexes

-- the row that bytes are read as, none where there are none
abbrev pub row_read : List Attribute → List ℕ → Option Row
row_read attributes [] = None
row_read attributes (b ∷ bytes) = Some (row_of attributes (b ∷ bytes))

-- ---- rows that may be filled

-- the file of a relation doubles, the relation may have one slot more, and a part of a row stands behind the whole ones
pub record HasPart (version : ℕ) (attributes : List Attribute) (file : File) : Type 0 where
  pub doubles : file.kind ≡ Doubling
  pub short : row_length attributes ≤ 128
  pub few : slots_in_bytes attributes file.bytes < slots_limit version
  pub some : whole_length attributes file.bytes < length file.bytes

-- the bytes are those of a removed row, which each index takes behind so many others
pub record IsTakenRow (indexes : List (Option Index)) (relation : ℕ) (attributes : List Attribute) (slots : ℕ) (before row : List ℕ) : Type 0 where
  pub removed : IsRemovedRow attributes row
  pub taken : all_take indexes relation slots (row_read attributes before) (row_of attributes row) ≡ true

-- what stands behind the whole rows of a relation is filled to a removed row that each index takes
pub record HasFilling (catalog : Catalog) (relation : ℕ) (attributes : List Attribute) (bytes : List ℕ) : Type 0 where
  pub row : List ℕ
  pub fills : FillsPart attributes (row_before attributes bytes) (part_of_row attributes bytes) row
  pub taken : IsTakenRow catalog.indexes relation attributes (slots_in_bytes attributes bytes) (row_before attributes bytes) row

-- a row may be filled at the end of a relation's file
pub record IsFillable (catalog : Catalog) (relation : ℕ) (attributes : List Attribute) (file : File) : Type 0 where
  pub part : HasPart catalog.version attributes file
  pub filling : HasFilling catalog relation attributes file.bytes

-- ---- rows that are whole again

-- the one file of a name
pub record IsOnlyFile (files : Table) (name : List ℕ) (file : ℕ) : Type 0 where
  pub named : IsNamed files file name
  pub only : (k : ℕ) → IsNamed files k name → k ≡ file
  pub within : file < 32

-- a row is filled where it may be; else its part is taken back, where the file may end behind its whole rows
abbrev pub IsFilledOrCut : Catalog → (relation : ℕ) → List Attribute → (old new : State) → (file : ℕ) → Type 0
IsFilledOrCut catalog relation attributes old new file = let before = file_at old.files file in
    (IsFillable catalog relation attributes before × IsFilledUp attributes before.bytes (bytes_at new.files file))
    ⊎ ((IsFillable catalog relation attributes before → ⊥)
    × ((bytes_at new.files file ≡ whole_rows attributes before.bytes) ⊎ ((MayEndAt before (whole_length attributes before.bytes) → ⊥) × (new ≡ old))))

-- whole rows stay
abbrev pub AreRowsMended : Catalog → (relation : ℕ) → List Attribute → (old new : State) → (file : ℕ) → Type 0
AreRowsMended catalog relation attributes old new file = let bytes = bytes_at old.files file in
    ((whole_length attributes bytes ≡ length bytes) × (new ≡ old))
    ⊎ ((whole_length attributes bytes < length bytes) × IsFilledOrCut catalog relation attributes old new file)

-- so it is with the file of a relation's rows, where it is there
abbrev pub MendsRows : Catalog → (relation : ℕ) → List Attribute → (old new : State) → Type 0
MendsRows catalog relation attributes old new =
    (IsUnnamed old.files (rows_file relation) × (new ≡ old))
    ⊎ ((file : ℕ) × IsOnlyFile old.files (rows_file relation) file × AreRowsMended catalog relation attributes old new file)

-- the rows of the relations in the slots before one are whole
pub record HasRowsBelow (files : Table) (slot : ℕ) (half : Half) : Type 0 where
  pub stage : IsCatalogSound files half
  pub rows : (k : ℕ) (schema : Schema) → k < slot → relation files k ≡ Some schema
      → AreRows (mended_catalog files).version schema.attributes (bytes_named (rows_file k) files)

-- where bytes are told and the catalog is the one that was read, the rows of the relations before a slot become whole, if
-- those before an earlier one are
unfoldable pub MakesWhole : Catalog → (from upto : ℕ) → (old new : State) → Type 0
MakesWhole catalog from upto old new =
    IsTrue old.tells → catalog ≡ catalog_in old.files → (half : Half) → HasRowsBelow old.files from half → (after : Half) × HasRowsBelow new.files upto after
