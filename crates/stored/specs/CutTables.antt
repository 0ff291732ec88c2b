-- Tables of files that a cut of one command, or of one repair, can have left: one thing is half done, and all else is sound.
use Rattle.std.specs.Prelude.{◌≡◌, ◌⊎◌, ⊤, ◌≤◌, ◌<◌, ℕ, ℤ, ◌+◌, ◌-◌, ◌*◌, ◌/◌, ◌%◌, true, false, List, [], ◌∷◌, ◌++◌, drop, get_or, length, replicate, slice_range, take, Option, Some, None, is_some}
use Rattle.afl_base.specs.Fields.{put_at}
use Rattle.afl_base.specs.Files.{File, Table, place}
use Rattle.catalog.specs.Rules.{breaks_index, catalog_bytes_in, has_form, is_named_among, is_relation_slot, is_schema, is_stranger, is_tree}
use Rattle.db_model.specs.declared.schemas.Attribute.{Attribute}
use Rattle.db_model.specs.declared.schemas.Domain.TheVariants.{Time}
use Rattle.db_model.specs.declared.schemas.IndexKind.TheVariants.{MaxHeap}
use Rattle.db_model.specs.declared.schemas.Schema.{Schema}
use Rattle.db_model.specs.Catalog.{Catalog, Index, IsAttribute, IsRelation, attribute_bytes, catalog_bytes, catalog_of, relation_slot_bytes, version_mark, version_of}
use Rattle.db_model.specs.Row.{row_length, slots_in_bytes}
use Rattle.db_model.specs.Step.{keys}
pub use Rattle.index_tree.specs.TreeFile.{NamesOnly}
use Rattle.space_model.specs.Enough.{rows_in}
use Rattle.space_model.specs.FileNames.{bytes_named, catalog_file, is_there, rows_file, tree_file}
use Rattle.stored.specs.Mended.{has_time, mended_base, mended_catalog, whole_catalog}
use Rattle.stored.specs.Sound.{IsIndexComplete}
use Rattle.stored.specs.declared.half.Half.{Half}
use Rattle.stored.specs.declared.half.Half.TheVariants.{Nothing, Emptying, Growing, LoneRows, Treeless, LoneTree, AddingRow, AddingKey}
use Rattle.tuple_file.specs.Tuples.{AreRows}

-- ---- the first catalog

-- a catalog of one relation that has no attribute yet
abbrev pub first_catalog : List ℕ → Catalog
first_catalog name = record {
  version = 2;
  relations = Some (record { name = name; attributes = [] }) ∷ replicate 7 None;
  indexes = replicate 8 None;
}

-- the first bytes of such a catalog stand in the file, and the file of the relation's rows is there
pub record IsFirstInPart (files : Table) : Type 0 where
  pub name : List ℕ
  pub valid : is_schema 2 (record { name = name; attributes = [] }) ≡ true
  pub front : catalog_bytes_in files ≡ take (length (catalog_bytes_in files)) (catalog_bytes (first_catalog name))
  pub rows : is_there (rows_file 0) files ≡ true

-- there is no whole catalog yet: no file stands but the catalog's and that of the rows in slot 0, which is empty
pub record IsBegun (files : Table) : Type 0 where
  pub short : length (catalog_bytes_in files) < 1472
  pub alone : (id : ℕ) (f : File) → place files id ≡ Some f → (f.name ≡ catalog_file) ⊎ ((f.name ≡ rows_file 0) × (f.bytes ≡ []))
  pub catalog : (catalog_bytes_in files ≡ []) ⊎ IsFirstInPart files

-- ---- what is read

abbrev pub relation : Table → ℕ → Option Schema
relation files k = get_or (mended_catalog files).relations k None

abbrev pub slot_bytes : Table → ℕ → List ℕ
slot_bytes files k = slice_range (whole_catalog files) (176 * k) (176 * k + 176)

-- the index that a slot is read as, whether its tree is there or not
abbrev pub index_read : Table → ℕ → Option Index
index_read files i = get_or (catalog_of (whole_catalog files)).indexes i None

-- a region begins at this byte of the slot k
abbrev pub IsEdge : (k at : ℕ) → Type 0
IsEdge k at = (176 * k + at) % 128 ≡ 0

-- ---- slots of relations

-- zeros stand in front, up to where a region begins, and after them the rest of a relation's slot
pub record IsEmptiedInPart (k : ℕ) (slot : List ℕ) : Type 0 where
  pub was : Schema
  pub valid : IsRelation (Some was)
  pub at : ℕ
  pub inside : (0 < at) × (at < 176)
  pub edge : IsEdge k at
  pub bytes : slot ≡ replicate at 0 ++ drop at (relation_slot_bytes (Some was))

abbrev pub schema_with_attribute : Schema → Attribute → Schema
schema_with_attribute schema a = record schema { attributes = schema.attributes ++ a ∷ [] }

-- after its attributes stands one more, or those of its bytes that lie before or after the begin of a region; their
-- number, which stands in a region after them, is still the old one
pub record IsGrownInPart (k : ℕ) (slot : List ℕ) (schema : Schema) : Type 0 where
  pub more : Attribute
  pub valid : IsAttribute more
  pub begin : ℕ
  pub upto : ℕ
  pub inside : (begin < upto) × (upto ≤ 18)
  pub first : (begin ≡ 0) ⊎ IsEdge k (16 + 18 * length schema.attributes + begin)
  pub last : (upto ≡ 18) ⊎ IsEdge k (16 + 18 * length schema.attributes + upto)
  -- where all of it is there it fits the relation
  pub fits : begin ≡ 0 → upto ≡ 18 → is_schema 2 (schema_with_attribute schema more) ≡ true
  pub room : length schema.attributes < 8
  pub apart : (176 * k + 16 + 18 * length schema.attributes + upto - 1) / 128 < (176 * k + 160) / 128
  pub bytes : slot ≡ put_at (relation_slot_bytes (Some schema)) (16 + 18 * length schema.attributes + begin) (slice_range (attribute_bytes more) begin upto)

-- a slot is one that is written, or in part where it was under way
abbrev pub IsSlot : Half → (version k : ℕ) → List ℕ → Option Schema → Type 0
IsSlot half version k slot None = (is_relation_slot version slot None ≡ true) ⊎ ((half ≡ Emptying k) × IsEmptiedInPart k slot)
IsSlot half version k slot (Some schema) =
    (is_relation_slot version slot (Some schema) ≡ true) ⊎ ((half ≡ Growing k) × (is_schema version schema ≡ true) × IsGrownInPart k slot schema)

-- ---- the mark of version 2

-- the last bytes that a command writes into the catalog are the mark's: nothing is half done then but what comes after them, or stood before
abbrev pub IsBehindSlot : Half → Type 0
IsBehindSlot Nothing = ⊤
IsBehindSlot (LoneRows k) = ⊤
IsBehindSlot (Treeless i) = ⊤
IsBehindSlot (LoneTree i) = ⊤
IsBehindSlot _ = ⊥

-- of a catalog without the mark one relation alone has a TIME, just its last attribute, and no rows
pub record IsTimed (files : Table) : Type 0 where
  pub short : length (catalog_bytes_in files) ≡ 1472
  pub k : ℕ
  pub schema : Schema
  pub there : relation files k ≡ Some schema
  pub front : List Attribute
  pub last : Attribute
  pub time : (schema.attributes ≡ front ++ last ∷ []) × (last.domain ≡ Time)
  pub before : has_time (Some (record schema { attributes = front })) ≡ false
  pub alone : (j : ℕ) → has_time (relation files j) ≡ true → j ≡ k
  pub empty : bytes_named (rows_file k) files ≡ []

-- a front part of the mark stands after the slots
pub record IsMarkedInPart (bytes : List ℕ) : Type 0 where
  pub n : ℕ
  pub some : (0 < n) × (n < 8)
  pub size : length bytes ≡ 1472 + n
  pub front : drop 1472 bytes ≡ take n version_mark

-- a catalog has the form of its version; or a front part of the mark, or none of it where a TIME needs it
abbrev pub HasMark : Table → Half → Type 0
HasMark files half = let bytes = catalog_bytes_in files in
    ((has_form bytes ≡ true) × (version_of bytes ≡ (mended_catalog files).version))
    ⊎ ((IsMarkedInPart bytes × IsBehindSlot half) ⊎ (IsTimed files × (half ≡ Nothing)))

-- ---- rows and trees

-- whole rows; and less than one more, where a row was being appended
abbrev pub HoldsRowsOr : Half → (version k : ℕ) → List Attribute → List ℕ → Type 0
HoldsRowsOr half version k attributes bytes =
    AreRows version attributes bytes ⊎ ((half ≡ AddingRow k) × AreRows version attributes (take (row_length attributes * slots_in_bytes attributes bytes) bytes))

-- an index is complete, or its tree names rows alone where a key was being put into the trees of its relation
abbrev pub IsIndexWhile : Half → Index → List ℕ → List ℤ → Type 0
IsIndexWhile half index bytes keys = IsIndexComplete index.kind bytes keys
    ⊎ ((index.kind ≡ MaxHeap) × (half ≡ AddingKey index.relation) × (0 < length keys) × NamesOnly (length keys) bytes)

-- ---- all of it

-- a catalog that has all slots, and its files
pub record IsHalfDone (files : Table) (half : Half) : Type 0 where
  pub whole : 1472 ≤ length (catalog_bytes_in files)
  pub mark : HasMark files half
  pub slots : (k : ℕ) → k < 8 → IsSlot half (mended_catalog files).version k (slot_bytes files k) (relation files k)
  pub named_once : (k : ℕ) → k < 8 → is_named_among (relation files k) (take k (mended_catalog files).relations) ≡ false
  pub indexes : (i : ℕ) → i < 8 → breaks_index (whole_catalog files) i ≡ false
  -- a relation has its file, and so has one whose slot was being emptied; a slot without one has none, but where the rows were left over
  pub rows_there : (k : ℕ) → k < 8 → (is_some (relation files k) ≡ true) ⊎ (half ≡ Emptying k) → is_there (rows_file k) files ≡ true
  pub rows_lone : (k : ℕ) → k < 8 → is_there (rows_file k) files ≡ true → (is_some (relation files k) ≡ true) ⊎ ((half ≡ LoneRows k) ⊎ (half ≡ Emptying k))
  -- the same of trees
  pub tree_there : (i : ℕ) → i < 8 → is_tree (index_read files i) ≡ true → (is_there (tree_file i) files ≡ true) ⊎ (half ≡ Treeless i)
  pub tree_lone : (i : ℕ) → i < 8 → is_there (tree_file i) files ≡ true → (is_tree (index_read files i) ≡ true) ⊎ ((half ≡ LoneTree i) × (index_read files i ≡ None))
  -- an attribute is given to a relation without rows
  pub grown : (k : ℕ) → half ≡ Growing k → bytes_named (rows_file k) files ≡ []
  pub rows : (k : ℕ) (schema : Schema) → relation files k ≡ Some schema → HoldsRowsOr half (mended_catalog files).version k schema.attributes (bytes_named (rows_file k) files)
  pub keys : (i : ℕ) (index : Index) → get_or (mended_catalog files).indexes i None ≡ Some index
      → IsIndexWhile half index (bytes_named (tree_file i) files) (keys index.attribute (rows_in (mended_base files) index.relation))

-- a table of the files of a database, whose catalog was being begun, or in which one thing was half done
pub record IsCutTable (files : Table) : Type 0 where
  pub known : (id : ℕ) → is_stranger files id ≡ false
  pub done : IsBegun files ⊎ ((half : Half) × IsHalfDone files half)
