-- The keys of an index that has a tree are found, where the catalog and all rows are sound.
use Rattle.std.proofs.Common.{◌≡◌, ◌≢◌, ⊎_elim, ℕ, ◌+◌, ◌<◌, ◌≤◌, Bool, true, false, ◌==◌, List, [], get_or, Option, Some, None, if◌then◌else◌, refl, ap, sym, subst, ◌∙◌, arith}
use Rattle.std.specs.Prelude.{is_some, option_map, slice_get}
use Rattle.std.specs.Option.{option_map_or}
use Rattle.std.proofs.lemmas.List.FromFn.{get_or-map-range_with_len}
use Rattle.afl_base.specs.Files.{File, IsNamed, State, Table, bytes_at}
use Rattle.afl_base.specs.KeyColumn.{key_of as key_of_column}
use Rattle.afl_base.specs.Keys.{first_keys}
use Rattle.afl_base.specs.declared.key_column.KeyColumn.{KeyColumn}
use Rattle.afl_base.proofs.FileLaws.{file_here, named_here}
use Rattle.catalog.specs.declared.types.Catalog.{Catalog}
use Rattle.catalog.specs.declared.types.IndexEntry.{IndexEntry}
use Rattle.catalog.specs.CatalogFile.{index_in}
use Rattle.catalog.specs.Rules.{breaks_files, catalog_bytes_in, catalog_in, differ, first_broken, stands_on}
use Rattle.db_model.specs.declared.schemas.Attribute.{Attribute}
use Rattle.db_model.specs.declared.schemas.IndexKind.{IndexKind}
use Rattle.db_model.specs.declared.schemas.IndexKind.TheVariants.{MaxHeap}
use Rattle.db_model.specs.declared.schemas.Schema.{Schema}
use Rattle.db_model.specs.Catalog.{Index, index_at, relation_at, version_of}
use Rattle.db_model.specs.Database.{Relation}
use Rattle.db_model.specs.Row.{row_length, rows_of, slots_in_bytes}
use Rattle.db_model.specs.Step.{allows, keys}
use Rattle.padded.proofs.Facts.{some_found, some_same}
use Rattle.space_model.specs.Enough.{rows_in}
use Rattle.space_model.specs.FileNames.{bytes_in_file, bytes_named, file_named, is_there, rows_file}
use Rattle.space_model.proofs.NamedFiles.{named_place}
use Rattle.stored.specs.Base.{base_of, relation_stored}
use Rattle.stored.specs.Sound.{keys_stored}
use Rattle.stored.proofs.FilesOf.{first_false, rows_wanted, unbroken}
use Rattle.stored.proofs.SoundSlots.{slot_below, sound_index_slot, sound_schema, sound_slot, unbroken_slots}
use Rattle.stored_mend.proofs.FilledRows.{limit_most as few_slots}
use Rattle.stored_mend.specs.Complete.{IsSoundButTrees}
use Rattle.stored_mend.specs.Keys.{HasTooMany, IsKeysOf, MayHaveKeys}
use Rattle.stored_mend.proofs.ColumnKeys.{narrow_keys, narrow_width}
use Rattle.stored_mend.proofs.TreeFiles.{named_bytes}

pub wanted_there : (there used : Bool) → differ there used ≡ false → used ≡ true → there ≡ true
wanted_there true used e t = refl
wanted_there false true e t = cc
wanted_there false false e t = cc

-- ---- what an index stands on

pub record StandsOn (files : Table) (index : Index) : Type 0 where
  pub below : index.relation < 8
  pub schema : Schema
  pub relation_is : get_or (catalog_in files).relations index.relation None ≡ Some schema
  pub short : row_length schema.attributes ≤ 128
  pub attribute : Attribute
  pub placed : slice_get schema.attributes index.attribute ≡ Some attribute
  pub allowed : allows index.kind attribute.domain ≡ true

pub stands : (files : Table) (i : ℕ) (index : Index) → first_broken files ≡ None → get_or (catalog_in files).indexes i None ≡ Some index → StandsOn files index
stands files i index sound e =
    let bytes : List ℕ = catalog_bytes_in files in
    let u = unbroken_slots bytes (unbroken files sound).inner in
    let at = slot_below (index_at bytes) 8 i index e in
    by_relation (get_or (catalog_in files).relations index.relation None) refl (sound_index_slot bytes i index u at.below at.is).stands
  where
    on_attribute : (schema : Schema) → get_or (catalog_in files).relations index.relation None ≡ Some schema → (o : Option Attribute) → slice_get schema.attributes index.attribute ≡ o
        → elim o [ None ↦ false | Some a ↦ allows index.kind a.domain ] ≡ true → StandsOn files index
    on_attribute schema r None at t = cc
    on_attribute schema r (Some a) at t =
        let bytes : List ℕ = catalog_bytes_in files in
        let u = unbroken_slots bytes (unbroken files sound).inner in
        let slot = slot_below (relation_at bytes) 8 index.relation schema r in
        let s = sound_schema (version_of bytes) schema (sound_slot bytes index.relation schema u slot.below slot.is).schema_is in
        record { below = slot.below; schema = schema; relation_is = r; short = s.short; attribute = a; placed = at; allowed = t }

    by_relation : (o : Option Schema) → get_or (catalog_in files).relations index.relation None ≡ o → stands_on index o ≡ true → StandsOn files index
    by_relation None r t = cc
    by_relation (Some schema) r t = on_attribute schema r (slice_get schema.attributes index.attribute) refl t

-- the rows of a relation are those of its file
pub rows_stored : (files : Table) (k : ℕ) (schema : Schema) → k < 8 → get_or (catalog_in files).relations k None ≡ Some schema → rows_in (base_of files) k ≡ rows_of schema.attributes (bytes_named (rows_file k) files)
rows_stored files k schema below is =
    ap (λ (o : Option Relation). option_map_or (λ (r : Relation). r.rows) o [])
    (get_or-map-range_with_len (relation_stored files (catalog_in files).relations) 0 8 k k None below (omega arith)
    ∙ ap (option_map (λ (x : Schema). record { schema = x; rows = rows_of x.attributes (bytes_named (rows_file k) files) })) is)

-- the file of a name that is there
pub record IsFoundAs (files : Table) (name : List ℕ) : Type 0 where
  pub id : ℕ
  pub named : IsNamed files id name
  pub bytes : bytes_at files id ≡ bytes_named name files

pub found_as : (files : Table) (name : List ℕ) → is_there name files ≡ true → IsFoundAs files name
found_as files name there =
    let f = some_found (file_named name files) there in
    let at = named_place files name f.0 f.1 in
    record {
      id = at.0;
      named = named_here files at.0 f.0 at.1 ∙ ap (λ (n : List ℕ). Some n) at.2;
      bytes = ap (λ (x : File). x.bytes) (file_here files at.0 f.0 at.1) ∙ sym (ap bytes_in_file f.1);
    }

-- ---- the keys of an index in a slot

module _ (state : State) (catalog : Catalog) (entry : IndexEntry) (i : ℕ) (s : IsSoundButTrees state.files) (read : catalog.relations ≡ (catalog_in state.files).relations)
    (at : get_or (catalog_in state.files).indexes i None ≡ Some (index_in entry)) where
  abbrev files : Table
  files = state.files

  abbrev r : ℕ
  r = entry.relation

  on : StandsOn files (index_in entry)
  on = stands files i (index_in entry) s.catalog at

  relation_read_is : get_or catalog.relations r None ≡ get_or (catalog_in files).relations r None
  relation_read_is = ap (λ (os : List (Option Schema)). get_or os r None) read

  rows_there : is_there (rows_file r) files ≡ true
  rows_there =
      let below = on.below in
      wanted_there (is_there (rows_file r) files) (is_some (get_or (catalog_in files).relations r None))
      (rows_wanted files (catalog_in files).relations (catalog_in files).indexes r on.below
      (first_false (breaks_files files (catalog_in files).relations (catalog_in files).indexes) 16 r (omega (arith, below)) (unbroken files s.catalog).files_there))
      (ap is_some on.relation_is)

  module _ (column : KeyColumn) (slots : ℕ) (k : IsKeysOf files catalog.relations entry column slots) where
    same_schema : on.schema ≡ k.schema
    same_schema = some_same on.schema k.schema (sym on.relation_is ∙ sym relation_read_is ∙ k.stands)

    same_attribute : on.attribute ≡ k.numbers.attribute
    same_attribute = some_same on.attribute k.numbers.attribute (sym on.placed ∙ ap (λ (x : Schema). slice_get x.attributes entry.attribute) same_schema ∙ k.numbers.placed)

    allowed : entry.kind ≡ MaxHeap → allows MaxHeap k.numbers.attribute.domain ≡ true
    allowed kind =
        subst (λ (one : IndexKind). allows one k.numbers.attribute.domain ≡ true) kind
        (subst (λ (a : Attribute). allows entry.kind a.domain ≡ true) same_attribute on.allowed)

    -- they are those of all slots
    pub keys_are : entry.kind ≡ MaxHeap → first_keys (key_of_column state column) slots ≡ keys_stored files (index_in entry)
    keys_are kind =
        narrow_keys state k.schema.attributes entry.attribute column slots k.numbers (allowed kind)
        ∙ ap (λ (xs : List ℕ). keys entry.attribute (rows_of k.schema.attributes xs)) (sym (named_bytes files column.file (rows_file r) k.named k.only))
        ∙ ap (λ (x : Schema). keys entry.attribute (rows_of x.attributes (bytes_named (rows_file r) files))) (sym same_schema)
        ∙ ap (keys entry.attribute) (sym (rows_stored files r on.schema on.below on.relation_is))

    -- and numbers of 2 or 4 bytes
    pub narrow_column : entry.kind ≡ MaxHeap → column.width ≢ 8
    narrow_column kind e = narrow_width k.numbers.attribute.domain (allowed kind) (sym k.numbers.width_is ∙ e)

  -- they are always found
  pub keys_found : ((schema : Schema) (file : ℕ) → MayHaveKeys files catalog.relations entry schema file → HasTooMany files file schema.attributes) → ⊥
  keys_found none =
      let found = found_as files (rows_file r) rows_there in
      let many = none on.schema found.id (record { stands = relation_read_is ∙ on.relation_is; attribute = on.attribute; placed = on.placed; allowed = on.allowed; named = found.named }) on.short in
      let same = ap (slots_in_bytes on.schema.attributes) found.bytes in
      let few = (s.rows r on.below on.schema on.relation_is).few in
      let most = few_slots (catalog_in files).version in
      omega (arith, many, same, few, most)
