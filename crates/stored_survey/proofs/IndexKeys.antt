-- The keys of an index that is read, where they are read.
use Rattle.std.proofs.Common.{◌≡◌, ◌≢◌, ◌⊎◌, inl, inr, ⊎_elim, ℕ, ℤ, ◌+◌, ◌*◌, ◌<◌, ◌≤◌, Bool, true, false, ◌&&◌, ◌==◌, List, length, get_or, Option, Some, None, if◌then◌else◌, nat_le, refl, ap, sym, subst, ◌∙◌, arith}
use Rattle.std.specs.Prelude.{is_some, slice_get}
use Rattle.std.specs.List.{list_all}
use Rattle.std.specs.Bool.{Decides}
use Rattle.afl_base.specs.Files.{State, Table, bytes_at}
use Rattle.afl_base.specs.KeyColumn.{key_of as key_of_column}
use Rattle.afl_base.specs.Keys.{first_keys}
use Rattle.afl_base.specs.declared.key_column.KeyColumn.{KeyColumn}
use Rattle.catalog.specs.declared.types.Catalog.{Catalog}
use Rattle.catalog.specs.declared.types.IndexEntry.{IndexEntry}
use Rattle.catalog.specs.CatalogFile.{index_in}
use Rattle.catalog.specs.Rules.{is_attribute_slot, is_row, is_schema}
use Rattle.db_model.specs.declared.schemas.Attribute.{Attribute}
use Rattle.db_model.specs.declared.schemas.IndexKind.{IndexKind}
use Rattle.db_model.specs.declared.schemas.IndexKind.TheVariants.{Inline, MaxHeap, MemHash}
use Rattle.db_model.specs.declared.schemas.Schema.{Schema}
use Rattle.db_model.specs.Catalog.{Index}
use Rattle.db_model.specs.Names.{is_name}
use Rattle.db_model.specs.Row.{row_length, rows_of, slots_in_bytes, width}
use Rattle.db_model.specs.Sound.{are_distinct, attribute_names}
use Rattle.db_model.specs.Step.{allows, first_fall, keys}
use Rattle.index_tree.specs.Trees.{IsTreeOf}
use Rattle.index_tree.proofs.Numbered.{numbered_length}
use Rattle.padded.proofs.Facts.{both_parts, some_same, true_le}
use Rattle.space_model.specs.FileNames.{bytes_named, is_there, rows_file}
use Rattle.index_tree.specs.TreeFile.{NamesOnly}
use Rattle.stored.specs.CutTables.{IsIndexWhile, relation}
use Rattle.stored.specs.Sound.{IsIndexComplete}
use Rattle.stored.specs.declared.half.Half.TheVariants.{AddingKey}
use Rattle.stored.specs.Mended.{mended_catalog}
use Rattle.stored.specs.declared.half.Half.{Half}
use Rattle.stored_mend.proofs.FilledRows.{limit_most as few_slots}
use Rattle.stored_mend.specs.Keys.{HasTooMany, IsKeysOf, MayHaveKeys}
use Rattle.stored_survey.specs.Asked.{AreSoundBeside, IsReadAs}
use Rattle.stored_survey.specs.Pieces.{IsReadIndex, IsRowWritten}
use Rattle.stored_survey.specs.Shown.{keys_mended}
use Rattle.stored_survey.proofs.HalfParts.{found_bytes, only_bytes, there_found}
use Rattle.stored_mend.proofs.ColumnKeys.{keys_count, narrow_keys, narrow_width}
use Rattle.stored_survey.proofs.KeysRead.{keys_of_rows, ordered_keys}
use Rattle.stored_survey.proofs.RowsHeld.{held_each}
use Rattle.stored_survey.proofs.Slots.{StandsOn, stands}

-- a schema has rows of at most 128 bytes
pub short_row : (v : ℕ) (schema : Schema) → is_schema v schema ≡ true → row_length schema.attributes ≤ 128
short_row v schema e =
    let a = both_parts (is_name schema.name && (nat_le (length schema.attributes) 8 && list_all (is_attribute_slot v) schema.attributes)) (is_row schema.attributes) e in
    let b = both_parts (nat_le (row_length schema.attributes) 128) (are_distinct (attribute_names schema.attributes)) a.1 in
    true_le (row_length schema.attributes) 128 b.0

-- an answer that says both ways whether
pub decides_by : {P : Type 0} (b : Bool) → (b ≡ true → P) → (b ≡ false → P → ⊥) → Decides b P
decides_by true yes_is no_is = (yes_is, (λ p. refl))
decides_by false yes_is no_is = (yes_is, (λ p. absurd (no_is refl p)))

-- ---- a tree into which a key was being put

heap_complete : (index : Index) (bytes : List ℕ) (zs : List ℤ) → index.kind ≡ MaxHeap → IsIndexComplete index.kind bytes zs → IsTreeOf bytes zs
heap_complete index bytes zs kind complete = subst (λ (one : IndexKind). IsIndexComplete one bytes zs) kind complete

pub whole_while : (half : Half) (index : Index) (bytes : List ℕ) (zs : List ℤ) → index.kind ≡ MaxHeap → IsTreeOf bytes zs → IsIndexWhile half index bytes zs
whole_while half index bytes zs kind tree = inl (subst (λ (one : IndexKind). IsIndexComplete one bytes zs) (sym kind) tree)

-- what is so where the tree is not that of its keys
pub record IsNamedWhile (half : Half) (index : Index) (bytes : List ℕ) (n : ℕ) : Type 0 where
  pub adding : half ≡ AddingKey index.relation
  pub some : 0 < n
  pub named : NamesOnly n bytes

pub while_named : (half : Half) (index : Index) (bytes : List ℕ) (zs : List ℤ) (n : ℕ) → index.kind ≡ MaxHeap → (IsTreeOf bytes zs → ⊥) → length zs ≡ n → IsIndexWhile half index bytes zs → IsNamedWhile half index bytes n
while_named half index bytes zs n kind never count (inl complete) = absurd (never (heap_complete index bytes zs kind complete))
while_named half index bytes zs n kind never count (inr part) = record {
  adding = part.1;
  some = subst (λ (m : ℕ). 0 < m) count part.2;
  named = subst (λ (m : ℕ). NamesOnly m bytes) count part.3;
}

pub named_while : (half : Half) (index : Index) (bytes : List ℕ) (zs : List ℤ) (n : ℕ) → index.kind ≡ MaxHeap → length zs ≡ n → IsNamedWhile half index bytes n → IsIndexWhile half index bytes zs
named_while half index bytes zs n kind count w =
    inr (kind, w.adding, subst (λ (m : ℕ). 0 < m) (sym count) w.some, subst (λ (m : ℕ). NamesOnly m bytes) (sym count) w.named)

pub table_complete : (kind : IndexKind) (bytes : List ℕ) (zs : List ℤ) (n : ℕ) (b : Bool) → kind ≡ MemHash → length zs ≡ n → Decides b (n ≤ 2048) → Decides b (IsIndexComplete kind bytes zs)
table_complete kind bytes zs n b is count d =
    subst (λ (one : IndexKind). Decides b (IsIndexComplete one bytes zs)) (sym is) (subst (λ (m : ℕ). Decides b (m ≤ 2048)) (sym count) d)

pub inline_complete : (kind : IndexKind) (bytes : List ℕ) (zs ks : List ℤ) (fall : Option ℤ) (b : Bool) → kind ≡ Inline → ks ≡ zs → fall ≡ first_fall ks → Decides b (fall ≡ None) → Decides b (IsIndexComplete kind bytes zs)
inline_complete kind bytes zs ks fall b is same found d =
    subst (λ (one : IndexKind). Decides b (IsIndexComplete one bytes zs)) (sym is) (subst (λ (o : Option ℤ). Decides b (o ≡ None)) (found ∙ ap first_fall same) d)

pub inline_or_table : (kind : IndexKind) → kind ≢ MaxHeap → kind ≢ MemHash → kind ≡ Inline
inline_or_table Inline a b = refl
inline_or_table MaxHeap a b = absurd (a refl)
inline_or_table MemHash a b = absurd (b refl)

module _ (state : State) (catalog : Catalog) (read : IsReadAs state.files catalog) (entry : IndexEntry) (i : ℕ) (at : IsReadIndex state.files i (index_in entry)) where
  abbrev files : Table
  files = state.files

  abbrev r : ℕ
  r = entry.relation

  on : StandsOn files (index_in entry)
  on = let below = at.below in stands files i (index_in entry) below at.read (read.behind i below)

  relation_read_is : get_or catalog.relations r None ≡ relation files r
  relation_read_is = ap (λ (os : List (Option Schema)). get_or os r None) read.relations

  short : row_length on.schema.attributes ≤ 128
  short = short_row 2 on.schema (read.slots r on.schema on.below on.relation_is).valid

  pub rows_under : (half : Half) → AreSoundBeside files half → is_there (rows_file r) files ≡ true
  rows_under half sound = (sound r on.below).rows_there (inl (ap is_some on.relation_is))

  -- ---- keys that are found

  module _ (column : KeyColumn) (slots : ℕ) (k : IsKeysOf files catalog.relations entry column slots) where
    same_schema : on.schema ≡ k.schema
    same_schema = some_same on.schema k.schema (sym on.relation_is ∙ sym relation_read_is ∙ k.stands)

    relation_is : relation files r ≡ Some k.schema
    relation_is = sym relation_read_is ∙ k.stands

    same_attribute : on.attribute ≡ k.numbers.attribute
    same_attribute = some_same on.attribute k.numbers.attribute (sym on.placed ∙ ap (λ (s : Schema). slice_get s.attributes entry.attribute) same_schema ∙ k.numbers.placed)

    allowed : allows entry.kind k.numbers.attribute.domain ≡ true
    allowed = subst (λ (a : Attribute). allows entry.kind a.domain ≡ true) same_attribute on.allowed

    rows_read : bytes_at files column.file ≡ bytes_named (rows_file r) files
    rows_read = only_bytes files column.file (rows_file r) k.named k.only

    here : keys entry.attribute (rows_of k.schema.attributes (bytes_at files column.file)) ≡ keys_mended files (index_in entry)
    here = ap (λ (xs : List ℕ). keys entry.attribute (rows_of k.schema.attributes xs)) rows_read ∙ sym (keys_of_rows files (index_in entry) k.schema relation_is)

    pub tree_keys : entry.kind ≡ MaxHeap → first_keys (key_of_column state column) slots ≡ keys_mended files (index_in entry)
    tree_keys kind =
        narrow_keys state k.schema.attributes entry.attribute column slots k.numbers (subst (λ (one : IndexKind). allows one k.numbers.attribute.domain ≡ true) kind allowed)
        ∙ here

    pub narrow_column : entry.kind ≡ MaxHeap → column.width ≢ 8
    narrow_column kind e =
        narrow_width k.numbers.attribute.domain (subst (λ (one : IndexKind). allows one k.numbers.attribute.domain ≡ true) kind allowed) (sym k.numbers.width_is ∙ e)

    pub keys_counted : length (keys_mended files (index_in entry)) ≡ slots
    keys_counted = ap (λ (zs : List ℤ). length zs) (sym here) ∙ keys_count entry.attribute k.schema.attributes (bytes_at files column.file) ∙ sym k.numbers.slots_are

    pub inline_keys : (half : Half) → AreSoundBeside files half → entry.kind ≡ Inline → first_keys (key_of_column state column) slots ≡ keys_mended files (index_in entry)
    inline_keys half sound kind =
        let held = held_each half (mended_catalog files).version r k.schema.attributes (bytes_named (rows_file r) files) ((sound r on.below).rows k.schema relation_is) in
        let count : slots ≡ slots_in_bytes k.schema.attributes (bytes_named (rows_file r) files) = k.numbers.slots_are ∙ ap (slots_in_bytes k.schema.attributes) rows_read in
        ordered_keys state k.schema.attributes entry.attribute column slots k.numbers (subst (λ (one : IndexKind). allows one k.numbers.attribute.domain ≡ true) kind allowed)
        (λ slot below. subst (λ (xs : List ℕ). IsRowWritten k.schema.attributes xs slot) (sym rows_read) (held.written slot (omega (arith, below, count))))
        ∙ here

  -- ---- none

  module _ (none : (schema : Schema) (file : ℕ) → MayHaveKeys files catalog.relations entry schema file → HasTooMany files file schema.attributes) where
    too_many : is_there (rows_file r) files ≡ true → 32768 < slots_in_bytes on.schema.attributes (bytes_named (rows_file r) files)
    too_many there =
        let found = there_found files (rows_file r) there in
        let many = none on.schema found.id (record { stands = relation_read_is ∙ on.relation_is; attribute = on.attribute; placed = on.placed; allowed = on.allowed; named = found.named }) short in
        subst (λ (xs : List ℕ). 32768 < slots_in_bytes on.schema.attributes xs) (found_bytes files found.id (rows_file r) found.named found.is) many

    pub no_tree_of : is_there (rows_file r) files ≡ true → (bytes : List ℕ) → IsTreeOf bytes (keys_mended files (index_in entry)) → ⊥
    no_tree_of there bytes tree =
        let many = too_many there in
        let few = tree.few in
        let count = numbered_length 0 (keys_mended files (index_in entry)) in
        let all = ap (λ (zs : List ℤ). length zs) (keys_of_rows files (index_in entry) on.schema on.relation_is) ∙ keys_count entry.attribute on.schema.attributes (bytes_named (rows_file r) files) in
        omega (arith, many, few, count, all)

    pub keys_there : (half : Half) → AreSoundBeside files half → ⊥
    keys_there half sound =
        let s = sound r on.below in
        let many = too_many (s.rows_there (inl (ap is_some on.relation_is))) in
        let held = held_each half (mended_catalog files).version r on.schema.attributes (bytes_named (rows_file r) files) (s.rows on.schema on.relation_is) in
        let few = held.few in
        let most = few_slots (mended_catalog files).version in
        omega (arith, many, few, most)
