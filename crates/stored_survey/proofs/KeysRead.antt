-- The keys of an index are the numbers in the rows of its relation.
use Rattle.std.proofs.Common.{◌≡◌, ◌≢◌, inl, inr, ℕ, ℤ, ◌+◌, ◌*◌, ◌<◌, ◌≤◌, true, false, List, [], ◌∷◌, length, map, take, drop, get_or, Option, Some, None, refl, ap, sym, subst, ◌∙◌, arith, w16, w32}
use Rattle.std.specs.Prelude.{option_map, slice_get, slice_range}
use Rattle.std.specs.Int.{cast_signed}
use Rattle.std.specs.List.{range_with_len}
use Rattle.std.specs.Option.{option_map_or}
use Rattle.std.proofs.lemmas.List.FromFn.{length-map-range_with_len}
use Rattle.std.proofs.lemmas.List.{length-map}
use Rattle.afl_base.specs.Fields.{i32_at}
use Rattle.afl_base.specs.Files.{State, Table, bytes_at}
use Rattle.afl_base.specs.KeyColumn.{key_of as key_of_column, number_of_width}
use Rattle.afl_base.specs.Keys.{first_keys}
use Rattle.afl_base.specs.declared.key_column.KeyColumn.{KeyColumn}
use Rattle.db_model.specs.declared.schemas.Attribute.{Attribute}
use Rattle.db_model.specs.declared.schemas.Domain.{Domain}
use Rattle.db_model.specs.declared.schemas.Domain.TheVariants.{Int, Long, Time, Str}
use Rattle.db_model.specs.declared.schemas.IndexKind.TheVariants.{Inline, MaxHeap}
use Rattle.db_model.specs.declared.schemas.Schema.{Schema}
use Rattle.db_model.specs.Catalog.{Index}
use Rattle.db_model.specs.Database.{Relation}
use Rattle.db_model.specs.Row.{Row, field_of, fields_length, row_at, row_length, rows_of, slots_in_bytes, tuple_of, width}
use Rattle.db_model.specs.Step.{allows, key_of, keys}
use Rattle.db_model.proofs.Decoded.{field_inside, number_front, value_read}
use Rattle.db_model.proofs.Rows.{map_range_same}
use Rattle.space_model.specs.Enough.{rows_in}
use Rattle.space_model.specs.FileNames.{bytes_named, rows_file}
use Rattle.stored.specs.CutTables.{relation}
use Rattle.stored.specs.Mended.{mended_base, whole_catalog}
use Rattle.stored.proofs.MendedBase.{relation_mended, relation_mended_at, relation_read}
use Rattle.stored_mend.specs.Keys.{IsNumbersOf}
use Rattle.stored_mend.proofs.ColumnKeys.{all_numbers}
use Rattle.tuple_file.specs.Column.{is_number}
use Rattle.tuple_file.proofs.Columns.{key_in_slot}
use Rattle.tuple_file.proofs.Slots.{slot_field}
use Rattle.stored_survey.specs.Pieces.{AreWritten, IsRowWritten}
use Rattle.stored_survey.specs.Shown.{keys_mended}
use Rattle.stored_survey.proofs.Slots.{relation_at_slot, relation_below}

-- ---- rows of the database that files mend to

pub rows_mended : (files : Table) (k : ℕ) (schema : Schema) → relation files k ≡ Some schema → rows_in (mended_base files) k ≡ rows_of schema.attributes (bytes_named (rows_file k) files)
rows_mended files k schema is =
    let below = relation_below files k schema is in
    ap (λ (o : Option Relation). option_map_or (λ (r : Relation). r.rows) o [])
    (relation_mended_at files k below ∙ ap (option_map (relation_read (bytes_named (rows_file k) files))) (sym (relation_at_slot files k below) ∙ is))

pub keys_of_rows : (files : Table) (index : Index) (schema : Schema) → relation files index.relation ≡ Some schema
    → keys_mended files index ≡ keys index.attribute (rows_of schema.attributes (bytes_named (rows_file index.relation) files))
keys_of_rows files index schema is = ap (keys index.attribute) (rows_mended files index.relation schema is)

-- ---- numbers of rows that are written as they are read

number_allowed : (d : Domain) → allows Inline d ≡ true → is_number d ≡ true
number_allowed Int allowed = refl
number_allowed Long allowed = refl
number_allowed Time allowed = refl
number_allowed (Str n) allowed = cc

module _ (state : State) (attributes : List Attribute) (place : ℕ) (column : KeyColumn) (slots : ℕ) (n : IsNumbersOf state.files attributes place column slots) where
  -- of rows that are written as they are read
  pub ordered_keys : allows Inline n.attribute.domain ≡ true → AreWritten attributes (bytes_at state.files column.file) slots → first_keys (key_of_column state column) slots ≡ keys place (rows_of attributes (bytes_at state.files column.file))
  ordered_keys allowed written = all_numbers state attributes place column slots n (λ slot below.
      key_in_slot attributes (bytes_at state.files column.file) slot place n.attribute n.placed (number_allowed n.attribute.domain allowed) (written slot below))
