-- The keys of an index in a file of rows.
use Rattle.std.specs.Prelude.{◌≡◌, ℕ, List, Option, Some, None, get_or, length, slice_get, take, true, ◌≤◌, ◌<◌}
use Rattle.afl_base.specs.Files.{IsNamed, State, Table, bytes_at}
use Rattle.afl_base.specs.KeyColumn.{HasField, IsWidth}
use Rattle.afl_base.specs.declared.key_column.KeyColumn.{KeyColumn}
use Rattle.catalog.specs.declared.types.IndexEntry.{IndexEntry}
use Rattle.db_model.specs.declared.schemas.Attribute.{Attribute}
use Rattle.db_model.specs.declared.schemas.Schema.{Schema}
use Rattle.db_model.specs.Row.{fields_length, row_length, slots_in_bytes, width}
use Rattle.db_model.specs.Step.{allows}
use Rattle.space_model.specs.FileNames.{rows_file}

-- numbers of 2, 4 or 8 bytes stand in this many slots of a file
pub record AreKeys (state : State) (column : KeyColumn) (slots : ℕ) : Type 0 where
  pub width : IsWidth column.width
  pub few : slots ≤ 32768
  pub fields : (slot : ℕ) → slot < slots → HasField state column slot

-- a column has the numbers of an attribute in the rows of a file
pub record IsNumbersOf (files : Table) (attributes : List Attribute) (place : ℕ) (column : KeyColumn) (slots : ℕ) : Type 0 where
  pub attribute : Attribute
  pub placed : slice_get attributes place ≡ Some attribute
  pub row_is : column.row ≡ row_length attributes
  pub at_is : column.at ≡ fields_length (take place attributes)
  pub width_is : column.width ≡ width attribute.domain
  pub slots_are : slots ≡ slots_in_bytes attributes (bytes_at files column.file)

-- and those of an index
pub record IsKeysOf (files : Table) (relations : List (Option Schema)) (entry : IndexEntry) (column : KeyColumn) (slots : ℕ) : Type 0 where
  pub schema : Schema
  pub stands : get_or relations entry.relation None ≡ Some schema
  pub named : IsNamed files column.file (rows_file entry.relation)
  pub only : (k : ℕ) → IsNamed files k (rows_file entry.relation) → k ≡ column.file
  pub numbers : IsNumbersOf files schema.attributes entry.attribute column slots

-- a file has more rows than any relation of such attributes
abbrev pub HasTooMany : Table → ℕ → List Attribute → Type 0
HasTooMany files file attributes = row_length attributes ≤ 128 → 32768 < slots_in_bytes attributes (bytes_at files file)

-- an index may stand on the attribute, and its relation has its file
pub record MayHaveKeys (files : Table) (relations : List (Option Schema)) (entry : IndexEntry) (schema : Schema) (file : ℕ) : Type 0 where
  pub stands : get_or relations entry.relation None ≡ Some schema
  pub attribute : Attribute
  pub placed : slice_get schema.attributes entry.attribute ≡ Some attribute
  pub allowed : allows entry.kind attribute.domain ≡ true
  pub named : IsNamed files file (rows_file entry.relation)
