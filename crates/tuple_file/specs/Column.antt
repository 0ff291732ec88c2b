-- Where the numbers of an attribute stand in the rows of a relation.
use Rattle.std.specs.Prelude.{ℕ, Bool, true, false, List, take, slice_get, IsTrue}
use Rattle.std.specs.Option.{option_map_or}
use Rattle.afl_base.specs.declared.key_column.KeyColumn.{KeyColumn}
use Rattle.db_model.specs.declared.schemas.Attribute.{Attribute}
use Rattle.db_model.specs.declared.schemas.Domain.{Domain}
use Rattle.db_model.specs.declared.schemas.Domain.TheVariants.{Int, Long, Time, Str}
use Rattle.db_model.specs.Row.{fields_length, row_length, width}
use Rattle.tuple_file.specs.declared.tuples.Tuples.{Tuples}

-- a domain of numbers
abbrev pub is_number : Domain → Bool
is_number Int = true
is_number Long = true
is_number Time = true
is_number (Str n) = false

-- an attribute of numbers stands at this place
abbrev pub IsNumber : List Attribute → ℕ → Type 0
IsNumber attributes place = IsTrue (option_map_or (λ a. is_number a.domain) (slice_get attributes place) false)

-- its field in each row, after those of the attributes before it
abbrev pub column_of : Tuples → ℕ → KeyColumn
column_of tuples place = record {
  file = tuples.file;
  row = row_length tuples.schema.attributes;
  at = fields_length (take place tuples.schema.attributes);
  width = option_map_or (λ a. width a.domain) (slice_get tuples.schema.attributes place) 0;
}
