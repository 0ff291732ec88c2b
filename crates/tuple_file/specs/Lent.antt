-- Fields that lend their texts.
use Rattle.db_model.specs.declared.values.Value.{Value}
use Rattle.db_model.specs.declared.values.Value.TheVariants as value
use Rattle.tuple_file.specs.declared.field.Field.{Field}
use Rattle.tuple_file.specs.declared.field.Field.TheVariants.{Number, Text}

-- the value of a field
abbrev pub value_in : Field → Value
value_in (Number z) = value.Number z
value_in (Text bytes) = value.Text bytes.now
