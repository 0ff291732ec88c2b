use Rattle.std.proofs.Common.{ap, ◌∙◌, sym, subst, List, take, arith}
use Rattle.afl_base.specs.KeyColumn.{IsWidth}
use Rattle.afl_base.specs.declared.key_column.KeyColumn.{KeyColumn}
use Rattle.db_model.specs.declared.schemas.Attribute.{Attribute}
use Rattle.db_model.specs.Row.{fields_length}
use Rattle.db_model.proofs.Decoded.{field_inside}
use Rattle.tuple_file.proofs.Columns.{attribute_at, column_field, column_key, column_width, item_at, place_inside}
use Rattle.tuple_file.proofs.tuples.Tuples.column.Goals as goal
use Rattle.std.proofs.lemmas.Grind.{common_steps}

pub overflow_cast-result-2 : goal.overflow_cast-result-2
overflow_cast-result-2 c =
    let attributes = c.args.self.now.schema.attributes in
    let found = attribute_at attributes c.args.attribute c.requires.number in
    let inside = field_inside attributes c.args.attribute found.0 found.1 in
    let at = c.fields_length.ensures.value ∙ ap (λ (items : List Attribute). fields_length (take c.args.attribute items)) c.as_slice.ensures.items in
    record { fits = omega (arith, inside, at, c.requires.short) }

pub get-requires : goal.get-requires
get-requires c = grind (arith, common_steps, attribute_at, place_inside)

pub returns-clause-column : goal.returns-clause-column
returns-clause-column c = grind (arith, common_steps, attribute_at, item_at)

pub returns-clause-width : goal.returns-clause-width
returns-clause-width c =
    subst (λ (k : KeyColumn). IsWidth k.width) (sym (returns-clause-column c)) (column_width c.args.self.now c.args.attribute c.requires.number)

pub returns-clause-field : goal.returns-clause-field
returns-clause-field c state slot holds below = grind (arith, common_steps, returns-clause-column, column_field)

pub returns-clause-key : goal.returns-clause-key
returns-clause-key c state slot holds told below = grind (arith, common_steps, returns-clause-column, column_key)
