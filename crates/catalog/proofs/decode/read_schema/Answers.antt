use Rattle.std.proofs.Common.{ap, sym, ◌∙◌}
use Rattle.std.proofs.lemmas.List.{take_rest}
use Rattle.db_model.specs.Catalog.{schema_of}
use Rattle.db_model.specs.Names.{is_name}
use Rattle.catalog.specs.Rules.{is_row}
use Rattle.catalog.proofs.Choices.{if_none, if_some, none_if, some_if}
use Rattle.catalog.proofs.Decoding.{attributes_bad, row_bad, same_schema, schema_good}
use Rattle.catalog.proofs.decode.read_schema.Goals as goal

pub returns-in_err-attributes : goal.returns-in_err-attributes
returns-in_err-attributes c =
    let slot = c.args.slot.now in
    let read = rw (take_rest slot 16) at c.in_err-attributes.ensures in
    c.from_residual-in_err-attributes.ensures ∙ if_none _ (schema_of slot) (attributes_bad c.args.version slot (none_if _ _ read))

pub returns-then-not-is_row : goal.returns-then-not-is_row
returns-then-not-is_row c =
    let slot = c.args.slot.now in
    let read = some_if _ _ _ (rw (take_rest slot 16) at c.in_ok-attributes.ensures) in
    if_none _ (schema_of slot) (row_bad c.args.version slot (ap is_row (sym read.1) ∙ sym c.if-not-is_row.ensures))

pub returns : goal.returns
returns c =
    let slot = c.args.slot.now in
    let read = some_if _ _ _ (rw (take_rest slot 16) at c.in_ok-attributes.ensures) in
    let name = c.in_ok-name.ensures.name ∙ c.up_to_zero.ensures.front in
    let row = ap is_row (sym read.1) ∙ sym c.if-not-is_row.ensures in
    let good = schema_good c.args.version slot (ap is_name (sym c.up_to_zero.ensures.front) ∙ c.in_ok-name.ensures.some) read.0 row in
    if_some _ _ (schema_of slot) good (same_schema slot c.in_ok-name.name c.in_ok-attributes.attributes name read.1)
