use Rattle.std.proofs.Common.{◌∙◌, Some, None}
use Rattle.db_model.specs.Catalog.{schema_of}
use Rattle.catalog.proofs.Choices.{and_left, if_none, none_if, not_equal, some_if, then_some_if}
use Rattle.catalog.proofs.Decoding.{used_slot}
use Rattle.catalog.proofs.decode.read_relation.Goals as goal

pub returns-then-slot-eq0 : goal.returns-then-slot-eq0
returns-then-slot-eq0 c = rw (c.if-slot-eq0.true, c.then_some.ensures, c.eq.ensures, c.as_slice.ensures, c.unused_slot-unused.ensures) (then_some_if _ None)

pub returns-in_err-schema : goal.returns-in_err-schema
returns-in_err-schema c =
    let slot = c.args.slot.now in
    let used = used_slot slot (not_equal _ 0 c.if-slot-eq0.false) in
    c.from_residual.ensures ∙ rw used (if_none _ (Some (schema_of slot)) (and_left _ _ (none_if _ _ c.in_err-schema.ensures)))

pub returns : goal.returns
returns c =
    let slot = c.args.slot.now in
    let used = used_slot slot (not_equal _ 0 c.if-slot-eq0.false) in
    let read = some_if _ _ _ c.in_ok-schema.ensures in
    rw (used, read.0, c.then_some-2.ensures, c.eq-2.ensures, c.as_slice-2.ensures.items, c.relation_slot.ensures, read.1) (then_some_if _ (Some (schema_of slot)))
