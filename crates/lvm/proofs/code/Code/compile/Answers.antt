use Rattle.std.proofs.Common.{Some, None, sym}
use Rattle.lvm.proofs.Codes.{spelt, refused-missing, refused-typed}
use Rattle.db_model.specs.Cond.{condition_of}
use Rattle.lvm.proofs.code.Code.compile.Goals as goal

pub returns-in-Err-clause-refused : goal.returns-in-Err-clause-refused
returns-in-Err-clause-refused c =
    refused-missing c.args.list_names c.args.schema.now.attributes c.args.condition.now (condition_of c.args.condition.now) c.in-Err.nth (spelt c.args.condition.now c.requires.condition)
    (rw (c.as_slice-attributes.ensures.items, c.as_slice.ensures.items) at c.in-Err.ensures.missing)

pub returns-in-Some-clause-refused : goal.returns-in-Some-clause-refused
returns-in-Some-clause-refused c =
    refused-typed c.args.list_names c.args.schema.now.attributes c.args.condition.now (condition_of c.args.condition.now) c.translate.new.into (Some c.in-Some.nth) (spelt c.args.condition.now c.requires.condition)
    (rw (c.as_slice-attributes.ensures.items, c.as_slice.ensures.items) at c.in_default.ensures.code)
    (rw (c.as_slice-attributes.ensures.items, c.as_slice.ensures.items) at c.in_default.ensures.known)
    (sym (rw (c.as_slice-attributes.ensures.items, c.as_slice-items.ensures.items) at c.in-Some.ensures))

pub returns-clause-accepted : goal.returns-clause-accepted
returns-clause-accepted c =
    refused-typed c.args.list_names c.args.schema.now.attributes c.args.condition.now (condition_of c.args.condition.now) c.translate.new.into None (spelt c.args.condition.now c.requires.condition)
    (rw (c.as_slice-attributes.ensures.items, c.as_slice.ensures.items) at c.in_default.ensures.code)
    (rw (c.as_slice-attributes.ensures.items, c.as_slice.ensures.items) at c.in_default.ensures.known)
    (sym (rw (c.as_slice-attributes.ensures.items, c.as_slice-items.ensures.items) at c.in_default-ill_typed.ensures))
