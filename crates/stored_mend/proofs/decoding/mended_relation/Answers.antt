use Rattle.std.proofs.Common.{arith}
use Rattle.catalog.proofs.Choices.{not_equal}
use Rattle.stored_mend.proofs.ReadSlots.{is_formed, is_none, is_read, is_short, too_many}
use Rattle.stored_mend.proofs.decoding.mended_relation.Goals as goal

pub returns-then-count-gt8-clause-none : goal.returns-then-count-gt8-clause-none
returns-then-count-gt8-clause-none c = too_many c.args.slot.now c.requires (not_equal _ 0 c.if-slot-eq0.false) (omega (arith, c.if-count-gt8.true))

pub returns-clause-read : goal.returns-clause-read
returns-clause-read c = is_read c.args.slot.now c.requires (not_equal _ 0 c.if-slot-eq0.false) (omega (arith, c.if-count-gt8.false)) _ c.without_more-bytes.ensures _ c.read_relation.ensures

pub returns-clause-formed : goal.returns-clause-formed
returns-clause-formed c = is_formed c.args.slot.now c.requires (not_equal _ 0 c.if-slot-eq0.false) (omega (arith, c.if-count-gt8.false)) _ c.without_more-bytes.ensures _ c.read_relation.ensures

pub returns-clause-short : goal.returns-clause-short
returns-clause-short c = is_short c.args.slot.now _ (returns-clause-formed c)

pub returns-clause-none : goal.returns-clause-none
returns-clause-none c = is_none c.args.slot.now c.requires (not_equal _ 0 c.if-slot-eq0.false) (omega (arith, c.if-count-gt8.false)) _ c.without_more-bytes.ensures _ c.read_relation.ensures
