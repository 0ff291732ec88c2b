use Rattle.std.proofs.Common.{arith}
use Rattle.stored_survey.proofs.SlotEnds.{emptied_there, never_emptied, none_at_first, none_here}
use Rattle.stored_survey.proofs.emptied.is_emptied_in_part.Goals as goal

pub loop-at-init : goal.loop-at-init
loop-at-init c = record { low = omega arith; none = none_at_first c.args.slot c.args.bytes.now }

pub returns-then-is_emptied_at : goal.returns-then-is_emptied_at
returns-then-is_emptied_at c = record {
  is = emptied_there c.args.slot c.loop-at.at c.args.bytes.now c.loop-at.invariant.low c.loop-at-test.true (c.is_emptied_at.ensures.is.0 c.if-is_emptied_at.true);
}

pub loop-at-preserved : goal.loop-at-preserved
loop-at-preserved c = record {
  low = omega (arith, c.loop-at.invariant.low);
  none = none_here c.args.slot c.args.bytes.now c.loop-at.at c.is_emptied_at.result c.if-is_emptied_at.false c.is_emptied_at.ensures.is c.loop-at.invariant.none;
}

pub returns : goal.returns
returns c = record {
  is = never_emptied c.args.slot c.args.bytes.now c.requires.slot c.loop-at.at (omega (arith, c.loop-at-test.false)) c.loop-at.invariant.none;
}
