use Rattle.std.proofs.Common.{◌≤◌}
use Rattle.stored_survey.proofs.SlotEnds.{NoneBelow}
use Rattle.stored_survey.proofs.emptied.is_emptied_in_part.Given as goal

abbrev pub invariant-loop-at : goal.invariant-loop-at
invariant-loop-at l = record {
  low : 16 ≤ l.at;
  none : NoneBelow l.slot l.bytes l.at;
}
