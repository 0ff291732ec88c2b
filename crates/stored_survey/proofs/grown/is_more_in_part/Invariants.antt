use Rattle.std.proofs.Common.{◌≤◌}
use Rattle.stored_survey.proofs.MoreParts.{NoPartBelow}
use Rattle.stored_survey.proofs.grown.is_more_in_part.Given as goal

abbrev pub invariant-loop-at : goal.invariant-loop-at
invariant-loop-at l = record {
  low : 1 ≤ l.at;
  none : NoPartBelow l.slot l.field l.schema l.at;
}
