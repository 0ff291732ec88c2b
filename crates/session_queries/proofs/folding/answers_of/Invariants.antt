use Rattle.std.proofs.Common.{◌≡◌, ◌≤◌, List, length, take}
use Rattle.db_model.specs.declared.values.Value.{Value}
use Rattle.session_plans.specs.Aggregates.{answers}
use Rattle.session_queries.specs.Folded.{AreDone, AreFolded, HaveAggs}
use Rattle.session_queries.proofs.folding.answers_of.Given as goal

abbrev pub invariant-loop-i : goal.invariant-loop-i
invariant-loop-i l = record {
  size : length l.answers ≡ l.i;
  few : length l.items ≤ 8;
  told : (all : List (List Value)) → HaveAggs l.items l.tallies → AreFolded l.items all l.tallies → AreDone l.items l.tallies → l.answers ≡ answers (take l.i l.items) all;
}
