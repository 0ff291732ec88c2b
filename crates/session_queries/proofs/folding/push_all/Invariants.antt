use Rattle.std.proofs.Common.{◌≡◌, ◌<◌, ◌≤◌, ℕ, length}
use Rattle.db_model.specs.Row.{tuple_of}
use Rattle.session_model.specs.View.{value_at}
use Rattle.session_queries.specs.Folded.{TakesValue, tally_at, item_at}
use Rattle.session_queries.proofs.folding.push_all.Given as goal

abbrev pub invariant-loop-i : goal.invariant-loop-i
invariant-loop-i l = record {
  many : length l.tallies ≡ length l.fn.tallies;
  behind : (j : ℕ) → l.i ≤ j → tally_at l.tallies j ≡ tally_at l.fn.tallies j;
  takes : (j : ℕ) → j < l.i → TakesValue (value_at (tuple_of l.attributes l.row) (item_at l.items j).1) (tally_at l.fn.tallies j) (tally_at l.tallies j);
}
