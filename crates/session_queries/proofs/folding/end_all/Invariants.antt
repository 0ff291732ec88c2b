use Rattle.std.proofs.Common.{◌≡◌, ◌<◌, ◌≤◌, ℕ, false, length, IsTrue}
use Rattle.std.specs.Prelude.{IsFalse}
use Rattle.session_plans.specs.Aggregates.{medians}
use Rattle.session_queries.specs.Folded.{EndsPass, HaveAggs, tally_at}
use Rattle.session_queries.proofs.folding.end_all.Given as goal

abbrev pub invariant-loop-i : goal.invariant-loop-i
invariant-loop-i l = record {
  many : length l.tallies ≡ length l.fn.tallies;
  behind : (j : ℕ) → l.i ≤ j → tally_at l.tallies j ≡ tally_at l.fn.tallies j;
  ends : (j : ℕ) → j < l.i → EndsPass (tally_at l.fn.tallies j) (tally_at l.tallies j);
  closed : l.is_open ≡ false → (j : ℕ) → j < l.i → IsFalse (tally_at l.tallies j).is_open;
  median : HaveAggs l.items l.fn.tallies → IsTrue l.is_open → IsTrue (medians l.items);
}
