use Rattle.std.proofs.Common.{◌≡◌, ◌<◌, ◌≤◌, ℕ, length}
use Rattle.session_queries.specs.Folded.{IsNew, item_at, tally_at}
use Rattle.session_queries.proofs.folding.new_tallies.Given as goal

abbrev pub invariant-loop-i : goal.invariant-loop-i
invariant-loop-i l = record {
  few : length l.items ≤ 8;
  eight : length l.tallies ≡ 8;
  fresh : (j : ℕ) → j < l.i → IsNew (item_at l.items j).0 (tally_at l.tallies j);
}
