use Rattle.std.proofs.Common.{◌≢◌, ◌≡◌, ℕ, ◌+◌, ◌/◌, ◌%◌, ◌≤◌, ◌<◌}
use Rattle.coffee_layout.specs.FileBytes.{number_in}
use Rattle.coffee_log.proofs.contents.plain_length.Given as goal

abbrev pub invariant-loop-i : goal.invariant-loop-i
invariant-loop-i l = record {
  some : l.at < l.end;
  within : l.end ≤ l.at + l.rest;
  turn : l.end < l.at + l.rest → l.end % 128 ≡ 0;
  plain : (j p : ℕ) → j < l.i → l.at / 128 < p / 128 → p < l.end → number_in l.table j ≢ p / 128 + 1;
}
