use Rattle.std.proofs.Common.{◌≡◌, ◌+◌, ◌++◌, length, replicate}
use Rattle.catalog.proofs.slots.push_zeros.Given as goal

abbrev pub invariant-loop-pushed : goal.invariant-loop-pushed
invariant-loop-pushed l = record {
  pushed : l.slot ≡ l.fn.slot ++ replicate l._pushed 0;
  long : length l.slot ≡ length l.fn.slot + l._pushed;
}
