use Rattle.std.proofs.Common.{◌≡◌, ◌≤◌, [], length, drop}
use Rattle.lvm.specs.Side as spec
use Rattle.lvm.proofs.side.derived.Given as goal

abbrev pub invariant-loop-instruction : goal.invariant-loop-instruction
invariant-loop-instruction l = record {
  result : spec.derived l.place l.instructions [] ≡ spec.derived l.place (drop l.instruction-index l.instructions) l.stack;
  room : length l.stack ≤ l.instruction-index;
}
