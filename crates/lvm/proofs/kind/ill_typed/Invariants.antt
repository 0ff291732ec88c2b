use Rattle.std.proofs.Common.{◌≡◌, ◌≤◌, ◌+◌, [], length, drop}
use Rattle.db_model.specs.Typing.{first_false}
use Rattle.lvm.specs.Kind as spec
use Rattle.lvm.proofs.kind.ill_typed.Given as goal

abbrev pub invariant-loop-instruction : goal.invariant-loop-instruction
invariant-loop-instruction l = record {
  result : first_false l.before (spec.step_typings l.attributes l.instructions []) ≡ first_false l.parts (spec.step_typings l.attributes (drop l.instruction-index l.instructions) l.stack);
  room : length l.stack ≤ l.instruction-index;
  few : l.parts ≤ l.before + l.instruction-index;
}
