use Rattle.std.proofs.Common.{◌≡◌, ◌≤◌, ◌+◌, ◌++◌, length, drop, map, option_map}
use Rattle.db_model.specs.Typing.{first_false, is_attribute}
use Rattle.lvm.specs.Instruction.{instructions_for, names_among}
use Rattle.lvm.proofs.code.translate.Given as goal

abbrev pub invariant-loop-node : goal.invariant-loop-node
invariant-loop-node l = record {
  code : instructions_for l.attributes l.nodes ≡ option_map (λ is. l.into ++ is) (instructions_for l.attributes (drop l.node-index l.nodes));
  missing : first_false l.list_names (map (is_attribute l.attributes) (names_among l.nodes)) ≡ first_false l.names (map (is_attribute l.attributes) (names_among (drop l.node-index l.nodes)));
  room : length l.into ≤ l.node-index;
  few : l.names ≤ l.list_names + l.node-index;
}
