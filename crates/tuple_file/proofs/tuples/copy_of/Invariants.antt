use Rattle.std.proofs.Common.{◌≡◌, ◌≤◌, length, take}
use Rattle.tuple_file.proofs.tuples.copy_of.Given as goal

abbrev pub invariant-loop-attribute : goal.invariant-loop-attribute
invariant-loop-attribute l = record {
  copy : l.copy ≡ take l.attribute-index l.attribute-items;
  few : length l.attribute-items ≤ 8;
  size : length l.copy ≡ l.attribute-index;
}
