use Rattle.std.proofs.Common.{◌≡◌, ◌≤◌, length, take}
use Rattle.session_start.proofs.holding.copy_of.Given as goal

abbrev pub invariant-loop-attribute : goal.invariant-loop-attribute
invariant-loop-attribute l = record {
  copy : l.attributes ≡ take l.attribute-index l.attribute-items;
  few : length l.attribute-items ≤ 8;
  size : length l.attributes ≡ l.attribute-index;
}
