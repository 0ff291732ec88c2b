use Rattle.std.proofs.Common.{◌≡◌, drop}
use Rattle.session_model.specs.Cells.{cell_from}
use Rattle.session_model.proofs.finding.find_relation.Given as goal

abbrev pub invariant-loop-i : goal.invariant-loop-i
invariant-loop-i l = cell_from l.name 0 l.slots ≡ cell_from l.name l.i (drop l.i l.slots)
