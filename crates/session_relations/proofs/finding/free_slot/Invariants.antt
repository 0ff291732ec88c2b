use Rattle.std.proofs.Common.{◌≡◌, drop}
use Rattle.db_model.specs.Database.{free_from}
use Rattle.session_relations.proofs.finding.free_slot.Given as goal

abbrev pub invariant-loop-i : goal.invariant-loop-i
invariant-loop-i l = free_from 0 l.relations ≡ free_from l.i (drop l.i l.relations)
