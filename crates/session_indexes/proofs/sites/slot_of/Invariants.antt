use Rattle.std.proofs.Common.{◌≡◌, drop}
use Rattle.session_indexes.specs.Sites.{slot_from}
use Rattle.session_indexes.proofs.sites.slot_of.Given as goal

abbrev pub invariant-loop-i : goal.invariant-loop-i
invariant-loop-i l = slot_from l.relation l.attribute 0 l.indexes ≡ slot_from l.relation l.attribute l.i (drop l.i l.indexes)
