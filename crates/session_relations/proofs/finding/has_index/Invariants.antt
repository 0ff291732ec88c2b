use Rattle.std.proofs.Common.{◌≡◌, drop, length}
use Rattle.std.specs.Prelude.{nat_lt}
use Rattle.session_relations.specs.Changes.{indexes_on}
use Rattle.session_relations.proofs.finding.has_index.Given as goal

abbrev pub invariant-loop-slot : goal.invariant-loop-slot
invariant-loop-slot l = nat_lt 0 (length (indexes_on l.relation l.indexes)) ≡ nat_lt 0 (length (indexes_on l.relation (drop l.slot-index l.indexes)))
