use Rattle.std.proofs.Common.{◌≡◌, drop}
use Rattle.std.specs.List.{list_any}
use Rattle.catalog.specs.Rules.{has_name}
use Rattle.stored_survey.proofs.relations.has_a_name.Given as goal

abbrev pub invariant-loop-slot : goal.invariant-loop-slot
invariant-loop-slot l = list_any (has_name l.name) l.slots ≡ list_any (has_name l.name) (drop l.slot-index l.slots)
