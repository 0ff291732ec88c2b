use Rattle.std.proofs.Common.{◌≡◌, drop}
use Rattle.std.specs.List.{list_any}
use Rattle.stored.specs.Mended.{has_time}
use Rattle.stored_survey.proofs.reading.have_time.Given as goal

abbrev pub invariant-loop-relation : goal.invariant-loop-relation
invariant-loop-relation l = list_any has_time l.relations ≡ list_any has_time (drop l.relation-index l.relations)
