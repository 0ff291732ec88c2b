use Rattle.std.proofs.Common.{◌≡◌, drop}
use Rattle.std.specs.Prelude.{is_some}
use Rattle.db_model.specs.Database.{relation_from}
use Rattle.space_plan.specs.FurtherRows.{is_relation}
use Rattle.space_plan.proofs.further.is_relation.Given as goal

abbrev pub invariant-loop-slot : goal.invariant-loop-slot
invariant-loop-slot g l =
    is_some (relation_from l.name l.slot (drop l.slot l.session.database.relations)) ≡ is_relation l.session.database l.name
