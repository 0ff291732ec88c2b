use Rattle.std.proofs.Common.{◌≡◌, drop}
use Rattle.db_model.specs.Item.{place_of, place_from}
use Rattle.session_plans.proofs.naming.place_of.Given as goal

abbrev pub invariant-loop-at : goal.invariant-loop-at
invariant-loop-at l = place_of l.name l.attributes ≡ place_from l.name l.at (drop l.at l.attributes)
