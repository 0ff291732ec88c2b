use Rattle.std.proofs.Common.{◌≡◌, drop, map}
use Rattle.db_model.specs.Typing.{first_false}
use Rattle.session_plans.specs.Aggregates.{suits_fold}
use Rattle.session_plans.proofs.aggregates.first_unsuited.Given as goal

abbrev pub invariant-loop-at : goal.invariant-loop-at
invariant-loop-at l = first_false 0 (map (suits_fold l.attributes) l.items) ≡ first_false l.at (map (suits_fold l.attributes) (drop l.at l.items))
