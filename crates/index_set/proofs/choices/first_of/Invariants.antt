use Rattle.std.proofs.Common.{◌≡◌, drop}
use Rattle.db_model.specs.Plan.{first_plan}
use Rattle.index_set.specs.Plans.{by_kind, kinds}
use Rattle.index_set.proofs.choices.first_of.Given as goal

abbrev pub invariant-loop-nth : goal.invariant-loop-nth
invariant-loop-nth l = first_plan (by_kind l.kind l.ranges) 0 (kinds l.indexes) ≡ first_plan (by_kind l.kind l.ranges) l.nth (drop l.nth (kinds l.indexes))
