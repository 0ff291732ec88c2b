use Rattle.std.proofs.Common.{◌≡◌, drop}
use Rattle.std.specs.List.{list_any}
use Rattle.db_model.specs.Plan.{is_empty, range_at}
use Rattle.index_set.specs.Plans.{kinds}
use Rattle.index_set.proofs.choices.has_empty.Given as goal

abbrev pub invariant-loop-nth : goal.invariant-loop-nth
invariant-loop-nth l = list_any (λ index. is_empty (range_at l.ranges index.1)) (kinds l.indexes) ≡ list_any (λ index. is_empty (range_at l.ranges index.1)) (drop l.nth (kinds l.indexes))
