use Rattle.std.proofs.Common.{◌≡◌, drop}
use Rattle.space_plan.specs.FurtherRows.{rows_for_name}
use Rattle.space_plan.proofs.further.rows_for_name.Given as goal

abbrev pub invariant-loop-named : goal.invariant-loop-named
invariant-loop-named l = rows_for_name (drop l.named-index l.all) l.name ≡ rows_for_name l.all l.name
