use Rattle.std.proofs.Common.{◌≡◌, ◌≤◌, ◌++◌, drop, length, map}
use Rattle.db_model.specs.Database.{used_things}
use Rattle.space_plan.specs.FurtherRows.{rows_to}
use Rattle.space_plan.specs.Planned.{rows_planned}
use Rattle.space_plan.proofs.planning.push_rows.Given as goal

abbrev pub invariant-loop-relation : goal.invariant-loop-relation
invariant-loop-relation g l = record {
  sizes : l.sizes ++ map (rows_planned (rows_to l.rows)) (used_things (drop l.relation l.session.database.relations)) ≡ map (rows_planned (rows_to l.rows)) (used_things l.session.database.relations);
  few : length l.sizes ≤ l.relation;
}
