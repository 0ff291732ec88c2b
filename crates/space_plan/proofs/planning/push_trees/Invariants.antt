use Rattle.std.proofs.Common.{◌≡◌, ◌≤◌, ◌+◌, ◌++◌, IsTrue, drop, length}
use Rattle.db_model.specs.Database.{used_things}
use Rattle.space_plan.specs.FurtherRows.{rows_to}
use Rattle.space_plan.specs.Planned.{trees_planned}
use Rattle.space_plan.proofs.planning.push_trees.Given as goal

abbrev pub invariant-loop-index : goal.invariant-loop-index
invariant-loop-index g l = record {
  sizes : IsTrue (g.V.Files.state l.session.files).tells
      → l.sizes ++ trees_planned (rows_to l.rows) l.session.database (used_things (drop l.index l.session.database.indexes))
      ≡ l.fn.sizes ++ trees_planned (rows_to l.rows) l.session.database (used_things l.session.database.indexes);
  few : length l.sizes ≤ length l.fn.sizes + l.index;
}
