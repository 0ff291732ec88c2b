use Rattle.std.proofs.Common.{ℕ, ◌<◌}
use Rattle.afl_base.specs.Files.{IsUnnamed}
use Rattle.space_model.specs.FileNames.{rows_file, tree_file}
use Rattle.stored_survey.proofs.begun.has_no_more.Given as goal

abbrev pub invariant-loop-slot : goal.invariant-loop-slot
invariant-loop-slot g l = record {
  trees : (i : ℕ) → i < l.slot → IsUnnamed (g.V.Files.state l.files).files (tree_file i);
  rows : (k : ℕ) → k < l.slot → 0 < k → IsUnnamed (g.V.Files.state l.files).files (rows_file k);
}
