use Rattle.std.proofs.Common.{◌≡◌, ◌≤◌}
use Rattle.stored_survey.proofs.foretelling.foretell_trees.Given as goal

abbrev pub invariant-loop-slot : goal.invariant-loop-slot
invariant-loop-slot g l = record {
  same : g.V.Files.state l.files ≡ g.V.Files.state l.fn.files;
  lent : g.V.Files.lent l.files ≡ g.V.Files.lent l.fn.files;
  later : g.V.Files.reads l.fn.files ≤ g.V.Files.reads l.files;
  faults : g.V.Files.faults l.files ≡ g.V.Files.faults l.fn.files;
}
