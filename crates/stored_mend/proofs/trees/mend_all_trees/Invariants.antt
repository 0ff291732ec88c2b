use Rattle.std.proofs.Common.{◌≡◌, ◌≤◌, ◌+◌, length, IsTrue, ℕ}
use Rattle.stored_mend.specs.Complete.{HasCompleteIndexes, CompletesFirst}
use Rattle.stored_mend.specs.Reported.{ReportsTrees}
use Rattle.stored_mend.specs.CutTrees.{CompletesBut, KeepsTrees}
use Rattle.stored_mend.specs.Trees.{KeepsButTrees, LacksRoom}
use Rattle.stored_mend.proofs.trees.mend_all_trees.Given as goal

abbrev pub invariant-loop-slot : goal.invariant-loop-slot
invariant-loop-slot g l = record {
  kept : KeepsButTrees (LacksRoom g.V.Files.state g.V.Files.lacks) (g.V.Files.state l.fn.files) (g.V.Files.state l.files);
  complete : CompletesFirst (g.V.Files.state l.fn.files) (g.V.Files.state l.files) l.catalog l.slot;
  reported : IsTrue (g.V.Files.state l.fn.files).tells → HasCompleteIndexes (g.V.Files.state l.fn.files).files l.catalog 0 → ReportsTrees (8 + l.slot) (g.V.Files.state l.fn.files) (g.V.Files.state l.files) l.fn.report.mended l.report.mended;
  trees : KeepsTrees (g.V.Files.state l.fn.files) (g.V.Files.state l.files) l.catalog;
  alone : l.waiting ≡ 1 → (waits : ℕ) × CompletesBut (g.V.Files.state l.fn.files) (g.V.Files.state l.files) l.catalog 8 waits;
  store : length (g.V.Files.state l.files).store ≡ length (g.V.Files.state l.fn.files).store;
  lent : g.V.Files.lent l.files ≡ g.V.Files.lent l.fn.files;
  later : g.V.Files.reads l.fn.files ≤ g.V.Files.reads l.files;
  faults : g.V.Files.faults l.fn.files ≤ g.V.Files.faults l.files;
}
