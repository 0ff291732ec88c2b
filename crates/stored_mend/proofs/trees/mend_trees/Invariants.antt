use Rattle.std.proofs.Common.{◌≡◌, ◌≤◌, length, IsTrue, ℕ}
use Rattle.stored_mend.specs.Complete.{HasCompleteIndexes, CompletesFirst}
use Rattle.stored_mend.specs.CutTrees.{CompletesBut, KeepsTrees}
use Rattle.stored_mend.specs.Mending.{KeepsBase}
use Rattle.stored_mend.specs.Reported.{ReportsTrees}
use Rattle.stored_mend.proofs.trees.mend_trees.Given as goal

abbrev pub invariant-loop-slot : goal.invariant-loop-slot
invariant-loop-slot g l = record {
  kept : KeepsBase (g.V.Files.state l.fn.files) (g.V.Files.state l.files);
  begun : CompletesFirst (g.V.Files.state l.fn.files) (g.V.Files.state l.files) l.catalog 0;
  complete : l.waiting ≡ 0 → CompletesFirst (g.V.Files.state l.fn.files) (g.V.Files.state l.files) l.catalog l.slot;
  one : l.waiting ≤ 1 → (waits : ℕ) × CompletesBut (g.V.Files.state l.fn.files) (g.V.Files.state l.files) l.catalog l.slot waits;
  trees : KeepsTrees (g.V.Files.state l.fn.files) (g.V.Files.state l.files) l.catalog;
  few : l.waiting ≤ l.slot;
  reported : IsTrue (g.V.Files.state l.fn.files).tells → HasCompleteIndexes (g.V.Files.state l.fn.files).files l.catalog 0 → ReportsTrees l.slot (g.V.Files.state l.fn.files) (g.V.Files.state l.files) l.fn.report.mended l.report.mended;
  store : length (g.V.Files.state l.files).store ≡ length (g.V.Files.state l.fn.files).store;
  lent : g.V.Files.lent l.files ≡ g.V.Files.lent l.fn.files;
  later : g.V.Files.reads l.fn.files ≤ g.V.Files.reads l.files;
  faults : g.V.Files.faults l.fn.files ≤ g.V.Files.faults l.files;
}
