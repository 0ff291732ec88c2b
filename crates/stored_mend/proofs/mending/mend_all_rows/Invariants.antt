use Rattle.std.proofs.Common.{◌≡◌, ◌≤◌, ◌<◌, length, IsTrue}
use Rattle.catalog.specs.Catalogs.{catalog_slots}
use Rattle.stored_mend.specs.Filled.{FillsIn}
use Rattle.stored_mend.specs.Reported.{Reports}
use Rattle.stored_mend.specs.Whole.{MakesWhole}
use Rattle.stored_mend.proofs.mending.mend_all_rows.Given as goal

abbrev pub invariant-loop-slot : goal.invariant-loop-slot
invariant-loop-slot g l = record {
  kept : FillsIn (λ k. k < l.slot) (g.V.Files.state l.fn.files) (g.V.Files.state l.files);
  whole : MakesWhole (catalog_slots l.catalog) 0 l.slot (g.V.Files.state l.fn.files) (g.V.Files.state l.files);
  reported : IsTrue (g.V.Files.state l.fn.files).tells → Reports l.slot (g.V.Files.state l.fn.files) (g.V.Files.state l.files) l.fn.report.mended l.report.mended;
  store : length (g.V.Files.state l.files).store ≡ length (g.V.Files.state l.fn.files).store;
  lent : g.V.Files.lent l.files ≡ g.V.Files.lent l.fn.files;
  later : g.V.Files.reads l.fn.files ≤ g.V.Files.reads l.files;
  faults : g.V.Files.faults l.fn.files ≤ g.V.Files.faults l.files;
}
