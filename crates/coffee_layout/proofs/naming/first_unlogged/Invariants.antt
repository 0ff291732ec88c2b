use Rattle.std.proofs.Common.{◌≡◌, ◌+◌, ◌*◌, ◌≤◌, List, drop, map, IsTrue}
use Rattle.coffee_layout.specs.Files.{entry_with, files_in, logs_in}
use Rattle.coffee_layout.specs.Rules.{first_failing, names_its_log}
use Rattle.coffee_layout.specs.Tiling.{IsTiled, nowhere}
use Rattle.coffee_layout.specs.Units.{pages_of}
use Rattle.coffee_layout.specs.declared.unit.Unit.{Unit}
use Rattle.coffee_layout.proofs.naming.first_unlogged.Given as goal

abbrev pub invariant-loop-file : goal.invariant-loop-file
invariant-loop-file g l = record {
  same : g.F.Flash.image l.flash ≡ g.F.Flash.image l.fn.flash;
  lent : g.F.Flash.lent l.flash ≡ g.F.Flash.lent l.fn.flash;
  reads : g.F.Flash.reads l.flash ≤ g.F.Flash.reads l.fn.flash + l.file-index * (1 + pages_of (g.F.Flash.image l.fn.flash));
  later : g.F.Flash.reads l.fn.flash ≤ g.F.Flash.reads l.flash;
  faults : g.F.Flash.faults l.flash ≡ g.F.Flash.faults l.fn.flash;
  searched : IsTrue g.F.Flash.tells → (us : List Unit) → IsTiled nowhere (g.F.Flash.image l.fn.flash) us → l.table ≡ map (λ f. entry_with f 0 0) (files_in us)
      → first_failing (names_its_log (logs_in us)) (drop l.file-index (files_in us)) ≡ first_failing (names_its_log (logs_in us)) (files_in us);
}
