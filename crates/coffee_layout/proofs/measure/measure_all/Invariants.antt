use Rattle.std.proofs.Common.{◌≡◌, ℕ, ◌+◌, ◌*◌, ◌≤◌, ◌<◌, List, map, get_or, IsTrue}
use Rattle.std.specs.List.{All}
use Rattle.coffee_layout.specs.Files.{FitsIn, Placed, entry_with}
use Rattle.coffee_layout.specs.Units.{pages_of}
use Rattle.coffee_layout.specs.Walks.{IsPlaced, LogsFit}
use Rattle.coffee_layout.specs.declared.file.FileAt.{FileAt}
use Rattle.coffee_layout.proofs.Measures.{half_measured}
use Rattle.coffee_layout.proofs.measure.measure_all.Given as goal

abbrev pub invariant-loop-i : goal.invariant-loop-i
invariant-loop-i g l = record {
  same : g.F.Flash.image l.flash ≡ g.F.Flash.image l.fn.flash;
  lent : g.F.Flash.lent l.flash ≡ g.F.Flash.lent l.fn.flash;
  placed : All (λ e. IsPlaced (pages_of (g.F.Flash.image l.fn.flash)) e) l.table;
  fits : (k : ℕ) (d : FileAt) → k < l.i → FitsIn (pages_of (g.F.Flash.image l.fn.flash)) (get_or l.table k d);
  measured : IsTrue g.F.Flash.tells → (files : List Placed) → LogsFit (pages_of (g.F.Flash.image l.fn.flash)) files → l.fn.table ≡ map (λ f. entry_with f 0 0) files → l.table ≡ half_measured (g.F.Flash.image l.fn.flash) l.i files;
  reads : g.F.Flash.reads l.flash ≤ g.F.Flash.reads l.fn.flash + l.i * (1 + 6 * pages_of (g.F.Flash.image l.fn.flash));
  later : g.F.Flash.reads l.fn.flash ≤ g.F.Flash.reads l.flash;
  faults : g.F.Flash.faults l.flash ≡ g.F.Flash.faults l.fn.flash;
}
