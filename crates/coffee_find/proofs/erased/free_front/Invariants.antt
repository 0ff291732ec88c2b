use Rattle.std.proofs.Common.{◌≡◌, ◌+◌, ◌*◌, ◌≤◌, IsTrue}
use Rattle.coffee_layout.specs.Units.{pages_of}
use Rattle.coffee_find.specs.Search.{NoneFree}
use Rattle.coffee_find.proofs.erased.free_front.Given as goal

abbrev pub invariant-loop-k : goal.invariant-loop-k
invariant-loop-k g l = record {
  same : g.F.Flash.image l.flash ≡ g.F.Flash.image l.fn.flash;
  lent : g.F.Flash.lent l.flash ≡ g.F.Flash.lent l.fn.flash;
  reads : g.F.Flash.reads l.flash ≤ g.F.Flash.reads l.fn.flash + l.k * pages_of (g.F.Flash.image l.fn.flash);
  later : g.F.Flash.reads l.fn.flash ≤ g.F.Flash.reads l.flash;
  faults : g.F.Flash.faults l.flash ≡ g.F.Flash.faults l.fn.flash;
  passed : IsTrue g.F.Flash.tells → NoneFree (g.F.Flash.image l.fn.flash) (16 * l.sector.0) (16 * l.sector.0 + l.k);
}
