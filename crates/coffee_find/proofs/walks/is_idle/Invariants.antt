use Rattle.std.proofs.Common.{◌≡◌, ◌+◌, ◌-◌, ◌*◌, ◌≤◌, length, IsTrue}
use Rattle.coffee_find.proofs.UnitWalks.{Quiet}
use Rattle.coffee_find.proofs.walks.is_idle.Given as goal

abbrev pub invariant-loop-at : goal.invariant-loop-at
invariant-loop-at g l = record {
  within : l.at ≤ l.pages;
  size : 256 * l.pages ≡ length (g.F.Flash.image l.fn.flash);
  same : g.F.Flash.image l.flash ≡ g.F.Flash.image l.fn.flash;
  lent : g.F.Flash.lent l.flash ≡ g.F.Flash.lent l.fn.flash;
  reads : g.F.Flash.reads l.flash ≤ g.F.Flash.reads l.fn.flash + l.at;
  later : g.F.Flash.reads l.fn.flash ≤ g.F.Flash.reads l.flash;
  faults : g.F.Flash.faults l.flash ≡ g.F.Flash.faults l.fn.flash;
  quiet : IsTrue g.F.Flash.tells → Quiet (g.F.Flash.image l.fn.flash) l.sector.0 l.at;
}

abbrev pub decreases-loop-at : goal.decreases-loop-at
decreases-loop-at g l = l.pages - l.at
