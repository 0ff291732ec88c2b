use Rattle.std.proofs.Common.{◌≡◌, ◌+◌, ◌-◌, ◌*◌, ◌≤◌, ◌<◌, length, IsTrue, None}
use Rattle.coffee_layout.specs.Tiling.{units_of}
use Rattle.coffee_merge.specs.Begun.{unit_begun}
use Rattle.coffee_find.proofs.UnitWalks.{Walked}
use Rattle.coffee_find.proofs.walks.begun.Given as goal

abbrev pub invariant-loop-at : goal.invariant-loop-at
invariant-loop-at g l = record {
  within : l.at ≤ l.pages;
  size : 256 * l.pages ≡ length (g.F.Flash.image l.fn.flash);
  same : g.F.Flash.image l.flash ≡ g.F.Flash.image l.fn.flash;
  lent : g.F.Flash.lent l.flash ≡ g.F.Flash.lent l.fn.flash;
  reads : g.F.Flash.reads l.flash ≤ g.F.Flash.reads l.fn.flash + l.at;
  later : g.F.Flash.reads l.fn.flash ≤ g.F.Flash.reads l.flash;
  faults : g.F.Flash.faults l.flash ≡ g.F.Flash.faults l.fn.flash;
  walked : IsTrue g.F.Flash.tells → Walked (g.F.Flash.image l.fn.flash) l.at;
  passed : IsTrue g.F.Flash.tells → l.fn.page.0 < l.at → unit_begun (units_of (g.F.Flash.image l.fn.flash)) 0 l.fn.page.0 ≡ None;
}

abbrev pub decreases-loop-at : goal.decreases-loop-at
decreases-loop-at g l = l.pages - l.at
