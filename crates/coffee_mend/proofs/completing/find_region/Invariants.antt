use Rattle.std.proofs.Common.{◌≡◌, ◌-◌, ◌≤◌, IsTrue}
use Rattle.coffee_mend.specs.Completed.{LackBits}
use Rattle.coffee_mend.proofs.completing.find_region.Given as goal

-- none of the regions so far has all bits of the record
abbrev pub invariant-loop-region : goal.invariant-loop-region
invariant-loop-region g l = record {
  within : l.region ≤ l.regions;
  lack : IsTrue g.F.Flash.tells → LackBits (g.F.Flash.image l.fn.flash) l.torn.place l.file l.region;
  same : g.F.Flash.image l.flash ≡ g.F.Flash.image l.fn.flash;
  lent : g.F.Flash.lent l.flash ≡ g.F.Flash.lent l.fn.flash;
  later : g.F.Flash.reads l.fn.flash ≤ g.F.Flash.reads l.flash;
  faults : g.F.Flash.faults l.flash ≡ g.F.Flash.faults l.fn.flash;
}

abbrev pub decreases-loop-region : goal.decreases-loop-region
decreases-loop-region g l = l.regions - l.region
