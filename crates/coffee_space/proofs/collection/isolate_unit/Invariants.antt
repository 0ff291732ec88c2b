use Rattle.std.proofs.Common.{◌≡◌, ◌-◌, ◌≤◌, length, IsTrue}
use Rattle.coffee_space.specs.Sectors.{taken_in}
use Rattle.coffee_space.specs.Steps.{IsolatesPages}
use Rattle.coffee_space.proofs.collection.isolate_unit.Given as goal

abbrev pub invariant-loop-done : goal.invariant-loop-done
invariant-loop-done g l = record {
  within : l.done ≤ l.pages;
  size : length (g.F.Flash.image l.flash) ≡ length (g.F.Flash.image l.fn.flash);
  lent : g.F.Flash.lent l.flash ≡ g.F.Flash.lent l.fn.flash;
  reads : g.F.Flash.reads l.flash ≡ g.F.Flash.reads l.fn.flash;
  faults : g.F.Flash.faults l.fn.flash ≤ g.F.Flash.faults l.flash;
  isolated : IsTrue g.F.Flash.tells → IsolatesPages (taken_in l.sectors.used.bits l.sectors.active.bits) l.part l.cut (g.F.Flash.image l.fn.flash) (g.F.Flash.image l.flash) l.page l.done;
}

abbrev pub decreases-loop-done : goal.decreases-loop-done
decreases-loop-done g l = l.pages - l.done
