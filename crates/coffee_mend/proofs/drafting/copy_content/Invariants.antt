use Rattle.std.proofs.Common.{◌≡◌, ◌-◌, ◌≤◌, None, length, IsTrue}
use Rattle.coffee_merge.specs.CutMarks.{KeepsHead}
use Rattle.coffee_merge.specs.Takes.{KeepsPagesBut}
use Rattle.coffee_mend.proofs.HiddenDrafts.{CopiesHidden}
use Rattle.coffee_mend.proofs.drafting.copy_content.Given as goal

abbrev pub invariant-loop-done : goal.invariant-loop-done
invariant-loop-done g l = record {
  within : l.done ≤ l.from.size;
  size : length (g.F.Flash.image l.flash) ≡ length (g.F.Flash.image l.fn.flash);
  lent : g.F.Flash.lent l.flash ≡ g.F.Flash.lent l.fn.flash;
  copied : IsTrue g.F.Flash.tells → CopiesHidden (g.F.Flash.image l.fn.flash) (g.F.Flash.image l.flash) l.page l.from l.done;
  others : IsTrue g.F.Flash.tells → KeepsPagesBut (g.F.Flash.image l.fn.flash) (g.F.Flash.image l.flash) l.page.0 l.from.pages None;
  head : IsTrue g.F.Flash.tells → IsTrue g.F.Flash.cuts → KeepsHead (g.F.Flash.image l.fn.flash) (g.F.Flash.image l.flash) l.page.0;
  reads : g.F.Flash.reads l.fn.flash ≤ g.F.Flash.reads l.flash;
  faults : g.F.Flash.faults l.fn.flash ≤ g.F.Flash.faults l.flash;
}

abbrev pub decreases-loop-done : goal.decreases-loop-done
decreases-loop-done g l = l.from.size - l.done
