use Rattle.std.proofs.Common.{◌≡◌, ◌+◌, ◌-◌, ◌*◌, ◌≤◌, List, length, IsTrue}
use Rattle.coffee_layout.specs.Files.{Placed}
use Rattle.coffee_layout.specs.Tiling.{IsTiled, nowhere}
use Rattle.coffee_layout.specs.Walks.{HasEntries, keeps_rule}
use Rattle.coffee_layout.specs.declared.unit.Unit.{Unit}
use Rattle.coffee_layout.proofs.Searches.{Searched}
use Rattle.coffee_layout.proofs.extents.first_failing.Given as goal

abbrev pub invariant-loop-page : goal.invariant-loop-page
invariant-loop-page g l = record {
  within : l.page ≤ l.pages;
  size : 256 * l.pages ≡ length (g.F.Flash.image l.fn.flash);
  same : g.F.Flash.image l.flash ≡ g.F.Flash.image l.fn.flash;
  lent : g.F.Flash.lent l.flash ≡ g.F.Flash.lent l.fn.flash;
  reads : g.F.Flash.reads l.flash ≤ g.F.Flash.reads l.fn.flash + 20 * l.page;
  later : g.F.Flash.reads l.fn.flash ≤ g.F.Flash.reads l.flash;
  faults : g.F.Flash.faults l.flash ≡ g.F.Flash.faults l.fn.flash;
  searched : IsTrue g.F.Flash.tells → (us : List Unit) (files : List Placed) → IsTiled nowhere (g.F.Flash.image l.fn.flash) us → HasEntries l.rule (g.F.Flash.image l.fn.flash) l.table files
      → Searched (keeps_rule l.rule (g.F.Flash.image l.fn.flash) files) (g.F.Flash.image l.fn.flash) us l.page;
}

abbrev pub decreases-loop-page : goal.decreases-loop-page
decreases-loop-page g l = l.pages - l.page
