use Rattle.std.proofs.Common.{◌≡◌, ◌+◌, ◌-◌, ◌*◌, ◌≤◌, length, IsTrue}
use Rattle.std.specs.List.{All}
use Rattle.coffee_layout.specs.Units.{pages_of}
use Rattle.coffee_layout.specs.Walks.{IsPlaced}
use Rattle.coffee_layout.proofs.Listing.{Judged}
use Rattle.coffee_layout.proofs.units.judge_units.Given as goal

abbrev pub invariant-loop-page : goal.invariant-loop-page
invariant-loop-page g l = record {
  within : l.page ≤ l.pages;
  size : 256 * l.pages ≡ length (g.F.Flash.image l.fn.flash);
  same : g.F.Flash.image l.flash ≡ g.F.Flash.image l.fn.flash;
  lent : g.F.Flash.lent l.flash ≡ g.F.Flash.lent l.fn.flash;
  reads : g.F.Flash.reads l.flash ≤ g.F.Flash.reads l.fn.flash + l.page;
  later : g.F.Flash.reads l.fn.flash ≤ g.F.Flash.reads l.flash;
  faults : g.F.Flash.faults l.flash ≡ g.F.Flash.faults l.fn.flash;
  placed : All (λ e. IsPlaced (pages_of (g.F.Flash.image l.fn.flash)) e) l.table.items;
  judged : IsTrue g.F.Flash.tells → Judged (g.F.Flash.image l.fn.flash) l.page l.after_free l.table.items l.extra;
}

abbrev pub decreases-loop-page : goal.decreases-loop-page
decreases-loop-page g l = l.pages - l.page
