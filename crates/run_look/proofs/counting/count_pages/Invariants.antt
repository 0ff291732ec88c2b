use Rattle.std.proofs.Common.{◌≡◌, ℕ, ◌+◌, ◌-◌, ◌*◌, ◌≤◌, Bool, List, length, IsTrue}
use Rattle.coffee_layout.specs.Tiling.{IsTiled}
use Rattle.coffee_layout.specs.declared.unit.Unit.{Unit}
use Rattle.run_look.specs.Pages.{all_pages}
use Rattle.run_look.proofs.Counts.{Counted}
use Rattle.run_look.proofs.counting.count_pages.Given as goal

abbrev pub invariant-loop-page : goal.invariant-loop-page
invariant-loop-page g l = record {
  within : l.page ≤ l.all;
  size : 256 * l.all ≡ length (g.F.Flash.image l.fn.flash);
  same : g.F.Flash.image l.flash ≡ g.F.Flash.image l.fn.flash;
  lent : g.F.Flash.lent l.flash ≡ g.F.Flash.lent l.fn.flash;
  reads : g.F.Flash.reads l.flash ≤ g.F.Flash.reads l.fn.flash + l.page;
  later : g.F.Flash.reads l.fn.flash ≤ g.F.Flash.reads l.flash;
  faults : g.F.Flash.faults l.flash ≡ g.F.Flash.faults l.fn.flash;
  all_counted : all_pages l.counts ≡ l.page;
  walked : IsTrue g.F.Flash.tells → (building : ℕ → Bool) (us : List Unit) → IsTiled building (g.F.Flash.image l.fn.flash) us → Counted building (g.F.Flash.image l.fn.flash) us l.page l.counts;
}

abbrev pub decreases-loop-page : goal.decreases-loop-page
decreases-loop-page g l = l.all - l.page
