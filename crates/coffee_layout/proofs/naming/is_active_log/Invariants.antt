use Rattle.std.proofs.Common.{◌≡◌, ◌+◌, ◌-◌, ◌*◌, ◌≤◌, ◌&&◌, not, List, length, IsTrue}
use Rattle.coffee_layout.specs.Files.{is_log}
use Rattle.coffee_layout.specs.Tiling.{IsTiled, nowhere}
use Rattle.coffee_layout.specs.Walks.{is_log_at}
use Rattle.coffee_layout.specs.declared.unit.Unit.{Unit}
use Rattle.coffee_layout.proofs.Searches.{Searched}
use Rattle.coffee_layout.proofs.naming.is_active_log.Given as goal

abbrev pub invariant-loop-page : goal.invariant-loop-page
invariant-loop-page g l = record {
  within : l.page ≤ l.pages;
  size : 256 * l.pages ≡ length (g.F.Flash.image l.fn.flash);
  same : g.F.Flash.image l.flash ≡ g.F.Flash.image l.fn.flash;
  lent : g.F.Flash.lent l.flash ≡ g.F.Flash.lent l.fn.flash;
  reads : g.F.Flash.reads l.flash ≤ g.F.Flash.reads l.fn.flash + l.page;
  later : g.F.Flash.reads l.fn.flash ≤ g.F.Flash.reads l.flash;
  faults : g.F.Flash.faults l.flash ≡ g.F.Flash.faults l.fn.flash;
  searched : IsTrue g.F.Flash.tells → (us : List Unit) → IsTiled nowhere (g.F.Flash.image l.fn.flash) us
      → Searched (λ e. not (is_log e && is_log_at l.log l.name e)) (g.F.Flash.image l.fn.flash) us l.page;
}

abbrev pub decreases-loop-page : goal.decreases-loop-page
decreases-loop-page g l = l.pages - l.page
