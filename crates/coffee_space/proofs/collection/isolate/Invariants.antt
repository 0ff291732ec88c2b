use Rattle.std.proofs.Common.{◌≡◌, ℕ, ◌+◌, ◌-◌, ◌*◌, ◌≤◌, Bool, List, length, IsTrue}
use Rattle.coffee_layout.specs.Tiling.{IsTiled}
use Rattle.coffee_layout.specs.declared.unit.Unit.{Unit}
use Rattle.coffee_space.specs.Sectors.{taken_in}
use Rattle.coffee_space.proofs.Isolating.{Isolating}
use Rattle.coffee_space.proofs.collection.isolate.Given as goal

abbrev pub invariant-loop-page : goal.invariant-loop-page
invariant-loop-page g l = record {
  within : l.page ≤ l.all;
  total : 256 * l.all ≡ length (g.F.Flash.image l.fn.flash);
  size : length (g.F.Flash.image l.flash) ≡ length (g.F.Flash.image l.fn.flash);
  lent : g.F.Flash.lent l.flash ≡ g.F.Flash.lent l.fn.flash;
  reads : g.F.Flash.reads l.flash ≤ g.F.Flash.reads l.fn.flash + l.page;
  later : g.F.Flash.reads l.fn.flash ≤ g.F.Flash.reads l.flash;
  faults : g.F.Flash.faults l.fn.flash ≤ g.F.Flash.faults l.flash;
  isolating : IsTrue g.F.Flash.tells → (building : ℕ → Bool) (us : List Unit) → IsTiled building (g.F.Flash.image l.fn.flash) us
      → Isolating (taken_in l.sectors.used.bits l.sectors.active.bits) building l.part (g.F.Flash.image l.fn.flash) (g.F.Flash.image l.flash) us l.page;
}

abbrev pub decreases-loop-page : goal.decreases-loop-page
decreases-loop-page g l = l.all - l.page
