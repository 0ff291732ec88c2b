use Rattle.std.proofs.Common.{◌≡◌, ◌+◌, ◌*◌, ◌/◌, ◌≤◌, length, IsTrue}
use Rattle.coffee_space.specs.Collection.{number_taken}
use Rattle.coffee_space.specs.Sectors.{taken_in}
use Rattle.coffee_space.specs.Steps.{ErasesFrom}
use Rattle.coffee_space.proofs.collection.erase.Given as goal

abbrev pub invariant-loop-sector : goal.invariant-loop-sector
invariant-loop-sector g l = record {
  within : 4096 * l.sector ≤ length (g.F.Flash.image l.fn.flash);
  size : length (g.F.Flash.image l.flash) ≡ length (g.F.Flash.image l.fn.flash);
  lent : g.F.Flash.lent l.flash ≡ g.F.Flash.lent l.fn.flash;
  reads : g.F.Flash.reads l.flash ≡ g.F.Flash.reads l.fn.flash;
  faults : g.F.Flash.faults l.fn.flash ≤ g.F.Flash.faults l.flash;
  few : l.number + l.sector ≤ 4095;
  number : number_taken (taken_in l.sectors.used.bits l.sectors.active.bits) l.sector + l.number ≡ number_taken (taken_in l.sectors.used.bits l.sectors.active.bits) (length (g.F.Flash.image l.fn.flash) / 4096);
  erased : IsTrue g.F.Flash.tells → ErasesFrom (taken_in l.sectors.used.bits l.sectors.active.bits) (g.F.Flash.image l.fn.flash) (g.F.Flash.image l.flash) l.sector;
}

abbrev pub decreases-loop-sector : goal.decreases-loop-sector
decreases-loop-sector g l = l.sector
