use Rattle.std.proofs.Common.{◌≡◌, ℕ, ◌+◌, ◌-◌, ◌*◌, ◌≤◌, ◌<◌, length, IsTrue}
use Rattle.coffee_layout.specs.FileBytes.{file_byte}
use Rattle.coffee_layout.proofs.bytes.file_size.Given as goal

abbrev pub invariant-loop-region : goal.invariant-loop-region
invariant-loop-region g l = record {
  within : l.region ≤ 2 * l.pages;
  capacity : l.capacity ≡ 256 * l.pages - 32;
  size : length (g.F.Flash.image l.fn.flash) ≤ 16773120;
  same : g.F.Flash.image l.flash ≡ g.F.Flash.image l.fn.flash;
  lent : g.F.Flash.lent l.flash ≡ g.F.Flash.lent l.fn.flash;
  zeros : IsTrue g.F.Flash.tells → (p : ℕ) → 128 * l.region ≤ p → p < 256 * l.pages - 32 → file_byte (g.F.Flash.image l.fn.flash) l.page.0 l.log p ≡ 0;
  reads : g.F.Flash.reads l.flash + 3 * l.region ≤ g.F.Flash.reads l.fn.flash + 6 * l.pages;
  later : g.F.Flash.reads l.fn.flash ≤ g.F.Flash.reads l.flash;
  faults : g.F.Flash.faults l.flash ≡ g.F.Flash.faults l.fn.flash;
}

abbrev pub decreases-loop-region : goal.decreases-loop-region
decreases-loop-region g l = l.region
