use Rattle.std.proofs.Common.{◌≡◌, ◌+◌, ◌*◌, ◌≤◌, true, slice_range, IsTrue}
use Rattle.padded.specs.Zeros.{is_zeros}
use Rattle.coffee_find.proofs.zeros.are_zero.Given as goal

abbrev pub invariant-loop-page : goal.invariant-loop-page
invariant-loop-page g l = record {
  order : l.from ≤ l.page;
  same : g.F.Flash.image l.flash ≡ g.F.Flash.image l.fn.flash;
  lent : g.F.Flash.lent l.flash ≡ g.F.Flash.lent l.fn.flash;
  reads : g.F.Flash.reads l.flash + l.from ≤ g.F.Flash.reads l.fn.flash + l.page;
  later : g.F.Flash.reads l.fn.flash ≤ g.F.Flash.reads l.flash;
  faults : g.F.Flash.faults l.flash ≡ g.F.Flash.faults l.fn.flash;
  zero : IsTrue g.F.Flash.tells → is_zeros (slice_range (g.F.Flash.image l.fn.flash) (256 * l.from) (256 * l.page)) ≡ true;
}
