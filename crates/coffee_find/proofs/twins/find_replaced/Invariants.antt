use Rattle.std.proofs.Common.{◌≡◌, ◌+◌, ◌*◌, ◌≤◌, length, IsTrue}
use Rattle.coffee_layout.specs.Units.{pages_of}
use Rattle.coffee_find.proofs.Pairs.{AreAhead}
use Rattle.coffee_find.proofs.twins.find_replaced.Given as goal

abbrev pub invariant-loop-turn : goal.invariant-loop-turn
invariant-loop-turn g l = record {
  size : 256 * l.pages ≡ length (g.F.Flash.image l.fn.flash);
  small : l.pages ≤ 65520;
  same : g.F.Flash.image l.flash ≡ g.F.Flash.image l.fn.flash;
  lent : g.F.Flash.lent l.flash ≡ g.F.Flash.lent l.fn.flash;
  reads : g.F.Flash.reads l.flash ≤ g.F.Flash.reads l.fn.flash + l._turn * (2 * pages_of (g.F.Flash.image l.fn.flash));
  later : g.F.Flash.reads l.fn.flash ≤ g.F.Flash.reads l.flash;
  faults : g.F.Flash.faults l.flash ≡ g.F.Flash.faults l.fn.flash;
  ahead : IsTrue g.F.Flash.tells → AreAhead (g.F.Flash.image l.fn.flash) l.from l._turn;
}
