use Rattle.std.proofs.Common.{◌≡◌, ◌+◌, ◌-◌, ◌%◌, ◌≤◌, ◌<◌, min, max, length, slice_range, IsTrue}
use Rattle.padded.specs.Zeros.{is_zeros}
use Rattle.flash_range.specs.Range.{pages_touched}
use Rattle.coffee_layout.proofs.logs.range_is_zeros.Given as goal

abbrev pub invariant-loop-at : goal.invariant-loop-at
invariant-loop-at g l = record {
  end : l.end ≡ min l.fn.to (length (g.F.Flash.image l.fn.flash));
  behind : l.fn.from ≤ l.at;
  within : l.at ≤ max l.fn.from l.end;
  turn : l.fn.from < l.at → l.at < l.end → l.at % 256 ≡ 0;
  same : g.F.Flash.image l.flash ≡ g.F.Flash.image l.fn.flash;
  lent : g.F.Flash.lent l.flash ≡ g.F.Flash.lent l.fn.flash;
  zeros : IsTrue g.F.Flash.tells → is_zeros (slice_range (g.F.Flash.image l.fn.flash) l.at l.fn.to) ≡ is_zeros (slice_range (g.F.Flash.image l.fn.flash) l.fn.from l.fn.to);
  reads : g.F.Flash.reads l.flash ≤ g.F.Flash.reads l.fn.flash + pages_touched l.fn.from (l.at - l.fn.from);
  later : g.F.Flash.reads l.fn.flash ≤ g.F.Flash.reads l.flash;
  faults : g.F.Flash.faults l.flash ≡ g.F.Flash.faults l.fn.flash;
}

abbrev pub decreases-loop-at : goal.decreases-loop-at
decreases-loop-at g l = l.end - l.at
