use Rattle.std.proofs.Common.{◌≡◌, ℕ, ◌+◌, ◌-◌, ◌%◌, ◌^◌, ◌≤◌, ◌<◌, length, min, get_or, IsTrue}
use Rattle.flash_range.specs.Range.{pages_touched}
use Rattle.flash_range.proofs.read.read_range.Given as goal

abbrev pub invariant-loop-done : goal.invariant-loop-done
invariant-loop-done g l = record {
  within : l.done ≤ length l.fn.into;
  size : length (g.F.Flash.image l.fn.flash) ≤ 16773120;
  turn : 0 < l.done → l.done < length l.fn.into → (l.place + l.done) % 256 ≡ 0;
  same : g.F.Flash.image l.flash ≡ g.F.Flash.image l.fn.flash;
  lent : g.F.Flash.lent l.flash ≡ g.F.Flash.lent l.fn.flash;
  bytes : IsTrue g.F.Flash.tells → (k : ℕ) → k < l.done → get_or l.into k 0 ≡ get_or (g.F.Flash.image l.fn.flash) (l.place + k) 0;
  reads : g.F.Flash.reads l.flash ≤ g.F.Flash.reads l.fn.flash + pages_touched l.place l.done;
  later : g.F.Flash.reads l.fn.flash ≤ g.F.Flash.reads l.flash;
  counted : min (g.F.Flash.reads l.fn.flash + pages_touched l.place l.done) (2 ^ 64 - 1) ≤ g.F.Flash.reads l.flash;
  faults : g.F.Flash.faults l.flash ≡ g.F.Flash.faults l.fn.flash;
}

abbrev pub decreases-loop-done : goal.decreases-loop-done
decreases-loop-done g l = length l.initial.into - l.done
