use Rattle.std.proofs.Common.{◌≡◌, ℕ, ◌+◌, ◌-◌, ◌%◌, ◌≤◌, ◌<◌, length, take, IsTrue}
use Rattle.afl_base.specs.Image.{or_at, page_bytes}
use Rattle.flash_range.specs.Range.{PageOutside}
use Rattle.flash_range.proofs.program.program_range.Given as goal

abbrev pub invariant-loop-done : goal.invariant-loop-done
invariant-loop-done g l = record {
  within : l.done ≤ length l.bytes;
  small : length (g.F.Flash.image l.fn.flash) ≤ 16773120;
  size : length (g.F.Flash.image l.flash) ≡ length (g.F.Flash.image l.fn.flash);
  lent : g.F.Flash.lent l.flash ≡ g.F.Flash.lent l.fn.flash;
  turn : 0 < l.done → l.done < length l.bytes → (l.place + l.done) % 256 ≡ 0;
  programmed : IsTrue g.F.Flash.tells → g.F.Flash.image l.flash ≡ or_at (g.F.Flash.image l.fn.flash) l.place (take l.done l.bytes);
  other_pages : IsTrue g.F.Flash.tells → (p : ℕ) → PageOutside l.place (length l.bytes) p → page_bytes (g.F.Flash.image l.flash) p ≡ page_bytes (g.F.Flash.image l.fn.flash) p;
  reads : g.F.Flash.reads l.flash ≡ g.F.Flash.reads l.fn.flash;
  faults : g.F.Flash.faults l.fn.flash ≤ g.F.Flash.faults l.flash;
}

abbrev pub decreases-loop-done : goal.decreases-loop-done
decreases-loop-done g l = length l.bytes - l.done
