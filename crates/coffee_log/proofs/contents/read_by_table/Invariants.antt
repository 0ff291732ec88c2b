use Rattle.std.proofs.Common.{◌≡◌, ℕ, Some, ◌+◌, ◌-◌, ◌*◌, ◌%◌, ◌≤◌, ◌<◌, length, get_or, IsTrue}
use Rattle.afl_base.specs.Regions.{regions}
use Rattle.coffee_layout.specs.FileBytes.{file_byte, table_of}
use Rattle.coffee_log.proofs.contents.read_by_table.Given as goal

abbrev pub invariant-loop-done : goal.invariant-loop-done
invariant-loop-done g l = record {
  within : l.done ≤ length l.fn.into;
  size : length (g.F.Flash.image l.fn.flash) ≤ 16773120;
  turn : 0 < l.done → l.done < length l.fn.into → (l.at + l.done) % 128 ≡ 0;
  same : g.F.Flash.image l.flash ≡ g.F.Flash.image l.fn.flash;
  lent : g.F.Flash.lent l.flash ≡ g.F.Flash.lent l.fn.flash;
  bytes : IsTrue g.F.Flash.tells → l.table ≡ table_of (g.F.Flash.image l.fn.flash) l.log.0 → (k : ℕ) → k < l.done → get_or l.into k 0 ≡ file_byte (g.F.Flash.image l.fn.flash) l.page.0 (Some l.log) (l.at + k);
  reads : g.F.Flash.reads l.flash ≤ g.F.Flash.reads l.fn.flash + 2 * regions l.at l.done;
  later : g.F.Flash.reads l.fn.flash ≤ g.F.Flash.reads l.flash;
  faults : g.F.Flash.faults l.flash ≡ g.F.Flash.faults l.fn.flash;
}

abbrev pub decreases-loop-done : goal.decreases-loop-done
decreases-loop-done g l = length l.initial.into - l.done
