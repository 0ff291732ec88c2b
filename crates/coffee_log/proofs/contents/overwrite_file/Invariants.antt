use Rattle.std.proofs.Common.{◌≡◌, ℕ, ◌+◌, ◌-◌, ◌*◌, ◌/◌, ◌%◌, ◌≤◌, ◌<◌, length, take, Some, IsTrue}
use Rattle.afl_base.specs.Image.{page_bytes}
use Rattle.afl_base.specs.Regions.{regions}
use Rattle.flash_range.specs.Range.{PageOutside}
use Rattle.coffee_log.specs.FileChanges.{FileBecomes, IsFile}
use Rattle.coffee_log.specs.Logs.{AddsRecords, IsLog}
use Rattle.coffee_log.proofs.contents.overwrite_file.Given as goal

abbrev pub invariant-loop-done : goal.invariant-loop-done
invariant-loop-done g l = record {
  within : l.done ≤ length l.bytes;
  turn : 0 < l.done → l.done < length l.bytes → (l.at + l.done) % 128 ≡ 0;
  count : l.records ≡ l.file.used + regions l.at l.done;
  size : length (g.F.Flash.image l.flash) ≡ length (g.F.Flash.image l.fn.flash);
  lent : g.F.Flash.lent l.flash ≡ g.F.Flash.lent l.fn.flash;
  becomes : IsTrue g.F.Flash.tells → (size : ℕ) → IsFile (g.F.Flash.image l.fn.flash) l.file.page.0 l.file.pages (Some l.log) l.file.used size → l.at + length l.bytes ≤ size → size + 32 ≤ 256 * l.file.pages
      → FileBecomes (g.F.Flash.image l.fn.flash) (g.F.Flash.image l.flash) l.file.page.0 l.file.pages (Some l.log) l.records size l.at (take l.done l.bytes);
  adds : IsTrue g.F.Flash.tells → IsLog (g.F.Flash.image l.fn.flash) l.log.0 l.file.used → AddsRecords (g.F.Flash.image l.fn.flash) (g.F.Flash.image l.flash) l.log.0 l.file.used l.records (l.at / 128) (256 * l.file.pages - 32);
  others : IsTrue g.F.Flash.tells → (p : ℕ) → PageOutside (256 * l.log.0) 4096 p → page_bytes (g.F.Flash.image l.flash) p ≡ page_bytes (g.F.Flash.image l.fn.flash) p;
  reads : g.F.Flash.reads l.flash ≤ g.F.Flash.reads l.fn.flash + 3 * regions l.at l.done;
  later : g.F.Flash.reads l.fn.flash ≤ g.F.Flash.reads l.flash;
  faults : g.F.Flash.faults l.fn.flash ≤ g.F.Flash.faults l.flash;
}

abbrev pub decreases-loop-done : goal.decreases-loop-done
decreases-loop-done g l = length l.bytes - l.done
