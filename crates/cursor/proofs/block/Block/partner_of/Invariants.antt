use Rattle.std.proofs.Common.{◌≡◌, ◌+◌, ◌*◌, ◌-◌, ◌<◌, ◌≤◌, IsTrue, length}
use Rattle.db_model.specs.Row.{row_length}
use Rattle.tuple_file.specs.Tuples.{rows}
use Rattle.cursor.specs.Blocks.{HasMet}
use Rattle.cursor.proofs.BlockSteps.{Passing}
use Rattle.cursor.proofs.block.Block.partner_of.Given as goal

abbrev pub invariant-slots : goal.invariant-slots
invariant-slots g l = record {
  same : g.V.Files.state l.files ≡ g.V.Files.state l.fn.files;
  lent : g.V.Files.lent l.files ≡ g.V.Files.lent l.fn.files;
  reads_later : g.V.Files.reads l.fn.files ≤ g.V.Files.reads l.files;
  faults : g.V.Files.faults l.files ≡ g.V.Files.faults l.fn.files;
  kept : l.self ≡ record l.fn.self { seen = l.self.seen; firsts = l.self.firsts; ends = l.self.ends };
  order : l.cursor.from ≤ l.slot;
  size : 0 < l.cursor.right_slots → length l.row ≡ row_length l.cursor.right.schema.attributes;
  seen : l.slot ≤ l.self.seen;
  within : l.self.seen ≤ l.cursor.right_slots;
  reads : g.V.Files.reads l.files + 6 * l.cursor.from ≤ g.V.Files.reads l.fn.files + 6 * l.slot;
  told : IsTrue (g.V.Files.state l.fn.files).tells → HasMet l.fn.self l.cursor.right_on (rows (g.V.Files.state l.fn.files).files l.cursor.right)
      → Passing l.fn.self l.self l.cursor l.number (rows (g.V.Files.state l.fn.files).files l.cursor.right) l.slot;
}

abbrev pub decreases-slots : goal.decreases-slots
decreases-slots g l = l.end - l.slot
