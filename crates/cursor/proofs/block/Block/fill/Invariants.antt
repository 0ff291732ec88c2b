use Rattle.std.proofs.Common.{◌≡◌, ◌+◌, ◌*◌, ◌-◌, ◌≤◌, IsTrue, length}
use Rattle.db_model.specs.Row.{row_length}
use Rattle.tuple_file.specs.Column.{IsNumber}
use Rattle.tuple_file.specs.Tuples.{rows}
use Rattle.cursor.specs.Blocks.{AreMarked, HoldsLefts}
use Rattle.cursor.proofs.block.Block.fill.Given as goal

abbrev pub invariant-rows : goal.invariant-rows
invariant-rows g l = record {
  same : g.V.Files.state l.files ≡ g.V.Files.state l.fn.files;
  lent : g.V.Files.lent l.files ≡ g.V.Files.lent l.fn.files;
  reads_later : g.V.Files.reads l.fn.files ≤ g.V.Files.reads l.files;
  faults : g.V.Files.faults l.files ≡ g.V.Files.faults l.fn.files;
  kept : l.self.serves ≡ l.fn.self.serves;
  begins : l.self.begin ≡ l.cursor.at;
  anew : l.self.seen ≡ 0;
  order : l.cursor.at ≤ l.self.end;
  within : l.self.end ≤ l.end;
  size : length l.row ≡ row_length l.cursor.left.schema.attributes;
  marked : AreMarked l.self;
  reads : g.V.Files.reads l.files + 6 * l.cursor.at ≤ g.V.Files.reads l.fn.files + 6 * l.self.end;
  lefts : IsTrue (g.V.Files.state l.fn.files).tells → IsNumber l.cursor.left.schema.attributes l.cursor.left_on
      → HoldsLefts l.self l.cursor.left_on (rows (g.V.Files.state l.fn.files).files l.cursor.left);
}

abbrev pub decreases-rows : goal.decreases-rows
decreases-rows g l = l.end - l.self.end
