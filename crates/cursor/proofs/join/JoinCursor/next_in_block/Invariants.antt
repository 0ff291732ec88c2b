use Rattle.std.proofs.Common.{◌≡◌, ◌≤◌, ◌-◌, IsTrue}
use Rattle.tuple_file.specs.Tuples.{rows}
use Rattle.cursor.specs.Blocks.{IsBlockFor, IsBlockOf}
use Rattle.cursor.specs.Pairs.{FitsPairs, MayReadPairs}
use Rattle.cursor.proofs.BlockWalk.{Blocking}
use Rattle.cursor.proofs.join.JoinCursor.next_in_block.Given as goal

abbrev pub invariant-lefts : goal.invariant-lefts
invariant-lefts g l = record {
  same : g.V.Files.state l.files ≡ g.V.Files.state l.fn.files;
  lent : g.V.Files.lent l.files ≡ g.V.Files.lent l.fn.files;
  reads_later : g.V.Files.reads l.fn.files ≤ g.V.Files.reads l.files;
  faults : g.V.Files.faults l.files ≡ g.V.Files.faults l.fn.files;
  stands : l.self ≡ record l.fn.self { at = l.self.at; from = l.self.from; inner = l.self.inner };
  serves : l.block.serves ≡ l.fn.block.serves;
  block : IsBlockFor l.block l.self;
  may_read : MayReadPairs (g.V.Files.state l.fn.files) l.self;
  told : IsTrue (g.V.Files.state l.fn.files).tells → FitsPairs l.fn.self (g.V.Files.state l.fn.files) l.tables
      → IsBlockOf l.fn.block l.fn.self (rows (g.V.Files.state l.fn.files).files l.fn.self.left) (rows (g.V.Files.state l.fn.files).files l.fn.self.right)
      → Blocking (g.V.Files.state l.fn.files) l.tables l.fn.block l.block l.fn.self l.self (g.V.Files.reads l.fn.files) (g.V.Files.reads l.files);
}

abbrev pub decreases-lefts : goal.decreases-lefts
decreases-lefts g l = l.self.left_slots - l.self.at
