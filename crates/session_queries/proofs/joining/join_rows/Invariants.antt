use Rattle.std.proofs.Common.{◌≡◌, ◌≤◌, IsTrue}
use Rattle.cursor.specs.Blocks.{IsBlockOf, MayReadBy}
use Rattle.cursor.specs.Pairs.{FitsPairs, MayReadPairs}
use Rattle.tuple_file.specs.Tuples.{rows}
use Rattle.session_queries.proofs.Paired.{JoinGoes}
use Rattle.session_queries.proofs.joining.join_rows.Given as goal

abbrev pub invariant-loop-count : goal.invariant-loop-count
invariant-loop-count g l = record {
  same : g.V.Files.state l.files ≡ g.V.Files.state l.fn.files;
  lent : g.V.Files.lent l.files ≡ g.V.Files.lent l.fn.files;
  reads_later : g.V.Files.reads l.fn.files ≤ g.V.Files.reads l.files;
  files_later : g.V.Files.faults l.fn.files ≤ g.V.Files.faults l.files;
  faultless : g.K.Sink.faults l.out ≡ g.K.Sink.faults l.fn.out;
  sink_lent : g.K.Sink.lent l.out ≡ g.K.Sink.lent l.fn.out;
  left : l.cursor.left ≡ l.fn.cursor.left;
  right : l.cursor.right ≡ l.fn.cursor.right;
  may_read : MayReadPairs (g.V.Files.state l.fn.files) l.cursor;
  block : MayReadBy l.block l.cursor;
  told : IsTrue (g.V.Files.state l.fn.files).tells → FitsPairs l.fn.cursor (g.V.Files.state l.fn.files) l.tables
      → IsBlockOf l.fn.block l.fn.cursor (rows (g.V.Files.state l.fn.files).files l.fn.cursor.left) (rows (g.V.Files.state l.fn.files).files l.fn.cursor.right)
      → JoinGoes (g.V.Files.state l.fn.files) l.tables (rows (g.V.Files.state l.fn.files).files l.fn.cursor.left) (rows (g.V.Files.state l.fn.files).files l.fn.cursor.right)
      l.places l.fn.block l.block l.fn.cursor l.cursor (g.K.Sink.held l.fn.out) (g.K.Sink.held l.out) l.count (g.V.Files.reads l.fn.files) (g.V.Files.reads l.files);
}
