use Rattle.std.proofs.Common.{◌≡◌, ◌<◌, ◌≤◌, ◌-◌, ℕ, IsTrue, length}
use Rattle.db_model.specs.Row.{row_length}
use Rattle.index_set.specs.Walks.{Fits}
use Rattle.cursor.specs.Remaining.{MayRead}
use Rattle.tuple_file.specs.Tuples.{rows}
use Rattle.session_queries.specs.Folded.{AllStand, HaveAggs, PushedFew}
use Rattle.session_queries.proofs.Passes.{FoldGoes}
use Rattle.session_queries.proofs.passing.fold_rows.Given as goal

abbrev pub invariant-rows : goal.invariant-rows
invariant-rows g l = record {
  same : g.V.Files.state l.files ≡ g.V.Files.state l.fn.files;
  lent : g.V.Files.lent l.files ≡ g.V.Files.lent l.fn.files;
  reads_later : g.V.Files.reads l.fn.files ≤ g.V.Files.reads l.files;
  files_later : g.V.Files.faults l.files ≡ g.V.Files.faults l.fn.files;
  tuples : l.cursor.tuples ≡ l.fn.cursor.tuples;
  code : l.cursor.code ≡ l.fn.cursor.code;
  slots : l.cursor.candidates.slots ≡ l.fn.cursor.candidates.slots;
  row : 0 < l.fn.cursor.candidates.slots → length l.row ≡ row_length l.fn.cursor.tuples.schema.attributes;
  may_read : MayRead (g.V.Files.state l.fn.files) l.cursor.tuples l.cursor.candidates;
  many : length l.tallies ≡ length l.fn.tallies;
  aggs : HaveAggs l.items l.tallies;
  stand : (passes : ℕ) → AllStand passes l.items l.fn.tallies → AllStand passes l.items l.tallies;
  pushed : PushedFew l.cursor.candidates.from l.items l.tallies;
  told : IsTrue (g.V.Files.state l.fn.files).tells → Fits l.fn.cursor.candidates (g.V.Files.state l.fn.files) l.tables (rows (g.V.Files.state l.fn.files).files l.fn.cursor.tuples)
      → FoldGoes (g.V.Files.state l.fn.files) l.tables (rows (g.V.Files.state l.fn.files).files l.fn.cursor.tuples) l.items l.fn.cursor l.cursor l.fn.tallies l.tallies
      (g.V.Files.reads l.fn.files) (g.V.Files.reads l.files);
}

abbrev pub decreases-rows : goal.decreases-rows
decreases-rows g l = l.cursor.candidates.slots - l.cursor.candidates.from
