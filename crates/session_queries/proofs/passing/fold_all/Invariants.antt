use Rattle.std.proofs.Common.{◌≡◌, ◌+◌, ◌*◌, ◌≤◌, IsTrue, length}
use Rattle.index_set.specs.Walks.{Fits, cost_ahead}
use Rattle.cursor.specs.Remaining.{remaining}
use Rattle.tuple_file.specs.Tuples.{rows}
use Rattle.session_plans.specs.Aggregates.{medians}
use Rattle.session_queries.specs.Folded.{AllStand, AreFolded, HaveAggs, PushedFew}
use Rattle.session_queries.proofs.passing.fold_all.Given as goal

abbrev pub invariant-loop-pass : goal.invariant-loop-pass
invariant-loop-pass g l = record {
  same : g.V.Files.state l.files ≡ g.V.Files.state l.fn.files;
  lent : g.V.Files.lent l.files ≡ g.V.Files.lent l.fn.files;
  reads_later : g.V.Files.reads l.fn.files ≤ g.V.Files.reads l.files;
  files_later : g.V.Files.faults l.files ≡ g.V.Files.faults l.fn.files;
  tuples : l.cursor.tuples ≡ l.fn.cursor.tuples;
  code : l.cursor.code ≡ l.fn.cursor.code;
  many : length l.tallies ≡ length l.fn.tallies;
  aggs : HaveAggs l.items l.tallies;
  fresh : PushedFew 0 l.items l.tallies;
  stand : AllStand l._pass l.items l.tallies;
  median : 1 ≤ l._pass → IsTrue (medians l.items);
  folded : IsTrue (g.V.Files.state l.fn.files).tells → Fits l.fn.cursor.candidates (g.V.Files.state l.fn.files) l.tables (rows (g.V.Files.state l.fn.files).files l.fn.cursor.tuples)
      → AreFolded l.items (remaining l.fn.cursor (rows (g.V.Files.state l.fn.files).files l.fn.cursor.tuples)) l.fn.tallies
      → AreFolded l.items (remaining l.fn.cursor (rows (g.V.Files.state l.fn.files).files l.fn.cursor.tuples)) l.tallies;
  reads : IsTrue (g.V.Files.state l.fn.files).tells → Fits l.fn.cursor.candidates (g.V.Files.state l.fn.files) l.tables (rows (g.V.Files.state l.fn.files).files l.fn.cursor.tuples)
      → g.V.Files.reads l.files ≤ g.V.Files.reads l.fn.files + l._pass * cost_ahead l.fn.cursor.candidates (rows (g.V.Files.state l.fn.files).files l.fn.cursor.tuples);
}
