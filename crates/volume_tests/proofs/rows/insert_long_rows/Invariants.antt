use Rattle.std.proofs.Common.{◌≡◌, None}
use Rattle.tuple_file.specs.Tuples.{HoldsRows, slots}
use Rattle.volume_tests.proofs.rows.insert_long_rows.Given as goal

abbrev pub invariant-loop-number : goal.invariant-loop-number
invariant-loop-number g l = record {
  holds : HoldsRows (g.V.Files.state l.files) l.tuples;
  idle : (g.V.Files.state l.files).draft ≡ None;
  slots : slots (g.V.Files.state l.files).files l.tuples ≡ l.number;
}
