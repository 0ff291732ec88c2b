use Rattle.std.proofs.Common.{◌≡◌, ◌≤◌, ◌<◌, ◌+◌, ◌-◌, ◌*◌, None, negsuc}
use Rattle.std.specs.Prelude.{IsTrue}
use Rattle.afl_base.specs.KeyColumn.{key_of}
use Rattle.db_model.specs.Step.{first_fall}
use Rattle.index_inline.specs.Keys.{keys_of}
use Rattle.index_inline.proofs.order.ordered.Given as goal

abbrev pub invariant-loop-at : goal.invariant-loop-at
invariant-loop-at g l = record {
  same : g.V.Files.state l.files ≡ g.V.Files.state l.fn.files;
  lent : g.V.Files.lent l.files ≡ g.V.Files.lent l.fn.files;
  later : g.V.Files.faults l.files ≡ g.V.Files.faults l.fn.files;
  rises : IsTrue (g.V.Files.state l.fn.files).tells → first_fall (keys_of (g.V.Files.state l.fn.files) l.column l.at) ≡ None;
  last : IsTrue (g.V.Files.state l.fn.files).tells → 0 < l.at → l.last ≡ key_of (g.V.Files.state l.fn.files) l.column (l.at - 1);
  least : l.at ≡ 0 → l.last ≡ negsuc 9223372036854775807;
  reads : g.V.Files.reads l.files ≤ g.V.Files.reads l.fn.files + 6 * l.at;
  reads_later : g.V.Files.reads l.fn.files ≤ g.V.Files.reads l.files;
}
