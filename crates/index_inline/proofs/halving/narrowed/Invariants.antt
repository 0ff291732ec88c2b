use Rattle.std.proofs.Common.{◌≡◌, ◌≤◌, ◌+◌, ◌-◌, ◌*◌}
use Rattle.std.specs.Prelude.{IsTrue}
use Rattle.afl_base.specs.KeyColumn.{key_of}
use Rattle.db_model.specs.Cost.{bits}
use Rattle.index_inline.specs.Span.{AreAround, KeysRise}
use Rattle.index_inline.proofs.halving.narrowed.Given as goal

abbrev pub invariant-halves : goal.invariant-halves
invariant-halves g l = record {
  order : l.around.0 ≤ l.around.1.0;
  within : l.around.1.0 ≤ l.around.1.1.0;
  behind : l.around.1.1.0 ≤ l.slots;
  same : g.V.Files.state l.files ≡ g.V.Files.state l.fn.files;
  lent : g.V.Files.lent l.files ≡ g.V.Files.lent l.fn.files;
  later : g.V.Files.faults l.files ≡ g.V.Files.faults l.fn.files;
  around : IsTrue (g.V.Files.state l.fn.files).tells → KeysRise (key_of (g.V.Files.state l.fn.files) l.column) l.slots
      → AreAround l.within (key_of (g.V.Files.state l.fn.files) l.column) l.slots l.around.0 l.around.1.0 l.around.1.1.0;
  reads : g.V.Files.reads l.files + 6 * bits (l.around.1.0 - l.around.0) ≤ g.V.Files.reads l.fn.files + 6 * bits l.slots;
  reads_later : g.V.Files.reads l.fn.files ≤ g.V.Files.reads l.files;
}

abbrev pub decreases-halves : goal.decreases-halves
decreases-halves g l = l.around.1.0 - l.around.0
