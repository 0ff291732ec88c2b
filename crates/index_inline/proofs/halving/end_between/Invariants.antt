use Rattle.std.proofs.Common.{◌≡◌, ◌≤◌, ◌<◌, ◌+◌, ◌-◌, ◌*◌, ℕ, true, false}
use Rattle.std.specs.Prelude.{IsTrue}
use Rattle.afl_base.specs.KeyColumn.{key_of}
use Rattle.db_model.specs.Cost.{bits}
use Rattle.index_inline.specs.Span.{KeysRise, passes_end}
use Rattle.index_inline.proofs.halving.end_between.Given as goal

abbrev pub invariant-halves : goal.invariant-halves
invariant-halves g l = record {
  from : l.from ≤ l.low;
  order : l.low ≤ l.high;
  within : l.high ≤ l.to;
  same : g.V.Files.state l.files ≡ g.V.Files.state l.fn.files;
  lent : g.V.Files.lent l.files ≡ g.V.Files.lent l.fn.files;
  later : g.V.Files.faults l.files ≡ g.V.Files.faults l.fn.files;
  passed : IsTrue (g.V.Files.state l.fn.files).tells → (slots : ℕ) → l.to ≤ slots → KeysRise (key_of (g.V.Files.state l.fn.files) l.column) slots
      → (i : ℕ) → l.from ≤ i → i < l.low → passes_end true l.within (key_of (g.V.Files.state l.fn.files) l.column i) ≡ true;
  failed : IsTrue (g.V.Files.state l.fn.files).tells → (slots : ℕ) → l.to ≤ slots → KeysRise (key_of (g.V.Files.state l.fn.files) l.column) slots
      → (i : ℕ) → l.high ≤ i → i < l.to → passes_end true l.within (key_of (g.V.Files.state l.fn.files) l.column i) ≡ false;
  reads : g.V.Files.reads l.files + 6 * bits (l.high - l.low) ≤ g.V.Files.reads l.fn.files + 6 * bits (l.to - l.from);
  reads_later : g.V.Files.reads l.fn.files ≤ g.V.Files.reads l.files;
}

abbrev pub decreases-halves : goal.decreases-halves
decreases-halves g l = l.high - l.low
