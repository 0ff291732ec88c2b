use Rattle.std.proofs.Common.{◌≡◌, ◌<◌, ℕ, length, get_or, take, None}
use Rattle.catalog.specs.CatalogFile.{indexes_in}
use Rattle.session_start.specs.Found.{IsIndexHeld}
use Rattle.session_start.proofs.holding.hold_indexes.Given as goal

abbrev pub invariant-loop-slot : goal.invariant-loop-slot
invariant-loop-slot g l = record {
  long : length l.indexes ≡ 8;
  held : (i : ℕ) → i < l.slot → IsIndexHeld (g.V.Files.state l.files).files (take i (indexes_in l.entries)) i (get_or (indexes_in l.entries) i None) (get_or l.indexes i None);
}
