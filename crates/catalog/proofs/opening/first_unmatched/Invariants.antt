use Rattle.std.proofs.Common.{◌≡◌, None}
use Rattle.catalog.specs.CatalogFile.{indexes_in}
use Rattle.catalog.specs.Rules.{breaks_files, first}
use Rattle.catalog.proofs.opening.first_unmatched.Given as goal

abbrev pub invariant-loop-k : goal.invariant-loop-k
invariant-loop-k g l = first l.k (breaks_files (g.V.Files.state l.files).files l.relations (indexes_in l.indexes)) ≡ None
