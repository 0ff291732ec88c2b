use Rattle.std.proofs.Common.{sym}
use Rattle.catalog.specs.CatalogFile.{indexes_in}
use Rattle.catalog.specs.Rules.{breaks_files}
use Rattle.catalog.proofs.Firsts.{first_found, first_more, first_none}
use Rattle.catalog.proofs.opening.first_unmatched.Goals as goal

pub loop-k-init : goal.loop-k-init
loop-k-init g c = first_none (breaks_files (g.V.Files.state c.args.files.now).files c.args.relations.now (indexes_in c.args.indexes.now))

pub returns-then-is_unmatched : goal.returns-then-is_unmatched
returns-then-is_unmatched g c = sym (first_found (breaks_files (g.V.Files.state c.args.files.now).files c.args.relations.now (indexes_in c.args.indexes.now)) 16 c.loop-k.k c.loop-k-test.true c.loop-k.invariant (sym c.if-is_unmatched.ensures))

pub loop-k-preserved : goal.loop-k-preserved
loop-k-preserved g c = first_more (breaks_files (g.V.Files.state c.args.files.now).files c.args.relations.now (indexes_in c.args.indexes.now)) c.loop-k.k c.loop-k.invariant (sym c.if-is_unmatched.ensures)
