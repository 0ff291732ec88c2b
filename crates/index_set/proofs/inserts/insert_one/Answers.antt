use Rattle.std.proofs.Common.{subst, sym}
use Rattle.afl_base.proofs.CutLaws.{mends_as}
use Rattle.index_maxheap.proofs.CutInserts.{on_error}
use Rattle.index_set.specs.declared.info.Access.{Access}
use Rattle.index_set.specs.Inserts.{MayInsertKey}
use Rattle.index_set.proofs.CutKeys.{tree_cut}
use Rattle.index_set.proofs.Lists.{table_held}
use Rattle.index_set.proofs.inserts.insert_one.Goals as goal

pub returns-in-Table-clause-held : goal.returns-in-Table-clause-held
returns-in-Table-clause-held g c =
    table_held (g.V.Files.state c.args.files.now) c.args.tables.now c.push.new.self c.args.slot c.args.key.now c.in-Table.table c.args.access c.in-Table.is c.push.ensures.key c.requires.held

pub returns-in-Tree-clause-cut : goal.returns-in-Tree-clause-cut
returns-in-Tree-clause-cut g c = λ cuts told.
    let old = g.V.Files.state c.args.files.now in
    on_error c.insert.result (λ m. mends_as m (λ after part.
    subst (λ (a : Access). MayInsertKey old after c.args.tables.now a c.args.room.now c.args.key.now c.args.slot) (sym c.in-Tree.is)
    (tree_cut old after c.args.tables.now c.in-Tree.file c.args.room.now c.args.key.now c.args.slot part))) (c.insert.ensures.cut cuts told)
