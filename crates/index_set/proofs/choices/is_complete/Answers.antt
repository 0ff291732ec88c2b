use Rattle.index_set.proofs.Verified.{filled_held, order_held, tree_held, tree_whole}
use Rattle.index_set.proofs.choices.is_complete.Goals as goal

pub returns-in-Tree-clause-complete : goal.returns-in-Tree-clause-complete
returns-in-Tree-clause-complete g c = λ told.
    tree_whole (g.V.Files.state c.args.files.now) c.args.tables.now c.args.info.now c.args.slots c.in-Tree.file c.verify.result c.in-Tree.is (c.verify.ensures.tree told) (c.verify.ensures.no_tree told)

pub returns-in-Order-clause-held : goal.returns-in-Order-clause-held
returns-in-Order-clause-held g c =
    order_held (g.V.Files.state c.args.files.now) (g.V.Files.state c.is_ordered.new.files) c.args.tables.now c.args.info.now c.args.slots c.is_ordered.result c.in-Order.is

pub returns-in-Tree-clause-held : goal.returns-in-Tree-clause-held
returns-in-Tree-clause-held g c =
    tree_held (g.V.Files.state c.args.files.now) (g.V.Files.state c.verify.new.files) c.args.tables.now c.args.info.now c.args.slots c.in-Tree.file c.verify.result c.in-Tree.is c.verify.ensures.frame.same

pub returns-in-Table-clause-held : goal.returns-in-Table-clause-held
returns-in-Table-clause-held g c =
    filled_held (g.V.Files.state c.args.files.now) (g.V.Files.state c.fill_whole.new.files) c.fill_whole.new.tables c.args.info.now c.args.slots c.in-Table.table c.fill_whole.result c.in-Table.is c.requires.readable.table c.fill_whole.ensures.size
