use Rattle.std.proofs.Common.{rules, arith}
use Rattle.std.specs.Prelude.{FitsSigned}
use Rattle.std.specs.Int.{w32}
use Rattle.std.proofs.lemmas.Int.{to_z-of_z}
use Rattle.index_set.specs.declared.candidates.Search.TheVariants as by
use Rattle.index_set.proofs.Nexts.{advances_all, advances_below, advances_by, nothing_ahead, order_known, order_next, reads_all, scan_known, table_next, tree_all}
use Rattle.index_set.proofs.candidates.Candidates.find.Goals as goal

pub returns-in-Nothing-clause-finds : goal.returns-in-Nothing-clause-finds
returns-in-Nothing-clause-finds g c = λ told rows fits. nothing_ahead c.args.self.now rows c.in-Nothing.is

pub returns-in-Scan-clause-advances : goal.returns-in-Scan-clause-advances
returns-in-Scan-clause-advances g c =
    let e = c.next_below.ensures in
    advances_below c.args.self.now c.next_below.new.self c.next_below.result c.args.self.now.slots (omega arith) e.next e.moved e.end (scan_known c.args.self.now c.in-Scan.is)

pub returns-in-Order-clause-finds : goal.returns-in-Order-clause-finds
returns-in-Order-clause-finds g c = λ told rows fits.
    let e = c.next_below-in-Order.ensures in
    order_next c.args.self.now c.next_below-in-Order.new.self (g.V.Files.state c.args.files.now) c.args.tables.now rows c.in-Order.attribute c.in-Order.range c.next_below-in-Order.result c.in-Order.is fits e.next e.moved e.end

pub returns-in-Order-clause-advances : goal.returns-in-Order-clause-advances
returns-in-Order-clause-advances g c =
    let e = c.next_below-in-Order.ensures in
    advances_below c.args.self.now c.next_below-in-Order.new.self c.next_below-in-Order.result c.args.self.now.end c.args.self.now.within e.next e.moved e.end (order_known c.args.self.now c.in-Order.attribute c.in-Order.range c.in-Order.is)

pub returns-in-Tree-clause-finds : goal.returns-in-Tree-clause-finds
returns-in-Tree-clause-finds g c = λ told.
    let e = c.next_in_tree.ensures in
    let fits : FitsSigned w32 c.in-Tree.key = search rules in
    tree_all c.args.self.now c.next_in_tree.new.self (g.V.Files.state c.args.files.now) c.args.tables.now c.in-Tree.attribute c.in-Tree.file c.in-Tree.key c.in-Tree.is c.next_in_tree.result (rw (to_z-of_z w32 _ fits) at (e.next told)) e.moved

pub returns-in-Tree-clause-advances : goal.returns-in-Tree-clause-advances
returns-in-Tree-clause-advances g c =
    advances_all c.args.self.now c.next_in_tree.new.self (by.Tree c.in-Tree.attribute c.in-Tree.file c.in-Tree.key) c.in-Tree.is (λ rows from end slots. tt) c.next_in_tree.result c.next_in_tree.ensures.moved

pub returns-in-Tree-clause-reads : goal.returns-in-Tree-clause-reads
returns-in-Tree-clause-reads g c = λ told.
    let e = c.next_in_tree.ensures in
    let fits : FitsSigned w32 c.in-Tree.key = search rules in
    reads_all c.args.self.now c.next_in_tree.new.self (g.V.Files.state c.args.files.now) c.args.tables.now c.in-Tree.attribute c.in-Tree.file c.in-Tree.key c.in-Tree.is
    (g.V.Files.reads c.args.files.now) (g.V.Files.reads c.next_in_tree.new.files) c.next_in_tree.result e.unread e.over (rw (to_z-of_z w32 _ fits) at (e.next told)) e.moved (rw (to_z-of_z w32 _ fits) at (e.reads told))

pub returns-in-Table-clause-finds : goal.returns-in-Table-clause-finds
returns-in-Table-clause-finds g c = λ told rows fits.
    let e = c.next_in_table.ensures in
    let bound : FitsSigned w32 c.in-Table.key = search rules in
    table_next c.args.self.now c.next_in_table.new.self (g.V.Files.state c.args.files.now) c.args.tables.now rows c.in-Table.attribute c.in-Table.table c.in-Table.key c.in-Table.is fits c.next_in_table.result (rw (to_z-of_z w32 _ bound) at e.next) e.moved

pub returns-in-Table-clause-advances : goal.returns-in-Table-clause-advances
returns-in-Table-clause-advances g c =
    advances_by c.args.self.now c.next_in_table.new.self (by.Table c.in-Table.attribute c.in-Table.table c.in-Table.key) c.in-Table.is (λ rows from end slots. tt) c.next_in_table.result c.next_in_table.ensures.moved
