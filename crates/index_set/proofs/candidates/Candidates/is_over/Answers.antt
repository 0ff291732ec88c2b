use Rattle.std.proofs.Common.{rules}
use Rattle.std.specs.Prelude.{FitsSigned}
use Rattle.std.specs.Int.{w32}
use Rattle.std.proofs.lemmas.Int.{to_z-of_z}
use Rattle.index_set.proofs.Nexts.{nothing_ahead, order_next, table_next}
use Rattle.index_set.proofs.Peeks.{none_ahead, some_ahead}
use Rattle.index_set.proofs.candidates.Candidates.is_over.Goals as goal

pub returns-in-Nothing-clause-over : goal.returns-in-Nothing-clause-over
returns-in-Nothing-clause-over c = λ _ state all fits. nothing_ahead c.args.self.now all c.in-Nothing.is

pub returns-in-Order-clause-over : goal.returns-in-Order-clause-over
returns-in-Order-clause-over c = λ yes state all fits.
    let old = c.args.self.now in
    let new = c.next_below-in-Order.new.self in
    let e = c.next_below-in-Order.ensures in
    none_ahead old new state c.args.tables.now all c.next_below-in-Order.result c.is_none-in-Order.result c.is_none-in-Order.ensures yes
    (order_next old new state c.args.tables.now all c.in-Order.attribute c.in-Order.range c.next_below-in-Order.result c.in-Order.is fits e.next e.moved e.end)

pub returns-in-Table-clause-over : goal.returns-in-Table-clause-over
returns-in-Table-clause-over c = λ yes state all fits.
    let old = c.args.self.now in
    let new = c.next_in_table.new.self in
    let e = c.next_in_table.ensures in
    let bound : FitsSigned w32 c.in-Table.key = search rules in
    none_ahead old new state c.args.tables.now all c.next_in_table.result c.is_none-in-Table.result c.is_none-in-Table.ensures yes
    (table_next old new state c.args.tables.now all c.in-Table.attribute c.in-Table.table c.in-Table.key c.in-Table.is fits c.next_in_table.result (rw (to_z-of_z w32 _ bound) at e.next) e.moved)

pub returns-in-Table-clause-more : goal.returns-in-Table-clause-more
returns-in-Table-clause-more c = λ no walk state all fits.
    let old = c.args.self.now in
    let new = c.next_in_table.new.self in
    let e = c.next_in_table.ensures in
    let bound : FitsSigned w32 c.in-Table.key = search rules in
    some_ahead old new state c.args.tables.now all c.next_in_table.result c.is_none-in-Table.result c.is_none-in-Table.ensures no
    (table_next old new state c.args.tables.now all c.in-Table.attribute c.in-Table.table c.in-Table.key c.in-Table.is fits c.next_in_table.result (rw (to_z-of_z w32 _ bound) at e.next) e.moved)
