use Rattle.std.proofs.Common.{arith, sym, ap, ◌∙◌}
use Rattle.std.specs.Option.{option_map}
use Rattle.coffee_layout.specs.Walks.{page_id}
use Rattle.coffee_layout.proofs.Repeats.{turn}
use Rattle.coffee_layout.proofs.memory.repeated_name.Goals as goal

pub returns-then-is_named : goal.returns-then-is_named
returns-then-is_named c = λ files all. sym (ap (option_map page_id) (sym (c.loop-i.invariant files all)
    ∙ (turn files c.args.table.now c.loop-i.i c.index-table-i.result c.is_named.result all (omega arith) c.index-table-i.is c.is_named.ensures).found c.if-is_named.true))

pub loop-i-preserved : goal.loop-i-preserved
loop-i-preserved c = λ files all.
    (turn files c.args.table.now c.loop-i.i c.index-table-i.result c.is_named.result all (omega arith) c.index-table-i.is c.is_named.ensures).onward c.if-is_named.false ∙ c.loop-i.invariant files all
