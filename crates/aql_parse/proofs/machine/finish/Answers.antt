use Rattle.std.proofs.Common.{List, subst}
use Rattle.aql_parse.specs.declared.symbols.Symbol.{Symbol}
use Rattle.aql_parse.proofs.Turns.{Ending, end_skipped}
use Rattle.aql_parse.proofs.machine.finish.Goals as goal

pub loop-symbol-preserved : goal.loop-symbol-preserved
loop-symbol-preserved c =
    let before = subst (λ (x : List Symbol). Ending c.args.stack.now x c.args.nodes.now c.loop-symbol.nodes) c.in-Some.ensures.none c.loop-symbol.invariant in
    end_skipped c.args.stack.now c.pop.new.self c.in-Some.symbol c.args.nodes.now c.loop-symbol.nodes c.skips.new.nodes c.skips.result before c.skips.ensures c.if-not-skips.false
