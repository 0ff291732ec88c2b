use Rattle.std.proofs.Common.{List, subst, arith}
use Rattle.aql_parse.specs.declared.symbols.Symbol.{Symbol}
use Rattle.aql_parse.proofs.Light.{bulk_length}
use Rattle.aql_parse.proofs.Turns.{Reading, turn_moved, turn_skipped}
use Rattle.aql_parse.proofs.machine.read.Goals as goal

pub moves-requires-clause-room : goal.moves-requires-clause-room
moves-requires-clause-room c =
    let before = subst (λ (x : List Symbol). Reading c.args.stack.now x c.args.token.now c.args.nodes.now c.loop-symbol.nodes) c.in-Some.ensures.none c.loop-symbol.invariant in
    omega (arith, before.light, bulk_length c.pop.new.self, c.requires)

pub returns-then-moves : goal.returns-then-moves
returns-then-moves c =
    let before = subst (λ (x : List Symbol). Reading c.args.stack.now x c.args.token.now c.args.nodes.now c.loop-symbol.nodes) c.in-Some.ensures.none c.loop-symbol.invariant in
    turn_moved c.args.stack.now c.pop.new.self c.moves.new.stack c.in-Some.symbol c.args.token.now c.args.nodes.now c.loop-symbol.nodes c.moves.new.nodes c.moves.result before c.moves.ensures.stack c.moves.ensures.nodes c.if-moves.true

pub loop-symbol-preserved : goal.loop-symbol-preserved
loop-symbol-preserved c =
    let before = subst (λ (x : List Symbol). Reading c.args.stack.now x c.args.token.now c.args.nodes.now c.loop-symbol.nodes) c.in-Some.ensures.none c.loop-symbol.invariant in
    turn_skipped c.args.stack.now c.pop.new.self c.moves.new.stack c.in-Some.symbol c.args.token.now c.args.nodes.now c.loop-symbol.nodes c.moves.new.nodes c.skips.new.nodes c.moves.result c.skips.result
    before c.moves.ensures.stack c.moves.ensures.nodes c.if-moves.false c.skips.ensures c.if-not-skips.false
