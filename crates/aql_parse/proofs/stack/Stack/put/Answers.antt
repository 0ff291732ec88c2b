use Rattle.std.proofs.Common.{◌-◌, arith}
use Rattle.aql_parse.specs.declared.symbols.Symbol.TheVariants as want
use Rattle.aql_parse.proofs.Fitting.{fits_at}
use Rattle.aql_parse.proofs.stack.Stack.put.Goals as goal

pub push-requires-clause-fits : goal.push-requires-clause-fits
push-requires-clause-fits c =
    fits_at c.args.symbols.now (c.loop-left.left - 1) want.Command c.requires.fit (omega (arith, c.loop-left.invariant.within, c.loop-left-test.true))
