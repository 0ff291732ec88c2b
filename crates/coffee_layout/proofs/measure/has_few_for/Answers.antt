use Rattle.std.proofs.Common.{arith, sym}
use Rattle.coffee_layout.proofs.Measures.{few_large}
use Rattle.coffee_layout.proofs.measure.has_few_for.Goals as goal

pub returns-then-size-gt8388576 : goal.returns-then-size-gt8388576
returns-then-size-gt8388576 c = sym (few_large c.args.pages c.args.size (omega arith) (omega arith))
