use Rattle.std.proofs.Common.{refl, arith}
use Rattle.aggregate.proofs.fold.Fold.new.Goals as goal

pub invariant_of-result : goal.invariant_of-result
invariant_of-result c = record { few = omega arith; pushed = omega arith; stage_is = c.new.ensures.sound c.args.agg }

pub returns-clause-told : goal.returns-clause-told
returns-clause-told c = λ all. record { pushed_is = refl; stage_is = c.new.ensures.told c.args.agg all }
