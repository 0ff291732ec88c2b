use Rattle.std.proofs.Common.{rules}
use Rattle.std.proofs.lemmas.List.{take_rest}
use Rattle.afl_base.specs.Fields.{i64_at}
use Rattle.afl_base.proofs.fields.get_i64.Goals as goal

pub returns : goal.returns
unfolding i64_at
returns c = rw (← take_rest c.args.bytes.now c.args.at) (search rules)
