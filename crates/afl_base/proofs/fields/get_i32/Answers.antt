use Rattle.std.proofs.Common.{rules}
use Rattle.std.proofs.lemmas.List.{take_rest}
use Rattle.afl_base.specs.Fields.{i32_at}
use Rattle.afl_base.proofs.fields.get_i32.Goals as goal

pub returns : goal.returns
unfolding i32_at
returns c = rw (← take_rest c.args.bytes.now c.args.at) (search rules)
