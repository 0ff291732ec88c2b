use Rattle.std.proofs.Common.{rules}
use Rattle.std.proofs.lemmas.List.{take_rest}
use Rattle.afl_base.specs.Fields.{u16_at}
use Rattle.afl_base.proofs.fields.get_u16.Goals as goal

pub returns : goal.returns
unfolding u16_at
returns c = rw (← take_rest c.args.bytes.now c.args.at) (search rules)
