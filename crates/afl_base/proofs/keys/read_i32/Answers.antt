use Rattle.std.proofs.Common.{FitsSigned, ◌∙◌, rules, w32}
use Rattle.std.proofs.lemmas.Int.{to_z-of_z}
use Rattle.afl_base.proofs.KeyLaws.{four_bytes}
use Rattle.afl_base.proofs.keys.read_i32.Goals as goal

pub returns-clause-number : goal.returns-clause-number
returns-clause-number g c told =
    let fits : FitsSigned w32 c.get_i32.result = search rules in
    to_z-of_z w32 c.get_i32.result fits ∙ c.get_i32.ensures ∙ four_bytes _ c.read.new.into c.args.at (c.in_ok-read.ensures.bytes told)
