use Rattle.std.proofs.Common.{FitsSigned, ◌∙◌, rules, w64}
use Rattle.std.proofs.lemmas.Int.{to_z-of_z}
use Rattle.afl_base.proofs.KeyLaws.{eight_bytes}
use Rattle.afl_base.proofs.keys.read_i64.Goals as goal

pub returns-clause-number : goal.returns-clause-number
returns-clause-number g c told =
    let fits : FitsSigned w64 c.get_i64.result = search rules in
    to_z-of_z w64 c.get_i64.result fits ∙ c.get_i64.ensures ∙ eight_bytes _ c.read.new.into c.args.at (c.in_ok-read.ensures.bytes told)
