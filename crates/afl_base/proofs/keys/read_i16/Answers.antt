use Rattle.std.proofs.Common.{FitsSigned, ap, ◌∙◌, rules, w16}
use Rattle.std.specs.Int.{cast_signed}
use Rattle.std.proofs.lemmas.Int.{to_z-of_z}
use Rattle.afl_base.proofs.KeyLaws.{two_bytes}
use Rattle.afl_base.proofs.keys.read_i16.Goals as goal

pub returns-clause-number : goal.returns-clause-number
returns-clause-number g c told =
    let fits : FitsSigned w16 c.cast_signed.result = search rules in
    to_z-of_z w16 c.cast_signed.result fits ∙ c.cast_signed.ensures ∙ ap (cast_signed w16) c.get_u16.ensures ∙ two_bytes _ c.read.new.into c.args.at (c.in_ok-read.ensures.bytes told)
