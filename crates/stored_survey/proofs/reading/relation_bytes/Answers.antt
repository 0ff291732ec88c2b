use Rattle.std.proofs.Common.{◌≡◌, ℕ, ◌+◌, ◌*◌, List, ap, arith, subst, ◌∙◌}
use Rattle.std.specs.Prelude.{slice_range}
use Rattle.afl_base.specs.Files.{bytes_at}
use Rattle.stored_survey.proofs.SlotsRead.{whole_is}
use Rattle.stored_survey.proofs.reading.relation_bytes.Goals as goal

pub returns-clause-bytes : goal.returns-clause-bytes
returns-clause-bytes g c = λ told.
    let files = (g.V.Files.state c.args.files.now).files in
    let slot : c.from.result ≡ c.args.slot = omega (arith, c.from.ensures) in
    subst (λ (n : ℕ). c.read.new.into ≡ slice_range (bytes_at files c.args.cat) (176 * n) (176 * n + 176)) slot (c.in_ok-read.ensures.bytes told)
    ∙ ap (λ (xs : List ℕ). slice_range xs (176 * c.args.slot) (176 * c.args.slot + 176)) (whole_is files c.args.cat c.requires.whole)
