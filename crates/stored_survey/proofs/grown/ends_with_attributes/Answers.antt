use Rattle.std.proofs.Common.{◌≡◌, ℕ, ◌+◌, ◌*◌, subst}
use Rattle.std.specs.Prelude.{slice_range}
use Rattle.padded.specs.Zeros.{is_zeros}
use Rattle.stored_survey.proofs.GrownParts.{ends_decides}
use Rattle.stored_survey.proofs.grown.ends_with_attributes.Goals as goal

pub returns : goal.returns
returns c = record {
  is = λ read. ends_decides c.is_zeros.result c.args.bytes.now c.args.schema.now c.requires.length read
      (subst (λ (n : ℕ). c.is_zeros.result ≡ is_zeros (slice_range c.args.bytes.now (16 + 18 * n) 160)) c.len.ensures.value c.is_zeros.ensures);
}
