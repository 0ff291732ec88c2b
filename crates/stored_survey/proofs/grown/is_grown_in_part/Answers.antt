use Rattle.std.proofs.Common.{◌≡◌, ℕ, ◌+◌, ◌*◌, arith, false, subst, sym, true}
use Rattle.std.specs.Prelude.{slice_range}
use Rattle.std.specs.Bool.{Decides}
use Rattle.padded.specs.Zeros.{is_zeros}
use Rattle.stored_survey.specs.Parts.{IsMoreInPart}
use Rattle.stored_survey.proofs.GrownParts.{full, grown_decides, other_behind}
use Rattle.stored_survey.proofs.grown.is_grown_in_part.Goals as goal

pub returns-then-count-ge8 : goal.returns-then-count-ge8
returns-then-count-ge8 c = record { is = λ read. full c.args.slot c.args.bytes.now c.args.schema.now (omega (arith, c.len-count.ensures.value, c.if-count-ge8.true)) }

pub returns-then-not-is_zeros : goal.returns-then-not-is_zeros
returns-then-not-is_zeros c = record {
  is = λ read. other_behind c.args.slot c.args.bytes.now c.args.schema.now c.requires.length read.valid (omega (arith, c.len-count.ensures.value, c.if-count-ge8.false))
      (subst (λ (n : ℕ). is_zeros (slice_range c.args.bytes.now (16 + 18 * n + 18) 160) ≡ false) c.len-count.ensures.value (sym c.if-not-is_zeros.ensures));
}

pub returns : goal.returns
returns c = record {
  is = λ read. grown_decides c.args.slot c.args.bytes.now c.args.schema.now c.requires.length read.valid (omega (arith, c.len-count.ensures.value, c.if-count-ge8.false)) c.is_more_in_part.result read
      (subst (λ (n : ℕ). is_zeros (slice_range c.args.bytes.now (16 + 18 * n + 18) 160) ≡ true) c.len-count.ensures.value (sym c.if-not-is_zeros.ensures))
      (subst (λ (n : ℕ). Decides c.is_more_in_part.result (IsMoreInPart c.args.slot (slice_range c.args.bytes.now (16 + 18 * n) (16 + 18 * n + 18)) c.args.schema.now)) c.len-count.ensures.value
      (c.is_more_in_part.ensures.is read.valid));
}
