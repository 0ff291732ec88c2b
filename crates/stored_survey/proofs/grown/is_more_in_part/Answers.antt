use Rattle.std.proofs.Common.{ℕ, ◌+◌, ◌*◌, arith, subst}
use Rattle.std.specs.Bool.{Decides}
use Rattle.padded.proofs.Facts.{yes_no}
use Rattle.stored.specs.CutTables.{IsEdge}
use Rattle.stored_survey.specs.Parts.{EndsBeforeCount, IsPartAt, IsWholeMore}
use Rattle.stored_survey.proofs.MoreParts.{never_more, no_part_first, no_part_here, part_answers, whole_answers}
use Rattle.stored_survey.proofs.grown.is_more_in_part.Goals as goal

pub returns-then-is_whole_apart : goal.returns-then-is_whole_apart
returns-then-is_whole_apart c = record {
  is = λ e. whole_answers c.args.slot c.args.field.now c.args.schema.now
      (subst (λ (n : ℕ). EndsBeforeCount c.args.slot (16 + 18 * n + 18) × IsWholeMore c.args.field.now c.args.schema.now) c.len.ensures.value ((c.is_whole_apart.ensures.is e).0 c.if-is_whole_apart.true));
}

pub loop-at-init : goal.loop-at-init
loop-at-init c = record { low = omega arith; none = no_part_first c.args.slot c.args.field.now c.args.schema.now }

pub returns-then-is_part_at_edge : goal.returns-then-is_part_at_edge
returns-then-is_part_at_edge c = record {
  is = λ e. part_answers c.args.slot c.args.field.now c.args.schema.now c.loop-at.at c.loop-at.invariant.low c.loop-at-test.true
      (subst (λ (n : ℕ). IsEdge c.args.slot (16 + 18 * n + c.loop-at.at) × IsPartAt c.args.slot (16 + 18 * n) c.loop-at.at c.args.field.now) c.len.ensures.value (c.is_part_at_edge.ensures.is.0 c.if-is_part_at_edge.true));
}

pub loop-at-preserved : goal.loop-at-preserved
loop-at-preserved c = record {
  low = omega (arith, c.loop-at.invariant.low);
  none = no_part_here c.args.slot c.args.field.now c.args.schema.now c.loop-at.at c.is_part_at_edge.result c.if-is_part_at_edge.false
      (subst (λ (n : ℕ). Decides c.is_part_at_edge.result (IsEdge c.args.slot (16 + 18 * n + c.loop-at.at) × IsPartAt c.args.slot (16 + 18 * n) c.loop-at.at c.args.field.now)) c.len.ensures.value c.is_part_at_edge.ensures.is)
      c.loop-at.invariant.none;
}

pub returns : goal.returns
returns c = record {
  is = λ e. never_more c.args.slot c.args.field.now c.args.schema.now
      (λ w. yes_no c.is_whole_apart.result
      ((subst (λ (n : ℕ). Decides c.is_whole_apart.result (EndsBeforeCount c.args.slot (16 + 18 * n + 18) × IsWholeMore c.args.field.now c.args.schema.now)) c.len.ensures.value (c.is_whole_apart.ensures.is e)).1 w)
      c.if-is_whole_apart.false)
      (λ at some few p. c.loop-at.invariant.none at some (omega (arith, few, c.loop-at-test.false)) p);
}
