use Rattle.std.proofs.Common.{ℕ, ◌+◌, List, subst, sym}
use Rattle.std.specs.Bool.{Decides}
use Rattle.std.proofs.lemmas.List.{take_rest}
use Rattle.db_model.specs.declared.schemas.Attribute.{Attribute}
use Rattle.stored_survey.specs.Parts.{EndsBeforeCount, IsAttributeEnd}
use Rattle.stored_survey.proofs.MoreParts.{end_decides, front_decides, neither_part}
use Rattle.stored_survey.proofs.grown.is_part.Goals as goal

pub returns-then-is_zeros : goal.returns-then-is_zeros
returns-then-is_zeros c = record {
  is = front_decides c.args.slot c.args.begin c.args.at c.args.field.now c.requires.length c.requires.some c.requires.at c.is_front.result
      (sym (rw (take_rest c.args.field.now c.args.at) at c.if-is_zeros.ensures)) c.is_front.ensures.is;
}

pub returns-then-not-is_zeros : goal.returns-then-not-is_zeros
returns-then-not-is_zeros c = record {
  is = neither_part c.args.slot c.args.begin c.args.at c.args.field.now c.requires.length c.requires.some c.requires.at
      (sym (rw (take_rest c.args.field.now c.args.at) at c.if-is_zeros.ensures)) (sym c.if-not-is_zeros.ensures);
}

pub returns : goal.returns
returns c = record {
  is = end_decides c.args.slot c.args.begin c.args.at c.args.field.now c.requires.length c.requires.some c.requires.at c.is_end.result
      (sym (rw (take_rest c.args.field.now c.args.at) at c.if-is_zeros.ensures)) (sym c.if-not-is_zeros.ensures)
      (subst (λ (xs : List ℕ). Decides c.is_end.result (EndsBeforeCount c.args.slot (c.args.begin + 18) × ((a : Attribute) × IsAttributeEnd xs a))) (take_rest c.args.field.now c.args.at) c.is_end.ensures.is);
}
