use Rattle.std.proofs.Common.{ap, sym, ◌∙◌}
use Rattle.std.specs.Prelude.{not}
use Rattle.db_model.specs.Catalog.{relation_slot_of}
use Rattle.catalog.specs.Rules.{is_named_among, sound_relation}
use Rattle.padded.proofs.Facts.{both_true, false_right}
use Rattle.catalog.proofs.Choices.{and_left, if_none, if_some, none_if, some_if}
use Rattle.catalog.proofs.relations.sound_relation.Goals as goal

pub returns-in_err-relation : goal.returns-in_err-relation
unfolding sound_relation
returns-in_err-relation c =
    c.from_residual.ensures ∙ if_none _ (relation_slot_of c.args.slot.now) (and_left _ _ (none_if _ _ c.in_err-relation.ensures))

pub returns-then-is_named_among : goal.returns-then-is_named_among
unfolding sound_relation
returns-then-is_named_among c =
    let read = some_if _ _ _ c.in_ok-relation.ensures in
    let named = ap not (ap (λ r. is_named_among r c.args.before.now) (sym read.1) ∙ sym c.if-is_named_among.ensures) in
    if_none _ (relation_slot_of c.args.slot.now) (false_right _ _ named)

pub returns : goal.returns
unfolding sound_relation
returns c =
    let read = some_if _ _ _ c.in_ok-relation.ensures in
    let unnamed = ap not (ap (λ r. is_named_among r c.args.before.now) (sym read.1) ∙ sym c.if-is_named_among.ensures) in
    if_some _ _ (relation_slot_of c.args.slot.now) (both_true _ _ read.0 unnamed) read.1
