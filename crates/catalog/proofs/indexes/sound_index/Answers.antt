use Rattle.std.proofs.Common.{ap, sym, ◌∙◌}
use Rattle.std.specs.Prelude.{option_map}
use Rattle.db_model.specs.Catalog.{index_slot_of}
use Rattle.catalog.specs.CatalogFile.{index_in, indexes_in}
use Rattle.catalog.specs.Rules.{is_behind, sound_index}
use Rattle.padded.proofs.Facts.{both_true, false_right}
use Rattle.catalog.proofs.Choices.{and_left, if_none, if_some}
use Rattle.catalog.proofs.indexes.sound_index.Goals as goal

pub returns-in_err-index : goal.returns-in_err-index
unfolding sound_index
returns-in_err-index c =
    ap (option_map (option_map index_in)) c.from_residual.ensures ∙ if_none _ (index_slot_of c.args.slot.now) (and_left _ _ c.in_err-index.ensures.none)

pub returns-then-not-is_behind : goal.returns-then-not-is_behind
unfolding sound_index
returns-then-not-is_behind c =
    let judged = ap (is_behind c.args.relations.now (indexes_in c.args.before.now)) (sym c.in_ok-index.ensures.some) ∙ sym c.if-not-is_behind.ensures in
    if_none _ (index_slot_of c.args.slot.now) (false_right _ _ judged)

pub returns : goal.returns
unfolding sound_index
returns c =
    let judged = ap (is_behind c.args.relations.now (indexes_in c.args.before.now)) (sym c.in_ok-index.ensures.some) ∙ sym c.if-not-is_behind.ensures in
    if_some _ _ (index_slot_of c.args.slot.now) (both_true _ _ c.in_ok-index.ensures.form judged) c.in_ok-index.ensures.some
