use Rattle.std.proofs.Common.{◌∙◌, sym, ap}
use Rattle.std.specs.Prelude.{is_some}
use Rattle.padded.proofs.Facts.{false_true}
use Rattle.stored_survey.proofs.KeptParts.{free_kept, kept_free}
use Rattle.stored_survey.proofs.Seen.{accepted, carried}
use Rattle.stored_survey.proofs.indexes.is_sound_unindexed.Goals as goal

pub returns-in-Some : goal.returns-in-Some
returns-in-Some g c = λ none.
    let files = (g.V.Files.state c.args.files.now).files in
    let there = sym c.tree_at.ensures.there ∙ ap is_some c.in-Some.is in
    carried c.is_lone_tree.result c.is_lone_tree.ensures
    (λ e. free_kept files c.args.half.now c.args.slot c.requires.slot none (λ _. e))
    (λ k. kept_free files c.args.half.now c.args.slot c.requires.slot none k there)

pub returns-in-None : goal.returns-in-None
returns-in-None g c = λ none.
    let files = (g.V.Files.state c.args.files.now).files in
    let gone = sym c.tree_at.ensures.there ∙ ap is_some c.in-None.is in
    accepted (free_kept files c.args.half.now c.args.slot c.requires.slot none (λ there. absurd (false_true _ gone there)))
