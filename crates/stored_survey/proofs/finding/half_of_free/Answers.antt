use Rattle.std.proofs.Common.{◌∙◌, sym, ap}
use Rattle.std.specs.Prelude.{is_some}
use Rattle.stored_survey.proofs.Seen.{lone_tree_seen, no_index_seen}
use Rattle.stored_survey.proofs.finding.half_of_free.Goals as goal

pub returns-in-Some : goal.returns-in-Some
returns-in-Some g c = λ none. lone_tree_seen (g.V.Files.state c.args.files.now).files c.args.slot c.requires.slot none (sym c.tree_at.ensures.there ∙ ap is_some c.in-Some.is)

pub returns-in-None : goal.returns-in-None
returns-in-None g c = λ none. no_index_seen (g.V.Files.state c.args.files.now).files c.args.slot c.requires.slot none (sym c.tree_at.ensures.there ∙ ap is_some c.in-None.is)
