use Rattle.std.proofs.Common.{◌∙◌, sym, ap}
use Rattle.std.specs.Prelude.{is_some}
use Rattle.catalog.specs.CatalogFile.{index_in}
use Rattle.stored_survey.proofs.Seen.{not_ok, treeless_seen}
use Rattle.stored_survey.proofs.finding.half_of_heap.Goals as goal

pub returns-in-None-clause-shows : goal.returns-in-None-clause-shows
returns-in-None-clause-shows g c = λ told read at kind.
    treeless_seen (g.V.Files.state c.args.files.now).files c.args.slot c.requires.slot (index_in c.args.entry.now) at.read kind (sym c.tree_at.ensures.there ∙ ap is_some c.in-None.is)

pub returns-in_ok-half-in-Some-clause-shows : goal.returns-in_ok-half-in-Some-clause-shows
returns-in_ok-half-in-Some-clause-shows g c = λ told read at kind.
    c.in_ok-half-in-Some.ensures.shows told read c.args.slot at kind (sym c.tree_at.ensures.there ∙ ap is_some c.in-Some.is) (rw c.in-Some.is at c.tree_at.ensures.bytes)

pub returns-in_err-half-in-Some-clause-shows : goal.returns-in_err-half-in-Some-clause-shows
returns-in_err-half-in-Some-clause-shows g c = λ told read at kind. not_ok _ _ c.from_residual.result c.from_residual.ensures.1
