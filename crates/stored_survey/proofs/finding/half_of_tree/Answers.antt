use Rattle.std.proofs.Common.{ℤ, ℕ, List, ap, subst, sym, ◌∙◌}
use Rattle.std.specs.Bool.{Decides}
use Rattle.catalog.specs.CatalogFile.{index_in}
use Rattle.index_tree.specs.Trees.{IsTreeOf}
use Rattle.padded.proofs.Facts.{false_true}
use Rattle.stored.specs.declared.half.Half.TheVariants.{AddingKey}
use Rattle.stored_survey.specs.Shown.{ShowsIndex, keys_mended}
use Rattle.stored_survey.proofs.Seen.{lacking_seen, not_ok, tree_seen}
use Rattle.stored_survey.proofs.finding.half_of_tree.Goals as goal

pub returns-then-whole-clause-shows : goal.returns-then-whole-clause-shows
returns-then-whole-clause-shows g c = λ told read i at kind there bytes.
    let files = (g.V.Files.state c.args.files.now).files in
    let index = index_in c.args.entry.now in
    tree_seen files i at.below index at.read there
    (λ rows. subst (λ (xs : List ℕ). IsTreeOf xs (keys_mended files index)) bytes ((c.in_ok-whole.ensures.whole told read i at kind rows).0 c.if-whole.true))

pub returns-else-whole-clause-shows : goal.returns-else-whole-clause-shows
returns-else-whole-clause-shows g c = λ told read i at kind there bytes.
    let files = (g.V.Files.state c.args.files.now).files in
    let index = index_in c.args.entry.now in
    subst (λ (r : ℕ). ShowsIndex files i (AddingKey r)) (sym c.number.ensures.value)
    (lacking_seen files i at.below index at.read kind there
    (λ rows tree. false_true c.in_ok-whole.whole c.if-whole.false ((c.in_ok-whole.ensures.whole told read i at kind rows).1 (subst (λ (xs : List ℕ). IsTreeOf xs (keys_mended files index)) (sym bytes) tree))))

pub returns-in_err-whole-clause-shows : goal.returns-in_err-whole-clause-shows
returns-in_err-whole-clause-shows g c = λ told read i at kind there bytes. not_ok _ _ c.from_residual.result c.from_residual.ensures.1
