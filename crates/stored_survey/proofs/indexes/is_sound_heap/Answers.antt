use Rattle.std.proofs.Common.{◌≡◌, List, ℕ, ◌∙◌, sym, subst}
use Rattle.std.specs.Bool.{Decides}
use Rattle.catalog.specs.CatalogFile.{index_in}
use Rattle.stored.specs.CutTables.{IsIndexWhile}
use Rattle.stored_survey.specs.Shown.{keys_mended}
use Rattle.stored_survey.proofs.KeptParts.{gone_kept, kept_gone, kept_tree, tree_kept}
use Rattle.stored_survey.proofs.Seen.{carried, not_ok}
use Rattle.stored_survey.proofs.indexes.is_sound_heap.Goals as goal

pub returns-in-None-clause-kept : goal.returns-in-None-clause-kept
returns-in-None-clause-kept g c = λ told read sound at kind file.
    let files = (g.V.Files.state c.args.files.now).files in
    let index = index_in c.args.entry.now in
    let gone = sym (rw c.in-None.is at file.there) in
    carried c.is_treeless.result c.is_treeless.ensures
    (gone_kept files c.args.half.now c.args.slot at.below index at.read kind gone)
    (kept_gone files c.args.half.now c.args.slot at.below index at.read kind gone)

pub returns-in_ok-sound-in-Some-clause-kept : goal.returns-in_ok-sound-in-Some-clause-kept
returns-in_ok-sound-in-Some-clause-kept g c = λ told read sound at kind file.
    let files = (g.V.Files.state c.args.files.now).files in
    let index = index_in c.args.entry.now in
    let there = sym (rw c.in-Some.is at file.there) in
    let bytes = rw c.in-Some.is at file.bytes in
    let tree = subst (λ (xs : List ℕ). Decides c.in_ok-sound-in-Some.sound (IsIndexWhile c.args.half.now index xs (keys_mended files index))) bytes (c.in_ok-sound-in-Some.ensures.sound told read sound c.args.slot at kind) in
    carried c.in_ok-sound-in-Some.sound tree
    (tree_kept files c.args.half.now c.args.slot at.below index at.read kind there)
    (kept_tree files c.args.half.now c.args.slot at.below index at.read there)

pub returns-in_err-sound-in-Some-clause-kept : goal.returns-in_err-sound-in-Some-clause-kept
returns-in_err-sound-in-Some-clause-kept g c = λ told read sound at kind file. not_ok _ _ c.from_residual.result c.from_residual.ensures.1
