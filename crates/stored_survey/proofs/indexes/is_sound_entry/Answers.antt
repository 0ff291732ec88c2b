use Rattle.db_model.specs.declared.schemas.IndexKind.TheVariants.{MaxHeap}
use Rattle.std.proofs.Common.{◌≢◌, ◌∙◌, sym, ap}
use Rattle.std.specs.Prelude.{is_some}
use Rattle.padded.proofs.Facts.{false_true}
use Rattle.catalog.specs.CatalogFile.{index_in}
use Rattle.stored_survey.proofs.KeptParts.{kept_bare, kept_other, other_kept}
use Rattle.stored_survey.proofs.Seen.{carried, not_ok, refused}
use Rattle.stored_survey.proofs.indexes.is_sound_entry.Goals as goal

pub returns-then-is_heap-clause-kept : goal.returns-then-is_heap-clause-kept
returns-then-is_heap-clause-kept g c = λ told read sound at.
    c.in_ok-heap.ensures.kept told read sound at (c.is_heap.ensures.0 c.if-is_heap.true) (record { there = c.tree_at-tree.ensures.there; bytes = c.tree_at-tree.ensures.bytes })

pub returns-in-Some-clause-kept : goal.returns-in-Some-clause-kept
returns-in-Some-clause-kept g c = λ told read sound at.
    let files = (g.V.Files.state c.args.files.now).files in
    refused (λ k. kept_bare files c.args.half.now c.args.slot at.below (index_in c.args.entry.now) at.read (λ kind. false_true c.is_heap.result c.if-is_heap.false (c.is_heap.ensures.1 kind)) k (sym c.tree_at-tree.ensures.there ∙ ap is_some c.in-Some.is))

pub returns-in_ok-sound-in-None-clause-kept : goal.returns-in_ok-sound-in-None-clause-kept
returns-in_ok-sound-in-None-clause-kept g c = λ told read sound at.
    let files = (g.V.Files.state c.args.files.now).files in
    let other : c.args.entry.now.kind ≢ MaxHeap = λ kind. false_true c.is_heap.result c.if-is_heap.false (c.is_heap.ensures.1 kind) in
    let gone = sym c.tree_at-tree.ensures.there ∙ ap is_some c.in-None.is in
    carried c.in_ok-sound-in-None.sound (c.in_ok-sound-in-None.ensures.complete told read c.args.half.now sound c.args.slot at other)
    (other_kept files c.args.half.now c.args.slot at.below (index_in c.args.entry.now) at.read other gone)
    (kept_other files c.args.half.now c.args.slot at.below (index_in c.args.entry.now) at.read other)

pub returns-in_err-heap-clause-kept : goal.returns-in_err-heap-clause-kept
returns-in_err-heap-clause-kept g c = λ told read sound at. not_ok _ _ c.from_residual.result c.from_residual.ensures.1

pub returns-in_err-sound-in-None-clause-kept : goal.returns-in_err-sound-in-None-clause-kept
returns-in_err-sound-in-None-clause-kept g c = λ told read sound at. not_ok _ _ c.from_residual-in_err-sound-in-None.result c.from_residual-in_err-sound-in-None.ensures.1
