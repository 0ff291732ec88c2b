use Rattle.std.proofs.Common.{◌∙◌, arith, refl, subst, Err}
use Rattle.stored_mend.specs.Trees.{LacksRoom, LosesTrees}
use Rattle.stored_mend.proofs.Completing.{settles_behind, slot_same, spared_by}
use Rattle.stored_mend.proofs.Framed.{changes_ok, then_ok, changes_failed, changes_space, not_ok, then_err}
use Rattle.stored_mend.proofs.HeapSettled.{complete_settles}
use Rattle.stored_mend.proofs.TreesLost.{but_kept, but_then, loses_same}
use Rattle.stored_mend.proofs.ReportTrees.{reports_trees_then, seen_as, still_waits}
use Rattle.std.specs.Prelude.{⊤}
use Rattle.db_model.specs.Database.{Database}
use Rattle.stored.specs.Mended.{mended_base}
use Rattle.afl_base.specs.declared.kind.FileError.TheVariants.{Failed}
use Rattle.padded.proofs.Facts.{err_is}
use Rattle.stored_mend.specs.Interrupted.{IsCutState}
use Rattle.stored_mend.proofs.CutCalls.{failed_handed, left_as, not_failed, space_handed, space_no_failure, space_not, state_as}
use Rattle.stored_mend.proofs.TreesWhile.{trees_cut, while_complete, while_same}
use Rattle.stored_mend.proofs.TreeTurns.{may_remove, settled_while}
use Rattle.space_model.specs.FileNames.{tree_file}
use Rattle.stored_mend.proofs.trees.make_room.Goals as goal

pub returns-in_ok-replace_tree-in-Some-clause-kept : goal.returns-in_ok-replace_tree-in-Some-clause-kept
returns-in_ok-replace_tree-in-Some-clause-kept g c =
    but_then (LacksRoom g.V.Files.state g.V.Files.lacks) _ _ _ (but_kept (LacksRoom g.V.Files.state g.V.Files.lacks) _ _ c.in_ok-waits.ensures.kept) c.in_ok-replace_tree-in-Some.ensures.kept

pub returns-in_ok-replace_tree-in-Some-clause-settles : goal.returns-in_ok-replace_tree-in-Some-clause-settles
returns-in_ok-replace_tree-in-Some-clause-settles g c =
    settles_behind _ _ _ c.args.catalog.now c.args.slot c.requires.slot c.in_ok-waits.ensures.changes c.in_ok-replace_tree-in-Some.ensures.settles

pub returns-in_ok-replace_tree-in-Some-clause-frame : goal.returns-in_ok-replace_tree-in-Some-clause-frame
returns-in_ok-replace_tree-in-Some-clause-frame g c =
    then_ok g.V.Files.state g.V.Files.lent g.V.Files.reads g.V.Files.faults g.V.Files.lacks _ _ _ _ _ _ c.in_ok-waits.ensures.frame c.in_ok-replace_tree-in-Some.ensures.frame

pub returns-in-None-clause-kept : goal.returns-in-None-clause-kept
returns-in-None-clause-kept g c = but_kept (LacksRoom g.V.Files.state g.V.Files.lacks) _ _ c.in_ok-waits.ensures.kept

pub returns-in-None-clause-settles : goal.returns-in-None-clause-settles
returns-in-None-clause-settles g c =
    complete_settles (g.V.Files.state c.args.files.now) (g.V.Files.state c.mend_tree.new.files) c.args.catalog.now c.args.slot c.requires.slot c.in_ok-waits.ensures.changes
    (rw c.in-None.is at c.in_ok-waits.ensures.complete)

pub returns-in-None-clause-frame : goal.returns-in-None-clause-frame
returns-in-None-clause-frame g c = changes_ok g.V.Files.state g.V.Files.lent g.V.Files.reads g.V.Files.faults g.V.Files.lacks _ _ _ _ c.in_ok-waits.ensures.frame

-- ---- what is left where it is cut, or finds no space

pub returns-in_err-waits-clause-trees : goal.returns-in_err-waits-clause-trees
returns-in_err-waits-clause-trees g c = λ told half may. not_ok _ _ c.from_residual.result c.from_residual.ensures.1

pub returns-in_err-waits-clause-cut : goal.returns-in_err-waits-clause-cut
returns-in_err-waits-clause-cut g c = λ told half may cuts failed.
    let old = g.V.Files.state c.args.files.now in
    left_as (c.in_err-waits.ensures.cut told half may.here may.trees cuts) (λ db same. loses_same (λ slot. ⊤) (mended_base old.files) db same)

pub returns-in_err-waits-clause-space : goal.returns-in_err-waits-clause-space
returns-in_err-waits-clause-space g c = λ told half may. space_not _ c.from_residual.result c.from_residual.ensures.1

pub returns-then-not-alone-clause-cut : goal.returns-then-not-alone-clause-cut
returns-then-not-alone-clause-cut g c = λ told half may cuts failed. space_no_failure c.in-Some.need _ failed

pub returns-then-not-alone-clause-space : goal.returns-then-not-alone-clause-space
returns-then-not-alone-clause-space g c = λ told half may.
    let old = g.V.Files.state c.args.files.now in
    let new = g.V.Files.state c.mend_tree.new.files in
    let kept = c.in_ok-waits.ensures.kept in
    let waits = (rw c.in-Some.is at c.in_ok-waits.ensures.waits) told may.here may.trees.sound in
    record {
      tells = kept.tells ∙ told;
      idle = kept.draft ∙ c.requires.idle;
      cut = trees_cut new.files half (while_same half old new c.args.slot c.requires.slot c.in_ok-waits.ensures.changes may.trees waits.same);
      is = loses_same (λ slot. ⊤) (mended_base old.files) (mended_base new.files) (kept.base told);
    }

pub returns-in_err-replace_tree-in-Some-clause-trees : goal.returns-in_err-replace_tree-in-Some-clause-trees
returns-in_err-replace_tree-in-Some-clause-trees g c = λ told half may. not_ok _ _ c.from_residual-in_err-replace_tree-in-Some.result c.from_residual-in_err-replace_tree-in-Some.ensures.1

pub returns-in_err-replace_tree-in-Some-clause-cut : goal.returns-in_err-replace_tree-in-Some-clause-cut
returns-in_err-replace_tree-in-Some-clause-cut g c = λ told half may cuts failed.
    let old = g.V.Files.state c.args.files.now in
    let mid = g.V.Files.state c.mend_tree.new.files in
    let kept = c.in_ok-waits.ensures.kept in
    let waits = (rw c.in-Some.is at c.in_ok-waits.ensures.waits) told may.here may.trees.sound in
    let remove = may_remove old mid c.args.catalog.now half c.args.slot c.args.alone c.requires.slot c.if-not-alone.false c.in_ok-waits.ensures.changes may waits in
    let e = c.in_err-replace_tree-in-Some.field-0.0 in
    left_as (c.in_err-replace_tree-in-Some.ensures.cut (kept.tells ∙ told) half remove cuts
    (failed_handed (Err e) c.from_residual-in_err-replace_tree-in-Some.result e refl c.from_residual-in_err-replace_tree-in-Some.ensures.1 failed))
    (λ db loses. subst (λ (d : Database). LosesTrees d db) (kept.base told) loses)

pub returns-in_err-replace_tree-in-Some-clause-space : goal.returns-in_err-replace_tree-in-Some-clause-space
returns-in_err-replace_tree-in-Some-clause-space g c = λ told half may.
    let old = g.V.Files.state c.args.files.now in
    let mid = g.V.Files.state c.mend_tree.new.files in
    let new = g.V.Files.state c.replace_tree.new.files in
    let kept = c.in_ok-waits.ensures.kept in
    let waits = (rw c.in-Some.is at c.in_ok-waits.ensures.waits) told may.here may.trees.sound in
    let remove = may_remove old mid c.args.catalog.now half c.args.slot c.args.alone c.requires.slot c.if-not-alone.false c.in_ok-waits.ensures.changes may waits in
    let e = c.in_err-replace_tree-in-Some.field-0.0 in
    space_handed {T = ⊤} (Err e) c.from_residual-in_err-replace_tree-in-Some.result e
    (IsCutState new (λ db. LosesTrees (mended_base mid.files) db)) (IsCutState new (λ db. LosesTrees (mended_base old.files) db)) refl c.from_residual-in_err-replace_tree-in-Some.ensures.1
    (λ cut. state_as new (λ db loses. subst (λ (d : Database). LosesTrees d db) (kept.base told) loses) cut)
    (c.in_err-replace_tree-in-Some.ensures.space (kept.tells ∙ told) half remove)

pub returns-in_ok-replace_tree-in-Some-clause-trees : goal.returns-in_ok-replace_tree-in-Some-clause-trees
returns-in_ok-replace_tree-in-Some-clause-trees g c = λ told half may.
    let old = g.V.Files.state c.args.files.now in
    let mid = g.V.Files.state c.mend_tree.new.files in
    let new = g.V.Files.state c.replace_tree.new.files in
    let kept = c.in_ok-waits.ensures.kept in
    let waits = (rw c.in-Some.is at c.in_ok-waits.ensures.waits) told may.here may.trees.sound in
    let remove = may_remove old mid c.args.catalog.now half c.args.slot c.args.alone c.requires.slot c.if-not-alone.false c.in_ok-waits.ensures.changes may waits in
    settled_while half mid.files new.files c.args.slot (c.in_ok-replace_tree-in-Some.ensures.settles.settles (kept.tells ∙ told) remove.here remove.trees.sound) remove.others c.live-first_is_live.ensures.places

pub returns-in_ok-replace_tree-in-Some-clause-cut : goal.returns-in_ok-replace_tree-in-Some-clause-cut
returns-in_ok-replace_tree-in-Some-clause-cut g c = λ told half may cuts failed. not_failed _ tt _ failed

pub returns-in-None-clause-trees : goal.returns-in-None-clause-trees
returns-in-None-clause-trees g c = λ told half may.
    let complete = rw c.in-None.is at c.in_ok-waits.ensures.complete in
    while_complete half (g.V.Files.state c.args.files.now) (g.V.Files.state c.mend_tree.new.files) c.args.slot c.requires.slot c.in_ok-waits.ensures.changes may.trees
    (complete.complete told may.here may.trees.sound)

pub returns-in-None-clause-cut : goal.returns-in-None-clause-cut
returns-in-None-clause-cut g c = λ told half may cuts failed. not_failed _ tt _ failed

-- ---- frames

pub returns-in_err-waits-clause-frame : goal.returns-in_err-waits-clause-frame
returns-in_err-waits-clause-frame g c =
    changes_failed g.V.Files.state g.V.Files.lent g.V.Files.reads g.V.Files.faults g.V.Files.lacks _ _ _ _ _ c.in_err-waits.field-0.0 c.from_residual.result
    (err_is c.from_residual.result Failed c.from_residual.ensures.1) c.in_err-waits.ensures.frame

pub returns-then-not-alone-clause-frame : goal.returns-then-not-alone-clause-frame
returns-then-not-alone-clause-frame g c =
    changes_space g.V.Files.state g.V.Files.lent g.V.Files.reads g.V.Files.faults g.V.Files.lacks _ _ _ _ _ _ c.in-Some.need c.in_ok-waits.ensures.frame (rw c.in-Some.is at c.in_ok-waits.ensures.lacks)

pub returns-in_err-replace_tree-in-Some-clause-frame : goal.returns-in_err-replace_tree-in-Some-clause-frame
returns-in_err-replace_tree-in-Some-clause-frame g c =
    let a = c.in_ok-waits.ensures.frame in
    then_err g.V.Files.state g.V.Files.lent g.V.Files.reads g.V.Files.faults g.V.Files.lacks _ _ _ _ _ c.in_err-replace_tree-in-Some.field-0.0 c.from_residual-in_err-replace_tree-in-Some.result
    (err_is c.from_residual-in_err-replace_tree-in-Some.result c.in_err-replace_tree-in-Some.field-0.0 c.from_residual-in_err-replace_tree-in-Some.ensures.1) a.store a.lent a.later a.cause.later
    c.in_err-replace_tree-in-Some.ensures.frame

-- what is told

pub returns-in_ok-replace_tree-in-Some-clause-reported : goal.returns-in_ok-replace_tree-in-Some-clause-reported
returns-in_ok-replace_tree-in-Some-clause-reported g c = λ told h s.
    let old = g.V.Files.state c.args.files.now in
    let mid = g.V.Files.state c.mend_tree.new.files in
    let changes = c.in_ok-waits.ensures.changes in
    let spared = spared_by old mid c.args.slot c.requires.slot changes s in
    let quiet = (rw c.in-Some.is at c.in_ok-waits.ensures.quiet) told h s in
    let waits = (rw c.in-Some.is at c.in_ok-waits.ensures.waits) told h s in
    let wrong = still_waits old mid c.args.slot changes.spares (seen_as (tree_file c.args.slot) old.files mid.files changes.there waits.same) waits.incomplete in
    reports_trees_then 0 1 1 _ _ _ _ _ _ quiet
    (c.in_ok-replace_tree-in-Some.ensures.reported (changes.spares.spares.tells ∙ told) (slot_same old mid c.args.slot changes.spares c.args.catalog.now c.args.slot h) spared.sound wrong) (omega arith)

pub returns-in-None-clause-reported : goal.returns-in-None-clause-reported
returns-in-None-clause-reported g c = λ told h s. c.in_ok-waits.ensures.reported told h s

pub returns-in_err-waits-clause-reported : goal.returns-in_err-waits-clause-reported
returns-in_err-waits-clause-reported g c = λ told h s. not_ok _ _ c.from_residual.result c.from_residual.ensures.1

pub returns-in_err-replace_tree-in-Some-clause-reported : goal.returns-in_err-replace_tree-in-Some-clause-reported
returns-in_err-replace_tree-in-Some-clause-reported g c = λ told h s. not_ok _ _ c.from_residual-in_err-replace_tree-in-Some.result c.from_residual-in_err-replace_tree-in-Some.ensures.1
