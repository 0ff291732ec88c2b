use Rattle.std.proofs.Common.{◌∙◌, sym, ◌≡◌, refl, subst, Err}
use Rattle.padded.proofs.Facts.{err_is}
use Rattle.stored_mend.specs.Trees.{LacksRoom, LosesTrees}
use Rattle.stored_mend.proofs.Completing.{lost_settles}
use Rattle.stored_mend.proofs.Framed.{changes_failed, changes_ok, not_ok, then_err, then_ok}
use Rattle.stored_mend.proofs.TreesLost.{but_mends, but_then}
use Rattle.stored.proofs.FilesOf.{unbroken}
use Rattle.stored_mend.proofs.ReportNames.{index_formed, unbroken_names}
use Rattle.stored_mend.proofs.ReportTrees.{lost_reports, lost_tree, seen_none}
use Rattle.std.specs.Prelude.{⊤}
use Rattle.stored.specs.Mended.{mended_base}
use Rattle.stored_mend.specs.Interrupted.{IsCutState}
use Rattle.stored_mend.proofs.CutCalls.{failed_handed, left_as, not_failed, space_handed, state_as}
use Rattle.stored_mend.proofs.TreeTurns.{base_lost, treeless_cut}
use Rattle.stored_mend.proofs.trees.replace_tree.Goals as goal

pub returns-in-Ok-true-clause-settles : goal.returns-in-Ok-true-clause-settles
returns-in-Ok-true-clause-settles g c = c.in-Ok-true.ensures.settles c.in-Ok-true.field-0-test

pub returns-in-Ok-true-clause-frame : goal.returns-in-Ok-true-clause-frame
returns-in-Ok-true-clause-frame g c = changes_ok g.V.Files.state g.V.Files.lent g.V.Files.reads g.V.Files.faults g.V.Files.lacks _ _ _ _ c.in-Ok-true.ensures.frame

pub returns-in_ok-mend_index-in-Ok-false-clause-kept : goal.returns-in_ok-mend_index-in-Ok-false-clause-kept
returns-in_ok-mend_index-in-Ok-false-clause-kept g c =
    but_then (LacksRoom g.V.Files.state g.V.Files.lacks) _ _ _ c.in-Ok-false.ensures.kept (but_mends (LacksRoom g.V.Files.state g.V.Files.lacks) _ _ c.in_ok-mend_index-in-Ok-false.ensures.kept)

pub returns-in_ok-mend_index-in-Ok-false-clause-settles : goal.returns-in_ok-mend_index-in-Ok-false-clause-settles
returns-in_ok-mend_index-in-Ok-false-clause-settles g c =
    lost_settles _ _ _ c.args.catalog.now c.args.slot (c.in-Ok-false.ensures.gone c.in-Ok-false.field-0-test)
    c.in_ok-mend_index-in-Ok-false.ensures.others c.in_ok-mend_index-in-Ok-false.ensures.loses

pub returns-in_ok-mend_index-in-Ok-false-clause-frame : goal.returns-in_ok-mend_index-in-Ok-false-clause-frame
returns-in_ok-mend_index-in-Ok-false-clause-frame g c =
    then_ok g.V.Files.state g.V.Files.lent g.V.Files.reads g.V.Files.faults g.V.Files.lacks _ _ _ _ _ _ c.in-Ok-false.ensures.frame c.in_ok-mend_index-in-Ok-false.ensures.frame

pub returns-in_err-mend_index-in-Ok-false-clause-frame : goal.returns-in_err-mend_index-in-Ok-false-clause-frame
returns-in_err-mend_index-in-Ok-false-clause-frame g c =
    let a = c.in-Ok-false.ensures.frame in
    then_err g.V.Files.state g.V.Files.lent g.V.Files.reads g.V.Files.faults g.V.Files.lacks _ _ _ _ _ c.in_err-mend_index-in-Ok-false.field-0.0 c.from_residual.result
    (err_is c.from_residual.result c.in_err-mend_index-in-Ok-false.field-0.0 c.from_residual.ensures.1) a.store a.lent a.later a.cause.later c.in_err-mend_index-in-Ok-false.ensures.frame

pub returns-in-Ok-true-clause-cut : goal.returns-in-Ok-true-clause-cut
returns-in-Ok-true-clause-cut g c = λ told half may cuts failed. not_failed _ tt _ failed

pub returns-in_ok-mend_index-in-Ok-false-clause-cut : goal.returns-in_ok-mend_index-in-Ok-false-clause-cut
returns-in_ok-mend_index-in-Ok-false-clause-cut g c = λ told half may cuts failed. not_failed _ tt _ failed

pub returns-in-Err-clause-cut : goal.returns-in-Err-clause-cut
returns-in-Err-clause-cut g c = λ told half may cuts failed. c.in-Err.ensures.cut told half may cuts

pub returns-in_err-mend_index-in-Ok-false-clause-cut : goal.returns-in_err-mend_index-in-Ok-false-clause-cut
returns-in_err-mend_index-in-Ok-false-clause-cut g c = λ told half may cuts failed.
    let old = g.V.Files.state c.args.files.now in
    let mid = g.V.Files.state c.has_tree_again.new.files in
    let gone = c.in-Ok-false.ensures.gone c.in-Ok-false.field-0-test in
    let lacks = gone.lacks told may.here may.trees.sound in
    let catalog = c.args.catalog.now in
    let slot = c.args.slot in
    let e = c.in_err-mend_index-in-Ok-false.field-0.0 in
    left_as (c.in_err-mend_index-in-Ok-false.ensures.cut (gone.spares.spares.tells ∙ told) (treeless_cut old mid catalog half slot c.requires.slot may gone.spares lacks) cuts
    (failed_handed (Err e) c.from_residual.result e refl c.from_residual.ensures.1 failed))
    (λ db same. subst (LosesTrees (mended_base old.files)) (sym same) (base_lost old mid catalog half slot c.requires.slot may gone.spares lacks))

pub returns-in_err-mend_index-in-Ok-false-clause-space : goal.returns-in_err-mend_index-in-Ok-false-clause-space
returns-in_err-mend_index-in-Ok-false-clause-space g c = λ told half may.
    let old = g.V.Files.state c.args.files.now in
    let mid = g.V.Files.state c.has_tree_again.new.files in
    let new = g.V.Files.state c.mend_index.new.files in
    let gone = c.in-Ok-false.ensures.gone c.in-Ok-false.field-0-test in
    let lacks = gone.lacks told may.here may.trees.sound in
    let catalog = c.args.catalog.now in
    let slot = c.args.slot in
    let e = c.in_err-mend_index-in-Ok-false.field-0.0 in
    space_handed {T = ⊤} (Err e) c.from_residual.result e (IsCutState new (λ db. db ≡ mended_base mid.files)) (IsCutState new (λ db. LosesTrees (mended_base old.files) db)) refl c.from_residual.ensures.1
    (λ cut. state_as new (λ db same. subst (LosesTrees (mended_base old.files)) (sym same) (base_lost old mid catalog half slot c.requires.slot may gone.spares lacks)) cut)
    (c.in_err-mend_index-in-Ok-false.ensures.space (gone.spares.spares.tells ∙ told) (treeless_cut old mid catalog half slot c.requires.slot may gone.spares lacks))

-- what is told

pub returns-in-Ok-true-clause-reported : goal.returns-in-Ok-true-clause-reported
returns-in-Ok-true-clause-reported g c = λ told h s wrong. c.in-Ok-true.ensures.reported told h s wrong c.in-Ok-true.field-0-test

pub returns-in_ok-mend_index-in-Ok-false-clause-reported : goal.returns-in_ok-mend_index-in-Ok-false-clause-reported
returns-in_ok-mend_index-in-Ok-false-clause-reported g c = λ told h s wrong.
    let old = g.V.Files.state c.args.files.now in
    let mid = g.V.Files.state c.has_tree_again.new.files in
    let new = g.V.Files.state c.mend_index.new.files in
    let slot = c.args.slot in
    let lost = c.in-Ok-false.ensures.gone c.in-Ok-false.field-0-test in
    let lacks = lost.lacks told h s in
    let here = lost.spares.spares.tells ∙ told in
    let index = c.in_ok-mend_index-in-Ok-false.ensures in
    let settled = (returns-in_ok-mend_index-in-Ok-false-clause-settles g c).settles told h s in
    lost_reports old mid new slot c.requires.slot lost.spares (seen_none _ lacks.gone) index.others (index.slots here)
    (sym (index_formed new.files slot c.requires.slot (unbroken new.files (index.loses here lacks).sound).inner) ∙ (index.loses here lacks).gone)
    settled.spares wrong settled.here (lost_tree old mid slot c.requires.slot lost.spares lacks)
    _ _ _ (c.in-Ok-false.ensures.still c.in-Ok-false.field-0-test) (index.reported here (unbroken_names mid.files slot c.requires.slot lacks.catalog))

pub returns-in_err-mend_index-in-Ok-false-clause-reported : goal.returns-in_err-mend_index-in-Ok-false-clause-reported
returns-in_err-mend_index-in-Ok-false-clause-reported g c = λ told h s wrong. not_ok _ _ c.from_residual.result c.from_residual.ensures.1

pub returns-in-Err-clause-frame : goal.returns-in-Err-clause-frame
returns-in-Err-clause-frame g c =
    changes_failed g.V.Files.state g.V.Files.lent g.V.Files.reads g.V.Files.faults g.V.Files.lacks _ _ _ _ _ _ _ refl c.in-Err.ensures.frame
