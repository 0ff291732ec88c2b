use Rattle.std.proofs.Common.{◌∙◌, ap, arith, sym}
use Rattle.std.specs.Prelude.{⊤}
use Rattle.db_model.specs.Catalog.{catalog_of}
use Rattle.padded.proofs.Facts.{err_is}
use Rattle.stored.specs.Mended.{mended_base}
use Rattle.stored_mend.specs.Trees.{LacksRoom}
use Rattle.stored_mend.proofs.CutCalls.{failed_as, left_as, not_failed, space_as, state_as}
use Rattle.stored_mend.proofs.Framed.{kept_ok, not_ok, then_err}
use Rattle.stored_mend.proofs.PutRight.{right_by, right_filled, right_trees}
use Rattle.stored_mend.proofs.FromWhole.{whole_sound}
use Rattle.stored_mend.proofs.mending.mend_contents.Goals as goal

pub returns-clause-kept : goal.returns-clause-kept
returns-clause-kept g c =
    right_by (LacksRoom g.V.Files.state g.V.Files.lacks) (g.V.Files.state c.args.files.now) (g.V.Files.state c.mend_all_rows.new.files) (g.V.Files.state c.mend_all_trees.new.files)
    c.in_ok-mend_all_rows.ensures.kept c.in_ok-mend_all_trees.ensures.kept

pub returns-in_err-mend_all_trees-clause-frame : goal.returns-in_err-mend_all_trees-clause-frame
returns-in_err-mend_all_trees-clause-frame g c =
    let a = c.in_ok-mend_all_rows.ensures.frame in
    then_err g.V.Files.state g.V.Files.lent g.V.Files.reads g.V.Files.faults g.V.Files.lacks _ _ _ _ _ c.in_err-mend_all_trees.field-0.0 c.from_residual-in_err-mend_all_trees.result
    (err_is c.from_residual-in_err-mend_all_trees.result c.in_err-mend_all_trees.field-0.0 c.from_residual-in_err-mend_all_trees.ensures.1) a.store a.lent a.later a.cause.later c.in_err-mend_all_trees.ensures.frame

pub returns-clause-frame : goal.returns-clause-frame
returns-clause-frame g c =
    let a = c.in_ok-mend_all_rows.ensures.frame in
    let b = c.in_ok-mend_all_trees.ensures.frame in
    let later = a.later in
    let behind = b.later in
    let risen = a.cause.later in
    let more = b.cause.later in
    kept_ok g.V.Files.state g.V.Files.lent g.V.Files.reads g.V.Files.faults g.V.Files.lacks _ _ _ (b.store ∙ a.store) (b.lent ∙ a.lent) (omega (arith, later, behind)) (omega (arith, risen, more))

pub returns-in_err-mend_all_rows-clause-sound : goal.returns-in_err-mend_all_rows-clause-sound
returns-in_err-mend_all_rows-clause-sound g c = λ told half read. not_ok _ _ c.from_residual.result c.from_residual.ensures.1

pub returns-in_err-mend_all_trees-clause-sound : goal.returns-in_err-mend_all_trees-clause-sound
returns-in_err-mend_all_trees-clause-sound g c = λ told half read. not_ok _ _ c.from_residual-in_err-mend_all_trees.result c.from_residual-in_err-mend_all_trees.ensures.1

pub returns-clause-sound : goal.returns-clause-sound
returns-clause-sound g c = λ told half read.
    let rows = c.in_ok-mend_all_rows.ensures.kept in
    let whole = c.in_ok-mend_all_rows.ensures.whole told half read in
    c.in_ok-mend_all_trees.ensures.sound (rows.tells ∙ told) (read.same ∙ sym (ap catalog_of rows.catalog)) whole.0 whole.1

pub returns-in_err-mend_all_rows-clause-cut : goal.returns-in_err-mend_all_rows-clause-cut
returns-in_err-mend_all_rows-clause-cut g c = λ told half read cuts failed.
    let old = g.V.Files.state c.args.files.now in
    let is = err_is c.from_residual.result c.in_err-mend_all_rows.field-0.0 c.from_residual.ensures.1 in
    left_as
    (c.in_err-mend_all_rows.ensures.cut told half read cuts (failed_as _ _ c.in_err-mend_all_rows.field-0.0 c.from_residual.result is failed))
    (λ db filled. right_filled (mended_base old.files) db filled)

pub returns-in_err-mend_all_rows-clause-space : goal.returns-in_err-mend_all_rows-clause-space
returns-in_err-mend_all_rows-clause-space g c = λ told half read.
    let old = g.V.Files.state c.args.files.now in
    let is = err_is c.from_residual.result c.in_err-mend_all_rows.field-0.0 c.from_residual.ensures.1 in
    space_as ⊤ _ c.in_err-mend_all_rows.field-0.0 c.from_residual.result is _ _
    (λ need left. state_as (g.V.Files.state c.mend_all_rows.new.files) (λ db filled. right_filled (mended_base old.files) db filled) left)
    (c.in_err-mend_all_rows.ensures.space told half read)

pub returns-in_err-mend_all_trees-clause-cut : goal.returns-in_err-mend_all_trees-clause-cut
returns-in_err-mend_all_trees-clause-cut g c = λ told half read cuts failed.
    let old = g.V.Files.state c.args.files.now in
    let mid = g.V.Files.state c.mend_all_rows.new.files in
    let rows = c.in_ok-mend_all_rows.ensures.kept in
    let whole = c.in_ok-mend_all_rows.ensures.whole told half read in
    let here = read.same ∙ sym (ap catalog_of rows.catalog) in
    let result = c.from_residual-in_err-mend_all_trees.result in
    let is = err_is result c.in_err-mend_all_trees.field-0.0 c.from_residual-in_err-mend_all_trees.ensures.1 in
    left_as
    (c.in_err-mend_all_trees.ensures.cut (rows.tells ∙ told) here whole.0 whole.1 cuts (failed_as _ _ c.in_err-mend_all_trees.field-0.0 result is failed))
    (λ db loses. right_trees old mid rows told db loses)

pub returns-in_err-mend_all_trees-clause-space : goal.returns-in_err-mend_all_trees-clause-space
returns-in_err-mend_all_trees-clause-space g c = λ told half read.
    let old = g.V.Files.state c.args.files.now in
    let mid = g.V.Files.state c.mend_all_rows.new.files in
    let rows = c.in_ok-mend_all_rows.ensures.kept in
    let whole = c.in_ok-mend_all_rows.ensures.whole told half read in
    let here = read.same ∙ sym (ap catalog_of rows.catalog) in
    let result = c.from_residual-in_err-mend_all_trees.result in
    let is = err_is result c.in_err-mend_all_trees.field-0.0 c.from_residual-in_err-mend_all_trees.ensures.1 in
    space_as ⊤ _ c.in_err-mend_all_trees.field-0.0 result is _ _
    (λ need left. state_as (g.V.Files.state c.mend_all_trees.new.files) (λ db loses. right_trees old mid rows told db loses) left)
    (c.in_err-mend_all_trees.ensures.space (rows.tells ∙ told) here whole.0 whole.1)

pub returns-clause-cut : goal.returns-clause-cut
returns-clause-cut g c = λ told half read cuts failed. not_failed _ _ _ failed

-- what is told

pub returns-in_err-mend_all_rows-clause-reported : goal.returns-in_err-mend_all_rows-clause-reported
returns-in_err-mend_all_rows-clause-reported g c = λ told half read. not_ok _ _ c.from_residual.result c.from_residual.ensures.1

pub returns-in_err-mend_all_trees-clause-reported : goal.returns-in_err-mend_all_trees-clause-reported
returns-in_err-mend_all_trees-clause-reported g c = λ told half read. not_ok _ _ c.from_residual-in_err-mend_all_trees.result c.from_residual-in_err-mend_all_trees.ensures.1

pub returns-clause-reported : goal.returns-clause-reported
returns-clause-reported g c = λ told half read.
    let mid = g.V.Files.state c.mend_all_rows.new.files in
    let rows = c.in_ok-mend_all_rows.ensures.kept in
    let whole = c.in_ok-mend_all_rows.ensures.whole told half read in
    record {
      mid = mid;
      between = c.mend_all_rows.new.report.mended;
      sound = whole_sound mid.files whole.0 whole.1;
      first = c.in_ok-mend_all_rows.ensures.reported told;
      trees = c.in_ok-mend_all_trees.ensures.reported (rows.tells ∙ told) (read.same ∙ sym (ap catalog_of rows.catalog)) whole.0 whole.1;
    }
