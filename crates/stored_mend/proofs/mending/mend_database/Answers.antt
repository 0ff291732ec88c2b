use Rattle.std.proofs.Common.{subst, ◌∙◌, arith}
use Rattle.std.specs.Prelude.{⊤}
use Rattle.db_model.specs.Database.{Database}
use Rattle.padded.proofs.Facts.{err_is}
use Rattle.stored.specs.Mended.{mended_base}
use Rattle.stored.proofs.MendedSound.{mended_of_sound}
use Rattle.stored_mend.specs.Mending.{IsPutRight}
use Rattle.stored_mend.specs.Trees.{LacksRoom}
use Rattle.stored_mend.proofs.CutCalls.{failed_as, left_as, not_failed, space_as, state_as}
use Rattle.stored_mend.proofs.NamesApart.{cut_apart}
use Rattle.stored_mend.proofs.PutRight.{mends_right, put_right_same, right_any}
use Rattle.stored_mend.proofs.ReportTrees.{in_turn_reported, in_turn_then}
use Rattle.stored_mend.proofs.mending.mend_database.Goals as goal

pub returns-clause-kept : goal.returns-clause-kept
returns-clause-kept g c =
    let old = g.V.Files.state c.args.files.now in
    let listed = g.V.Files.state c.mend_listing.new.files in
    let new = g.V.Files.state c.mend_listed.new.files in
    mends_right (LacksRoom g.V.Files.state g.V.Files.lacks) old listed new c.in_ok-mend_listing.ensures.kept c.in_ok-mend_listed.ensures.kept

pub returns-clause-stands : goal.returns-clause-stands
returns-clause-stands g c = λ told. record {
  base = λ sound.
      let old = (g.V.Files.state c.args.files.now).files in
      let new = (g.V.Files.state c.mend_listed.new.files).files in
      subst (IsPutRight (mended_base old)) (mended_of_sound new sound)
      (right_any (LacksRoom g.V.Files.state g.V.Files.lacks) (mended_base old) (mended_base new) ((returns-clause-kept g c).base told));
}

pub returns-clause-sound : goal.returns-clause-sound
returns-clause-sound g c = λ told cut.
    let listed = c.in_ok-mend_listing.ensures.listed told cut in
    c.in_ok-mend_listed.ensures.sound (c.in_ok-mend_listing.ensures.kept.tells ∙ told) listed.0 listed.1

pub returns-in_err-mend_listing-clause-cut : goal.returns-in_err-mend_listing-clause-cut
returns-in_err-mend_listing-clause-cut g c = λ told cut cuts failed.
    let base = mended_base (g.V.Files.state c.args.files.now).files in
    let is = err_is c.from_residual.result c.in_err-mend_listing.field-0.0 c.from_residual.ensures.1 in
    left_as (c.in_err-mend_listing.ensures.cut told cut cuts (failed_as _ _ c.in_err-mend_listing.field-0.0 c.from_residual.result is failed)) (λ db same. put_right_same base db same)

pub returns-in_err-mend_listing-clause-space : goal.returns-in_err-mend_listing-clause-space
returns-in_err-mend_listing-clause-space g c = λ told cut.
    let base = mended_base (g.V.Files.state c.args.files.now).files in
    let is = err_is c.from_residual.result c.in_err-mend_listing.field-0.0 c.from_residual.ensures.1 in
    space_as ⊤ _ c.in_err-mend_listing.field-0.0 c.from_residual.result is _ _
    (λ need left. state_as (g.V.Files.state c.mend_listing.new.files) (λ db same. put_right_same base db same) left)
    (c.in_err-mend_listing.ensures.space told cut)

pub returns-in_err-mend_listed-clause-cut : goal.returns-in_err-mend_listed-clause-cut
returns-in_err-mend_listed-clause-cut g c = λ told cut cuts failed.
    let kept = c.in_ok-mend_listing.ensures.kept in
    let listed = c.in_ok-mend_listing.ensures.listed told cut in
    let result = c.from_residual-in_err-mend_listed.result in
    let is = err_is result c.in_err-mend_listed.field-0.0 c.from_residual-in_err-mend_listed.ensures.1 in
    left_as
    (c.in_err-mend_listed.ensures.cut (kept.tells ∙ told) listed.0 listed.1 cuts (failed_as _ _ c.in_err-mend_listed.field-0.0 result is failed))
    (λ db right. subst (λ (base : Database). IsPutRight base db) (kept.base told) right)

pub returns-in_err-mend_listed-clause-space : goal.returns-in_err-mend_listed-clause-space
returns-in_err-mend_listed-clause-space g c = λ told cut.
    let kept = c.in_ok-mend_listing.ensures.kept in
    let listed = c.in_ok-mend_listing.ensures.listed told cut in
    let result = c.from_residual-in_err-mend_listed.result in
    let is = err_is result c.in_err-mend_listed.field-0.0 c.from_residual-in_err-mend_listed.ensures.1 in
    space_as ⊤ _ c.in_err-mend_listed.field-0.0 result is _ _
    (λ need left. state_as (g.V.Files.state c.mend_listed.new.files) (λ db right. subst (λ (base : Database). IsPutRight base db) (kept.base told) right) left)
    (c.in_err-mend_listed.ensures.space (kept.tells ∙ told) listed.0 listed.1)

pub returns-clause-cut : goal.returns-clause-cut
returns-clause-cut g c = λ told cut cuts failed. not_failed _ _ _ failed

-- what is told

pub returns-clause-reported : goal.returns-clause-reported
returns-clause-reported g c = λ told cut none.
    let listed = c.in_ok-mend_listing.ensures.listed told cut in
    in_turn_reported (g.V.Files.state c.args.files.now) (g.V.Files.state c.mend_listed.new.files) _ _ (cut_apart (g.V.Files.state c.args.files.now).files cut)
    (in_turn_then 42 8 50 _ _ _ _ _ _ (c.in_ok-mend_listing.ensures.reported told cut) (c.in_ok-mend_listed.ensures.reported (c.in_ok-mend_listing.ensures.kept.tells ∙ told) listed.0 listed.1) (omega arith))
    none
