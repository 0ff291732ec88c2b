use Rattle.std.proofs.Common.{◌≡◌, ◌∙◌, ap, arith, length, refl, subst, sym}
use Rattle.std.specs.Prelude.{IsTrue, ⊤}
use Rattle.afl_base.specs.Files.{State}
use Rattle.catalog.specs.Catalogs.{catalog_slots}
use Rattle.padded.proofs.Facts.{err_is}
use Rattle.stored.specs.Mended.{mended_base, mended_catalog}
use Rattle.stored_mend.specs.Mending.{IsPutRight}
use Rattle.stored_mend.specs.Stages.{IsReadSound}
use Rattle.stored_mend.proofs.CutCalls.{failed_as, left_as, left_read, not_failed, space_as, state_as}
use Rattle.stored_mend.proofs.Framed.{kept_ok, not_ok, then_err}
use Rattle.stored_mend.proofs.PutRight.{put_right_same}
use Rattle.stored_mend.proofs.StageCut.{stage_cut}
use Rattle.stored_mend.specs.Reported.{ReportsInTurn}
use Rattle.stored_mend.proofs.mending.mend_listed.Goals as goal

pub mend_contents-requires-clause-listed : goal.mend_contents-requires-clause-listed
mend_contents-requires-clause-listed g c = λ told.
    let same = c.in_ok-found.ensures.frame.same in
    subst (λ (s : State). c.in-Some.catalog.relations ≡ (mended_catalog s.files).relations) (sym same)
    ((rw c.in-Some.is at c.in_ok-found.ensures.listed) (subst (λ (s : State). IsTrue s.tells) same told))

pub returns-in_err-mend_contents-in-Some-clause-frame : goal.returns-in_err-mend_contents-in-Some-clause-frame
returns-in_err-mend_contents-in-Some-clause-frame g c =
    let a = c.in_ok-found.ensures.frame in
    then_err g.V.Files.state g.V.Files.lent g.V.Files.reads g.V.Files.faults g.V.Files.lacks _ _ _ _ _ c.in_err-mend_contents-in-Some.field-0.0 c.from_residual-in_err-mend_contents-in-Some.result
    (err_is c.from_residual-in_err-mend_contents-in-Some.result c.in_err-mend_contents-in-Some.field-0.0 c.from_residual-in_err-mend_contents-in-Some.ensures.1)
    (ap (λ (s : State). length s.store) a.same) a.lent a.later a.cause.later c.in_err-mend_contents-in-Some.ensures.frame

pub returns-in_ok-mend_contents-in-Some-clause-sound : goal.returns-in_ok-mend_contents-in-Some-clause-sound
returns-in_ok-mend_contents-in-Some-clause-sound g c = λ told half stage.
    let same = c.in_ok-found.ensures.frame.same in
    c.in_ok-mend_contents-in-Some.ensures.sound (subst (λ (s : State). IsTrue s.tells) (sym same) told)
    half (subst (λ (s : State). IsReadSound (catalog_slots c.in-Some.catalog) s.files half) (sym same) (record { same = (rw c.in-Some.is at c.in_ok-found.ensures.loaded) told; stage = stage }))

pub returns-in_ok-mend_contents-in-Some-clause-frame : goal.returns-in_ok-mend_contents-in-Some-clause-frame
returns-in_ok-mend_contents-in-Some-clause-frame g c =
    let a = c.in_ok-found.ensures.frame in
    let b = c.in_ok-mend_contents-in-Some.ensures.frame in
    let later = a.later in
    let behind = b.later in
    let risen = a.cause.later in
    let more = b.cause.later in
    kept_ok g.V.Files.state g.V.Files.lent g.V.Files.reads g.V.Files.faults g.V.Files.lacks _ _ _ (b.store ∙ ap (λ (s : State). length s.store) a.same) (b.lent ∙ a.lent) (omega (arith, later, behind)) (omega (arith, risen, more))

pub returns-in_err-found-clause-cut : goal.returns-in_err-found-clause-cut
returns-in_err-found-clause-cut g c = λ told half stage cuts failed.
    let files = (g.V.Files.state c.args.files.now).files in
    left_read g.V.Files.state c.args.files.now c.sound_catalog.new.files c.in_err-found.ensures.frame.same
    (record { cut = stage_cut files half stage; is = put_right_same (mended_base files) (mended_base files) refl })
    (g.V.Files.mended c.args.files.now cuts told)

pub returns-in_err-mend_contents-in-Some-clause-cut : goal.returns-in_err-mend_contents-in-Some-clause-cut
returns-in_err-mend_contents-in-Some-clause-cut g c = λ told half stage cuts failed.
    let same = c.in_ok-found.ensures.frame.same in
    let here = subst (λ (s : State). IsTrue s.tells) (sym same) told in
    let read = subst (λ (s : State). IsReadSound (catalog_slots c.in-Some.catalog) s.files half) (sym same) (record { same = (rw c.in-Some.is at c.in_ok-found.ensures.loaded) told; stage = stage }) in
    let result = c.from_residual-in_err-mend_contents-in-Some.result in
    let is = err_is result c.in_err-mend_contents-in-Some.field-0.0 c.from_residual-in_err-mend_contents-in-Some.ensures.1 in
    left_as
    (c.in_err-mend_contents-in-Some.ensures.cut here half read cuts (failed_as _ _ c.in_err-mend_contents-in-Some.field-0.0 result is failed))
    (λ db right. subst (λ (s : State). IsPutRight (mended_base s.files) db) same right)

pub returns-in_err-mend_contents-in-Some-clause-space : goal.returns-in_err-mend_contents-in-Some-clause-space
returns-in_err-mend_contents-in-Some-clause-space g c = λ told half stage.
    let same = c.in_ok-found.ensures.frame.same in
    let here = subst (λ (s : State). IsTrue s.tells) (sym same) told in
    let read = subst (λ (s : State). IsReadSound (catalog_slots c.in-Some.catalog) s.files half) (sym same) (record { same = (rw c.in-Some.is at c.in_ok-found.ensures.loaded) told; stage = stage }) in
    let result = c.from_residual-in_err-mend_contents-in-Some.result in
    let is = err_is result c.in_err-mend_contents-in-Some.field-0.0 c.from_residual-in_err-mend_contents-in-Some.ensures.1 in
    space_as ⊤ _ c.in_err-mend_contents-in-Some.field-0.0 result is _ _
    (λ need left. state_as (g.V.Files.state c.mend_contents.new.files) (λ db right. subst (λ (s : State). IsPutRight (mended_base s.files) db) same right) left)
    (c.in_err-mend_contents-in-Some.ensures.space here half read)

pub returns-in_ok-mend_contents-in-Some-clause-cut : goal.returns-in_ok-mend_contents-in-Some-clause-cut
returns-in_ok-mend_contents-in-Some-clause-cut g c = λ told half stage cuts failed. not_failed _ _ _ failed

pub returns-in-None-clause-cut : goal.returns-in-None-clause-cut
returns-in-None-clause-cut g c = λ told half stage cuts failed. not_failed _ _ _ failed

-- what is told

pub returns-in_err-mend_contents-in-Some-clause-reported : goal.returns-in_err-mend_contents-in-Some-clause-reported
returns-in_err-mend_contents-in-Some-clause-reported g c = λ told half stage. not_ok _ _ c.from_residual-in_err-mend_contents-in-Some.result c.from_residual-in_err-mend_contents-in-Some.ensures.1

pub returns-in_ok-mend_contents-in-Some-clause-reported : goal.returns-in_ok-mend_contents-in-Some-clause-reported
returns-in_ok-mend_contents-in-Some-clause-reported g c = λ told half stage.
    let same = c.in_ok-found.ensures.frame.same in
    subst (λ (s : State). ReportsInTurn 8 s (g.V.Files.state c.mend_contents.new.files) c.args.report.now.mended c.mend_contents.new.report.mended) same
    (c.in_ok-mend_contents-in-Some.ensures.reported (subst (λ (s : State). IsTrue s.tells) (sym same) told)
    half (subst (λ (s : State). IsReadSound (catalog_slots c.in-Some.catalog) s.files half) (sym same) (record { same = (rw c.in-Some.is at c.in_ok-found.ensures.loaded) told; stage = stage })))

pub returns-in-None-clause-reported : goal.returns-in-None-clause-reported
returns-in-None-clause-reported g c = λ told half stage. absurd ((rw c.in-None.is at c.in_ok-found.ensures.broken) told stage.catalog)
