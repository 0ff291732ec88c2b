use Rattle.std.proofs.Common.{rules, ◌∙◌, ◌≡◌, ◌<◌, ◌+◌, sym, arith, inl, inr, refl, ◌⊎◌, ap}
use Rattle.std.proofs.Math.Logic.{⊎_elim}
use Rattle.std.proofs.lemmas.Bool.{cases_lt}
use Rattle.std.specs.Prelude.{⊤}
use Rattle.catalog.specs.Catalogs.{catalog_slots}
use Rattle.stored_mend.proofs.FilledBase.{fills_more, fills_same, fills_then, relations_filled}
use Rattle.stored_mend.proofs.ReportOnce.{reports_nothing, reports_then}
use Rattle.stored_mend.proofs.WholeRows.{makes_all, makes_nothing, makes_then, made_below}
use Rattle.stored_mend.proofs.Together.{not_ok}
use Rattle.db_model.specs.Catalog.{catalog_of}
use Rattle.padded.proofs.Facts.{err_is}
use Rattle.stored_mend.proofs.CutCalls.{failed_as, left_as, not_failed, space_as, state_as}
use Rattle.stored_mend.proofs.Framed.{then_err}
use Rattle.stored_mend.proofs.RowsInterrupted.{filled_all}
use Rattle.stored_mend.proofs.mending.mend_all_rows.Goals as goal

pub loop-slot-init : goal.loop-slot-init
loop-slot-init g c = record {
  kept = fills_same (λ k. k < 0) (g.V.Files.state c.args.files.now);
  whole = makes_nothing (catalog_slots c.args.catalog.now) (g.V.Files.state c.args.files.now) 0;
  reported = λ told. reports_nothing 0 _ _ _ _ refl refl;
  store = search rules;
  lent = search rules;
  later = search rules;
  faults = search rules;
}

pub mend_rows-requires-clause-listed : goal.mend_rows-requires-clause-listed
mend_rows-requires-clause-listed g c = λ told.
    let kept = c.loop-slot.invariant.kept in
    c.requires.listed (sym kept.tells ∙ told) ∙ sym (relations_filled (λ k. k < c.loop-slot.slot) (g.V.Files.state c.args.files.now) (g.V.Files.state c.loop-slot.files) kept)

pub loop-slot-preserved : goal.loop-slot-preserved
loop-slot-preserved g c =
    let n = c.loop-slot.slot in
    record {
      kept = fills_then (λ k. k < n) (λ k. k ≡ n) (λ k. k < n + 1) (g.V.Files.state c.args.files.now) (g.V.Files.state c.loop-slot.files) (g.V.Files.state c.mend_rows.new.files)
          c.loop-slot.invariant.kept c.in_ok-mend_rows.ensures.kept
          (λ k. ⊎_elim (λ (less : k < n). inr (λ e. absurd (omega (arith, less, e)))) (λ more. inl (λ less. absurd (omega (arith, less, more)))) (cases_lt k n))
          (λ k no. ((λ less. no (omega (arith, less))), (λ e. no (omega (arith, e)))));
      whole = makes_then (catalog_slots c.args.catalog.now) (g.V.Files.state c.args.files.now) (g.V.Files.state c.loop-slot.files) (g.V.Files.state c.mend_rows.new.files) 0 n (n + 1)
          (λ told. c.loop-slot.invariant.kept.tells ∙ told) c.loop-slot.invariant.kept.catalog c.loop-slot.invariant.whole c.in_ok-mend_rows.ensures.whole;
      reported = λ told. reports_then n 1 (n + 1) _ _ _ _ _ _ (c.loop-slot.invariant.reported told) (c.in_ok-mend_rows.ensures.reported (c.loop-slot.invariant.kept.tells ∙ told)) (omega arith);
      store = search rules;
      lent = search rules;
      later = search rules;
      faults = search rules;
    }

pub returns-clause-kept : goal.returns-clause-kept
returns-clause-kept g c = fills_more (λ k. k < c.loop-slot.slot) (λ k. ⊤) (g.V.Files.state c.args.files.now) (g.V.Files.state c.loop-slot.files) (λ k less. tt) c.loop-slot.invariant.kept

pub returns-clause-whole : goal.returns-clause-whole
returns-clause-whole g c = λ told half read.
    makes_all (catalog_slots c.args.catalog.now) (g.V.Files.state c.args.files.now) (g.V.Files.state c.loop-slot.files) c.loop-slot.slot (omega (arith, c.loop-slot-test.false)) c.loop-slot.invariant.whole told read.same half read.stage

pub returns-in_err-mend_rows-clause-whole : goal.returns-in_err-mend_rows-clause-whole
returns-in_err-mend_rows-clause-whole g c = λ told half read. not_ok c.from_residual.result _ c.from_residual.ensures.0

pub returns-in_err-mend_rows-clause-cut : goal.returns-in_err-mend_rows-clause-cut
returns-in_err-mend_rows-clause-cut g c = λ told half read cuts failed.
    let old = g.V.Files.state c.args.files.now in
    let mid = g.V.Files.state c.loop-slot.files in
    let kept = c.loop-slot.invariant.kept in
    let r = made_below (catalog_slots c.args.catalog.now) old mid c.loop-slot.slot c.loop-slot.invariant.whole told read.same half read.stage in
    let here = read.same ∙ sym (ap catalog_of kept.catalog) in
    let is = err_is c.from_residual.result c.in_err-mend_rows.field-0.0 c.from_residual.ensures.1 in
    left_as
    (c.in_err-mend_rows.ensures.cut (kept.tells ∙ told) here r.0 r.1 cuts (failed_as _ _ c.in_err-mend_rows.field-0.0 c.from_residual.result is failed))
    (λ db filled. filled_all old mid c.loop-slot.slot kept told db filled)

pub returns-in_err-mend_rows-clause-space : goal.returns-in_err-mend_rows-clause-space
returns-in_err-mend_rows-clause-space g c = λ told half read.
    let old = g.V.Files.state c.args.files.now in
    let mid = g.V.Files.state c.loop-slot.files in
    let kept = c.loop-slot.invariant.kept in
    let r = made_below (catalog_slots c.args.catalog.now) old mid c.loop-slot.slot c.loop-slot.invariant.whole told read.same half read.stage in
    let here = read.same ∙ sym (ap catalog_of kept.catalog) in
    let is = err_is c.from_residual.result c.in_err-mend_rows.field-0.0 c.from_residual.ensures.1 in
    space_as ⊤ _ c.in_err-mend_rows.field-0.0 c.from_residual.result is _ _
    (λ need left. state_as (g.V.Files.state c.mend_rows.new.files) (λ db filled. filled_all old mid c.loop-slot.slot kept told db filled) left)
    (c.in_err-mend_rows.ensures.space (kept.tells ∙ told) here r.0 r.1)

pub returns-clause-cut : goal.returns-clause-cut
returns-clause-cut g c = λ told half read cuts failed. not_failed _ _ _ failed

pub returns-in_err-mend_rows-clause-frame : goal.returns-in_err-mend_rows-clause-frame
returns-in_err-mend_rows-clause-frame g c =
    let before = c.loop-slot.invariant in
    then_err g.V.Files.state g.V.Files.lent g.V.Files.reads g.V.Files.faults g.V.Files.lacks _ _ _ _ _ c.in_err-mend_rows.field-0.0 c.from_residual.result
    (err_is c.from_residual.result c.in_err-mend_rows.field-0.0 c.from_residual.ensures.1) before.store before.lent before.later before.faults c.in_err-mend_rows.ensures.frame
