use Rattle.std.proofs.Common.{◌∙◌, ◌+◌, arith, refl}
use Rattle.padded.proofs.Facts.{err_is, on_err}
use Rattle.stored_mend.proofs.Framed.{changes_err}
use Rattle.stored_mend.proofs.HeapSettled.{all_slots, begun_next, none_first, waiting_next}
use Rattle.stored_mend.proofs.KeptBase.{kept_then}
use Rattle.stored_mend.proofs.ReportTrees.{reports_trees_more, reports_trees_nothing, reports_trees_then}
use Rattle.stored_mend.proofs.TreesLost.{kept_same}
use Rattle.stored_mend.proofs.CutCalls.{left_as}
use Rattle.stored_mend.proofs.TreeTurns.{all_but, but_first, but_next, keeps_next, keeps_same}
use Rattle.stored_mend.proofs.trees.mend_trees.Goals as goal

pub loop-slot-init : goal.loop-slot-init
loop-slot-init g c = record {
  kept = kept_same (g.V.Files.state c.args.files.now);
  begun = none_first (g.V.Files.state c.args.files.now) c.args.catalog.now;
  complete = λ none. none_first (g.V.Files.state c.args.files.now) c.args.catalog.now;
  one = λ few. (0, but_first (g.V.Files.state c.args.files.now) c.args.catalog.now);
  trees = keeps_same (g.V.Files.state c.args.files.now) c.args.catalog.now;
  few = omega arith;
  reported = λ told start. reports_trees_nothing 0 _ _ _ _ refl refl;
  store = refl;
  lent = refl;
  later = omega arith;
  faults = omega arith;
}

pub loop-slot-preserved : goal.loop-slot-preserved
loop-slot-preserved g c =
    let inv = c.loop-slot.invariant in
    let start = g.V.Files.state c.args.files.now in
    let old = g.V.Files.state c.loop-slot.files in
    let new = g.V.Files.state c.mend_tree.new.files in
    let catalog = c.args.catalog.now in
    let slot = c.loop-slot.slot in
    let changes = c.in_ok-need.ensures.changes in
    record {
      kept = kept_then start old new inv.kept c.in_ok-need.ensures.kept;
      begun = begun_next start old new catalog slot c.loop-slot-test.true changes inv.begun;
      complete = waiting_next start old new catalog slot c.loop-slot.waiting c.count-waiting.result c.in_ok-need.need c.loop-slot-test.true inv.kept.tells changes
          inv.complete c.count-waiting.ensures.none c.in_ok-need.ensures.complete;
      one = but_next start old new catalog slot c.in_ok-need.need c.loop-slot-test.true inv.kept.tells changes inv.begun c.in_ok-need.ensures.complete
          c.loop-slot.waiting c.count-waiting.result c.count-waiting.ensures.none inv.complete inv.one;
      trees = keeps_next start old new catalog slot c.in_ok-need.need c.loop-slot-test.true inv.kept.tells changes inv.begun c.in_ok-need.ensures.complete inv.trees c.in_ok-need.ensures.waits;
      few = omega (arith, inv.few, c.count-waiting.ensures.few);
      reported = λ told begun.
          let before = inv.begun.complete told begun in
          reports_trees_then slot 1 (slot + 1) _ _ _ _ _ _ (inv.reported told begun) (c.in_ok-need.ensures.reported (inv.kept.tells ∙ told) (before.rest slot (omega arith)) before.sound) (omega arith);
      store = c.in_ok-need.ensures.frame.store ∙ inv.store;
      lent = c.in_ok-need.ensures.frame.lent ∙ inv.lent;
      later = omega (arith, c.in_ok-need.ensures.frame.later, inv.later);
      faults = omega (arith, c.in_ok-need.ensures.frame.cause.later, inv.faults);
    }

pub returns-clause-complete : goal.returns-clause-complete
returns-clause-complete g c = λ none.
    let all = c.loop-slot.invariant.complete none in
    record { complete = λ told begun. all_slots (g.V.Files.state c.loop-slot.files).files c.args.catalog.now c.loop-slot.slot c.loop-slot-test.false c.loop-slot.auto.slot-end (all.complete told begun) }

pub mend_tree-requires-clause-idle : goal.mend_tree-requires-clause-idle
mend_tree-requires-clause-idle g c = c.loop-slot.invariant.kept.draft ∙ c.requires.idle

pub overflow_add-waiting : goal.overflow_add-waiting
overflow_add-waiting g c =
    let few = c.loop-slot.invariant.few in
    omega (arith, few, c.count-waiting.ensures.few, c.loop-slot-test.true)

pub returns-in_err-need-clause-frame : goal.returns-in_err-need-clause-frame
returns-in_err-need-clause-frame g c =
    let inv = c.loop-slot.invariant in
    changes_err g.V.Files.state g.V.Files.lent g.V.Files.reads g.V.Files.faults g.V.Files.lacks _ _ _ _ _ _ c.in_err-need.field-0.0 c.from_residual.result
    (err_is c.from_residual.result c.in_err-need.field-0.0 c.from_residual.ensures.1) inv.store inv.lent inv.later inv.faults c.in_err-need.ensures.frame

pub returns-clause-kept : goal.returns-clause-kept
returns-clause-kept g c = c.loop-slot.invariant.kept

pub returns-clause-begun : goal.returns-clause-begun
returns-clause-begun g c = c.loop-slot.invariant.begun

pub returns-clause-frame : goal.returns-clause-frame
returns-clause-frame g c =
    let inv = c.loop-slot.invariant in
    record { store = inv.store; lent = inv.lent; later = inv.later; cause = record { later = inv.faults; failed = tt } }

pub returns-clause-alone : goal.returns-clause-alone
returns-clause-alone g c = λ one.
    let f = c.loop-slot.invariant.one (omega (arith, one)) in
    (f.0, all_but (g.V.Files.state c.args.files.now) (g.V.Files.state c.loop-slot.files) c.args.catalog.now c.loop-slot.slot f.0 c.loop-slot-test.false c.loop-slot.auto.slot-end f.1)

pub returns-in_err-need-clause-cut : goal.returns-in_err-need-clause-cut
returns-in_err-need-clause-cut g c = λ told half begun trees cuts.
    let inv = c.loop-slot.invariant in
    let now = inv.begun.complete told begun in
    on_err c.from_residual.result
    (left_as (c.in_err-need.ensures.cut (inv.kept.tells ∙ told) half (now.rest c.loop-slot.slot (omega arith)) (inv.trees.trees told half begun trees) cuts)
    (λ db same. same ∙ inv.kept.base told))

pub returns-clause-reported : goal.returns-clause-reported
returns-clause-reported g c = λ told begun. reports_trees_more c.loop-slot.slot 8 _ _ _ _ (c.loop-slot.invariant.reported told begun) c.loop-slot.auto.slot-end
