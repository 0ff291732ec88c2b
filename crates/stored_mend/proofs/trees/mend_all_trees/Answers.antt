use Rattle.std.proofs.Common.{◌∙◌, ◌+◌, arith, refl, Err}
use Rattle.stored_mend.specs.Trees.{LacksRoom, LosesTrees}
use Rattle.padded.proofs.Facts.{err_is}
use Rattle.stored_mend.proofs.Framed.{kept_ok, not_ok, then_err, changes_failed, changes_ok}
use Rattle.stored_mend.proofs.FromWhole.{all_complete, none_complete}
use Rattle.stored_mend.proofs.HeapSettled.{all_slots, first_next}
use Rattle.stored_mend.proofs.ReportTrees.{reports_trees_more, reports_trees_then}
use Rattle.stored_mend.proofs.TreesLost.{but_kept, but_then, loses_any, loses_same, loses_then}
use Rattle.std.specs.Prelude.{⊤}
use Rattle.stored.specs.Mended.{mended_base}
use Rattle.afl_base.specs.declared.kind.FileError.TheVariants.{Failed}
use Rattle.stored_mend.specs.Interrupted.{IsCutState}
use Rattle.stored_mend.proofs.CutCalls.{failed_handed, left_as, not_failed, space_handed, space_not, state_as}
use Rattle.stored_mend.proofs.TreesWhile.{trees_begun}
use Rattle.stored_mend.proofs.TreeTurns.{but_settled, may_make_room}
use Rattle.stored_mend.proofs.trees.mend_all_trees.Goals as goal

pub loop-slot-init : goal.loop-slot-init
loop-slot-init g c = record {
  kept = but_kept (LacksRoom g.V.Files.state g.V.Files.lacks) (g.V.Files.state c.args.files.now) (g.V.Files.state c.mend_trees.new.files) c.in_ok-waiting.ensures.kept;
  complete = c.in_ok-waiting.ensures.begun;
  trees = c.in_ok-waiting.ensures.trees;
  alone = c.in_ok-waiting.ensures.alone;
  reported = λ told begun. c.in_ok-waiting.ensures.reported told begun;
  store = c.in_ok-waiting.ensures.frame.store;
  lent = c.in_ok-waiting.ensures.frame.lent;
  later = c.in_ok-waiting.ensures.frame.later;
  faults = c.in_ok-waiting.ensures.frame.cause.later;
}

pub loop-slot-preserved : goal.loop-slot-preserved
loop-slot-preserved g c =
    let inv = c.loop-slot.invariant in
    record {
      kept = but_then (LacksRoom g.V.Files.state g.V.Files.lacks) (g.V.Files.state c.args.files.now) (g.V.Files.state c.loop-slot.files) (g.V.Files.state c.make_room.new.files)
          inv.kept c.in_ok-make_room.ensures.kept;
      complete = first_next (g.V.Files.state c.args.files.now) (g.V.Files.state c.loop-slot.files) (g.V.Files.state c.make_room.new.files) c.args.catalog.now c.loop-slot.slot inv.kept.tells
          inv.complete c.in_ok-make_room.ensures.settles;
      trees = record {
        trees = λ told half begun trees. c.in_ok-make_room.ensures.trees (inv.kept.tells ∙ told) half
            (may_make_room (g.V.Files.state c.args.files.now) (g.V.Files.state c.loop-slot.files) c.args.catalog.now half c.loop-slot.slot c.in_ok-waiting.waiting inv.complete inv.trees inv.alone told begun trees);
      };
      alone = λ one.
          let f = inv.alone one in
          (f.0, but_settled (g.V.Files.state c.args.files.now) (g.V.Files.state c.loop-slot.files) (g.V.Files.state c.make_room.new.files) c.args.catalog.now c.loop-slot.slot f.0 inv.kept.tells inv.complete c.in_ok-make_room.ensures.settles f.1);
      reported = λ told begun.
          let before = inv.complete.complete told begun in
          reports_trees_then (8 + c.loop-slot.slot) 1 (8 + (c.loop-slot.slot + 1)) _ _ _ _ _ _ (inv.reported told begun)
          (c.in_ok-make_room.ensures.reported (inv.kept.tells ∙ told) (before.rest c.loop-slot.slot (omega arith)) before.sound) (omega arith);
      store = c.in_ok-make_room.ensures.frame.store ∙ inv.store;
      lent = c.in_ok-make_room.ensures.frame.lent ∙ inv.lent;
      later = omega (arith, c.in_ok-make_room.ensures.frame.later, inv.later);
      faults = omega (arith, c.in_ok-make_room.ensures.frame.cause.later, inv.faults);
    }

pub returns-then-waiting-eq0-clause-sound : goal.returns-then-waiting-eq0-clause-sound
returns-then-waiting-eq0-clause-sound g c = λ told loaded half whole.
    let old = (g.V.Files.state c.args.files.now).files in
    let new = (g.V.Files.state c.mend_trees.new.files).files in
    all_complete new c.args.catalog.now ((c.in_ok-waiting.ensures.complete c.if-waiting-eq0.true).complete told (none_complete old c.args.catalog.now half loaded whole))

pub returns-clause-sound : goal.returns-clause-sound
returns-clause-sound g c = λ told loaded half whole.
    let old = (g.V.Files.state c.args.files.now).files in
    let new = (g.V.Files.state c.loop-slot.files).files in
    all_complete new c.args.catalog.now (all_slots new c.args.catalog.now c.loop-slot.slot c.loop-slot-test.false c.loop-slot.auto.slot-end
    (c.loop-slot.invariant.complete.complete told (none_complete old c.args.catalog.now half loaded whole)))

pub returns-in_err-waiting-clause-sound : goal.returns-in_err-waiting-clause-sound
returns-in_err-waiting-clause-sound g c = λ told loaded half whole. not_ok _ _ c.from_residual.result c.from_residual.ensures.1

pub make_room-requires-clause-idle : goal.make_room-requires-clause-idle
make_room-requires-clause-idle g c = c.loop-slot.invariant.kept.draft ∙ c.requires.idle

pub returns-in_err-make_room-clause-sound : goal.returns-in_err-make_room-clause-sound
returns-in_err-make_room-clause-sound g c = λ told loaded half whole. not_ok _ _ c.from_residual-in_err-make_room.result c.from_residual-in_err-make_room.ensures.1

pub returns-in_err-make_room-clause-frame : goal.returns-in_err-make_room-clause-frame
returns-in_err-make_room-clause-frame g c =
    let inv = c.loop-slot.invariant in
    then_err g.V.Files.state g.V.Files.lent g.V.Files.reads g.V.Files.faults g.V.Files.lacks _ _ _ _ _ c.in_err-make_room.field-0.0 c.from_residual-in_err-make_room.result
    (err_is c.from_residual-in_err-make_room.result c.in_err-make_room.field-0.0 c.from_residual-in_err-make_room.ensures.1) inv.store inv.lent inv.later inv.faults c.in_err-make_room.ensures.frame

pub returns-clause-kept : goal.returns-clause-kept
returns-clause-kept g c = c.loop-slot.invariant.kept

pub returns-clause-frame : goal.returns-clause-frame
returns-clause-frame g c =
    let inv = c.loop-slot.invariant in
    kept_ok g.V.Files.state g.V.Files.lent g.V.Files.reads g.V.Files.faults g.V.Files.lacks _ _ _ inv.store inv.lent inv.later inv.faults

-- ---- what is left where it is cut, or finds no space

pub returns-in_err-waiting-clause-cut : goal.returns-in_err-waiting-clause-cut
returns-in_err-waiting-clause-cut g c = λ told loaded half whole cuts failed.
    let old = g.V.Files.state c.args.files.now in
    left_as (c.in_err-waiting.ensures.cut told half (none_complete old.files c.args.catalog.now half loaded whole) (trees_begun old.files half whole) cuts)
    (λ db same. loses_same (λ slot. ⊤) (mended_base old.files) db same)

pub returns-in_err-waiting-clause-space : goal.returns-in_err-waiting-clause-space
returns-in_err-waiting-clause-space g c = λ told loaded half whole. space_not _ c.from_residual.result c.from_residual.ensures.1

pub returns-then-waiting-eq0-clause-cut : goal.returns-then-waiting-eq0-clause-cut
returns-then-waiting-eq0-clause-cut g c = λ told loaded half whole cuts failed. not_failed _ tt _ failed

pub returns-clause-cut : goal.returns-clause-cut
returns-clause-cut g c = λ told loaded half whole cuts failed. not_failed _ tt _ failed

pub returns-in_err-make_room-clause-cut : goal.returns-in_err-make_room-clause-cut
returns-in_err-make_room-clause-cut g c = λ told loaded half whole cuts failed.
    let inv = c.loop-slot.invariant in
    let old = g.V.Files.state c.args.files.now in
    let mid = g.V.Files.state c.loop-slot.files in
    let may = may_make_room old mid c.args.catalog.now half c.loop-slot.slot c.in_ok-waiting.waiting inv.complete inv.trees inv.alone told (none_complete old.files c.args.catalog.now half loaded whole) (trees_begun old.files half whole) in
    let e = c.in_err-make_room.field-0.0 in
    left_as (c.in_err-make_room.ensures.cut (inv.kept.tells ∙ told) half may cuts
    (failed_handed (Err e) c.from_residual-in_err-make_room.result e refl c.from_residual-in_err-make_room.ensures.1 failed))
    (λ db loses. loses_then (λ slot. ⊤) (mended_base old.files) (mended_base mid.files) db
    (loses_any (LacksRoom g.V.Files.state g.V.Files.lacks) (mended_base old.files) (mended_base mid.files) (inv.kept.base told)) loses)

pub returns-in_err-make_room-clause-space : goal.returns-in_err-make_room-clause-space
returns-in_err-make_room-clause-space g c = λ told loaded half whole.
    let inv = c.loop-slot.invariant in
    let old = g.V.Files.state c.args.files.now in
    let mid = g.V.Files.state c.loop-slot.files in
    let new = g.V.Files.state c.make_room.new.files in
    let may = may_make_room old mid c.args.catalog.now half c.loop-slot.slot c.in_ok-waiting.waiting inv.complete inv.trees inv.alone told (none_complete old.files c.args.catalog.now half loaded whole) (trees_begun old.files half whole) in
    let e = c.in_err-make_room.field-0.0 in
    space_handed {T = ⊤} (Err e) c.from_residual-in_err-make_room.result e (IsCutState new (λ db. LosesTrees (mended_base mid.files) db)) (IsCutState new (λ db. LosesTrees (mended_base old.files) db)) refl c.from_residual-in_err-make_room.ensures.1
    (λ cut. state_as new (λ db loses. loses_then (λ slot. ⊤) (mended_base old.files) (mended_base mid.files) db
    (loses_any (LacksRoom g.V.Files.state g.V.Files.lacks) (mended_base old.files) (mended_base mid.files) (inv.kept.base told)) loses) cut)
    (c.in_err-make_room.ensures.space (inv.kept.tells ∙ told) half may)

-- ---- frames

pub returns-in_err-waiting-clause-frame : goal.returns-in_err-waiting-clause-frame
returns-in_err-waiting-clause-frame g c =
    changes_failed g.V.Files.state g.V.Files.lent g.V.Files.reads g.V.Files.faults g.V.Files.lacks _ _ _ _ _ c.in_err-waiting.field-0.0 c.from_residual.result
    (err_is c.from_residual.result Failed c.from_residual.ensures.1) c.in_err-waiting.ensures.frame

pub returns-then-waiting-eq0-clause-frame : goal.returns-then-waiting-eq0-clause-frame
returns-then-waiting-eq0-clause-frame g c =
    changes_ok g.V.Files.state g.V.Files.lent g.V.Files.reads g.V.Files.faults g.V.Files.lacks _ _ _ _ c.in_ok-waiting.ensures.frame

pub returns-then-waiting-eq0-clause-reported : goal.returns-then-waiting-eq0-clause-reported
returns-then-waiting-eq0-clause-reported g c = λ told loaded half whole.
    reports_trees_more 8 16 _ _ _ _ (c.in_ok-waiting.ensures.reported told (none_complete (g.V.Files.state c.args.files.now).files c.args.catalog.now half loaded whole)) (omega arith)

pub returns-clause-reported : goal.returns-clause-reported
returns-clause-reported g c = λ told loaded half whole.
    let end = c.loop-slot.auto.slot-end in
    reports_trees_more (8 + c.loop-slot.slot) 16 _ _ _ _ (c.loop-slot.invariant.reported told (none_complete (g.V.Files.state c.args.files.now).files c.args.catalog.now half loaded whole)) (omega (arith, end))

pub returns-in_err-waiting-clause-reported : goal.returns-in_err-waiting-clause-reported
returns-in_err-waiting-clause-reported g c = λ told loaded half whole. not_ok _ _ c.from_residual.result c.from_residual.ensures.1

pub returns-in_err-make_room-clause-reported : goal.returns-in_err-make_room-clause-reported
returns-in_err-make_room-clause-reported g c = λ told loaded half whole. not_ok _ _ c.from_residual-in_err-make_room.result c.from_residual-in_err-make_room.ensures.1
