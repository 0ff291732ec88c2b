use Rattle.std.proofs.Common.{rules, ◌∙◌, ◌+◌, arith, refl}
use Rattle.stored_mend.proofs.CatalogKept.{mends_same, mends_then}
use Rattle.stored_mend.proofs.ReportOnce.{reports_nothing, reports_then}
use Rattle.stored_mend.proofs.mending.remove_strays.Goals as goal

pub loop-slot-init : goal.loop-slot-init
loop-slot-init g c = record {
  idle = search rules;
  kept = mends_same (g.V.Files.state c.args.files.now);
  reported = λ told l. reports_nothing 0 _ _ _ _ refl refl;
  listed = λ told l. l;
  store = search rules;
  lent = search rules;
  later = search rules;
  faults = search rules;
}

pub loop-slot-preserved : goal.loop-slot-preserved
loop-slot-preserved g c =
    let before = c.loop-slot.invariant in
    record {
      idle = search rules;
      kept = mends_then (g.V.Files.state c.args.files.now) (g.V.Files.state c.loop-slot.files) (g.V.Files.state c.remove_rows.new.files) before.kept c.in_ok-remove_rows.ensures.kept;
      reported = λ told l. reports_then c.loop-slot.slot 1 (c.loop-slot.slot + 1) _ _ _ _ _ _ (before.reported told l)
          (c.in_ok-remove_rows.ensures.reported (before.kept.tells ∙ told) (before.listed told l)) (omega arith);
      listed = λ told l. c.in_ok-remove_rows.ensures.listed (before.kept.tells ∙ told) (before.listed told l);
      store = search rules;
      lent = search rules;
      later = search rules;
      faults = search rules;
    }

pub loop-slot-2-preserved : goal.loop-slot-2-preserved
loop-slot-2-preserved g c =
    let before = c.loop-slot-2.invariant in
    record {
      idle = search rules;
      kept = mends_then (g.V.Files.state c.args.files.now) (g.V.Files.state c.loop-slot-2.files) (g.V.Files.state c.remove_tree.new.files) before.kept c.in_ok-remove_tree.ensures.kept;
      reported = λ told l. reports_then (8 + c.loop-slot-2.slot) 1 (8 + (c.loop-slot-2.slot + 1)) _ _ _ _ _ _ (before.reported told l) (c.in_ok-remove_tree.ensures.reported (before.kept.tells ∙ told)) (omega arith);
      listed = λ told l. c.in_ok-remove_tree.ensures.listed (before.kept.tells ∙ told) (before.listed told l);
      store = search rules;
      lent = search rules;
      later = search rules;
      faults = search rules;
    }
