use Rattle.std.proofs.Common.{rules, ◌≡◌, ◌∙◌, ◌+◌, ◌*◌, arith}
use Rattle.stored_mend.proofs.CatalogKept.{mends_then}
use Rattle.stored_mend.proofs.ReportNames.{listed_names}
use Rattle.stored_mend.proofs.ReportOnce.{reports_then}
use Rattle.db_model.specs.Database.{Database}
use Rattle.stored.specs.Mended.{mended_base}
use Rattle.stored_mend.specs.Interrupted.{IsCutState}
use Rattle.stored_mend.specs.Listed.{indexes_below}
use Rattle.stored_mend.proofs.CutCalls.{failed_handed, left_as, space_handed, state_as}
use Rattle.stored_mend.proofs.CutListed.{listed_is_cut}
use Rattle.stored_mend.proofs.mending.mend_catalog.Goals as goal

pub loop-slot-2-preserved : goal.loop-slot-2-preserved
loop-slot-2-preserved g c =
    let before = c.loop-slot-2.invariant in
    record {
      idle = search rules;
      kept = mends_then (g.V.Files.state c.args.files.now) (g.V.Files.state c.loop-slot-2.files) (g.V.Files.state c.mend_index.new.files) before.kept c.in_ok-mend_index.ensures.kept;
      reported = λ told cut. reports_then (18 + c.loop-slot-2.slot) 1 (18 + (c.loop-slot-2.slot + 1)) _ _ _ _ _ _ (before.reported told cut)
          (c.in_ok-mend_index.ensures.reported (before.kept.tells ∙ told) (listed_names (g.V.Files.state c.loop-slot-2.files).files c.loop-slot-2.slot (search rules) (before.listed told cut))) (omega arith);
      listed = λ told cut. c.in_ok-mend_index.ensures.listed (before.kept.tells ∙ told) (before.listed told cut);
      store = search rules;
      lent = search rules;
      later = search rules;
      faults = search rules;
    }

-- what is left where a call failed

pub returns-in_err-mend_index-clause-cut : goal.returns-in_err-mend_index-clause-cut
returns-in_err-mend_index-clause-cut g c = λ told cut cuts failed.
    let before = c.loop-slot-2.invariant in
    let mid = g.V.Files.state c.loop-slot-2.files in
    left_as
    (c.mend_index.ensures.cut (before.kept.tells ∙ told) (listed_is_cut (indexes_below c.loop-slot-2.slot) mid.files (before.listed told cut)) cuts
    (failed_handed c.mend_index.result c.from_residual-in_err-mend_index.result c.in_err-mend_index.field-0.0 c.in_err-mend_index.was c.from_residual-in_err-mend_index.ensures.1 failed))
    (λ (db : Database) same. same ∙ before.kept.base told)

pub returns-in_err-mend_index-clause-space : goal.returns-in_err-mend_index-clause-space
returns-in_err-mend_index-clause-space g c = λ told cut.
    let before = c.loop-slot-2.invariant in
    let old = g.V.Files.state c.args.files.now in
    let mid = g.V.Files.state c.loop-slot-2.files in
    let new = g.V.Files.state c.mend_index.new.files in
    space_handed c.mend_index.result c.from_residual-in_err-mend_index.result c.in_err-mend_index.field-0.0
    (IsCutState new (λ (db : Database). db ≡ mended_base mid.files)) (IsCutState new (λ (db : Database). db ≡ mended_base old.files))
    c.in_err-mend_index.was c.from_residual-in_err-mend_index.ensures.1
    (λ left. state_as new (λ (db : Database) same. same ∙ before.kept.base told) left)
    (c.mend_index.ensures.space (before.kept.tells ∙ told) (listed_is_cut (indexes_below c.loop-slot-2.slot) mid.files (before.listed told cut)))

pub loop-slot-init : goal.loop-slot-init
loop-slot-init g c =
    let first = c.in_ok-take_back_catalog.ensures in
    let second = c.in_ok-complete_mark.ensures in
    record {
      idle = search rules;
      kept = mends_then (g.V.Files.state c.args.files.now) (g.V.Files.state c.take_back_catalog.new.files) (g.V.Files.state c.complete_mark.new.files) first.kept second.kept;
      reported = λ told. reports_then 1 1 2 _ _ _ _ _ _ (first.reported told) (second.reported (first.kept.tells ∙ told)) (omega arith);
      listed = λ told cut. second.listed (first.kept.tells ∙ told) (first.listed cut);
      store = search rules;
      lent = search rules;
      later = search rules;
      faults = search rules;
    }

pub loop-slot-preserved : goal.loop-slot-preserved
loop-slot-preserved g c =
    let before = c.loop-slot.invariant in
    record {
      idle = search rules;
      kept = mends_then (g.V.Files.state c.args.files.now) (g.V.Files.state c.loop-slot.files) (g.V.Files.state c.mend_relation.new.files) before.kept c.in_ok-mend_relation.ensures.kept;
      reported = λ told. reports_then (2 + 2 * c.loop-slot.slot) 2 (2 + 2 * (c.loop-slot.slot + 1)) _ _ _ _ _ _ (before.reported told) (c.in_ok-mend_relation.ensures.reported (before.kept.tells ∙ told)) (omega arith);
      listed = λ told cut. c.in_ok-mend_relation.ensures.listed (before.kept.tells ∙ told) (before.listed told cut);
      store = search rules;
      lent = search rules;
      later = search rules;
      faults = search rules;
    }
