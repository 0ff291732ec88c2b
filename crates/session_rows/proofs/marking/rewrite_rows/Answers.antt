use Rattle.std.proofs.Common.{rules, ◌≡◌, ℕ, List, ap, ◌∙◌, ◌≢◌, refl}
use Rattle.db_model.specs.Item.{selects}
use Rattle.lvm.proofs.Codes.{verdict-code}
use Rattle.db_model.specs.Row.{tuple_of}
use Rattle.cursor.specs.Remaining.{passes_code}
use Rattle.tuple_file.proofs.Answered.{answered_by}
use Rattle.tuple_file.specs.Tuples.{rows}
use Rattle.afl_base.proofs.CutLaws.{either_as}
use Rattle.afl_base.proofs.FrameLaws.{becomes_spares, spares_same}
use Rattle.session_rows.proofs.Cuts.{failed_too, removed_all, removed_none}
use Rattle.session_rows.proofs.Spans.{answers_within}
use Rattle.session_rows.proofs.marking.rewrite_rows.Goals as goal

pub returns-clause-rows : goal.returns-clause-rows
returns-clause-rows g c = λ told condition code within.
    let t = c.args.tuples.now in
    answered_by t.schema.attributes _ (selects t.schema.attributes condition) 0 (rows (g.V.Files.state c.args.files.now).files t) (rows (g.V.Files.state c.rewrite.new.files).files t)
    (c.in_ok-rewrite.ensures.suit told)
    (answers_within c.args.asked.now t.schema.attributes condition _ (rows (g.V.Files.state c.args.files.now).files t) within (λ tuple answer read.
    let h = read.2 in
    let e : answer ≡ passes_code c.args.code.now (tuple_of t.schema.attributes h.shown.now) = search (rules, h.says.met) in
    e ∙ ap (λ (bytes : List ℕ). passes_code c.args.code.now (tuple_of t.schema.attributes bytes)) h.shows ∙ ap (passes_code c.args.code.now) read.1 ∙ verdict-code t.schema.attributes tuple condition c.args.code.now code)) (c.in_ok-rewrite.ensures.rows told)

pub returns-in_err-rewrite-clause-cut : goal.returns-in_err-rewrite-clause-cut
returns-in_err-rewrite-clause-cut g c = λ cuts told failed condition code within.
    let old = g.V.Files.state c.args.files.now in
    let t = c.args.tuples.now in
    either_as old (c.in_err-rewrite.ensures.cut cuts told (failed_too _ _ c.from_residual.ensures.1 failed))
    (removed_none old old t condition (c.requires.holds.written told) (spares_same old (λ k. k ≢ t.file)) refl)
    (λ after said. removed_all old after t condition said.3 (becomes_spares old after t.file _ _ c.requires.holds.file.live said.0)
    (answered_by t.schema.attributes _ (selects t.schema.attributes condition) 0 (rows old.files t) (rows after.files t)
    said.2 (answers_within c.args.asked.now t.schema.attributes condition _ (rows old.files t) within (λ tuple answer read.
    let h = read.2 in
    let e : answer ≡ passes_code c.args.code.now (tuple_of t.schema.attributes h.shown.now) = search (rules, h.says.met) in
    e ∙ ap (λ (bytes : List ℕ). passes_code c.args.code.now (tuple_of t.schema.attributes bytes)) h.shows ∙ ap (passes_code c.args.code.now) read.1 ∙ verdict-code t.schema.attributes tuple condition c.args.code.now code)) said.1))
