use Rattle.std.proofs.Common.{◌∙◌, inr, refl}
use Rattle.tuple_file.specs.Tuples.{rows}
use Rattle.session_rows.proofs.Marked.{all_removed}
use Rattle.afl_base.proofs.CutLaws.{mends_as}
use Rattle.session_rows.proofs.Cuts.{failed_too, removed_front}
use Rattle.session_rows.proofs.Spans.{selects_within}
use Rattle.session_rows.proofs.marking.remove_selected.Goals as goal

pub returns-in_ok-mark_slots-clause-rows : goal.returns-in_ok-mark_slots-clause-rows
returns-in_ok-mark_slots-clause-rows g c = λ told condition code is.
    let t = c.args.tuples.now in
    c.in_ok-mark_slots.ensures.rows told ∙ all_removed c.args.selected.now t.schema.attributes condition (rows (g.V.Files.state c.args.files.now).files t) c.if-selected-gt29.false is

pub returns-in_ok-rewrite_rows-clause-rows : goal.returns-in_ok-rewrite_rows-clause-rows
returns-in_ok-rewrite_rows-clause-rows g c = λ told condition code is.
    let t = c.args.tuples.now in
    c.in_ok-rewrite_rows.ensures.rows told condition code
    (selects_within c.args.selected.now c.span.result t.schema.attributes condition (rows (g.V.Files.state c.args.files.now).files t) c.span.ensures.first c.span.ensures.end is)

pub returns-in_err-rewrite_rows-clause-cut : goal.returns-in_err-rewrite_rows-clause-cut
returns-in_err-rewrite_rows-clause-cut g c = λ cuts told failed condition code is.
    let t = c.args.tuples.now in
    c.in_err-rewrite_rows.ensures.cut cuts told (failed_too _ _ c.from_residual.ensures.1 failed) condition code
    (selects_within c.args.selected.now c.span.result t.schema.attributes condition (rows (g.V.Files.state c.args.files.now).files t) c.span.ensures.first c.span.ensures.end is)

pub returns-in_err-mark_slots-clause-cut : goal.returns-in_err-mark_slots-clause-cut
returns-in_err-mark_slots-clause-cut g c = λ cuts told failed condition code is.
    mends_as (c.in_err-mark_slots.ensures.cut cuts told (failed_too _ _ c.from_residual-in_err-mark_slots.ensures.1 failed))
    (λ after m. removed_front (g.V.Files.state c.args.files.now) after c.args.tuples.now condition c.args.selected.now c.if-selected-gt29.false is m)

pub returns-in_ok-rewrite_rows-clause-spares : goal.returns-in_ok-rewrite_rows-clause-spares
returns-in_ok-rewrite_rows-clause-spares g c = λ told never. absurd (never _ (inr (c.if-selected-gt29.true, refl)))
