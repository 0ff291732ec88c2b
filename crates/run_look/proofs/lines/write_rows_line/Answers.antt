use Rattle.std.proofs.Common.{rules}
use Rattle.std.proofs.lemmas.Result.{on_err_weaker}
use Rattle.dump.proofs.LineTexts.{less_first, less_last, less_second}
use Rattle.run_look.proofs.Texts.{rows_parts}
use Rattle.run_look.proofs.lines.write_rows_line.Goals as goal

pub returns-in_err-write_schema-clause-failed : goal.returns-in_err-write_schema-clause-failed
returns-in_err-write_schema-clause-failed g c =
    let less = less_first (rows_parts c.args.schema.now c.args.live c.args.removed c.args.left) c.in_err-write_schema.ensures.failed in
    search (rules, less)

pub returns-in_err-write_count-clause-failed : goal.returns-in_err-write_count-clause-failed
returns-in_err-write_count-clause-failed g c =
    let less = less_second (g.K.Sink.held c.args.out.now) (rows_parts c.args.schema.now c.args.live c.args.removed c.args.left) c.in_ok-write_schema.ensures.written (rw c.from.ensures at c.in_err-write_count.ensures.failed) in
    search (rules, less)

pub returns-clause-failed : goal.returns-clause-failed
returns-clause-failed g c =
    on_err_weaker c.write_line_of_counts.result (λ w. less_last (g.K.Sink.held c.args.out.now) (rows_parts c.args.schema.now c.args.live c.args.removed c.args.left) c.in_ok-write_schema.ensures.written (rw c.from.ensures at c.in_ok-write_count.ensures.written) w)
    (rw (c.from-2.ensures, c.from-3.ensures) at c.write_line_of_counts.ensures.failed)
