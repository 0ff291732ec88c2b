use Rattle.std.proofs.Common.{rules}
use Rattle.std.proofs.lemmas.Result.{on_err_weaker, on_ok_weaker}
use Rattle.dump.proofs.LineTexts.{row_line, less_first, less_last, less_second, wrote_parts}
use Rattle.dump.proofs.lines.write_row_line.Goals as goal

pub returns-in_err-write_all-clause-failed : goal.returns-in_err-write_all-clause-failed
returns-in_err-write_all-clause-failed g c =
    let less = less_first (row_line c.args.relation.now c.args.tuple.now) c.in_err-write_all.ensures.failed in
    search (rules, less)

pub returns-in_err-write_values-clause-failed : goal.returns-in_err-write_values-clause-failed
returns-in_err-write_values-clause-failed g c =
    let less = less_second (g.K.Sink.held c.args.out.now) (row_line c.args.relation.now c.args.tuple.now) c.in_ok-write_all.ensures.written c.in_err-write_values.ensures.failed in
    search (rules, less)

pub returns-clause-written : goal.returns-clause-written
returns-clause-written g c =
    on_ok_weaker c.write_three.result (λ e. wrote_parts (g.K.Sink.held c.args.out.now) (row_line c.args.relation.now c.args.tuple.now) c.in_ok-write_all.ensures.written c.in_ok-write_values.ensures.written e) (rw c.bytes.ensures.value at c.write_three.ensures.written)

pub returns-clause-failed : goal.returns-clause-failed
returns-clause-failed g c =
    on_err_weaker c.write_three.result (λ w. less_last (g.K.Sink.held c.args.out.now) (row_line c.args.relation.now c.args.tuple.now) c.in_ok-write_all.ensures.written c.in_ok-write_values.ensures.written w) (rw c.bytes.ensures.value at c.write_three.ensures.failed)
