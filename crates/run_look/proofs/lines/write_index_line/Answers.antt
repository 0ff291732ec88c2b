use Rattle.std.proofs.Common.{rules}
use Rattle.std.proofs.lemmas.Result.{on_err_weaker}
use Rattle.dump.proofs.LineTexts.{less_first, less_last, less_second}
use Rattle.run_look.proofs.Texts.{index_parts}
use Rattle.run_look.proofs.lines.write_index_line.Goals as goal

pub returns-in_err-write_three-clause-failed : goal.returns-in_err-write_three-clause-failed
returns-in_err-write_three-clause-failed g c =
    let less = less_first (index_parts c.args.relation.now c.args.attribute.now c.args.kind.now) (rw c.bytes.ensures.value at c.in_err-write_three.ensures.failed) in
    search (rules, less)

pub returns-in_err-write_all-clause-failed : goal.returns-in_err-write_all-clause-failed
returns-in_err-write_all-clause-failed g c =
    let less = less_second (g.K.Sink.held c.args.out.now) (index_parts c.args.relation.now c.args.attribute.now c.args.kind.now) (rw c.bytes.ensures.value at c.in_ok-write_three.ensures.written) (rw c.bytes-2.ensures.value at c.in_err-write_all.ensures.failed) in
    search (rules, less)

pub returns-clause-failed : goal.returns-clause-failed
returns-clause-failed g c =
    on_err_weaker c.write_three-2.result (λ w. less_last (g.K.Sink.held c.args.out.now) (index_parts c.args.relation.now c.args.attribute.now c.args.kind.now) (rw c.bytes.ensures.value at c.in_ok-write_three.ensures.written) (rw c.bytes-2.ensures.value at c.in_ok-write_all.ensures.written) w) (rw c.kind_text.ensures at c.write_three-2.ensures.failed)
