use Rattle.std.proofs.Common.{rules}
use Rattle.std.proofs.lemmas.Result.{on_err_weaker}
use Rattle.dump.proofs.LineTexts.{less_first, less_last, less_second}
use Rattle.run_look.proofs.Texts.{schema_parts}
use Rattle.run_look.proofs.lines.write_schema.Goals as goal

pub returns-in_err-write_three-clause-failed : goal.returns-in_err-write_three-clause-failed
returns-in_err-write_three-clause-failed g c =
    let less = less_first (schema_parts c.args.schema.now) (rw c.bytes.ensures.value at c.in_err-write_three.ensures.failed) in
    search (rules, less)

pub returns-in_err-write_attributes-clause-failed : goal.returns-in_err-write_attributes-clause-failed
returns-in_err-write_attributes-clause-failed g c =
    let less = less_second (g.K.Sink.held c.args.out.now) (schema_parts c.args.schema.now) (rw c.bytes.ensures.value at c.in_ok-write_three.ensures.written) (rw c.as_slice.ensures.items at c.in_err-write_attributes.ensures.failed) in
    search (rules, less)

pub returns-clause-failed : goal.returns-clause-failed
returns-clause-failed g c =
    on_err_weaker c.write_all.result (λ w. less_last (g.K.Sink.held c.args.out.now) (schema_parts c.args.schema.now) (rw c.bytes.ensures.value at c.in_ok-write_three.ensures.written) (rw c.as_slice.ensures.items at c.in_ok-write_attributes.ensures.written) w) c.write_all.ensures.failed
