use Rattle.std.proofs.Common.{rules}
use Rattle.std.proofs.lemmas.Result.{on_err_weaker, on_ok_weaker}
use Rattle.dump_model.specs.Script.{domain_named}
use Rattle.dump.proofs.LineTexts.{attribute_line, less_first, less_last, less_second, wrote_parts}
use Rattle.dump.proofs.lines.write_attribute_line.Goals as goal

pub returns-in_err-write_three-clause-failed : goal.returns-in_err-write_three-clause-failed
returns-in_err-write_three-clause-failed g c =
    let less = less_first (attribute_line c.args.relation.now c.args.attribute.now.name (domain_named c.args.attribute.now.domain)) (rw c.bytes.ensures.value at c.in_err-write_three.ensures.failed) in
    search (rules, less)

pub returns-in_err-write_domain-clause-failed : goal.returns-in_err-write_domain-clause-failed
returns-in_err-write_domain-clause-failed g c =
    let less = less_second (g.K.Sink.held c.args.out.now) (attribute_line c.args.relation.now c.args.attribute.now.name (domain_named c.args.attribute.now.domain)) (rw c.bytes.ensures.value at c.in_ok-write_three.ensures.written) c.in_err-write_domain.ensures.failed in
    search (rules, less)

pub returns-clause-written : goal.returns-clause-written
returns-clause-written g c =
    on_ok_weaker c.write_three-2.result (λ e. wrote_parts (g.K.Sink.held c.args.out.now) (attribute_line c.args.relation.now c.args.attribute.now.name (domain_named c.args.attribute.now.domain)) (rw c.bytes.ensures.value at c.in_ok-write_three.ensures.written) c.in_ok-write_domain.ensures.written e) (rw c.bytes-2.ensures.value at c.write_three-2.ensures.written)

pub returns-clause-failed : goal.returns-clause-failed
returns-clause-failed g c =
    on_err_weaker c.write_three-2.result (λ w. less_last (g.K.Sink.held c.args.out.now) (attribute_line c.args.relation.now c.args.attribute.now.name (domain_named c.args.attribute.now.domain)) (rw c.bytes.ensures.value at c.in_ok-write_three.ensures.written) c.in_ok-write_domain.ensures.written w) (rw c.bytes-2.ensures.value at c.write_three-2.ensures.failed)
