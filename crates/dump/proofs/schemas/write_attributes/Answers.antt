use Rattle.std.proofs.Common.{rules, ◌∙◌}
use Rattle.dump.specs.Parts.{attribute_line}
use Rattle.dump.proofs.Items.{held_item, less_item}
use Rattle.dump.proofs.schemas.write_attributes.Goals as goal

pub loop-at-preserved : goal.loop-at-preserved
loop-at-preserved g c =
    let item = c.index-attributes-at in
    record {
      held = held_item (attribute_line c.args.relation.now) c.args.attributes.now c.loop-at.at item.result c.loop-at-test.true (g.K.Sink.held c.args.out.now) c.loop-at.invariant.held (rw item.is at c.in_ok-write_attribute_line.ensures.written);
      lent = c.in_ok-write_attribute_line.ensures.frame.lent ∙ c.loop-at.invariant.lent;
      faults = search rules;
    }

pub returns-in_err-write_attribute_line-clause-failed : goal.returns-in_err-write_attribute_line-clause-failed
returns-in_err-write_attribute_line-clause-failed g c =
    let item = c.index-attributes-at in
    let less = less_item (attribute_line c.args.relation.now) c.args.attributes.now c.loop-at.at item.result c.loop-at-test.true (g.K.Sink.held c.args.out.now) (g.K.Sink.held c.loop-at.out) _ c.loop-at.invariant.held (rw item.is at c.in_err-write_attribute_line.ensures.failed) in
    search (rules, less)
