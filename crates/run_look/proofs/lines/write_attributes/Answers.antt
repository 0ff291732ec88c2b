use Rattle.std.proofs.Common.{rules, ◌∙◌, ◌++◌, get_or, take}
use Rattle.dump.specs.Parts.{comma_and_space}
use Rattle.run_look.specs.Text.{attribute_text, list_text}
use Rattle.run_look.proofs.Lists.{less_listed, listed_more}
use Rattle.run_look.proofs.lines.write_attributes.Goals as goal
use Rattle.reply_text.proofs.Pieces.{held_more}

pub loop-at-preserved : goal.loop-at-preserved
loop-at-preserved g c =
    let item = c.index-attributes-at in
    let xs = c.args.attributes.now in
    let at = c.loop-at.at in
    record {
      held = held_more (g.K.Sink.held c.args.out.now) (g.K.Sink.held c.loop-at.out) _ (list_text attribute_text (take at xs)) (comma_and_space at ++ attribute_text (get_or xs at item.result)) _ c.loop-at.invariant.held
          (rw item.is at c.in_ok-write_attribute.ensures.written) (listed_more attribute_text xs at item.result c.loop-at-test.true);
      lent = c.in_ok-write_attribute.ensures.frame.lent ∙ c.loop-at.invariant.lent;
      faults = search rules;
    }

pub returns-in_err-write_attribute-clause-failed : goal.returns-in_err-write_attribute-clause-failed
returns-in_err-write_attribute-clause-failed g c =
    let item = c.index-attributes-at in
    let less = less_listed attribute_text c.args.attributes.now c.loop-at.at item.result c.loop-at-test.true (g.K.Sink.held c.args.out.now) (g.K.Sink.held c.loop-at.out) _ c.loop-at.invariant.held (rw item.is at c.in_err-write_attribute.ensures.failed) in
    search (rules, less)
