use Rattle.std.proofs.Common.{rules, ◌∙◌, ◌++◌, get_or, take}
use Rattle.db_model.specs.ReplyText.{value_text}
use Rattle.dump.specs.Parts.{comma_and_space}
use Rattle.dump_model.specs.Script.{values_text}
use Rattle.dump.proofs.ValueTexts.{less_value, values_more}
use Rattle.reply_text.proofs.Pieces.{held_more}
use Rattle.dump.proofs.values.write_values.Goals as goal

pub loop-at-preserved : goal.loop-at-preserved
loop-at-preserved g c =
    let xs = c.as_slice-value-items.result.now in
    let at = c.loop-at.at in
    record {
      held = held_more (g.K.Sink.held c.args.out.now) (g.K.Sink.held c.loop-at.out) _ (values_text (take at xs)) (comma_and_space at ++ value_text (get_or xs at c.value-item.result)) _ c.loop-at.invariant.held (rw c.value-item.is at c.in_ok-write_value.ensures.written) (values_more xs at c.value-item.result c.loop-at-test.true);
      lent = c.in_ok-write_value.ensures.frame.lent ∙ c.loop-at.invariant.lent;
      faults = search rules;
    }

pub returns-in_err-write_value-clause-failed : goal.returns-in_err-write_value-clause-failed
returns-in_err-write_value-clause-failed g c =
    let xs = c.as_slice-value-items.result.now in
    let less = less_value xs c.loop-at.at c.value-item.result (g.K.Sink.held c.args.out.now) (g.K.Sink.held c.loop-at.out) _ c.loop-at-test.true c.loop-at.invariant.held (rw c.value-item.is at c.in_err-write_value.ensures.failed) in
    rw (← c.as_slice-value-items.ensures.items) (search (rules, less))
