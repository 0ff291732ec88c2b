use Rattle.std.proofs.Common.{◌∙◌, rules, ◌++◌, get_or, take}
use Rattle.std.proofs.lemmas.Result.{on_err_weaker, on_ok_weaker}
use Rattle.db_model.specs.ReplyText.{value_text, row_text}
use Rattle.reply_text.specs.Commas.{comma_before}
use Rattle.reply_text.proofs.Pieces.{held_line, held_more, joined, joined_more, less_item, less_line}
use Rattle.reply_text.proofs.rows.write_row.Goals as goal

pub loop-at-preserved : goal.loop-at-preserved
loop-at-preserved g c =
    let xs = c.as_slice-value-items.result.now in
    let at = c.loop-at.at in
    record {
      held = held_more (g.K.Sink.held c.args.out.now) (g.K.Sink.held c.loop-at.out) _ (joined value_text (take at xs)) (comma_before at ++ value_text (get_or xs at c.value-item.result)) _ c.loop-at.invariant.held (rw c.value-item.is at c.in_ok-write_field.ensures.written) (joined_more value_text xs at c.value-item.result c.loop-at-test.true);
      lent = c.in_ok-write_field.ensures.frame.lent ∙ c.loop-at.invariant.lent;
      faults = search rules;
    }

pub returns-in_err-write_field-clause-failed : goal.returns-in_err-write_field-clause-failed
unfolding row_text
returns-in_err-write_field-clause-failed g c =
    let xs = c.as_slice-value-items.result.now in
    let less = less_item value_text xs c.loop-at.at c.value-item.result (g.K.Sink.held c.args.out.now) (g.K.Sink.held c.loop-at.out) _ c.loop-at-test.true c.loop-at.invariant.held (rw c.value-item.is at c.in_err-write_field.ensures.failed) in
    rw (← c.as_slice-value-items.ensures.items) (search (rules, less))

pub returns-clause-written : goal.returns-clause-written
unfolding row_text
returns-clause-written g c =
    rw (← c.as_slice-value-items.ensures.items) (on_ok_weaker c.write_byte.result (λ e. held_line value_text c.as_slice-value-items.result.now c.loop-at.at (g.K.Sink.held c.args.out.now) (g.K.Sink.held c.loop-at.out) _ c.loop-at-test.false c.loop-at.invariant.held e) c.write_byte.ensures.written)

pub returns-clause-failed : goal.returns-clause-failed
unfolding row_text
returns-clause-failed g c =
    rw (← c.as_slice-value-items.ensures.items) (on_err_weaker c.write_byte.result (λ w. less_line value_text c.as_slice-value-items.result.now c.loop-at.at (g.K.Sink.held c.args.out.now) (g.K.Sink.held c.loop-at.out) _ c.loop-at-test.false c.loop-at.invariant.held w) c.write_byte.ensures.failed)
