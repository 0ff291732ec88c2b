use Rattle.std.proofs.Common.{◌∙◌, rules, ◌++◌, get_or, take, None}
use Rattle.std.proofs.lemmas.Result.{on_err_weaker, on_ok_weaker}
use Rattle.db_model.specs.ReplyText.{number_text, numbers_text}
use Rattle.reply_text.specs.Commas.{comma_before}
use Rattle.reply_text.proofs.Pieces.{held_line, held_more, joined, joined_more, less_item, less_line}
use Rattle.reply_text.proofs.rows.write_numbers.Goals as goal

pub loop-at-preserved : goal.loop-at-preserved
loop-at-preserved g c =
    let xs = c.args.numbers.now in
    let at = c.loop-at.at in
    record {
      held = held_more (g.K.Sink.held c.args.out.now) (g.K.Sink.held c.loop-at.out) _ (joined number_text (take at xs)) (comma_before at ++ number_text (get_or xs at None)) _ c.loop-at.invariant.held c.in_ok-write_aggregate.ensures.written (joined_more number_text xs at None c.loop-at-test.true);
      lent = c.in_ok-write_aggregate.ensures.frame.lent ∙ c.loop-at.invariant.lent;
      faults = search rules;
    }

pub returns-in_err-write_aggregate-clause-failed : goal.returns-in_err-write_aggregate-clause-failed
unfolding numbers_text
returns-in_err-write_aggregate-clause-failed g c =
    let xs = c.args.numbers.now in
    let less = less_item number_text xs c.loop-at.at None (g.K.Sink.held c.args.out.now) (g.K.Sink.held c.loop-at.out) _ c.loop-at-test.true c.loop-at.invariant.held c.in_err-write_aggregate.ensures.failed in
    search (rules, less)

pub returns-clause-written : goal.returns-clause-written
unfolding numbers_text
returns-clause-written g c =
    on_ok_weaker c.write_byte.result (λ e. held_line number_text c.args.numbers.now c.loop-at.at (g.K.Sink.held c.args.out.now) (g.K.Sink.held c.loop-at.out) _ c.loop-at-test.false c.loop-at.invariant.held e) c.write_byte.ensures.written

pub returns-clause-failed : goal.returns-clause-failed
unfolding numbers_text
returns-clause-failed g c =
    on_err_weaker c.write_byte.result (λ w. less_line number_text c.args.numbers.now c.loop-at.at (g.K.Sink.held c.args.out.now) (g.K.Sink.held c.loop-at.out) _ c.loop-at-test.false c.loop-at.invariant.held w) c.write_byte.ensures.failed
