use Rattle.std.proofs.Common.{◌≡◌, ◌∙◌, rules, ap, sym, ◌++◌, ℕ, List, get_or, take}
use Rattle.std.proofs.lemmas.Result.{on_err_weaker, on_ok_weaker}
use Rattle.std.proofs.lemmas.Simd.{map-map}
use Rattle.std.specs.List.{join_with_byte}
use Rattle.db_model.specs.declared.values.Value.{Value}
use Rattle.db_model.specs.ReplyText.{line, row_text, value_text}
use Rattle.reply_text.specs.Commas.{comma_before}
use Rattle.reply_text.specs.Projected.{project, value_at}
use Rattle.reply_text.proofs.Pieces.{held_line, held_more, joined, joined_more, less_item, less_line}
use Rattle.reply_text.proofs.rows.write_projected.Goals as goal

-- the text of the value at a place
abbrev text_at : List Value → ℕ → List ℕ
text_at tuple place = value_text (value_at tuple place)

-- the line of the values is that of the texts at their places
line_is : (tuple : List Value) (places : List ℕ) → line (joined (text_at tuple) places) ≡ row_text (project places tuple)
unfolding row_text
line_is tuple places = ap (λ ts. line (join_with_byte 44 ts)) (sym (map-map value_text (value_at tuple) places))

pub loop-at-preserved : goal.loop-at-preserved
loop-at-preserved g c =
    let text = text_at c.args.tuple.now in
    let xs = c.args.places.now in
    let at = c.loop-at.at in
    record {
      held = held_more (g.K.Sink.held c.args.out.now) (g.K.Sink.held c.loop-at.out) _ (joined text (take at xs)) (comma_before at ++ text (get_or xs at 0)) _ c.loop-at.invariant.held c.in_ok-write_value_at.ensures.written (joined_more text xs at 0 c.loop-at-test.true);
      lent = c.in_ok-write_value_at.ensures.frame.lent ∙ c.loop-at.invariant.lent;
      faults = search rules;
    }

pub returns-in_err-write_value_at-clause-failed : goal.returns-in_err-write_value_at-clause-failed
returns-in_err-write_value_at-clause-failed g c =
    let text = text_at c.args.tuple.now in
    let xs = c.args.places.now in
    let less = less_item text xs c.loop-at.at 0 (g.K.Sink.held c.args.out.now) (g.K.Sink.held c.loop-at.out) _ c.loop-at-test.true c.loop-at.invariant.held c.in_err-write_value_at.ensures.failed in
    rw (← line_is c.args.tuple.now xs) (search (rules, less))

pub returns-clause-written : goal.returns-clause-written
returns-clause-written g c =
    let tuple = c.args.tuple.now in
    rw (← line_is tuple c.args.places.now) (on_ok_weaker c.write_byte.result (λ e. held_line (text_at tuple) c.args.places.now c.loop-at.at (g.K.Sink.held c.args.out.now) (g.K.Sink.held c.loop-at.out) _ c.loop-at-test.false c.loop-at.invariant.held e) c.write_byte.ensures.written)

pub returns-clause-failed : goal.returns-clause-failed
returns-clause-failed g c =
    let tuple = c.args.tuple.now in
    rw (← line_is tuple c.args.places.now) (on_err_weaker c.write_byte.result (λ w. less_line (text_at tuple) c.args.places.now c.loop-at.at (g.K.Sink.held c.args.out.now) (g.K.Sink.held c.loop-at.out) _ c.loop-at-test.false c.loop-at.invariant.held w) c.write_byte.ensures.failed)
