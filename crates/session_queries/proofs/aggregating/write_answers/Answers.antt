use Rattle.std.proofs.Common.{ℕ, List, sym, subst}
use Rattle.db_model.specs.ReplyText.{count_text, numbers_text, text}
use Rattle.db_model.specs.Step.{Numbers}
use Rattle.db_model.proofs.ReplyTexts.{text_numbers}
use Rattle.padded.proofs.Facts.{on_err}
use Rattle.reply_text.specs.WroteLess.{WroteLess}
use Rattle.reply_text.proofs.Pieces.{held_more, less_behind, less_front}
use Rattle.session_queries.proofs.aggregating.write_answers.Goals as goal

pub returns-in_err-write_numbers-clause-failed : goal.returns-in_err-write_numbers-clause-failed
returns-in_err-write_numbers-clause-failed g c =
    let h0 = g.K.Sink.held c.args.out.now in
    let h1 = g.K.Sink.held c.write_numbers.new.out in
    on_err c.from_residual.result
    (subst (λ (bs : List ℕ). WroteLess h0 h1 bs) (sym (text_numbers c.args.numbers.now))
    (less_front h0 h1 (numbers_text c.args.numbers.now) (count_text 1) c.in_err-write_numbers.ensures.failed))

pub returns-clause-written : goal.returns-clause-written
returns-clause-written g c =
    held_more (g.K.Sink.held c.args.out.now) (g.K.Sink.held c.write_numbers.new.out) (g.K.Sink.held c.write_rows.new.out) (numbers_text c.args.numbers.now) (count_text 1)
    (text (Numbers c.args.numbers.now)) c.in_ok-write_numbers.ensures.written c.in_ok-write_rows.ensures.written (text_numbers c.args.numbers.now)

pub returns-in_err-write_rows-clause-failed : goal.returns-in_err-write_rows-clause-failed
returns-in_err-write_rows-clause-failed g c =
    let h0 = g.K.Sink.held c.args.out.now in
    let h1 = g.K.Sink.held c.write_numbers.new.out in
    let h2 = g.K.Sink.held c.write_rows.new.out in
    on_err c.from_residual-in_err-write_rows.result
    (subst (λ (bs : List ℕ). WroteLess h0 h2 bs) (sym (text_numbers c.args.numbers.now))
    (less_behind h0 h1 h2 (numbers_text c.args.numbers.now) (count_text 1) c.in_ok-write_numbers.ensures.written c.in_err-write_rows.ensures.failed))
