use Rattle.std.proofs.Common.{[], ◌∷◌, ◌++◌}
use Rattle.db_model.specs.ReplyText.{refusal_text}
use Rattle.padded.proofs.Facts.{on_err}
use Rattle.reply_text.proofs.Pieces.{less_behind, less_front, less_third}
use Rattle.serve.proofs.replies.refuse.Goals as goal

pub returns-in_err-write_all-clause-failed : goal.returns-in_err-write_all-clause-failed
returns-in_err-write_all-clause-failed g c =
    on_err c.from_residual.result (less_front (g.K.Sink.held c.args.out.now) (g.K.Sink.held c.write_all.new.out) (c.args.client ∷ []) (refusal_text c.args.refusal.now ++ 192 ∷ []) c.in_err-write_all.ensures.failed)

pub returns-in_err-write_refusal-clause-failed : goal.returns-in_err-write_refusal-clause-failed
returns-in_err-write_refusal-clause-failed g c =
    let text = refusal_text c.args.refusal.now in
    on_err c.from_residual-in_err-write_refusal.result (less_behind (g.K.Sink.held c.args.out.now) (g.K.Sink.held c.write_all.new.out) (g.K.Sink.held c.write_refusal.new.out) (c.args.client ∷ []) (text ++ 192 ∷ []) c.in_ok-write_all.ensures.written
    (less_front (g.K.Sink.held c.write_all.new.out) (g.K.Sink.held c.write_refusal.new.out) text (192 ∷ []) c.in_err-write_refusal.ensures.failed))

pub returns-in_err-write_all-2-clause-failed : goal.returns-in_err-write_all-2-clause-failed
returns-in_err-write_all-2-clause-failed g c =
    on_err c.from_residual-in_err-write_all-2.result (less_third (g.K.Sink.held c.args.out.now) (g.K.Sink.held c.write_all.new.out) (g.K.Sink.held c.write_refusal.new.out) (g.K.Sink.held c.write_all-2.new.out) (c.args.client ∷ []) (refusal_text c.args.refusal.now) (192 ∷ [])
    c.in_ok-write_all.ensures.written c.in_ok-write_refusal.ensures.written c.in_err-write_all-2.ensures.failed)
