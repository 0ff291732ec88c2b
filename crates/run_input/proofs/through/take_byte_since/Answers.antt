use Rattle.std.proofs.Common.{rules, [], ◌∷◌, ap, ◌∙◌, ⊎_elim}
use Rattle.run_input.proofs.Gathering.{sent_halts, silent_halts}
use Rattle.run_input.proofs.through.take_byte_since.Goals as goal
use Rattle.padded.proofs.Facts.{err_is}

pub returns-in_err-send-clause-halts : goal.returns-in_err-send-clause-halts
returns-in_err-send-clause-halts g c =
    let g1 = c.take-answered.new.out in
    let g2 = c.send.new.gathered in
    let e = c.in_err-send.ensures in
    let done = ⊎_elim
    (λ same. silent_halts (λ o p. g.T.Taker.Takes (c.args.taker.now, o) (c.args.byte ∷ []) (c.take-answered.new.self, p)) (λ o p halt. g.T.Taker.Halts (c.args.taker.now, o) (c.args.byte ∷ []) (c.take-answered.new.self, p) halt)
    (g.K.Sink.held c.args.out.now) (g.K.Sink.held g1.out.now) (g.K.Sink.held g2.out.now) (g.K.Sink.faults c.args.out.now) (g.K.Sink.faults g1.out.now) (g.K.Sink.faults g2.out.now)
    c.args.waiting.now.bytes g1.waiting.now.bytes g2.waiting.now.bytes c.take-answered.result c.requires.none e.hands e.faultless c.take-answered.ensures.takes c.take-answered.ensures.halts
    c.in_err-send.field-0.0 (ap (λ s. s.waiting.now.bytes) same ∙ c.requires.none) e.sent)
    (λ reply. sent_halts (λ o p. g.T.Taker.Takes (c.args.taker.now, o) (c.args.byte ∷ []) (c.take-answered.new.self, p)) (λ o p halt. g.T.Taker.Halts (c.args.taker.now, o) (c.args.byte ∷ []) (c.take-answered.new.self, p) halt)
    (g.K.Sink.held c.args.out.now) (g.K.Sink.held g1.out.now) (g.K.Sink.held g2.out.now) (g.K.Sink.faults c.args.out.now) (g.K.Sink.faults g1.out.now) (g.K.Sink.faults g2.out.now)
    c.args.waiting.now.bytes g1.waiting.now.bytes g2.waiting.now.bytes c.take-answered.result c.requires.none e.hands e.faultless c.take-answered.ensures.takes c.take-answered.ensures.halts
    (λ a b now answer halt. g.met.T.Taker.sent (c.args.taker.now, a) (c.take-answered.new.self, b) now c.args.byte answer halt reply) (g1.grew (g.K.Sink.held c.args.out.now) c.requires.now) e.later c.in_err-send.field-0.0 e.sent)
    c.take-answered.ensures.silent in
    rw (err_is c.from_residual.result _ c.from_residual.ensures.1) (search (rules, done))
