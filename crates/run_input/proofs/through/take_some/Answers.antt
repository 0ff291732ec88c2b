use Rattle.std.proofs.Common.{◌<◌, ◌+◌, [], ◌∷◌, ◌++◌, length, take, drop, get_or, sym, ap, subst, ◌∙◌, arith}
use Rattle.std.proofs.lemmas.List.{take_more, take-append-drop}
use Rattle.run_input.specs.Through.{out_of}
use Rattle.run_input.proofs.through.take_some.Goals as goal
use Rattle.padded.proofs.Facts.{err_is}

pub returns-clause-takes : goal.returns-clause-takes
returns-clause-takes g c =
    let n = c.take_plain-plain.result in
    let bytes = c.args.bytes.now in
    let within : n < length c.args.bytes.now = omega (arith, c.take_plain-plain.ensures.within) in
    let before = out_of (g.K.Sink.held c.args.out.now) (g.K.Sink.faults c.args.out.now) in
    let behind = out_of (g.K.Sink.held c.take_byte.new.out) (g.K.Sink.faults c.take_byte.new.out) in
    subst (λ xs. g.T.Taker.Takes (c.args.taker.now, before) xs (c.take_byte.new.taker, behind)) (sym (take_more bytes n 0 within))
    (g.met.T.Taker.more (c.args.taker.now, before) (c.take_plain-plain.new.self, before) (c.take_byte.new.taker, behind) (take n bytes) (get_or bytes n 0 ∷ [])
    (c.take_plain-plain.ensures.takes before) c.in_ok-take_byte.ensures.takes)

pub returns-in_err-take_byte-clause-halts : goal.returns-in_err-take_byte-clause-halts
returns-in_err-take_byte-clause-halts g c =
    let n = c.take_plain-plain.result in
    let bytes = c.args.bytes.now in
    let within : n < length c.args.bytes.now = omega (arith, c.take_plain-plain.ensures.within) in
    let before = out_of (g.K.Sink.held c.args.out.now) (g.K.Sink.faults c.args.out.now) in
    let behind = out_of (g.K.Sink.held c.take_byte.new.out) (g.K.Sink.faults c.take_byte.new.out) in
    let halt = c.in_err-take_byte.field-0.0 in
    rw (err_is c.from_residual.result _ c.from_residual.ensures.1)
    (subst (λ xs. g.T.Taker.Halts (c.args.taker.now, before) xs (c.take_byte.new.taker, behind) halt)
    (ap (λ xs. xs ++ drop (n + 1) bytes) (sym (take_more bytes n 0 within)) ∙ take-append-drop (n + 1) bytes)
    (g.met.T.Taker.halts_before (c.args.taker.now, before) (c.take_byte.new.taker, behind) (take n bytes ++ get_or bytes n 0 ∷ []) (drop (n + 1) bytes) halt
    (g.met.T.Taker.halts_behind (c.args.taker.now, before) (c.take_plain-plain.new.self, before) (c.take_byte.new.taker, behind) (take n bytes) (get_or bytes n 0 ∷ []) halt
    (c.take_plain-plain.ensures.takes before) c.in_err-take_byte.ensures.halts)))
