use Rattle.std.proofs.Common.{◌≤◌, ◌-◌, ◌++◌, length, take, drop, sym, ap, subst, ◌∙◌, arith}
use Rattle.std.proofs.Math.Seq.{take-add}
use Rattle.std.proofs.lemmas.List.{length-drop, take_rest, take-append-drop}
use Rattle.run_input.specs.Through.{out_of}
use Rattle.run_input.proofs.through.take_all.Goals as goal
use Rattle.padded.proofs.Facts.{err_is}

pub loop-taken-preserved : goal.loop-taken-preserved
loop-taken-preserved g c =
    let l = c.loop-taken in
    let n = c.in_ok-taken.field-0 in
    let bytes = c.args.bytes.now in
    let rest = take_rest bytes l.taken in
    let before = out_of (g.K.Sink.held c.args.out.now) (g.K.Sink.faults c.args.out.now) in
    let now = out_of (g.K.Sink.held l.out) (g.K.Sink.faults l.out) in
    let behind = out_of (g.K.Sink.held c.take_some.new.out) (g.K.Sink.faults c.take_some.new.out) in
    let takes = subst (λ xs. g.T.Taker.Takes (l.taker, now) (take n xs) (c.take_some.new.taker, behind)) rest c.in_ok-taken.ensures.takes in
    let few : n ≤ length (drop l.taken c.args.bytes.now) = subst (λ xs. n ≤ length xs) rest c.in_ok-taken.ensures.within in
    record {
      within = omega (arith, l.invariant.within, few, length-drop l.taken c.args.bytes.now);
      takes = subst (λ xs. g.T.Taker.Takes (c.args.taker.now, before) xs (c.take_some.new.taker, behind)) (sym (take-add l.taken n bytes))
          (g.met.T.Taker.more (c.args.taker.now, before) (l.taker, now) (c.take_some.new.taker, behind) (take l.taken bytes) (take n (drop l.taken bytes)) l.invariant.takes takes);
      stays = g.met.T.Taker.stayed_on c.args.taker.now l.taker c.take_some.new.taker l.invariant.stays c.in_ok-taken.ensures.stays;
      none = c.in_ok-taken.ensures.none;
      lent = c.in_ok-taken.ensures.lent ∙ l.invariant.lent;
    }

pub returns-in_err-taken-clause-halts : goal.returns-in_err-taken-clause-halts
returns-in_err-taken-clause-halts g c =
    let l = c.loop-taken in
    let bytes = c.args.bytes.now in
    let before = out_of (g.K.Sink.held c.args.out.now) (g.K.Sink.faults c.args.out.now) in
    let now = out_of (g.K.Sink.held l.out) (g.K.Sink.faults l.out) in
    let behind = out_of (g.K.Sink.held c.take_some.new.out) (g.K.Sink.faults c.take_some.new.out) in
    let halt = c.in_err-taken.field-0.0 in
    rw (err_is c.from_residual.result _ c.from_residual.ensures.1)
    (subst (λ xs. g.T.Taker.Halts (c.args.taker.now, before) xs (c.take_some.new.taker, behind) halt)
    (ap (λ xs. take l.taken bytes ++ xs) (take_rest bytes l.taken) ∙ take-append-drop l.taken bytes)
    (g.met.T.Taker.halts_behind (c.args.taker.now, before) (l.taker, now) (c.take_some.new.taker, behind) (take l.taken bytes) (take (length bytes - l.taken) (drop l.taken bytes)) halt l.invariant.takes c.in_err-taken.ensures.halts))
