use Rattle.std.proofs.Common.{◌≤◌, [], ◌++◌, take, refl, sym, ap, ◌∙◌, arith, inl, inr}
use Rattle.std.proofs.lemmas.List.{length-append, length-take}
use Rattle.std.specs.Io.KnownBytes.{prepend_known}
use Rattle.run_input.specs.Through.{out_of}
use Rattle.run_input.proofs.Known.{prepend_twice, prepend_nothing}
use Rattle.run_input.proofs.through.take_through.Goals as goal

pub reads-init : goal.reads-init
reads-init g c = record {
  came = [];
  left = sym (prepend_nothing (g.S.Source.left c.args.input.now) [] 0 refl);
  many = refl;
  limit = omega arith;
  takes = g.met.T.Taker.none (c.args.taker.now, out_of (g.K.Sink.held c.args.out.now) (g.K.Sink.faults c.args.out.now));
  reads = omega arith;
  faults = refl;
  stays = g.met.T.Taker.stayed c.args.taker.now;
  none = c.new-waiting.ensures.none;
  lent = refl;
}

pub returns-then-taken-eq-LIMIT-clause-through : goal.returns-then-taken-eq-LIMIT-clause-through
returns-then-taken-eq-LIMIT-clause-through g c =
    let l = c.reads.invariant in
    let chunk = take c.in-Ok.n c.read_front.new.buffer in
    record {
      came = l.came;
      more = chunk;
      left = l.left ∙ ap (λ k. prepend_known l.came k) c.in-Ok.ensures.bytes ∙ prepend_twice (g.S.Source.left c.read_front.new.input) l.came chunk;
      reads = omega (arith, l.reads, c.in-Ok.ensures.counted);
      many = omega (arith, l.many);
      one = omega (arith, length-take c.in-Ok.n c.read_front.new.buffer, c.in-Ok.ensures.within);
      takes = l.takes;
    }

pub returns-in-Err-take_all-clause-through : goal.returns-in-Err-take_all-clause-through
returns-in-Err-take_all-clause-through g c =
    let l = c.reads.invariant in
    let chunk = take c.in-Ok.n c.read_front.new.buffer in
    let within : c.in-Ok.n ≤ 512 = omega (arith, c.in-Ok.ensures.within) in
    inl (record {
      came = l.came ++ chunk;
      left = l.left ∙ ap (λ k. prepend_known l.came k) c.in-Ok.ensures.bytes ∙ prepend_twice (g.S.Source.left c.read_front.new.input) l.came chunk;
      reads = omega (arith, l.reads, c.in-Ok.ensures.counted, length-append l.came chunk, length-take c.in-Ok.n c.read_front.new.buffer, within);
      few = omega (arith, length-append l.came chunk, length-take c.in-Ok.n c.read_front.new.buffer, l.many, l.limit, c.in-Ok.ensures.within);
      halts = g.met.T.Taker.halts_behind (c.args.taker.now, out_of (g.K.Sink.held c.args.out.now) (g.K.Sink.faults c.args.out.now)) (c.reads.taker, out_of (g.K.Sink.held c.reads.out) (g.K.Sink.faults c.reads.out)) (c.take_all.new.taker, out_of (g.K.Sink.held c.take_all.new.out) (g.K.Sink.faults c.take_all.new.out)) l.came chunk c.in-Err-take_all.halt l.takes c.in-Err-take_all.ensures.halts;
      before = l.came;
      last = chunk;
      split = refl;
      taken = (c.reads.taker, out_of (g.K.Sink.held c.reads.out) (g.K.Sink.faults c.reads.out));
      takes = l.takes;
      earlier = omega (arith, l.reads, c.in-Ok.ensures.counted);
    })

pub reads-preserved : goal.reads-preserved
reads-preserved g c =
    let l = c.reads.invariant in
    let chunk = take c.in-Ok.n c.read_front.new.buffer in
    let within : c.in-Ok.n ≤ 512 = omega (arith, c.in-Ok.ensures.within) in
    record {
      came = l.came ++ chunk;
      left = l.left ∙ ap (λ k. prepend_known l.came k) c.in-Ok.ensures.bytes ∙ prepend_twice (g.S.Source.left c.read_front.new.input) l.came chunk;
      many = omega (arith, length-append l.came chunk, length-take c.in-Ok.n c.read_front.new.buffer, l.many);
      limit = omega (arith, c.in-Ok.ensures.within);
      takes = g.met.T.Taker.more (c.args.taker.now, out_of (g.K.Sink.held c.args.out.now) (g.K.Sink.faults c.args.out.now)) (c.reads.taker, out_of (g.K.Sink.held c.reads.out) (g.K.Sink.faults c.reads.out)) (c.take_all.new.taker, out_of (g.K.Sink.held c.take_all.new.out) (g.K.Sink.faults c.take_all.new.out)) l.came chunk l.takes c.in-Ok-take_all.ensures.takes;
      reads = omega (arith, l.reads, c.in-Ok.ensures.counted, length-append l.came chunk, length-take c.in-Ok.n c.read_front.new.buffer, within);
      faults = c.in-Ok.ensures.faultless ∙ l.faults;
      stays = g.met.T.Taker.stayed_on c.args.taker.now c.reads.taker c.take_all.new.taker l.stays c.in-Ok-take_all.ensures.stays;
      none = c.in-Ok-take_all.ensures.none;
      lent = c.in-Ok-take_all.ensures.lent ∙ l.lent;
    }

pub returns-in-Ok-take_end-clause-through : goal.returns-in-Ok-take_end-clause-through
returns-in-Ok-take_end-clause-through g c =
    let l = c.reads.invariant in
    record {
      came = l.came;
      left = l.left ∙ ap (λ k. prepend_known l.came k) (c.in-Ok.ensures.bytes ∙ prepend_nothing (g.S.Source.left c.read_front.new.input) c.read_front.new.buffer c.in-Ok.n c.if-n-eq0.true);
      reads = omega (arith, l.reads, c.in-Ok.ensures.counted);
      at_end = c.in-Ok.ensures.end c.if-n-eq0.true;
      few = omega (arith, l.many, l.limit);
      last = (c.reads.taker, out_of (g.K.Sink.held c.reads.out) (g.K.Sink.faults c.reads.out));
      takes = l.takes;
      ends = c.in-Ok-take_end.ensures.ends;
    }

pub returns-in-Err-clause-through : goal.returns-in-Err-clause-through
returns-in-Err-clause-through g c =
    let l = c.reads.invariant in
    inr (record {
      came = l.came;
      left = l.left ∙ ap (λ k. prepend_known l.came k) (c.in-Ok.ensures.bytes ∙ prepend_nothing (g.S.Source.left c.read_front.new.input) c.read_front.new.buffer c.in-Ok.n c.if-n-eq0.true);
      reads = omega (arith, l.reads, c.in-Ok.ensures.counted);
      at_end = c.in-Ok.ensures.end c.if-n-eq0.true;
      few = omega (arith, l.many, l.limit);
      last = (c.reads.taker, out_of (g.K.Sink.held c.reads.out) (g.K.Sink.faults c.reads.out));
      takes = l.takes;
      halts = c.in-Err.ensures.halts;
    })
