use Rattle.std.proofs.Common.{◌+◌, drop, ap, ◌∙◌, rules}
use Rattle.std.specs.List.{slice_range}
use Rattle.buffered_sink.proofs.Cells.{hands_more, range_less}
use Rattle.buffered_sink.proofs.waiting.Waiting.hand_on.Goals as goal

pub loop-self-preserved : goal.loop-self-preserved
loop-self-preserved g c =
    let own = c.self.inside in
    let n = c.in-Ok.taken in
    let waits = c.loop-self.self.bytes in
    let is = ap (λ k. k.bytes) c.self.view_is in
    record {
      hands = hands_more (g.K.Sink.held c.args.out.now) (g.K.Sink.held c.loop-self.out) (g.K.Sink.held c.offer.new.out) c.args.self.now.bytes waits (slice_range own.bytes (own.from + n) own.to) n c.loop-self.invariant.hands c.in-Ok.ensures.bytes (range_less own.bytes own.from own.to n ∙ ap (λ bytes. drop n bytes) is);
      lent = c.in-Ok.ensures.frame.lent ∙ c.loop-self.invariant.lent;
      faults = search rules;
    }
