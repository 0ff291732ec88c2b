use Rattle.std.proofs.Common.{◌≡◌, length}
use Rattle.buffered_sink.specs.Handing.{Hands}
use Rattle.buffered_sink.proofs.waiting.Waiting.hand_on.Given as goal

abbrev pub invariant-loop-self : goal.invariant-loop-self
invariant-loop-self g l = record {
  hands : Hands (g.K.Sink.held l.fn.out) (g.K.Sink.held l.out) l.fn.self.bytes l.self.bytes;
  lent : g.K.Sink.lent l.out ≡ g.K.Sink.lent l.fn.out;
  faults : g.K.Sink.faults l.out ≡ g.K.Sink.faults l.fn.out;
}

abbrev pub decreases-loop-self : goal.decreases-loop-self
decreases-loop-self g l = length l.self.bytes
