use Rattle.std.proofs.Common.{◌≡◌, ◌≤◌, ◌-◌, [], length, take}
use Rattle.run_input.specs.Through.{out_of}
use Rattle.run_input.proofs.through.take_all.Given as goal

abbrev pub invariant-loop-taken : goal.invariant-loop-taken
invariant-loop-taken g l = record {
  within : l.taken ≤ length l.bytes;
  takes : g.T.Taker.Takes (l.fn.taker, out_of (g.K.Sink.held l.fn.out) (g.K.Sink.faults l.fn.out)) (take l.taken l.bytes)
      (l.taker, out_of (g.K.Sink.held l.out) (g.K.Sink.faults l.out));
  stays : g.T.Taker.stays l.fn.taker l.taker;
  none : l.waiting.bytes ≡ [];
  lent : g.K.Sink.lent l.out ≡ g.K.Sink.lent l.fn.out;
}

abbrev pub decreases-loop-taken : goal.decreases-loop-taken
decreases-loop-taken g l = length l.bytes - l.taken
