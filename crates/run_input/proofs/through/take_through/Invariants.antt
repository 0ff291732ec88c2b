use Rattle.std.proofs.Common.{◌≡◌, ◌+◌, ◌≤◌, ◌-◌, List, [], ℕ, length}
use Rattle.std.specs.Io.KnownBytes.{prepend_known}
use Rattle.run_input.specs.Through.{out_of}
use Rattle.run_input.proofs.through.take_through.Given as goal

abbrev pub invariant-reads : goal.invariant-reads
invariant-reads g l = record {
  came : List ℕ;
  left : g.S.Source.left l.fn.input ≡ prepend_known came (g.S.Source.left l.input);
  many : length came ≡ l.taken;
  limit : l.taken ≤ 16777216;
  takes : g.T.Taker.Takes (l.fn.taker, out_of (g.K.Sink.held l.fn.out) (g.K.Sink.faults l.fn.out)) came (l.taker, out_of (g.K.Sink.held l.out) (g.K.Sink.faults l.out));
  reads : g.S.Source.reads l.input ≤ g.S.Source.reads l.fn.input + length came;
  faults : g.S.Source.faults l.input ≡ g.S.Source.faults l.fn.input;
  stays : g.T.Taker.stays l.fn.taker l.taker;
  none : l.waiting.bytes ≡ [];
  lent : g.K.Sink.lent l.out ≡ g.K.Sink.lent l.fn.out;
}

abbrev pub decreases-reads : goal.decreases-reads
decreases-reads g l = 16777216 - l.taken
