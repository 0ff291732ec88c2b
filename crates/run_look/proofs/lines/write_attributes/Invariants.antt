use Rattle.std.proofs.Common.{◌≡◌, take}
use Rattle.std.specs.Io.KnownBytes.{append_known}
use Rattle.run_look.specs.Text.{attribute_text, list_text}
use Rattle.run_look.proofs.lines.write_attributes.Given as goal

abbrev pub invariant-loop-at : goal.invariant-loop-at
invariant-loop-at g l = record {
  held : g.K.Sink.held l.out ≡ append_known (g.K.Sink.held l.fn.out) (list_text attribute_text (take l.at l.attributes));
  lent : g.K.Sink.lent l.out ≡ g.K.Sink.lent l.fn.out;
  faults : g.K.Sink.faults l.out ≡ g.K.Sink.faults l.fn.out;
}
