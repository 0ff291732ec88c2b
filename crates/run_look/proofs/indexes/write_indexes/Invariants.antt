use Rattle.std.proofs.Common.{◌≡◌, take}
use Rattle.std.specs.Io.KnownBytes.{append_known}
use Rattle.db_model.specs.Sound.{IsSoundDatabase}
use Rattle.run_look.specs.Text.{index_line_text, slot_texts}
use Rattle.run_look.proofs.indexes.write_indexes.Given as goal

abbrev pub invariant-loop-slot : goal.invariant-loop-slot
invariant-loop-slot g l = record {
  wrote : IsSoundDatabase l.session.database
      → g.K.Sink.held l.out ≡ append_known (g.K.Sink.held l.fn.out) (slot_texts (index_line_text l.session.database.relations) (take l.slot l.session.database.indexes));
  lent : g.K.Sink.lent l.out ≡ g.K.Sink.lent l.fn.out;
  faults : g.K.Sink.faults l.out ≡ g.K.Sink.faults l.fn.out;
}
