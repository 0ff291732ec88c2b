use Rattle.std.proofs.Common.{◌≡◌, ◌+◌, ◌*◌, ◌≤◌, IsTrue, take}
use Rattle.std.specs.Io.KnownBytes.{append_known}
use Rattle.db_model.specs.Sound.{IsSoundDatabase}
use Rattle.db_model.specs.Step.{slots_limit}
use Rattle.dump.specs.Parts.{slots_of_all}
use Rattle.dump.specs.Unchanged.{IsAsBefore}
use Rattle.run_look.specs.Text.{relation_line, slot_texts}
use Rattle.run_look.proofs.relations.write_relations.Given as goal

abbrev pub invariant-loop-slot : goal.invariant-loop-slot
invariant-loop-slot g l = record {
  wrote : IsTrue (g.V.Files.state l.fn.session.files).tells → IsSoundDatabase l.fn.session.database
      → g.K.Sink.held l.out ≡ append_known (g.K.Sink.held l.fn.out) (slot_texts (relation_line (slots_limit l.fn.session.database.version)) (take l.slot l.fn.session.database.relations));
  same : IsAsBefore g.V.Files.state l.fn.session l.session;
  reads : g.V.Files.reads l.session.files ≤ g.V.Files.reads l.fn.session.files + 6 * slots_of_all (take l.slot l.fn.session.database.relations);
  files_lent : g.V.Files.lent l.session.files ≡ g.V.Files.lent l.fn.session.files;
  reads_later : g.V.Files.reads l.fn.session.files ≤ g.V.Files.reads l.session.files;
  later : g.V.Files.faults l.fn.session.files ≤ g.V.Files.faults l.session.files;
  lent : g.K.Sink.lent l.out ≡ g.K.Sink.lent l.fn.out;
  faults : g.K.Sink.faults l.out ≡ g.K.Sink.faults l.fn.out;
}
