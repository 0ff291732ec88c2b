use Rattle.std.proofs.Common.{◌≡◌, ◌+◌, ◌*◌, ◌≤◌, IsTrue, take}
use Rattle.db_model.specs.Sound.{IsSoundDatabase}
use Rattle.dump.specs.Unchanged.{IsAsBefore}
use Rattle.run_look.specs.Text.{live_count}
use Rattle.run_look.proofs.rows.count_live.Given as goal
use Rattle.space_model.specs.Enough.{rows_in}

abbrev pub invariant-loop-at : goal.invariant-loop-at
invariant-loop-at g l = record {
  counted : IsTrue (g.V.Files.state l.fn.session.files).tells → IsSoundDatabase l.fn.session.database
      → l.live ≡ live_count (take l.at (rows_in l.fn.session.database l.id));
  few : l.live ≤ l.at;
  same : IsAsBefore g.V.Files.state l.fn.session l.session;
  reads : g.V.Files.reads l.session.files ≤ g.V.Files.reads l.fn.session.files + 6 * l.at;
  lent : g.V.Files.lent l.session.files ≡ g.V.Files.lent l.fn.session.files;
  reads_later : g.V.Files.reads l.fn.session.files ≤ g.V.Files.reads l.session.files;
  later : g.V.Files.faults l.session.files ≡ g.V.Files.faults l.fn.session.files;
}
