use Rattle.std.proofs.Common.{◌≡◌, ◌≤◌, false, length, IsTrue}
use Rattle.db_model.specs.Workload.{first_commands}
use Rattle.run_generated.specs.Counted.{Counted}
use Rattle.run_generated.proofs.counting.carry_out.Given as goal

abbrev pub invariant-loop-k : goal.invariant-loop-k
invariant-loop-k g l = record {
  going : l.session.stopped ≡ false;
  kept : l.fn.session.lost ≡ false → l.session.lost ≡ false;
  tells : (g.V.Files.state l.session.files).tells ≡ (g.V.Files.state l.fn.session.files).tells;
  counted : IsTrue (g.V.Files.state l.fn.session.files).tells → Counted (first_commands l.seed l.k) l.fn.session.database l.session.database l.tally;
  rows : IsTrue (g.V.Files.state l.fn.session.files).tells → l.tally.rows ≤ l.k;
  commands : l.tally.commands ≡ l.k;
  store : length (g.V.Files.state l.session.files).store ≡ length (g.V.Files.state l.fn.session.files).store;
  lent : g.V.Files.lent l.session.files ≡ g.V.Files.lent l.fn.session.files;
  faults : g.V.Files.faults l.fn.session.files ≤ g.V.Files.faults l.session.files;
}
