use Rattle.std.proofs.Common.{◌≡◌, ◌-◌, ◌≤◌, IsTrue, take}
use Rattle.afl_base.specs.Files.{bytes_at}
use Rattle.stored_survey.proofs.begun.begins_with.Given as goal

abbrev pub invariant-loop-at : goal.invariant-loop-at
invariant-loop-at g l = record {
  inside : l.at ≤ l.size;
  front : IsTrue (g.V.Files.state l.fn.files).tells → take l.at (bytes_at (g.V.Files.state l.fn.files).files l.cat) ≡ take l.at l.whole;
  same : g.V.Files.state l.files ≡ g.V.Files.state l.fn.files;
  lent : g.V.Files.lent l.files ≡ g.V.Files.lent l.fn.files;
  later : g.V.Files.reads l.fn.files ≤ g.V.Files.reads l.files;
  faults : g.V.Files.faults l.files ≡ g.V.Files.faults l.fn.files;
}

abbrev pub decreases-loop-at : goal.decreases-loop-at
decreases-loop-at g l = l.size - l.at
