use Rattle.std.proofs.Common.{◌≡◌, ◌+◌, ◌-◌, ◌*◌, ◌<◌, ◌≤◌, ℕ, IsTrue, length}
use Rattle.std.specs.Prelude.{◌%◌}
use Rattle.afl_base.specs.Files.{bytes_at}
use Rattle.index_tree.specs.TreeFile.{bucket_place, slot_at}
use Rattle.stored_survey.proofs.Named.{AreNamedBelow}
use Rattle.stored_survey.proofs.indexes.names_slots_only.Given as goal

abbrev pub invariant-loop-at : goal.invariant-loop-at
invariant-loop-at g l =
    let start = g.V.Files.state l.fn.files in
    record {
      same : g.V.Files.state l.files ≡ g.V.Files.state l.fn.files;
      from : 683 ≤ l.at;
      at_bucket : l.at < l.size → (l.at - 683) % 195 ≡ 0;
      named : IsTrue start.tells → AreNamedBelow l.slots (bytes_at start.files l.tree) l.at;
      lent : g.V.Files.lent l.files ≡ g.V.Files.lent l.fn.files;
      later : g.V.Files.reads l.fn.files ≤ g.V.Files.reads l.files;
      faults : g.V.Files.faults l.files ≡ g.V.Files.faults l.fn.files;
    }

abbrev pub decreases-loop-at : goal.decreases-loop-at
decreases-loop-at g l = l.size - l.at
