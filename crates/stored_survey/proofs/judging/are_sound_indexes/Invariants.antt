use Rattle.std.proofs.Common.{◌≡◌, ◌<◌, ◌≤◌, ℕ, IsTrue}
use Rattle.stored_survey.specs.Asked.{AreSoundBeside, IsKeptBeside, IsReadAs}
use Rattle.stored_survey.proofs.judging.are_sound_indexes.Given as goal

abbrev pub invariant-loop-slot : goal.invariant-loop-slot
invariant-loop-slot g l =
    let start = g.V.Files.state l.fn.files in
    record {
      same : g.V.Files.state l.files ≡ g.V.Files.state l.fn.files;
      kept : IsTrue start.tells → IsReadAs start.files l.catalog → AreSoundBeside start.files l.half → (i : ℕ) → i < l.slot → IsKeptBeside start.files l.half i;
      lent : g.V.Files.lent l.files ≡ g.V.Files.lent l.fn.files;
      later : g.V.Files.reads l.fn.files ≤ g.V.Files.reads l.files;
      faults : g.V.Files.faults l.files ≡ g.V.Files.faults l.fn.files;
    }
