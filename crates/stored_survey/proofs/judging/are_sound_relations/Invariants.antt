use Rattle.std.proofs.Common.{◌≡◌, ◌<◌, ◌≤◌, ℕ, IsTrue}
use Rattle.stored_survey.specs.Asked.{IsReadAs, IsSoundBeside}
use Rattle.stored_survey.proofs.judging.are_sound_relations.Given as goal

abbrev pub invariant-loop-slot : goal.invariant-loop-slot
invariant-loop-slot g l =
    let start = g.V.Files.state l.fn.files in
    record {
      same : g.V.Files.state l.files ≡ g.V.Files.state l.fn.files;
      sound : IsTrue start.tells → IsReadAs start.files l.catalog → (k : ℕ) → k < l.slot → IsSoundBeside start.files l.half k;
      lent : g.V.Files.lent l.files ≡ g.V.Files.lent l.fn.files;
      later : g.V.Files.reads l.fn.files ≤ g.V.Files.reads l.files;
      faults : g.V.Files.faults l.files ≡ g.V.Files.faults l.fn.files;
    }
