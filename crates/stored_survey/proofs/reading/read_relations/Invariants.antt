use Rattle.std.proofs.Common.{◌≡◌, ◌+◌, ◌*◌, ◌<◌, ◌≤◌, ℕ, IsTrue, get_or, length, map, take, Some, None}
use Rattle.std.specs.Prelude.{slice_range}
use Rattle.std.specs.List.{range_with_len}
use Rattle.db_model.specs.declared.schemas.Schema.{Schema}
use Rattle.db_model.specs.Catalog.{relation_at}
use Rattle.stored.specs.Mended.{whole_catalog}
use Rattle.stored_survey.proofs.SlotsRead.{AreReadBelow}
use Rattle.stored_survey.proofs.reading.read_relations.Given as goal

abbrev pub invariant-loop-slot : goal.invariant-loop-slot
invariant-loop-slot g l =
    let start = g.V.Files.state l.fn.files in
    record {
      same : g.V.Files.state l.files ≡ g.V.Files.state l.fn.files;
      long : length l.relations ≡ 8;
      read : IsTrue start.tells → take l.slot l.relations ≡ map (relation_at (whole_catalog start.files)) (range_with_len 0 l.slot);
      slots : IsTrue start.tells → AreReadBelow (whole_catalog start.files) l.relations l.slot;
      lent : g.V.Files.lent l.files ≡ g.V.Files.lent l.fn.files;
      later : g.V.Files.reads l.fn.files ≤ g.V.Files.reads l.files;
      faults : g.V.Files.faults l.files ≡ g.V.Files.faults l.fn.files;
    }
