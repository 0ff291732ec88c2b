use Rattle.std.proofs.Common.{◌≡◌, ◌+◌, ◌*◌, ◌≤◌, IsTrue, length, map, take, None}
use Rattle.std.specs.List.{range_with_len}
use Rattle.afl_base.specs.Files.{bytes_at}
use Rattle.db_model.specs.Catalog.{relation_at}
use Rattle.catalog.specs.Formed.{AreSchemas}
use Rattle.catalog.specs.Rules.{breaks_relation, first}
use Rattle.catalog.proofs.relations.load_relations.Given as goal

abbrev pub invariant-loop-slot : goal.invariant-loop-slot
invariant-loop-slot g l = record {
  same : g.V.Files.state l.files ≡ g.V.Files.state l.fn.files;
  long : length l.relations ≡ 8;
  read : IsTrue (g.V.Files.state l.fn.files).tells → take l.slot l.relations ≡ map (relation_at (bytes_at (g.V.Files.state l.fn.files).files l.cat)) (range_with_len 0 l.slot);
  sound : IsTrue (g.V.Files.state l.fn.files).tells → first l.slot (breaks_relation (bytes_at (g.V.Files.state l.fn.files).files l.cat)) ≡ None;
  formed : AreSchemas l.version (take l.slot l.relations);
  lent : g.V.Files.lent l.files ≡ g.V.Files.lent l.fn.files;
  reads : g.V.Files.reads l.files ≤ g.V.Files.reads l.fn.files + 9 * l.slot;
  later : g.V.Files.reads l.fn.files ≤ g.V.Files.reads l.files;
  faults : g.V.Files.faults l.files ≡ g.V.Files.faults l.fn.files;
}
