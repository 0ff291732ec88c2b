use Rattle.std.proofs.Common.{◌≡◌, ◌≤◌, ◌+◌, ℤ, List}
use Rattle.std.specs.Prelude.{IsTrue, Some}
use Rattle.afl_base.specs.Files.{bytes_at}
use Rattle.db_model.specs.Cost.{keys_beside}
use Rattle.index_tree.specs.Trees.{IsTreeOf}
use Rattle.index_maxheap.specs.Searches.{IsPlaceOf, IsSafe, IsStart, walk_left}
use Rattle.index_maxheap.proofs.searching.walk.Given as goal

abbrev pub invariant-loop-hops : goal.invariant-loop-hops
invariant-loop-hops g l =
    let old = g.V.Files.state l.fn.files in
    let bytes = bytes_at old.files l.index in
    record {
      same : g.V.Files.state l.files ≡ old;
      lent : g.V.Files.lent l.files ≡ g.V.Files.lent l.fn.files;
      reads_later : g.V.Files.reads l.fn.files ≤ g.V.Files.reads l.files;
      faults : g.V.Files.faults l.files ≡ g.V.Files.faults l.fn.files;
      safe : IsSafe l.place;
      near : l.place.hop ≡ l.fn.start.hop + l.hops;
      walks : IsTrue old.tells → (keys : List ℤ) → IsTreeOf bytes keys → IsStart bytes keys l.key l.from l.fn.start →
          IsPlaceOf bytes keys l.key l.from (Some l.place)
          × (g.V.Files.reads l.files + walk_left (keys_beside l.key keys) (Some l.place) ≤ g.V.Files.reads l.fn.files + walk_left (keys_beside l.key keys) (Some l.fn.start));
    }
