use Rattle.std.proofs.Common.{◌≡◌, ℕ, take}
use Rattle.std.specs.List.{All}
use Rattle.coffee_layout.specs.Files.{FitsIn}
use Rattle.coffee_volume.specs.Mounting.{mounted_table}
use Rattle.coffee_volume.specs.Volumes.{AreRegular}
use Rattle.coffee_volume.proofs.mount.table_of.Given as goal

-- the files so far stand in the table, and are regular
abbrev pub invariant-loop-i : goal.invariant-loop-i
invariant-loop-i l = record {
  table : l.table ≡ mounted_table (take l.i l.listed);
  regular : (pages : ℕ) → All (FitsIn pages) l.listed → AreRegular pages l.table;
}
