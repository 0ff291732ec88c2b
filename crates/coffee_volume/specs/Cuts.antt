-- What it means that an image mends to files.
use Rattle.std.specs.Prelude.{◌≡◌, ℕ, List}
use Rattle.std.specs.List.{Contains}
use Rattle.afl_base.specs.Files.{IsLive, Table, file_at}
use Rattle.coffee_cuts.specs.Cuts.{MendsTo}
use Rattle.coffee_layout.specs.Files.{NamedFile}
use Rattle.coffee_volume.specs.Mounting.{roomless_file}

-- an image mends to just the files of a table, whatever their ids and rooms
pub record MendsToFiles (image : List ℕ) (files : Table) : Type 0 where
  pub named : List NamedFile
  pub mends : MendsTo image named
  pub each : (id : ℕ) → IsLive files id → Contains named (roomless_file (file_at files id))
  pub only : (n : NamedFile) → Contains named n → (id : ℕ) × IsLive files id × (roomless_file (file_at files id) ≡ n)
