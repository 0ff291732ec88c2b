-- Scripts as an input whose bytes come one by one.
use Rattle.std.specs.Prelude.{◌≡◌, ℕ, Bool, List}
use Rattle.run_entries.specs.Taking.{Input}
use Rattle.db_model.specs.Script.{Entry}
use Rattle.run_model.specs.Scripts.{script_cut, script_talk}
use Rattle.run_script.specs.declared.piece.Piece.{Piece}
use Rattle.run_script.specs.Gathers.{GathersPiece}

-- of a piece it is kept whether it stands in quotes, and its first bytes
pub record KeepsPiece (begun : Bool × List ℕ) (piece : Piece) : Type 0 where
  pub quoted_is : piece.quoted ≡ begun.0
  pub gathers : GathersPiece begun.1 piece.bytes.items piece.long

abbrev pub script_input : Input Entry (Bool × List ℕ) Piece
script_input = record { talk = script_talk; cut = script_cut; Keeps = KeepsPiece }
