-- Which open cursors read a relation.
use Rattle.std.specs.Prelude.{ℕ, Bool, false, List, Option, Some, None}
use Rattle.db_model.specs.Database.{Cursor, is_among}

-- an open cursor whose query names the relation
abbrev pub is_reader : List ℕ → Option Cursor → Bool
is_reader name None = false
is_reader name (Some cursor) = is_among name cursor.reads
