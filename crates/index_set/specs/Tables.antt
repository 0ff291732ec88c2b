-- What the hash tables hold: of each slot its key, from slot 0 on.
use Rattle.std.specs.Prelude.{ℕ, ℤ, List, [], ⊤, ◌<◌, get_or}
use Rattle.db_model.specs.Database.{most_tables}
use Rattle.index_set.specs.declared.info.Access.{Access}
use Rattle.index_set.specs.declared.info.Access.TheVariants.{Order, Tree, Table}
use Rattle.index_set.specs.declared.info.TableId.{TableId}
use Rattle.index_set.specs.declared.info.TableId.TheVariants.{First, Second}

abbrev pub Tables : Type 0
Tables = List (List ℤ)

-- the place of a table among those that there are
abbrev pub number : TableId → ℕ
number First = 0
number Second = 1

abbrev pub entries : Tables → TableId → List ℤ
entries tables table = get_or tables (number table) []

-- the table is one of those that there are
abbrev pub IsTable : TableId → Type 0
IsTable table = number table < most_tables

-- and so is an index's, if it has one
abbrev pub HasTable : Access → Type 0
HasTable Order = ⊤
HasTable (Tree file) = ⊤
HasTable (Table table) = IsTable table
