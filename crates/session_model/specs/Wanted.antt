-- Which extents a command asks for, over the files of a session.
use Rattle.std.specs.Prelude.{ℕ, ℤ}
use Rattle.afl_base.specs.Asked.{asks_few}
use Rattle.afl_base.specs.Files.{Table}
use Rattle.db_model.specs.declared.commands.Command.{Command}
use Rattle.db_model.specs.Database.{Database}
use Rattle.index_maxheap.specs.Rooms.{room_of}
use Rattle.space_model.specs.FileNames.{asks_in, bytes_named, size_in, tree_file}
use Rattle.space_model.specs.Wants.{Wants}

-- what an insert of a key into the tree of an index slot needs
abbrev pub room_in : Table → ℕ → ℤ → ℕ × ℕ
room_in files slot key = ((room_of (bytes_named (tree_file slot) files) key).overwrites, (room_of (bytes_named (tree_file slot) files) key).bytes)

-- a command asks for an extent of this many pages, where files ask by their ids
abbrev pub WantsOver : (ℕ → ℕ → ℕ → ℕ → Type 0) → Table → Database → Command → ℕ → Type 0
WantsOver asks files db command need = Wants (size_in files) (asks_in asks files) (room_in files) db command need

-- it asks for none
abbrev pub WantsNone : (ℕ → ℕ → ℕ → ℕ → Type 0) → Table → Database → Command → Type 0
WantsNone asks files db command = (need : ℕ) → WantsOver asks files db command need → ⊥

-- and for no more pages than its files may
abbrev pub WantsFew : (ℕ → ℕ → ℕ → ℕ → Type 0) → Table → Database → Command → ℕ → Type 0
WantsFew asks files db command need = WantsOver (asks_few asks files) files db command need
