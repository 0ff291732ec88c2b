-- The files of a database, by their names.
use Rattle.std.specs.Prelude.{ℕ, ◌+◌, Bool, List, [], ◌∷◌, length, Option, Some, None, is_some, option_map, if◌then◌else◌, codes}
use Rattle.std.specs.Str.{bytes_eq}
use Rattle.afl_base.specs.Files.{File, IsNamed, Table}

abbrev pub catalog_file : List ℕ
catalog_file = codes "CAT"

-- the rows of the relation in a slot
abbrev pub rows_file : ℕ → List ℕ
rows_file slot = 84 ∷ (48 + slot) ∷ []

-- the hash tree of the index in a slot
abbrev pub tree_file : ℕ → List ℕ
tree_file slot = 88 ∷ (48 + slot) ∷ []

-- ---- what stands under a name

-- the file of a name, of which there is one at most
abbrev pub file_named : List ℕ → Table → Option File
file_named name [] = None
file_named name (None ∷ files) = file_named name files
file_named name (Some f ∷ files) = if bytes_eq f.name name then Some f else file_named name files

abbrev pub is_there : List ℕ → Table → Bool
is_there name files = is_some (file_named name files)

abbrev pub bytes_in_file : Option File → List ℕ
bytes_in_file None = []
bytes_in_file (Some f) = f.bytes

-- the bytes of the file of a name, none where it is absent
abbrev pub bytes_named : List ℕ → Table → List ℕ
bytes_named name files = bytes_in_file (file_named name files)

-- how many bytes the file of a name has, None where there is none
abbrev pub size_in : Table → List ℕ → Option ℕ
size_in files name = option_map (λ f. length f.bytes) (file_named name files)

-- what is asked of files by their ids, by name: the file is there
abbrev pub asks_in : (ℕ → ℕ → ℕ → ℕ → Type 0) → Table → List ℕ → ℕ → ℕ → ℕ → Type 0
asks_in asks files name overwrites bytes need = (id : ℕ) × IsNamed files id name × asks id overwrites bytes need
