-- How many sectors are enough for the files of a database.
use Rattle.std.specs.Prelude.{ℕ, ℤ, ◌+◌, ◌-◌, ◌*◌, ◌/◌, List, [], ◌∷◌, ◌++◌, map, length, get_or, None, max}
use Rattle.std.specs.Option.{option_map_or}
use Rattle.afl_base.specs.Fit.{fit}
use Rattle.db_model.specs.declared.commands.Command.{Command}
use Rattle.db_model.specs.declared.commands.Command.TheVariants as command
use Rattle.db_model.specs.declared.schemas.IndexKind.TheVariants.{Inline, MaxHeap, MemHash}
use Rattle.db_model.specs.Catalog.{Index}
use Rattle.db_model.specs.Cost.{sum}
use Rattle.db_model.specs.Database.{Relation, Database, relation_named, indexes_of, used_things}
use Rattle.db_model.specs.HashTree.{buckets}
use Rattle.db_model.specs.Item.{place_of}
use Rattle.db_model.specs.Row.{Row, row_length}
use Rattle.db_model.specs.Step.{keys}

-- ---- sizes of files, in bytes

abbrev pub rows_size : Relation → ℕ
rows_size r = row_length r.schema.attributes * length r.rows

-- 341 numbers of two bytes and a byte, then the buckets of 195 bytes
abbrev pub tree_size : List ℤ → ℕ
tree_size keys = 683 + 195 * buckets keys

abbrev pub rows_in : Database → ℕ → List Row
rows_in db slot = option_map_or (λ r. r.rows) (get_or db.relations slot None) []

-- the size of an index's file, where it has one
abbrev pub index_sizes : Database → Index → List ℕ
index_sizes db index = elim index.kind [ Inline ↦ [] | MaxHeap ↦ tree_size (keys index.attribute (rows_in db index.relation)) ∷ [] | MemHash ↦ [] ]

abbrev pub tree_sizes : Database → List Index → List ℕ
tree_sizes db [] = []
tree_sizes db (index ∷ indexes) = index_sizes db index ++ tree_sizes db indexes

-- the files of rows and of hash trees
abbrev pub file_sizes : Database → List ℕ
file_sizes db = map rows_size (used_things db.relations) ++ tree_sizes db (used_things db.indexes)

-- ---- sectors

-- the sectors that an extent of this many bytes touches at most, wherever it begins
abbrev pub touched : ℕ → ℕ
touched size = fit size / 8 + 1

-- the sectors that the active extents touch at most, beside a catalog and files of these sizes: each file's while it is
-- copied, the catalog's, and a log's of each file
abbrev pub touched_by : List ℕ → ℕ
touched_by sizes = sum (map touched sizes) + 2 + 2 * (1 + length sizes)

-- sectors with which an extent of n pages is always available beside them: between the active extents of f files lie at most
-- 2f + 1 gaps
abbrev pub enough_for : List ℕ → ℕ → ℕ
enough_for sizes n = touched_by sizes + (2 * (1 + length sizes) + 1) * ((n + 15) / 16 - 1) + 1

-- beside the files of a database
abbrev pub enough : Database → ℕ → ℕ
enough db n = enough_for (file_sizes db) n

-- ---- the largest extent that a command may ask for

abbrev pub largest : List ℕ → ℕ
largest [] = 0
largest (size ∷ sizes) = max (fit size) (largest sizes)

-- twice the extents of the files that a command changes, and at least a log
abbrev pub most_of : List ℕ → ℕ
most_of sizes = max 16 (2 * largest sizes)

-- the relation's rows, and its hash trees
abbrev pub insert_sizes : Database → List ℕ → List ℕ
insert_sizes db name = option_map_or (λ s. rows_size s.1 ∷ tree_sizes db (indexes_of db s.0)) (relation_named db name) []

abbrev pub row_sizes : Database → List ℕ → List ℕ
row_sizes db name = option_map_or (λ s. rows_size s.1 ∷ []) (relation_named db name) []

-- the keys of a relation's attribute
abbrev pub keys_named : Database → List ℕ → List ℕ → List ℤ
keys_named db name attribute =
    option_map_or (λ s. option_map_or (λ place. keys place s.1.rows) (place_of attribute s.1.schema.attributes) []) (relation_named db name) []

abbrev pub most : Database → Command → ℕ
most db (command.CreateRelation name) = most_of []
most db (command.CreateAttribute name domain relation) = most_of []
most db (command.CreateIndex relation attribute Inline) = most_of []
most db (command.CreateIndex relation attribute MemHash) = most_of []
most db (command.CreateIndex relation attribute MaxHeap) = max 16 (fit (tree_size (keys_named db relation attribute)))
most db (command.Insert values relation) = most_of (insert_sizes db relation)
most db (command.Ask query) = 0
most db (command.Aggregate list relation nodes) = 0
most db (command.RemoveFrom relation nodes) = most_of (row_sizes db relation)
most db (command.RemoveRelation relation) = most_of []
most db (command.RemoveIndex relation attribute) = most_of []
most db (command.Pack relation) = most_of (row_sizes db relation)
most db (command.OpenCursor number query) = 0
most db (command.FetchCursor number) = 0
most db (command.CloseCursor number) = 0
