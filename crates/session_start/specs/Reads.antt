-- What a test of rows and of indexes may read.
use Rattle.std.specs.Prelude.{ℕ, ◌+◌, ◌*◌, List, map, get_or, Option, Some, None}
use Rattle.afl_base.specs.Files.{Table}
use Rattle.db_model.specs.Cost.{sum}
use Rattle.tuple_file.specs.declared.tuples.Tuples.{Tuples}
use Rattle.tuple_file.specs.Tuples.{slots}
use Rattle.session_model.specs.declared.held.Indexed.{Indexed}

abbrev pub slots_of_relation : Table → Option Tuples → ℕ
slots_of_relation files None = 0
slots_of_relation files (Some t) = slots files t

-- the slots of all relations
unfoldable pub all_slots : Table → List (Option Tuples) → ℕ
all_slots files relations = sum (map (slots_of_relation files) relations)

abbrev pub index_reads : Table → List (Option Tuples) → Option Indexed → ℕ
index_reads files relations None = 0
index_reads files relations (Some x) = 15 * slots_of_relation files (get_or relations x.relation None) + 2048

unfoldable pub all_reads : Table → List (Option Tuples) → List (Option Indexed) → ℕ
all_reads files relations indexes = sum (map (index_reads files relations) indexes)
