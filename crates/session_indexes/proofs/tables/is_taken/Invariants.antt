use Rattle.std.proofs.Common.{◌≡◌, drop}
use Rattle.session_indexes.specs.Sites.{is_table_taken}
use Rattle.session_indexes.proofs.tables.is_taken.Given as goal

abbrev pub invariant-loop-i : goal.invariant-loop-i
invariant-loop-i l = is_table_taken l.table l.indexes ≡ is_table_taken l.table (drop l.i l.indexes)
