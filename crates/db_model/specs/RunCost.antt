-- How many pages a run over a script may read: at its opening, and by the entries.
use Rattle.std.specs.Prelude.{ℕ, ◌+◌, ◌*◌, List, [], ◌∷◌, map, length, get_or, None, Result, Ok, Err}
use Rattle.std.specs.List.{range_with_len}
use Rattle.std.specs.Option.{option_map_or}
use Rattle.db_model.specs.declared.commands.Command.{Command}
use Rattle.db_model.specs.declared.refusals.Refusal.{Refusal}
use Rattle.db_model.specs.Ahead.{Aheads, aheads_after, cost_of}
use Rattle.db_model.specs.Cost.{sum}
use Rattle.db_model.specs.Database.{Database, indexes_of}
use Rattle.db_model.specs.Script.{Bytes, Entry, Long, Unfinished, after}

-- ---- opening

-- the slots of the relation in a slot, once for it and once for each of its indexes
abbrev pub slots_opened : Database → ℕ → ℕ
slots_opened db k = option_map_or (λ r. length r.rows * (1 + length (indexes_of db k))) (get_or db.relations k None) 0

-- what a run over this many pages may read before its first entry
abbrev pub opening_cost : Database → ℕ → ℕ
opening_cost db pages = 1024 * pages + 16 * sum (map (slots_opened db) (range_with_len 0 8))

-- ---- entries

-- `read` reads the bytes of a command, or says why they are none (see `Reading`)
module _ (read : List ℕ → Result Command Refusal) where
  abbrev pub aheads_read : Database → Aheads → Result Command Refusal → Aheads
  aheads_read db aheads (Ok c) = aheads_after db aheads c
  aheads_read db aheads (Err refusal) = aheads

  -- what the cursors have ahead after an entry
  abbrev pub entry_aheads : Database → Aheads → Entry → Aheads
  entry_aheads db aheads Long = aheads
  entry_aheads db aheads Unfinished = aheads
  entry_aheads db aheads (Bytes bytes) = aheads_read db aheads (read bytes)

  abbrev pub cost_read : Database → Aheads → Result Command Refusal → ℕ
  cost_read db aheads (Ok c) = cost_of db aheads c
  cost_read db aheads (Err refusal) = 0

  -- what an entry may read
  abbrev pub entry_cost : Database → Aheads → Entry → ℕ
  entry_cost db aheads Long = 0
  entry_cost db aheads Unfinished = 0
  entry_cost db aheads (Bytes bytes) = cost_read db aheads (read bytes)

  -- what the cursors have ahead after all entries
  abbrev pub last_aheads : Database → Aheads → List Entry → Aheads
  last_aheads db aheads [] = aheads
  last_aheads db aheads (entry ∷ entries) = last_aheads ((after read db entry).0) (entry_aheads db aheads entry) entries

  -- the sum of the costs of the entries
  abbrev pub costs : Database → Aheads → List Entry → ℕ
  costs db aheads [] = 0
  costs db aheads (entry ∷ entries) = entry_cost db aheads entry + costs ((after read db entry).0) (entry_aheads db aheads entry) entries
