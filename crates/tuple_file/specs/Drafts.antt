-- The draft of a relation's file: the new rows, slot by slot.
use Rattle.std.specs.Prelude.{◌≡◌, ℕ, ◌+◌, ◌*◌, ◌≤◌, List, length, replicate}
use Rattle.afl_base.specs.Fields.{put_at}
use Rattle.afl_base.specs.Files.{State, draft_in}
use Rattle.db_model.specs.Row.{Row, row_bytes, row_length}
use Rattle.tuple_file.specs.declared.tuples.Tuples.{Tuples}

-- it has zeros alone, this many
abbrev pub IsZeroDraft : State → ℕ → Type 0
IsZeroDraft state size = (draft_in state).bytes ≡ replicate size 0

-- it reaches as far as the slot
abbrev pub ReachesSlot : State → Tuples → ℕ → Type 0
ReachesSlot state tuples slot =
    row_length tuples.schema.attributes * slot + row_length tuples.schema.attributes ≤ length (draft_in state).bytes

-- a row is put into the slot of such bytes, and all others stay
abbrev pub PutsRow : (old new : List ℕ) → Tuples → ℕ → Row → Type 0
PutsRow old new tuples slot row =
    new ≡ put_at old (row_length tuples.schema.attributes * slot) (row_bytes tuples.schema.attributes row)
