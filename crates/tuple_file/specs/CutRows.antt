-- What a cut leaves of a relation's file, where a row was to be added or removed.
use Rattle.std.specs.Prelude.{◌≡◌, ◌≢◌, ℕ, ◌*◌, ◌⊎◌, false, true, List, [], ◌∷◌, ◌++◌, slice_set, take}
use Rattle.afl_base.specs.Files.{State, bytes_at}
use Rattle.afl_base.specs.Frames.{SparesOthers}
use Rattle.db_model.specs.declared.values.Value.{Value}
use Rattle.db_model.specs.Row.{row_length, rows_bytes}
use Rattle.tuple_file.specs.declared.tuples.Tuples.{Tuples}
use Rattle.tuple_file.specs.Tuples.{row, rows, slots}

-- the file has the bytes of its rows, and no others
abbrev pub HasWholeRows : (after : State) → Tuples → Type 0
HasWholeRows after tuples = rows_bytes tuples.schema.attributes (rows after.files tuples) ≡ bytes_at after.files tuples.file

-- its whole rows have the bytes that the file had: after them stands less than a row
abbrev pub HasRowInPart : (old after : State) → Tuples → Type 0
HasRowInPart old after tuples =
    take (row_length tuples.schema.attributes * slots after.files tuples) (bytes_at after.files tuples.file) ≡ bytes_at old.files tuples.file

-- the rows are as before, with less than one more after them, or the tuple stands, live, after them; no other file has
-- changed
pub record MayAppendRow (old after : State) (tuples : Tuples) (tuple : List Value) : Type 0 where
  pub others : SparesOthers old after (λ k. k ≢ tuples.file)
  pub rows : ((rows after.files tuples ≡ rows old.files tuples) × HasRowInPart old after tuples)
      ⊎ ((rows after.files tuples ≡ rows old.files tuples ++ record { tuple = tuple; live = true } ∷ []) × HasWholeRows after tuples)

-- the rows are as before, or the one in the slot is removed; no other file has changed
pub record MayMarkRow (old after : State) (tuples : Tuples) (slot : ℕ) : Type 0 where
  pub others : SparesOthers old after (λ k. k ≢ tuples.file)
  pub whole : HasWholeRows after tuples
  pub rows : (rows after.files tuples ≡ rows old.files tuples)
      ⊎ (rows after.files tuples ≡ slice_set (rows old.files tuples) slot (record (row old.files tuples slot) { live = false }))
