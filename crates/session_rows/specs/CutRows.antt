-- What a cut leaves of the rows of one relation, in the middle of a command that changes them.
use Rattle.std.specs.Prelude.{⊤, ◌<◌, ◌≡◌, ◌≢◌, ◌⊎◌, ◌≤◌, ◌++◌, ◌∷◌, [], ℕ, List, Ok, Option, Result, drop, length, map, take, true}
use Rattle.afl_base.specs.Files.{State, bytes_at}
use Rattle.afl_base.specs.Frames.{SparesOthers}
use Rattle.db_model.specs.declared.refusals.Refusal.{Refusal}
use Rattle.db_model.specs.declared.schemas.Attribute.{Attribute}
use Rattle.db_model.specs.declared.values.Value.{Value}
use Rattle.db_model.specs.Answers.{selected}
use Rattle.db_model.specs.Cond.{Cond}
use Rattle.db_model.specs.Database.{Relation}
use Rattle.db_model.specs.Row.{Row}
use Rattle.db_model.specs.Step.{Reply, removed_row}
use Rattle.index_set.specs.declared.info.IndexInfo.{IndexInfo}
use Rattle.index_set.specs.Complete.{AreComplete}
use Rattle.index_set.specs.Inserts.{AllNameFew, MayAllFollow}
use Rattle.index_set.specs.Tables.{Tables}
use Rattle.tuple_file.specs.declared.tuples.Tuples.{Tuples}
use Rattle.tuple_file.specs.CutRows.{HasRowInPart, HasWholeRows}
use Rattle.tuple_file.specs.Tuples.{rows, slots}
use Rattle.session_model.specs.Frames.{StaysAt}
use Rattle.session_model.specs.View.{relation_of_rows}
use Rattle.session_rows.specs.Marking.{marked}

-- ---- a row that is added

-- the rows are as before, with less than one more after them, and all other files have their bytes
pub record AddsPartOfRow (old after : State) (t : Tuples) : Type 0 where
  pub same : rows after.files t ≡ rows old.files t
  pub part : HasRowInPart old after t
  pub beside : (k : ℕ) → k ≢ t.file → bytes_at after.files k ≡ bytes_at old.files k

-- the file has whole rows, and trees that were complete name their slots alone
pub record HasRowsAndKeys (old after : State) (tables : Tables) (t : Tuples) (infos : List IndexInfo) (Follows : Type 0) : Type 0 where
  pub whole : HasWholeRows after t
  pub some : 0 < length infos → 0 < slots after.files t
  pub names : AreComplete old tables (rows old.files t) infos → Follows → AllNameFew after (slots after.files t) infos

-- the rows are as before, or one of these values stands after them; no file has changed but the relation's and its trees
pub record MayAddRow (old after : State) (tables : Tables) (t : Tuples) (infos : List IndexInfo) (values : List Value) : Type 0 where
  pub others : SparesOthers old after (StaysAt t.file infos)
  pub left : AddsPartOfRow old after t
      ⊎ ((rows after.files t ≡ rows old.files t ++ record { tuple = values; live = true } ∷ [])
      × HasRowsAndKeys old after tables t infos (MayAllFollow (rows old.files t) values infos))

-- ---- rows that are removed

-- the rows in the first of some slots are removed, and no other file has changed
pub record MayMarkRows (old after : State) (t : Tuples) (slots : List ℕ) : Type 0 where
  pub others : SparesOthers old after (λ k. k ≢ t.file)
  pub whole : HasWholeRows after t
  pub done : ℕ
  pub rows : rows after.files t ≡ marked (take done slots) (rows old.files t)

-- the rows that a condition selects are removed in the first slots: in none, in all, or, where they are at most 29, in any
-- number of them
pub record RemovesFront (attributes : List Attribute) (condition : Option Cond) (old new : List Row) : Type 0 where
  pub done : ℕ
  pub whole : (done ≡ 0) ⊎ ((done ≡ length old) ⊎ (length (selected attributes condition old) ≤ 29))
  pub is : new ≡ map (removed_row attributes condition) (take done old) ++ drop done old

-- so it is with a relation's rows, and no other file has changed
pub record MayRemove (old after : State) (t : Tuples) (condition : Option Cond) : Type 0 where
  pub others : SparesOthers old after (λ k. k ≢ t.file)
  pub whole : HasWholeRows after t
  pub rows : RemovesFront t.schema.attributes condition (rows old.files t) (rows after.files t)

-- ---- a relation that is changed

-- the relation is as before, or what was to be made of it; no file has changed but its own and its trees
pub record MayChange (old after : State) (tables : Tables) (t : Tuples) (infos : List IndexInfo) (made : Result (Relation × Reply) Refusal) : Type 0 where
  pub others : SparesOthers old after (StaysAt t.file infos)
  pub left : AddsPartOfRow old after t
      ⊎ ((reply : Reply) × (made ≡ Ok (relation_of_rows after.files t, reply)) × HasRowsAndKeys old after tables t infos ⊤)
