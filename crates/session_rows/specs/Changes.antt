-- What a change of the rows of one relation leaves of a session.
use Rattle.std.specs.Prelude.{◌≡◌, ◌≢◌, ◌≤◌, ◌+◌, ◌++◌, ◌∷◌, [], ℕ, List, Option, Some, None, IsTrue, filter, get_or, true}
use Rattle.afl_base.specs.Files.{State}
use Rattle.afl_base.specs.Frames.{SparesOthers}
use Rattle.db_model.specs.declared.values.Value.{Value}
use Rattle.db_model.specs.Database.{Relation}
use Rattle.index_set.specs.declared.info.IndexInfo.{IndexInfo}
use Rattle.index_set.specs.Complete.{AreComplete, AreHeld}
use Rattle.index_set.specs.Inserts.{KeepsTables}
use Rattle.index_set.specs.Tables.{Tables}
use Rattle.index_set.specs.Walks.{RowsGrow}
use Rattle.tuple_file.specs.declared.tuples.Tuples.{Tuples}
use Rattle.tuple_file.specs.Tuples.{HoldsRows, rows, slots}
use Rattle.session_model.specs.declared.held.Held.{Held}
use Rattle.session_model.specs.declared.held.Open.{Open}
use Rattle.session_model.specs.Aheads.{aheads_of}
use Rattle.session_model.specs.Frames.{StaysAt}
use Rattle.session_model.specs.Running.{IsRunning}
use Rattle.session_model.specs.View.{cursor_in, relation_of_rows}

-- ---- the session

-- the session goes on; the other relations have their rows, and all cursors what is ahead of them
pub record RunsOn (old new : State) (after : Tables) (held : Held) (opens : List (Option Open)) (k : ℕ) : Type 0 where
  pub running : IsRunning new after held opens
  pub tells : new.tells ≡ old.tells
  pub others : IsTrue old.tells → (j : ℕ) (t : Tuples) → j ≢ k → get_or held.relations j None ≡ Some t
      → relation_of_rows new.files t ≡ relation_of_rows old.files t
  pub cursors : IsTrue old.tells → (n : ℕ) (o : Open) → get_or opens n None ≡ Some o
      → cursor_in new.files o ≡ cursor_in old.files o
  pub aheads : IsTrue old.tells → aheads_of new.files opens ≡ aheads_of old.files opens

-- ---- one relation and its indexes

-- its rows and indexes are as before, or a row came after and its keys into each index
pub record RelationGrows (old new : State) (before after : Tables) (t : Tuples) (infos : List IndexInfo) : Type 0 where
  pub holds : HoldsRows new t
  pub more : slots old.files t ≤ slots new.files t
  pub grow : IsTrue old.tells → RowsGrow (rows old.files t) (rows new.files t)
  pub held : AreHeld new after (slots new.files t) infos
  pub complete : IsTrue old.tells → AreComplete old before (rows old.files t) infos
      → AreComplete new after (rows new.files t) infos
  pub others : SparesOthers old new (StaysAt t.file infos)
  pub tables : KeepsTables before after infos

-- a row of these values came after, and its keys into each index
pub record AddsRow (old new : State) (before after : Tables) (t : Tuples) (infos : List IndexInfo) (values : List Value) (slot : ℕ) : Type 0 where
  pub row : IsTrue old.tells → rows new.files t ≡ rows old.files t ++ record { tuple = values; live = true } ∷ []
  pub count : slots new.files t ≡ slot + 1
  pub holds : HoldsRows new t
  pub held : AreHeld new after (slot + 1) infos
  pub others : SparesOthers old new (StaysAt t.file infos)
  pub tables : KeepsTables before after infos

-- its rows may be others, as many as before, and no other file has changed
pub record ReplacesRows (old new : State) (t : Tuples) : Type 0 where
  pub holds : HoldsRows new t
  pub count : slots new.files t ≡ slots old.files t
  pub others : SparesOthers old new (λ id. id ≢ t.file)

-- none of its rows is removed
abbrev pub HasOnlyLiveRows : Relation → Type 0
HasOnlyLiveRows r = filter (λ row. row.live) r.rows ≡ r.rows
