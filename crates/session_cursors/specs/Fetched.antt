-- What a FETCH needs of the cursor that it takes a row of, and what it takes.
use Rattle.std.specs.Prelude.{◌≡◌, ◌<◌, ℕ, Bool, true, false, List, [], ◌∷◌, Option, Some, None, IsTrue}
use Rattle.afl_base.specs.Files.{State, Table}
use Rattle.db_model.specs.declared.values.Value.{Value}
use Rattle.db_model.specs.declared.refusals.Refusal.TheVariants as no
use Rattle.db_model.specs.Ahead.{fetch_cost, next_passed, rows_named}
use Rattle.db_model.specs.Database.{Database}
use Rattle.db_model.specs.Step.{Reply, Refused, Rows}
use Rattle.index_set.specs.Tables.{Tables}
use Rattle.index_set.specs.Walks.{Fits}
use Rattle.cursor.specs.declared.join.JoinCursor.{JoinCursor}
use Rattle.cursor.specs.declared.select.SelectCursor.{SelectCursor}
use Rattle.cursor.specs.Pairs.{FitsPairs, MayReadPairs}
use Rattle.cursor.specs.Remaining.{MayRead}
use Rattle.tuple_file.specs.Tuples.{rows}
use Rattle.session_model.specs.declared.held.Open.{Open}
use Rattle.session_model.specs.declared.held.Open.TheVariants.{Select, Join}
use Rattle.session_model.specs.Aheads.{ahead_in}

-- ---- before

-- it rests, and stands where it should
pub record CanSelect (state : State) (tables : Tables) (c : SelectCursor) : Type 0 where
  pub rests : c.candidates.place ≡ None
  pub may_read : MayRead state c.tuples c.candidates
  pub fits : IsTrue state.tells → Fits c.candidates state tables (rows state.files c.tuples)

pub record CanJoin (state : State) (tables : Tables) (c : JoinCursor) : Type 0 where
  pub rests : c.inner ≡ None
  pub may_read : MayReadPairs state c
  pub fits : IsTrue state.tells → FitsPairs c state tables

abbrev pub CanFetch : State → Tables → Open → Type 0
CanFetch state tables (Select o) = CanSelect state tables o.cursor
CanFetch state tables (Join o) = CanJoin state tables o.cursor

-- ---- what is taken

abbrev pub one_or_none : Bool → List Value → List (List Value)
one_or_none true row = row ∷ []
one_or_none false row = []

-- there is no such cursor; or a row was found, or none
abbrev pub reply_fetched : Option Bool → List Value → Reply
reply_fetched None row = Refused no.NoCursor
reply_fetched (Some found) row = Rows (one_or_none found row)

-- ---- what it costs

-- the relations that are named as the cursor's have its rows, where it had slots
abbrev pub FindsRows : Database → Table → Open → Type 0
FindsRows db files (Select o) =
    0 < o.cursor.candidates.slots → rows_named db o.cursor.tuples.schema.name ≡ rows files o.cursor.tuples
FindsRows db files (Join o) = 0 < o.cursor.left_slots → 0 < o.cursor.right_slots
    → (rows_named db o.cursor.left.schema.name ≡ rows files o.cursor.left)
    × (rows_named db o.cursor.right.schema.name ≡ rows files o.cursor.right)

-- for the slots that a FETCH passes
abbrev pub fetch_price : Database → Table → Open → ℕ
fetch_price db files o = fetch_cost db (ahead_in files o).source (next_passed (ahead_in files o))
