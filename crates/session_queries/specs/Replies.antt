-- What is written for a query, row by row, and what is read for it.
use Rattle.std.specs.Prelude.{◌≡◌, ◌+◌, ◌≤◌, ℕ, Bool, true, false, List, [], ◌∷◌, flat_map, length, map, Option, Result, Ok, Err}
use Rattle.std.specs.Io.KnownBytes.{append_known}
use Rattle.afl_base.specs.Files.{State}
use Rattle.afl_base.specs.declared.files.Files.{Ghosts as FilesOf}
use Rattle.db_model.specs.declared.commands.Command.{Command}
use Rattle.db_model.specs.declared.values.Value.{Value}
use Rattle.db_model.specs.Ahead.{cost_of}
use Rattle.db_model.specs.ReplyText.{row_text}
use Rattle.db_model.specs.Row.{Row}
use Rattle.db_model.specs.Step.{Rows}
use Rattle.cursor.specs.declared.block.Block.{Block}
use Rattle.cursor.specs.declared.join.JoinCursor.{JoinCursor}
use Rattle.cursor.specs.declared.select.SelectCursor.{SelectCursor}
use Rattle.cursor.specs.Blocks.{IsBlockOf, cost_by_block}
use Rattle.cursor.specs.Pairs.{FitsPairs, pairs_left}
use Rattle.cursor.specs.Remaining.{remaining}
use Rattle.index_set.specs.Tables.{Tables}
use Rattle.reply_text.specs.WroteLess.{WroteLess}
use Rattle.session_model.specs.declared.base.Base.{Base}
use Rattle.session_model.specs.declared.held.Side.{Side}
use Rattle.afl_base.specs.declared.fault.Fault.{Fault}
use Rattle.afl_base.specs.declared.fault.Fault.TheVariants.{Flash, Sink}
use Rattle.session_model.specs.Carried.{Tells, aheads, database}
use Rattle.session_model.specs.Steps.{Replies}
use Rattle.session_model.specs.View.{project, project_pair}

-- ---- rows, one by one

-- of the first row a part was written, and not all
pub record WroteNoMore (old : List (List Value)) (before now : Option (List ℕ)) : Type 0 where
  pub row : List Value
  pub rest : List (List Value)
  pub is : old ≡ row ∷ rest
  pub wrote : WroteLess before now (row_text row)

-- the first of the rows that were left was written, or there was none
abbrev pub WroteNext : Result Bool Fault → List (List Value) → List (List Value) → Option (List ℕ) → Option (List ℕ) → Type 0
WroteNext (Ok true) old new before now = (row : List Value) × (old ≡ row ∷ new) × (now ≡ append_known before (row_text row))
WroteNext (Ok false) old new before now = (old ≡ []) × (now ≡ before)
WroteNext (Err Sink) old new before now = WroteNoMore old before now
WroteNext (Err Flash) old new before now = now ≡ before

-- all the rows were written, this many of them
pub record WroteAll (all : List (List Value)) (before now : Option (List ℕ)) (count : ℕ) : Type 0 where
  pub counted : count ≡ length all
  pub written : now ≡ append_known before (flat_map row_text all)

abbrev pub WroteRows : Result ℕ Fault → List (List Value) → Option (List ℕ) → Option (List ℕ) → Type 0
WroteRows (Ok count) all before now = WroteAll all before now count
WroteRows (Err stop) all before now = Replies (Rows all) (Err stop) before now

-- the rows that cursors have still to answer
abbrev pub rows_left : List ℕ → SelectCursor → List Row → List (List Value)
rows_left places c all = map (project places) (remaining c all)

abbrev pub joined_left : List Side → JoinCursor → List Row → List Row → List (List Value)
joined_left places c lefts rights = map (project_pair places) (pairs_left c lefts rights)

-- a join by blocks goes on from where it stands after a call, and what the call read was paid from what was ahead
pub record JoinsOn (b_old b_new : Block) (old new : JoinCursor) (state : State) (tables : Tables) (lefts rights : List Row) (before after : ℕ) : Type 0 where
  pub fits : FitsPairs new state tables
  pub holds : IsBlockOf b_new new lefts rights
  pub reads : after + cost_by_block b_new new lefts rights ≤ before + cost_by_block b_old old lefts rights

-- it read no more than the command may
abbrev pub ReadsNoMore : {V : Type 0} → FilesOf V → Command → Base V → Base V → Type 0
ReadsNoMore v command old new =
    Tells v old → v.reads new.files ≤ v.reads old.files + cost_of (database v old) (aheads v old) command
