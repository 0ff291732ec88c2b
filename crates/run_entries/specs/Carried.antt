-- What a session makes of the entries of an input.
use Rattle.std.specs.Prelude.{◌≡◌, ◌⊎◌, ℕ, ◌+◌, ◌≤◌, Bool, false, List, [], ◌∷◌, ◌++◌, length, Option, IsErrOf, IsTrue, Result}
use Rattle.std.specs.Io.KnownBytes.{append_known}
use Rattle.std.specs.List.{AllByRecursion}
use Rattle.afl_base.specs.Causes.{Rose}
use Rattle.afl_base.specs.declared.files.Files.{Ghosts as FilesOf}
use Rattle.afl_base.specs.declared.stream.Sink.{Ghosts as SinkOf}
use Rattle.afl_base.specs.Files.{State}
use Rattle.antelope_engine.specs.Commands.{LacksPages}
use Rattle.antelope_engine.specs.Seen.{Seen}
use Rattle.db_model.specs.declared.commands.Command.{Command}
use Rattle.db_model.specs.declared.refusals.Refusal.TheVariants as no
use Rattle.db_model.specs.Ahead.{Aheads, is_refused}
use Rattle.db_model.specs.Database.{Database}
use Rattle.db_model.specs.ReplyText.{refusal_text, text}
use Rattle.db_model.specs.Step.{Reads, step}
use Rattle.run_input.specs.declared.ending.Ending.{Ending}
use Rattle.run_input.specs.declared.ending.Ending.TheVariants.{Space, Flash, Sink}
use Rattle.reply_text.specs.WroteLess.{WroteLess}
use Rattle.run_model.specs.Talk.{AsksCommand, AsksToRead, Talk, after_entry, talk_costs, last_database, talk_aheads, talk_output}
use Rattle.session_model.specs.Carried.{MendsBetween}
use Rattle.session_model.specs.Steps.{WrotePart}

-- how a run stands: the database, what its cursors have ahead, what the sink holds, and the count of reads
pub record Standing : Type 0 where
  pub tells : Bool
  pub database : Database
  pub aheads : Aheads
  pub held : Option (List ℕ)
  pub reads : ℕ

-- what is so of a command that goes no further: it lacks this many pages; or it broke off at a database
pub record Limits : Type 1 where
  pub Lacks : Command → ℕ → Type 0
  pub Breaks : Database → Command → Type 0

-- what is written where an entry finds no space
abbrev pub no_space : {E : Type 0} → Talk E → E → ℕ → List ℕ
no_space talk entry n = talk.sent entry (refusal_text (no.Space n))

module _ {E : Type 0} (talk : Talk E) where
  -- the entries were carried out, and their replies were written
  pub record Carried (entries : List E) (old new : Standing) : Type 0 where
    pub tells : new.tells ≡ old.tells
    pub database : new.database ≡ last_database talk old.database entries
    pub held : new.held ≡ append_known old.held (talk_output talk old.database entries)
    pub aheads : new.aheads ≡ talk_aheads talk old.database old.aheads entries
    pub reads : AllByRecursion (AsksToRead talk) entries → new.reads ≤ old.reads + talk_costs talk old.database old.aheads entries

  -- those in front were carried out, and the next is a command that is not refused and lacks n pages
  pub record Stopped (limits : Limits) (entries : List E) (old new : Standing) : Type 0 where
    pub front : List E
    pub entry : E
    pub rest : List E
    pub split : entries ≡ front ++ entry ∷ rest
    pub command : Command
    pub n : ℕ
    pub asks : AsksCommand talk entry command
    pub tells : new.tells ≡ old.tells
    pub database : new.database ≡ last_database talk old.database front
    pub accepted : is_refused ((step (last_database talk old.database front) command).1) ≡ false
    pub lacks : limits.Lacks command n

  -- and what was written is this
  pub record FoundNoRoom (limits : Limits) (entries : List E) (old new : Standing) : Type 0 where
    pub stopped : Stopped limits entries old new
    pub held : new.held ≡ append_known old.held (talk_output talk old.database stopped.front ++ no_space talk stopped.entry stopped.n)

  -- or less than the last line of it
  pub record SaidNone (limits : Limits) (entries : List E) (old new : Standing) : Type 0 where
    pub stopped : Stopped limits entries old new
    pub before : Option (List ℕ)
    pub front_is : before ≡ append_known old.held (talk_output talk old.database stopped.front)
    pub held : WroteLess before new.held (no_space talk stopped.entry stopped.n)

  -- the entries up to one were carried out, and less than its reply was written
  pub record SaidLess (entries : List E) (old new : Standing) : Type 0 where
    pub front : List E
    pub entry : E
    pub rest : List E
    pub split : entries ≡ front ++ entry ∷ rest
    pub tells : new.tells ≡ old.tells
    pub before : Option (List ℕ)
    pub front_is : before ≡ append_known old.held (talk_output talk old.database front)
    pub held : WroteLess before new.held (talk.sent entry (text ((after_entry talk (last_database talk old.database front) entry).1)))
    pub database : new.database ≡ last_database talk old.database (front ++ entry ∷ [])

  -- those in front were carried out, and the next is a command that broke off: a part of its reply was written, and nothing
  -- where it changes more than a cursor
  pub record BrokeOff (limits : Limits) (entries : List E) (old new : Standing) : Type 0 where
    pub front : List E
    pub entry : E
    pub rest : List E
    pub split : entries ≡ front ++ entry ∷ rest
    pub command : Command
    pub asks : AsksCommand talk entry command
    pub before : Option (List ℕ)
    pub front_is : before ≡ append_known old.held (talk_output talk old.database front)
    pub held : WrotePart before new.held (talk.sent entry (text ((after_entry talk (last_database talk old.database front) entry).1)))
    pub unsaid : (Reads command → ⊥) → new.held ≡ before
    pub breaks : limits.Breaks (last_database talk old.database front) command

  -- why no more of these entries was carried out
  abbrev pub StopsEntries : Limits → List E → Standing → Standing → Ending → Type 0
  StopsEntries limits entries old new Space = FoundNoRoom limits entries old new
  StopsEntries limits entries old new Sink = SaidLess entries old new ⊎ SaidNone limits entries old new
  StopsEntries limits entries old new Flash = BrokeOff limits entries old new

  -- it went no further within these entries
  pub record HaltsIn (limits : Limits) (entries : List E) (old new : Standing) (halt : Ending) : Type 0 where
    pub stops : StopsEntries limits entries old new halt
    pub reads : AllByRecursion (AsksToRead talk) entries → new.reads ≤ old.reads + talk_costs talk old.database old.aheads entries

-- ---- a session and a sink

abbrev pub standing_of : {V : Type 0} → (V → State) → (V → ℕ) → Seen V → Option (List ℕ) → Standing
standing_of state reads session held = record {
  tells = (state session.files).tells;
  database = session.database;
  aheads = session.aheads;
  held = held;
  reads = reads session.files;
}

-- what stops a command of a session: pages that its files lack; or a failure of the files, where failures are cuts, after which they
-- mend to a database between that before the command and that after it
abbrev pub limits_of : {V : Type 0} → FilesOf V → Seen V → Limits
limits_of files session = record {
  Lacks = LacksPages files.state files.asks files.lacks session;
  Breaks = λ before command. IsTrue files.cuts → MendsBetween files session.files before command;
}

-- what failed has counted it, and no count falls
pub record HasHaltCause {T : Type 0} (files files_now replies replies_now : ℕ) (result : Result T Ending) : Type 0 where
  pub files_later : files ≤ files_now
  pub replies_later : replies ≤ replies_now
  pub flash : IsErrOf result Flash → Rose files files_now
  pub sink : IsErrOf result Sink → Rose replies replies_now

-- a call that answers entries of an input: what the files lie in keeps its size, and files and sink hold on to what they borrow
pub record ChangesOrHalts {V K T : Type 0} (v : FilesOf V) (k : SinkOf K) (old new : V) (before now : K) (result : Result T Ending) : Type 0 where
  pub store : length (v.state new).store ≡ length (v.state old).store
  pub lent : v.lent new ≡ v.lent old
  pub sink_lent : k.lent now ≡ k.lent before
  pub cause : HasHaltCause (v.faults old) (v.faults new) (k.faults before) (k.faults now) result
