-- What a session does that the words ask for.
use Rattle.std.specs.Prelude.{◌≡◌, ◌≢◌, ◌≤◌, ◌+◌, ◌*◌, ⊤, ℕ, List, Option, Some, Result, Ok, Err, length}
use Rattle.std.specs.List.{AllByRecursion}
use Rattle.std.specs.Io.KnownBytes.{append_known}
use Rattle.afl_base.specs.declared.files.Files.{Ghosts as FilesOf}
use Rattle.afl_base.specs.declared.stream.Sink.{Ghosts as SinkOf}
use Rattle.antelope_engine.specs.Seen.{Seen}
use Rattle.db_model.specs.declared.commands.Command.{Command}
use Rattle.db_model.specs.Workload.{first_commands}
use Rattle.dump.specs.Parts.{slots_of_all}
use Rattle.dump_model.specs.Script.{script}
use Rattle.run_look.specs.Text.{database_lines}
use Rattle.run_input.specs.declared.ending.Ending.{Ending}
use Rattle.run_input.specs.declared.ending.Ending.TheVariants.{Space, Flash, Sink}
use Rattle.run_input.specs.declared.ending.InputEnding.{InputEnding}
use Rattle.run_input.specs.declared.ending.InputEnding.TheVariants.{Input, Long, Early}
use Rattle.reply_text.specs.WroteLess.{WroteLess}
use Rattle.afl_base.specs.declared.fault.Fault.{Fault}
use Rattle.afl_base.specs.declared.fault.Fault.TheVariants as fault
use Rattle.session_model.specs.Steps.{WrotePart}
use Rattle.run_entries.specs.Carried.{Limits, Standing}
use Rattle.run_entries.specs.Went.{HasRunCause, Went}
use Rattle.run_model.specs.Line.{Line}
use Rattle.run_model.specs.Scripts.{script_line, script_talk}
use Rattle.run_model.specs.Talk.{AsksToRead, Talk, talk_costs}
use Rattle.run_frames.specs.Frames.{frame_line}
use Rattle.run_frames.specs.Served.{serve_talk}
use Rattle.space_plan.specs.Lines.{plan_reply}
use Rattle.run_generated.specs.Summed.{StopsCommands, SummedUp}
use Rattle.run_words.specs.declared.words.Form.{Form}
use Rattle.run_words.specs.declared.words.Form.TheVariants.{Run, Gen, Plan, Serve, Dump, Look}
use Rattle.antelope_run.specs.Endings.{OnReader}

-- a text was written to what a sink held, or what a fault left of it
abbrev pub Wrote : (held held_now : Option (List ℕ)) → List ℕ → Result ⊤ InputEnding → Type 0
Wrote held held_now text (Ok done) = held_now ≡ append_known held text
Wrote held held_now text (Err (Early Sink)) = WroteLess held held_now text
Wrote held held_now text (Err (Early Flash)) = WrotePart held held_now text
Wrote held held_now text (Err (Early Space)) = ⊥
Wrote held held_now text (Err Input) = ⊥
Wrote held held_now text (Err Long) = ⊥

module _ (old new : Standing) where
  -- given commands were carried out, and one line was written
  abbrev pub Generates : Limits → List Command → Result ⊤ InputEnding → Type 0
  Generates limits commands (Ok done) = SummedUp commands old.database new.database old.held new.held
  Generates limits commands (Err (Early halt)) = StopsCommands limits commands old.database new.database old.held new.held halt
  Generates limits commands (Err Input) = ⊥
  Generates limits commands (Err Long) = ⊥

  -- a text was written, or what a fault left of it
  abbrev pub WritesText : List ℕ → Result ⊤ InputEnding → Type 0
  WritesText text result = Wrote old.held new.held text result

  -- the files tell what they told, unless they failed
  abbrev pub TellsOn : Result ⊤ InputEnding → Type 0
  TellsOn result = result ≢ Err (Early Flash) → new.tells ≡ old.tells

  -- what was done of a form, on a flash of this many sectors
  abbrev pub DoesForm : (sectors : ℕ) → (left left_now : Option (List ℕ)) → Limits → Form → Result ⊤ InputEnding → Type 0
  DoesForm sectors left left_now limits (Gen seed count) result = TellsOn result × Generates limits (first_commands seed count) result
  DoesForm sectors left left_now limits (Plan rows) result = TellsOn result × WritesText (plan_reply old.database rows sectors) result
  DoesForm sectors left left_now limits Dump result = TellsOn result × WritesText (script old.database) result
  DoesForm sectors left left_now limits Look result = TellsOn result × WritesText (database_lines old.database) result
  DoesForm sectors left left_now limits Run result = OnReader (λ read. Went script_line (script_talk read) old new left left_now limits result)
  DoesForm sectors left left_now limits Serve result = OnReader (λ read. Went frame_line (serve_talk read) old new left left_now limits result)

-- what an input whose entries only read makes a session read
abbrev pub InputReads : {E : Type 0} → Line E → Talk E → Standing → Option (List ℕ) → ℕ → Type 0
InputReads line talk old left reads = (text : List ℕ) → left ≡ Some text → AllByRecursion (AsksToRead talk) (line.all text)
    → reads ≤ old.reads + talk_costs talk old.database old.aheads (line.all text)

abbrev pub CarriedReads : Form → Standing → Option (List ℕ) → ℕ → Type 0
CarriedReads Run old left reads = OnReader (λ read. InputReads script_line (script_talk read) old left reads)
CarriedReads Serve old left reads = OnReader (λ read. InputReads frame_line (serve_talk read) old left reads)
CarriedReads (Plan rows) old left reads = reads ≡ old.reads
CarriedReads Dump old left reads = reads ≤ old.reads + 6 * slots_of_all old.database.relations
CarriedReads Look old left reads = reads ≤ old.reads + 6 * slots_of_all old.database.relations
CarriedReads _ old left reads = ⊤

-- the words ask for what neither changes files nor reads an input
abbrev pub OnlyTells : Form → Type 0
OnlyTells (Plan rows) = ⊤
OnlyTells Dump = ⊤
OnlyTells Look = ⊤
OnlyTells _ = ⊥

-- ---- why a run went no further, of what halts and what stops

abbrev pub halted : Result ⊤ Ending → Result ⊤ InputEnding
halted (Ok done) = Ok done
halted (Err halt) = Err (Early halt)

abbrev pub stopped : Result ⊤ Fault → Result ⊤ InputEnding
stopped (Ok done) = Ok done
stopped (Err fault.Sink) = Err (Early Sink)
stopped (Err fault.Flash) = Err (Early Flash)

-- no input failed or was too long
abbrev pub OnlyHalts : Result ⊤ InputEnding → Type 0
OnlyHalts (Ok done) = ⊤
OnlyHalts (Err (Early halt)) = ⊤
OnlyHalts (Err Input) = ⊥
OnlyHalts (Err Long) = ⊥

-- what was done without the input: files and sink hold on to what they borrow, all is kept in as many bytes as before, and
-- what failed has counted it
pub record LeavesInput {V K : Type 0} (v : FilesOf V) (k : SinkOf K) (old new : Seen V) (before now : K) (result : Result ⊤ InputEnding) : Type 0 where
  pub halts : OnlyHalts result
  pub store : length (v.state new.files).store ≡ length (v.state old.files).store
  pub borrows : v.lent new.files ≡ v.lent old.files
  pub lent : k.lent now ≡ k.lent before
  pub cause : (inputs : ℕ) → HasRunCause inputs inputs (v.faults old.files) (v.faults new.files) (k.faults before) (k.faults now) result
