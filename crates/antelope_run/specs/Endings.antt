-- What a run over a sound image leaves behind, by the form of its words and by how it ended.
use Rattle.std.specs.Prelude.{◌≡◌, ◌⊎◌, ⊤, ℕ, ◌/◌, List, [], length, Result, Ok, Err}
use Rattle.std.specs.Io.KnownBytes.{append_known}
use Rattle.db_model.specs.declared.commands.Command.{Command}
use Rattle.db_model.specs.declared.refusals.Refusal.{Refusal}
use Rattle.db_model.specs.declared.refusals.Refusal.TheVariants as no
use Rattle.db_model.specs.Database.{Database}
use Rattle.db_model.specs.Reading.{IsReader}
use Rattle.db_model.specs.ReplyText.{refusal_text}
use Rattle.db_model.specs.Step.{after_all}
use Rattle.db_model.specs.Workload.{first_commands}
use Rattle.dump_model.specs.Script.{script}
use Rattle.run_input.specs.declared.ending.Ending.TheVariants.{Space, Flash, Sink}
use Rattle.run_input.specs.declared.ending.InputEnding.{InputEnding}
use Rattle.run_input.specs.declared.ending.InputEnding.TheVariants.{Input, Long, Early}
use Rattle.run_look.specs.Text.{look_text}
use Rattle.run_model.specs.Line.{Line}
use Rattle.run_model.specs.Runs.{BreaksOffAt, CarriedOut, FoundNoSpace, InputBrokenOff, InputCutOff, InputEnded, InputFaulted, InputFoundNoSpace, InputTooLong, InputUnsaid, Machine, SpaceUnsaid, StandsAfter, World, WroteInFront, WroteWithin}
use Rattle.run_model.specs.Scripts.{script_line, script_talk}
use Rattle.run_model.specs.Talk.{Talk}
use Rattle.run_words.specs.declared.words.Form.{Form}
use Rattle.run_words.specs.declared.words.Form.TheVariants.{Run, Gen, Plan, Serve, Dump, Look}
use Rattle.run_frames.specs.Frames.{frame_line}
use Rattle.run_frames.specs.Served.{serve_talk}
use Rattle.image_model.specs.Images.{base}
use Rattle.space_plan.specs.declared.further.FurtherRows.{FurtherRows}
use Rattle.space_plan.specs.Lines.{plan_reply}
use Rattle.run_generated.specs.Summed.{summed}

-- whatever reads the bytes of commands as they are to be read
abbrev pub OnReader : ((List ℕ → Result Command Refusal) → Type 0) → Type 0
OnReader P = (read : List ℕ → Result Command Refusal) → IsReader read → P read

-- ---- an input, whose bytes are cut into entries by `line` and answered by `talk`

abbrev pub InputLeaves : {E : Type 0} → Line E → Talk E → World → World → Result ⊤ InputEnding → Type 0
InputLeaves line talk old new (Ok done) = InputEnded line talk old new
InputLeaves line talk old new (Err Input) = InputCutOff line talk old new
InputLeaves line talk old new (Err Long) = InputTooLong line talk old new
InputLeaves line talk old new (Err (Early Space)) = InputFoundNoSpace line talk old new
InputLeaves line talk old new (Err (Early Flash)) = InputFaulted line talk old new
InputLeaves line talk old new (Err (Early Sink)) = InputUnsaid line talk old new

-- ---- generated commands

-- the relational machine over given commands, which writes one line behind all of them
abbrev pub summed_from : Database → Machine Command
summed_from db = record {
  written = summed db;
  last = after_all db;
  Asks = λ entry command. entry ≡ command;
  refused = λ entry n. refusal_text (no.Space n);
}

-- the line was not wholly written
pub record LineUnsaid (commands : List Command) (old new : World) : Type 0 where
  pub written : WroteWithin [] (summed (base old.image) commands) old.held new.held
  pub stands : StandsAfter (summed_from (base old.image)) commands new.image

-- of an image where the flash failed nothing is said
abbrev pub CommandsLeave : List Command → World → World → Result ⊤ InputEnding → Type 0
CommandsLeave commands old new (Ok done) = CarriedOut (summed_from (base old.image)) commands old new
CommandsLeave commands old new (Err (Early Space)) = FoundNoSpace (summed_from (base old.image)) commands old new
CommandsLeave commands old new (Err (Early Flash)) = new.held ≡ old.held
CommandsLeave commands old new (Err (Early Sink)) =
    LineUnsaid commands old new ⊎ SpaceUnsaid (summed_from (base old.image)) (λ front. []) commands old new
CommandsLeave commands old new (Err Input) = ⊥
CommandsLeave commands old new (Err Long) = ⊥

-- ---- what is told of an image: the sectors that are planned for further rows, or that a relation is not there; the script of
-- its database; what stands on it is `look_text`

abbrev pub planned_text : FurtherRows → List ℕ → List ℕ
planned_text rows image = plan_reply (base image) rows (length image / 4096)

abbrev pub dumped_text : List ℕ → List ℕ
dumped_text image = script (base image)

-- the image stays, and no input is read
pub record LeavesImage (old new : World) : Type 0 where
  pub same : new.image ≡ old.image
  pub unread : new.left ≡ old.left

abbrev pub TextLeaves : (List ℕ → List ℕ) → World → World → Result ⊤ InputEnding → Type 0
TextLeaves text old new (Ok done) = LeavesImage old new × (new.held ≡ append_known old.held (text old.image))
TextLeaves text old new (Err (Early Flash)) = LeavesImage old new × WroteInFront (text old.image) old.held new.held
TextLeaves text old new (Err (Early Sink)) = LeavesImage old new × WroteWithin [] (text old.image) old.held new.held
TextLeaves text old new (Err (Early Space)) = ⊥
TextLeaves text old new (Err Input) = ⊥
TextLeaves text old new (Err Long) = ⊥

-- ---- each form

abbrev pub LeavesBehind : Form → World → World → Result ⊤ InputEnding → Type 0
LeavesBehind Run old new done = OnReader (λ read. InputLeaves script_line (script_talk read) old new done)
LeavesBehind Serve old new done = OnReader (λ read. InputLeaves frame_line (serve_talk read) old new done)
LeavesBehind (Gen seed count) old new done = CommandsLeave (first_commands seed count) old new done
LeavesBehind (Plan rows) old new done = TextLeaves (planned_text rows) old new done
LeavesBehind Dump old new done = TextLeaves dumped_text old new done
LeavesBehind Look old new done = TextLeaves look_text old new done

-- ---- where the flash failed, and its failures are cuts of the power

-- nothing was written of the line behind generated commands
pub record LineBrokenOff (commands : List Command) (old new : World) : Type 0 where
  pub front : List Command
  pub breaks : BreaksOffAt (summed_from (base old.image)) commands front new.image
  pub unsaid : new.held ≡ old.held

abbrev pub BrokenOff : Form → World → World → Type 0
BrokenOff Run old new = OnReader (λ read. InputBrokenOff script_line (script_talk read) old new)
BrokenOff Serve old new = OnReader (λ read. InputBrokenOff frame_line (serve_talk read) old new)
BrokenOff (Gen seed count) old new = LineBrokenOff (first_commands seed count) old new
BrokenOff (Plan rows) old new = LeavesImage old new
BrokenOff Dump old new = LeavesImage old new
BrokenOff Look old new = LeavesImage old new
