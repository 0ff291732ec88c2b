-- A session's invariant after a command and after a start.
use Rattle.std.proofs.Common.{◌≡◌, ℕ, Bool, false, List, Option, sym, subst}
use Rattle.afl_base.specs.declared.files.Files.{Ghosts as FilesOf}
use Rattle.afl_base.specs.Files.{State}
use Rattle.db_model.specs.declared.commands.Command.{Command}
use Rattle.db_model.specs.Database.{Database}
use Rattle.db_model.specs.Sound.{BringsNames, IsSoundDatabase}
use Rattle.db_model.specs.Step.{outcome, step}
use Rattle.db_model.proofs.SoundSteps.{step_sound}
use Rattle.session_model.specs.declared.held.Held.{Held}
use Rattle.session_model.specs.declared.held.Open.{Open}
use Rattle.session_model.specs.declared.step.Step.{Step}
use Rattle.session_model.specs.declared.step.Step.TheVariants.{Done, NoSpace}
use Rattle.session_model.specs.Carried.{Runs, Tells, database}
use Rattle.session_model.specs.declared.base.Base.{Base}
use Rattle.session_model.specs.Steps.{Does}
use Rattle.session_model.specs.View.{view}
use Rattle.stored.specs.Base.{base_of}
use Rattle.stored.specs.Sound.{IsSoundTable}
use Rattle.stored.proofs.SoundBase.{sound_base}
use Rattle.antelope_engine.specs.Seen.{IsSession}

-- a command keeps a database sound
pub sound_step : (db new : Database) (c : Command) → BringsNames c → IsSoundDatabase db → new ≡ (step db c).0 → IsSoundDatabase new
sound_step db new c names sound e = subst (λ (z : Database). IsSoundDatabase z) (sym e) (step_sound db c names sound)

pub sound_done : (db new : Database) (c : Command) (came : Step) (before now : Option (List ℕ)) → BringsNames c → IsSoundDatabase db
    → Does (outcome db c) db new came before now → IsSoundDatabase new
sound_done db new c (Done result) before now names sound does = sound_step db new c names sound does.0
sound_done db new c (NoSpace need) before now names sound does = subst (λ (z : Database). IsSoundDatabase z) (sym does.0) sound

-- what runs over a sound database is a session, and one that stopped is one still
pub is_session : {V : Type 0} (v : FilesOf V) (base : Base V) (stopped lost : Bool) → Runs v base → (Tells v base → IsSoundDatabase (database v base))
    → (stopped ≡ false → lost ≡ false) → IsSession v base stopped lost
is_session v base stopped lost running sound going = record { running = λ e. running; sound = λ e told. sound told; going = going }

-- sound files stand for a sound database
pub sound_start : (state : State) (held : Held) (opens : List (Option Open)) → IsSoundTable state.files → view state.files held opens ≡ base_of state.files
    → IsSoundDatabase (view state.files held opens)
sound_start state held opens sound base = subst (λ (z : Database). IsSoundDatabase z) (sym base) (sound_base state.files sound)
