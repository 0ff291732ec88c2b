-- What is said of a session that found no space for a command.
use Rattle.std.proofs.Common.{ℕ, Bool, Ok, sym, subst}
use Rattle.std.specs.Prelude.{◌≡◌, ◌≤◌}
use Rattle.afl_base.specs.declared.files.Files.{Ghosts as FilesOf}
use Rattle.afl_base.specs.declared.stream.Sink.{Ghosts as SinkOf}
use Rattle.db_model.specs.declared.commands.Command.{Command}
use Rattle.db_model.specs.Database.{Database}
use Rattle.session_model.specs.declared.base.Base.{Base}
use Rattle.session_model.specs.declared.step.Step.{Step}
use Rattle.session_model.specs.declared.step.Step.TheVariants.{Done, NoSpace}
use Rattle.afl_base.specs.declared.fault.Fault.{Fault}
use Rattle.session_model.specs.Carried.{Tells, aheads, database}
use Rattle.session_model.specs.Wanted.{WantsOver}
use Rattle.space_model.specs.Enough.{most}
use Rattle.antelope_engine.specs.Commands.{LacksPages}
use Rattle.antelope_engine.specs.Executed.{Executes}
use Rattle.antelope_engine.specs.Seen.{Seen, WhereNoSpace}

abbrev pub session_of : {V : Type 0} → FilesOf V → Base V → Bool → Bool → Seen V
session_of v base stopped lost = record { files = base.files; database = database v base; aheads = aheads v base; stopped = stopped; lost = lost }

-- the pages that lack are those that the database wants, since it stays
pub pages_lack : {V K : Type 0} (v : FilesOf V) (k : SinkOf K) (command : Command) (old new : Base V) (before now : K) (step : Step) (stopped lost : Bool)
    → Executes v k command old new before now (Ok step) → Tells v old
    → WhereNoSpace {E = Fault} (Ok step) (λ need. LacksPages v.state v.asks v.lacks (session_of v new stopped lost) command need)
pages_lack v k command old new before now (Done came) stopped lost e told = tt
pages_lack v k command old new before now (NoSpace need) stopped lost e told =
    let same : database v new ≡ database v old = (e.done told).0 in
    record {
      wants = subst (λ (db : Database). WantsOver (v.asks new.files) (v.state new.files).files db command need) (sym same) (e.wants told);
      few = subst (λ (db : Database). need ≤ most db command) (sym same) (e.fewest told);
      none = e.lacks;
    }

pub both_there : (step : Step) (P Q : ℕ → Type 0) → WhereNoSpace {E = Fault} (Ok step) P → WhereNoSpace {E = Fault} (Ok step) Q
    → WhereNoSpace {E = Fault} (Ok step) (λ need. P need × Q need)
both_there (Done came) P Q p q = tt
both_there (NoSpace need) P Q p q = (p, q)
