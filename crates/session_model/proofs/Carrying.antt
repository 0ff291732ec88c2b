-- What every command carries: a refusal, cursors that stay, and a reply that was not begun.
use Rattle.std.proofs.Common.{ℕ, List, [], Option, Err, refl, sym, ◌≡◌, Ok, arith, Bool, true, false, if◌then◌else◌, ◌∙◌}
use Rattle.db_model.specs.ReplyText.{text}
use Rattle.db_model.specs.Step.{Reply, outcome}
use Rattle.reply_text.proofs.Pieces.{append_known-nil}
use Rattle.afl_base.specs.declared.fault.Fault.TheVariants.{Flash}
use Rattle.session_model.specs.Steps.{Replies}
use Rattle.afl_base.specs.declared.files.Files.{Ghosts as FilesOf}
use Rattle.db_model.specs.declared.commands.Command.{Command}
use Rattle.db_model.specs.declared.refusals.Refusal.{Refusal}
use Rattle.session_model.specs.declared.base.Base.{Base}
use Rattle.session_model.specs.Carried.{Carries, Runs, Tells, database}
use Rattle.db_model.specs.Ahead.{Aheads, moved}
use Rattle.session_model.specs.declared.answer.Answer.TheVariants as answer

pub none_replied : (reply : Reply) (h : Option (List ℕ)) → Replies reply (Err Flash) h h
none_replied reply h = record { written = []; left = text reply; whole = refl; held = sym (append_known-nil h) }

pub carries_refused : {V : Type 0} (v : FilesOf V) (command : Command) (base : Base V) (refusal : Refusal) → Runs v base → (Tells v base → outcome (database v base) command ≡ Err refusal)
    → Carries v command base base (Ok (answer.Refused refusal))
carries_refused v command base refusal runs refused = record {
  done = λ told. (refused told, refl);
  running = runs;
  ahead = λ told. rw (refused told) refl;
  tells = refl;
  wants = λ told. tt;
  lacks = tt;
  spares = λ told none. tt;
  cut = λ cuts told sound. tt;
  untouched = refl;
  same = λ reads. refl;
  reads = λ told reads. omega arith;
  frame = record { store = refl; lent = refl; later = omega arith; cause = record { later = omega arith; failed = tt } };
}

pub ahead_stays : (refused : Bool) (before after moved : Aheads) → moved ≡ before → after ≡ before → after ≡ (if refused then before else moved)
ahead_stays true before after moved stays same = same
ahead_stays false before after moved stays same = same ∙ sym stays
