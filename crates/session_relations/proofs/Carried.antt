-- What a command makes of the database of a session: a refusal, a change of the catalog, or a failure.
use Rattle.std.proofs.Common.{◌≡◌, ℕ, Ok, Err, refl, sym, ◌∙◌, ap, subst}
use Rattle.std.specs.Prelude.{IsTrue, Result}
use Rattle.afl_base.specs.declared.failed.Failed.{Failed}
use Rattle.afl_base.specs.declared.files.Files.{Ghosts as FilesOf}
use Rattle.afl_base.specs.declared.kind.FileError.{FileError}
use Rattle.afl_base.specs.declared.kind.FileError.TheVariants.{Space, Failed as FileFailed}
use Rattle.afl_base.specs.Keeping.{ChangesOrLacks}
use Rattle.afl_base.specs.Sparing.{TakesNoPage}
use Rattle.db_model.specs.declared.commands.Command.{Command}
use Rattle.db_model.specs.Ahead.{is_refused, moved}
use Rattle.db_model.specs.Database.{Database}
use Rattle.db_model.specs.Sound.{BringsNames, IsSoundDatabase}
use Rattle.db_model.specs.Step.{Fine, Outcome, Reads, outcome, replied, step, upgraded}
use Rattle.db_model.proofs.SoundSteps.{step_sound}
use Rattle.session_model.specs.declared.answer.Answer.TheVariants as answer
use Rattle.session_model.specs.declared.base.Base.{Base}
use Rattle.session_model.specs.declared.held.Held.{Held}
use Rattle.session_model.specs.Answers.{Changed}
use Rattle.session_model.specs.Carried.{Carries, IsEither, Tells, aheads, database}
use Rattle.session_model.specs.View.{view}
use Rattle.session_model.specs.Wanted.{WantsFew, WantsNone}
use Rattle.stored.specs.Mends.{MendsToDatabase}
use Rattle.session_relations.specs.Changes.{Shows}
use Rattle.session_relations.proofs.Answered.{answers_fine, answers_space}
use Rattle.session_model.proofs.Carrying.{ahead_stays}
use Rattle.session_model.proofs.CutCatalogs.{either_mends}

-- of a base whose files have changed, and what is known of them
module _ {V : Type 0} (v : FilesOf V) (command : Command) (made : Outcome) (old : Base V) (files : V) (held : Held)
    (is : outcome (database v old) command ≡ upgraded made) (stays : moved (database v old) (aheads v old) command ≡ aheads v old) (changes : Reads command → ⊥) where
  pub carries_fine : {T : Type 0} {r : Result T FileError} (db : Database) → made ≡ Ok (db, Fine) → Shows (v.state old.files) (v.state files) old.tables held old.opens (record db { version = 2 })
      → (Tells v old → WantsNone (v.asks old.files) (v.state old.files).files (database v old) command → TakesNoPage v.is_free (v.state old.files).store (v.state files).store)
      → ChangesOrLacks v.state v.lent v.reads v.faults v.lacks old.files files r → Carries v command old (record old { files = files; held = held }) (Ok answer.Fine)
  carries_fine db e shows spares frame = record {
    done = λ told. is ∙ answers_fine made (database v old) _ db e (shows.seen told);
    running = shows.running;
    ahead = λ told. ahead_stays (is_refused ((step (database v old) command).1)) (aheads v old) _ _ stays (shows.aheads told);
    tells = shows.tells;
    wants = λ told. tt;
    lacks = tt;
    spares = spares;
    cut = λ cuts told sound. tt;
    untouched = tt;
    same = λ reads. absurd (changes reads);
    reads = λ told reads. absurd (changes reads);
    frame = record { store = frame.store; lent = frame.lent; later = frame.later; cause = record { later = frame.cause.later; failed = tt } };
  }

  pub carries_space : {T : Type 0} (db : Database) (need : ℕ) → made ≡ Ok (db, Fine) → Shows (v.state old.files) (v.state files) old.tables held old.opens (database v old)
      → (Tells v old → WantsFew (v.asks files) (v.state files).files (view (v.state files).files held old.opens) command need)
      → ChangesOrLacks {T = T} v.state v.lent v.reads v.faults v.lacks old.files files (Err (Space need)) → Carries v command old (record old { files = files; held = held }) (Ok (answer.NoSpace need))
  carries_space db need e shows wants frame = record {
    done = λ told. subst (λ (o : Outcome). Changed o (database v old) (view (v.state files).files held old.opens) (answer.NoSpace need)) (sym is) (answers_space made (database v old) _ db need e (shows.seen told));
    running = shows.running;
    ahead = λ told. ahead_stays (is_refused ((step (database v old) command).1)) (aheads v old) _ _ stays (shows.aheads told);
    tells = shows.tells;
    wants = wants;
    lacks = frame.lacks;
    spares = λ told none. tt;
    cut = λ cuts told sound. tt;
    untouched = tt;
    same = λ reads. absurd (changes reads);
    reads = λ told reads. absurd (changes reads);
    frame = record { store = frame.store; lent = frame.lent; later = frame.later; cause = record { later = frame.cause.later; failed = tt } };
  }

  -- where the files failed
  pub carries_failed : {T : Type 0} (db : Database) (failed : Failed) → made ≡ Ok (db, Fine)
      → (IsTrue v.cuts → Tells v old → IsSoundDatabase (database v old) → (BringsNames command → IsSoundDatabase (record db { version = 2 })) → MendsToDatabase v.mends (v.state files).store (IsEither (database v old) db))
      → ChangesOrLacks {T = T} v.state v.lent v.reads v.faults v.lacks old.files files (Err FileFailed) → Carries v command old (record old { files = files; held = held }) (Err failed)
  carries_failed db failed e cut frame = record {
    done = λ told. tt;
    running = tt;
    ahead = λ told. tt;
    tells = tt;
    wants = λ told. tt;
    lacks = tt;
    spares = λ told none. tt;
    cut = λ cuts told sound. either_mends command made (database v old) db is e (cut cuts told sound (λ brings. subst IsSoundDatabase (ap (λ (o : Outcome). (replied (database v old) o).0) (is ∙ ap upgraded e)) (step_sound (database v old) command brings sound)));
    untouched = tt;
    same = λ reads. absurd (changes reads);
    reads = λ told reads. absurd (changes reads);
    frame = record { store = frame.store; lent = frame.lent; later = frame.later; cause = record { later = frame.cause.later; failed = frame.cause.failed refl } };
  }
