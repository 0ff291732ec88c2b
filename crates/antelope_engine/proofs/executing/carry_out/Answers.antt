use Rattle.std.proofs.Common.{◌≡◌, ◌≤◌, Bool, ap, length, refl, sym, subst, IsTrue, rules}
use Rattle.afl_base.specs.Files.{State}
use Rattle.afl_base.proofs.SparingLaws.{takes_no_page_same}
use Rattle.db_model.specs.declared.commands.Command.{Command}
use Rattle.db_model.specs.declared.commands.Command.TheVariants as command
use Rattle.db_model.specs.Step.{Reads}
use Rattle.session_model.specs.declared.step.Outcome.{Outcome}
use Rattle.session_model.specs.declared.step.Step.{Step}
use Rattle.session_model.specs.Carried.{database}
use Rattle.session_model.specs.Wanted.{WantsOver}
use Rattle.session_model.proofs.CutHeld.{same_between}
use Rattle.space_model.specs.Enough.{most}
use Rattle.antelope_engine.proofs.Asked.{at_sink, replied_flash, replied_sink, unless_any, unless_err}
use Rattle.antelope_engine.proofs.Causes.{cause_done, cause_failed, cause_replied, cause_stopped, cause_unreplied}
use Rattle.antelope_engine.proofs.Replies.{part_same}
use Rattle.antelope_engine.proofs.Spaces.{err_moved, space_before, space_map, space_told}
use Rattle.antelope_engine.proofs.Store.{few_at_most, few_wanted}
use Rattle.antelope_engine.proofs.Untouched.{spared_done, untouched_always, untouched_done}
use Rattle.antelope_engine.specs.Writes.{WritesRows}
use Rattle.antelope_engine.proofs.executing.carry_out.Goals as goal

rows_read : (c : Command) → WritesRows c → Reads c
rows_read (command.Ask _) w = tt
rows_read (command.Aggregate _ _ _) w = tt
rows_read (command.FetchCursor _) w = tt
rows_read (command.CreateRelation _) w = absurd w
rows_read (command.CreateAttribute _ _ _) w = absurd w
rows_read (command.CreateIndex _ _ _) w = absurd w
rows_read (command.Insert _ _) w = absurd w
rows_read (command.RemoveFrom _ _) w = absurd w
rows_read (command.RemoveRelation _) w = absurd w
rows_read (command.RemoveIndex _ _) w = absurd w
rows_read (command.Pack _) w = absurd w
rows_read (command.OpenCursor _ _) w = absurd w
rows_read (command.CloseCursor _) w = absurd w

pub returns-in-Ok : goal.returns-in-Ok
returns-in-Ok g c =
    let e = c.in-Ok.ensures.written in record {
      executed = record {
        done = λ told. (e.seen told, e.reply told);
        sink = search rules;
        flash = search rules;
        silent = search rules;
        wants = search rules;
        fewest = search rules;
        lacks = search rules;
        ahead = e.ahead;
        tells = ap (λ (s : State). s.tells) e.frame.same;
        running = e.running;
        spares = λ told wants. takes_no_page_same g.V.Files.is_free (g.V.Files.state c.args.base.now.files).store _ (ap (λ (s : State). s.store) e.frame.same);
        untouched = untouched_always c.in-Ok.came _ e.frame.same;
        same = λ reads. e.frame.same;
        reads = λ told reads. e.reads told (c.requires.sound told);
        frame = record {
          store = ap (λ (s : State). length s.store) e.frame.same;
          lent = e.frame.lent;
          later = e.frame.later;
          sink_lent = e.frame.sink_lent;
          faultless = e.frame.faultless;
          cause = cause_done _ _ _ _ c.in-Ok.came _ e.frame.cause;
        };
      };
    }

pub returns-in-Err : goal.returns-in-Err
returns-in-Err g c =
    let e = c.in-Err.ensures.written in
    let stop = c.in-Err.stop in record {
      executed = record {
        done = search rules;
        sink = λ told is.
            let sink = err_moved Step Outcome stop _ is in
            (at_sink _ stop _ sink (e.seen told), replied_sink _ stop _ _ sink (e.reply told));
        flash = λ told is. record {
          part = replied_flash _ stop _ _ (err_moved Step Outcome stop _ is) (e.reply told);
          mends = λ cuts. same_between g.V.Files c.args.command.now c.args.base.now c.write.new.base.files c.requires.running cuts told (c.requires.sound told) e.frame.same;
          unsaid = λ changes. absurd (changes (rows_read c.args.command.now c.if-writes_rows.ensures));
        };
        silent = search rules;
        wants = search rules;
        fewest = search rules;
        lacks = search rules;
        ahead = λ told. unless_err Outcome Step stop _ (e.ahead told);
        tells = unless_any Step stop _ (ap (λ (s : State). s.tells) e.frame.same);
        running = unless_err Outcome Step stop _ e.running;
        spares = search rules;
        untouched = search rules;
        same = λ reads. e.frame.same;
        reads = λ told reads. e.reads told (c.requires.sound told);
        frame = record {
          store = ap (λ (s : State). length s.store) e.frame.same;
          lent = e.frame.lent;
          later = e.frame.later;
          sink_lent = e.frame.sink_lent;
          faultless = search rules;
          cause = cause_stopped _ _ _ _ stop e.frame.cause;
        };
      };
    }

pub returns-in-Ok-write_answer : goal.returns-in-Ok-write_answer
returns-in-Ok-write_answer g c =
    let e = c.in-Ok-answer.ensures.carried in
    let w = c.in-Ok-write_answer.ensures in
    let a = c.in-Ok-answer.answer in
    let step = c.in-Ok-write_answer.step in
    let old = database g.V.Files c.args.base.now in
    let new = database g.V.Files c.answer.new.base in
    let asks = g.V.Files.asks c.answer.new.base.files in
    let state = g.V.Files.state c.answer.new.base.files in record {
      executed = record {
        done = λ told. w.done _ _ _ (e.done told);
        sink = search rules;
        flash = search rules;
        silent = w.silent;
        wants = λ told. space_before a step c.args.command.now old new (λ db need. WantsOver asks state.files db c.args.command.now need)
            w.space (e.done told) (space_map a _ _ (λ need few. few_wanted asks state.files new c.args.command.now need few) (e.wants told));
        fewest = λ told.
            let still : IsTrue state.tells = subst (λ (b : Bool). IsTrue b) (sym e.tells) told in
            space_before a step c.args.command.now old new (λ db need. need ≤ most db c.args.command.now) w.space (e.done told)
            (space_map a _ _ (λ need few. few_at_most state c.answer.new.base.tables c.answer.new.base.held c.answer.new.base.opens e.running
            asks c.args.command.now need still few) (e.wants told));
        lacks = space_told a step _ w.space e.lacks;
        ahead = e.ahead;
        tells = e.tells;
        running = e.running;
        spares = λ told wants. spared_done a step _ _ _ _ w.done (λ same. takes_no_page_same g.V.Files.is_free (g.V.Files.state c.args.base.now.files).store _ (ap (λ (s : State). s.store) same)) (e.spares told wants) e.untouched;
        untouched = untouched_done a step _ _ _ w.done e.untouched;
        same = e.same;
        reads = e.reads;
        frame = record {
          store = e.frame.store;
          lent = e.frame.lent;
          later = e.frame.later;
          sink_lent = w.frame.lent;
          faultless = w.frame.faultless;
          cause = cause_replied _ _ _ _ a step e.frame.cause w.frame.cause;
        };
      };
    }

pub returns-in-Err-write_answer : goal.returns-in-Err-write_answer
returns-in-Err-write_answer g c =
    let e = c.in-Ok-answer.ensures.carried in
    let w = c.in-Err-write_answer.ensures in record {
      executed = record {
        done = search rules;
        sink = λ told is. w.failed _ _ _ (e.done told);
        flash = search rules;
        silent = search rules;
        wants = search rules;
        fewest = search rules;
        lacks = search rules;
        ahead = e.ahead;
        tells = e.tells;
        running = e.running;
        spares = search rules;
        untouched = search rules;
        same = e.same;
        reads = e.reads;
        frame = record {
          store = e.frame.store;
          lent = e.frame.lent;
          later = e.frame.later;
          sink_lent = w.frame.lent;
          faultless = search rules;
          cause = cause_unreplied _ _ _ _ c.in-Ok-answer.answer c.in-Err-write_answer.field-0 e.frame.cause w.frame.cause;
        };
      };
    }

pub returns-in-Err-answer : goal.returns-in-Err-answer
returns-in-Err-answer g c =
    let e = c.in-Err-answer.ensures.carried in record {
      executed = record {
        done = search rules;
        sink = search rules;
        flash = λ told is. record { part = part_same _ _ _ refl; mends = λ cuts. e.cut cuts told (c.requires.sound told); unsaid = λ changes. refl };
        silent = search rules;
        wants = search rules;
        fewest = search rules;
        lacks = search rules;
        ahead = search rules;
        tells = search rules;
        running = search rules;
        spares = search rules;
        untouched = search rules;
        same = e.same;
        reads = e.reads;
        frame = record {
          store = e.frame.store;
          lent = e.frame.lent;
          later = e.frame.later;
          sink_lent = refl;
          faultless = search rules;
          cause = cause_failed _ _ _ c.in-Err-answer.field-0 e.frame.cause;
        };
      };
    }
