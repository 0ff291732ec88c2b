use Rattle.std.proofs.Common.{rules, ap, refl, sym, subst, arith}
use Rattle.db_model.specs.Database.{Database}
use Rattle.db_model.specs.ReplyText.{text}
use Rattle.db_model.specs.Step.{Reply}
use Rattle.reply_text.specs.WroteLess.{WroteLess}
use Rattle.session_model.specs.Steps.{WritesReply}
use Rattle.session_cursors.proofs.fetching.fetch_cursor.Goals as goal
use Rattle.session_model.proofs.Carrying.{none_replied}

pub returns-in-Err : goal.returns-in-Err
returns-in-Err g c =
    let h = c.in-Err.ensures in
    record {
      written = record {
        reply = λ told. none_replied _ (g.K.Sink.held c.args.out.now);
        seen = search rules;
        running = search rules;
        ahead = search rules;
        reads = h.reads;
        frame = record {
          same = h.frame.same;
          lent = h.frame.lent;
          later = h.frame.later;
          sink_lent = refl;
          faultless = search rules;
          cause = record { files_later = h.frame.cause.later; replies_later = omega arith; flash = λ e. h.frame.cause.failed; sink = λ e. absurd (cc) };
        };
      };
      files_and_opens = refl;
      silent = λ e. refl;
    }

pub returns-in-Ok-write_reply : goal.returns-in-Ok-write_reply
returns-in-Ok-write_reply g c =
    let h = c.in-Ok.ensures in
    let w = c.in-Ok-write_reply.ensures in
    record {
      written = record {
        reply = λ told.
            let P : Reply → Type 0 = λ reply. WritesReply reply c.in-Ok-write_reply.outcome (g.K.Sink.held c.args.out.now) (g.K.Sink.held c.write_reply.new.out) in
            subst P (sym (ap (λ (s : Database × Reply). s.1) (h.done told))) w.done;
        seen = λ told. sym (ap (λ (s : Database × Reply). s.0) (h.done told));
        running = h.running;
        ahead = h.aheads;
        reads = h.reads;
        frame = record {
          same = h.frame.same;
          lent = h.frame.lent;
          later = h.frame.later;
          sink_lent = w.frame.lent;
          faultless = w.frame.faultless;
          cause = record { files_later = h.frame.cause.later; replies_later = w.frame.cause.later; flash = λ e. absurd (cc); sink = λ e. absurd (cc) };
        };
      };
      files_and_opens = refl;
      silent = λ e. absurd (cc);
    }

pub returns-in-Err-write_reply : goal.returns-in-Err-write_reply
returns-in-Err-write_reply g c =
    let h = c.in-Ok.ensures in
    let w = c.in-Err-write_reply.ensures in
    record {
      written = record {
        reply = λ told.
            let P : Reply → Type 0 = λ reply. WroteLess (g.K.Sink.held c.args.out.now) (g.K.Sink.held c.write_reply.new.out) (text reply) in
            subst P (sym (ap (λ (s : Database × Reply). s.1) (h.done told))) w.failed;
        seen = λ told. sym (ap (λ (s : Database × Reply). s.0) (h.done told));
        running = h.running;
        ahead = h.aheads;
        reads = h.reads;
        frame = record {
          same = h.frame.same;
          lent = h.frame.lent;
          later = h.frame.later;
          sink_lent = w.frame.lent;
          faultless = search rules;
          cause = record { files_later = h.frame.cause.later; replies_later = w.frame.cause.later; flash = λ e. absurd (cc); sink = λ e. w.frame.cause.failed };
        };
      };
      files_and_opens = refl;
      silent = λ e. absurd (cc);
    }
