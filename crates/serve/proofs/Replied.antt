-- What comes of one entry, by the command that it asks for or its refusal.
use Rattle.std.proofs.Common.{◌≡◌, ℕ, ◌+◌, ◌≤◌, ap, sym, subst, ◌∙◌, arith}
use Rattle.std.specs.Prelude.{IsOk, Ok, Err}
use Rattle.run_entries.specs.Carried.{Limits, Standing}
use Rattle.db_model.specs.declared.commands.Command.{Command}
use Rattle.db_model.specs.declared.refusals.Refusal.{Refusal}
use Rattle.db_model.specs.Ahead.{cost_of}
use Rattle.db_model.specs.Database.{Database}
use Rattle.db_model.specs.ReplyText.{refusal_text, text}
use Rattle.db_model.specs.Step.{Reads, Refused, Reply, outcome, step}
use Rattle.db_model.proofs.ReplyTexts.{text_refused}
use Rattle.reply_text.specs.WroteLess.{WroteLess}
use Rattle.run_model.specs.Talk.{Talk, after_entry, answered, cost_answered}
use Rattle.session_model.specs.Steps.{WrotePart}
use Rattle.serve.specs.Answered.{FindsNone, ReadsFew, SaysLess, SaysPart}

module _ {E : Type 0} (talk : Talk E) (entry : E) (a b : Standing) where
  -- ---- a command

  module _ (c : Command) (is : talk.heard entry ≡ Ok c) (reads : Reads c → b.reads ≤ a.reads + cost_of a.database a.aheads c) where
    pub steps : after_entry talk a.database entry ≡ step a.database c
    steps = ap (answered a.database) is

    sent_is : talk.sent entry (text ((step a.database c).1)) ≡ talk.sent entry (text ((after_entry talk a.database entry).1))
    sent_is = sym (ap (λ (d : Database × Reply). talk.sent entry (text d.1)) steps)

    reads_few : ReadsFew talk entry a b
    reads_few all =
        let few = reads (all.0 c is) in
        let cost : cost_answered a.database a.aheads (talk.heard entry) ≡ cost_of a.database a.aheads c = ap (cost_answered a.database a.aheads) is in
        omega (arith, few, cost)

    pub says_less : b.tells ≡ a.tells → b.database ≡ (step a.database c).0 → WroteLess a.held b.held (talk.sent entry (text ((step a.database c).1))) → SaysLess talk entry a b
    unfolding sent_is reads_few steps
    says_less tells database held = record {
      tells = tells;
      database = database ∙ sym (ap (λ (d : Database × Reply). d.0) steps);
      held = subst (WroteLess a.held b.held) sent_is held;
      reads = reads_few;
    }

    pub says_part : (limits : Limits) → WrotePart a.held b.held (talk.sent entry (text ((step a.database c).1))) → ((Reads c → ⊥) → b.held ≡ a.held) → limits.Breaks a.database c → SaysPart talk entry limits a b
    unfolding sent_is reads_few steps
    says_part limits held unsaid breaks = record {
      command = c;
      asks = is;
      unsaid = unsaid;
      breaks = breaks;
      held = subst (WrotePart a.held b.held) sent_is held;
      reads = reads_few;
    }

    pub finds_none : (limits : Limits) (n : ℕ) → IsOk (outcome a.database c) → limits.Lacks c n → b.tells ≡ a.tells → b.database ≡ a.database → b.held ≡ a.held → FindsNone talk entry limits n a b
    finds_none limits n accepted lacks tells database held = record {
      command = c;
      asks = is;
      accepted = accepted;
      lacks = lacks;
      tells = tells;
      database = database;
      held = held;
      reads = reads;
    }

  -- ---- a refusal

  module _ (r : Refusal) (is : talk.heard entry ≡ Err r) (tells : b.tells ≡ a.tells) (database : b.database ≡ a.database) where
    pub refused_is : after_entry talk a.database entry ≡ (a.database, Refused r)
    refused_is = ap (answered a.database) is

    refused_sent : talk.sent entry (refusal_text r) ≡ talk.sent entry (text ((after_entry talk a.database entry).1))
    refused_sent = ap (talk.sent entry) (sym (text_refused r)) ∙ sym (ap (λ (d : Database × Reply). talk.sent entry (text d.1)) refused_is)

    pub refused_says_less : b.reads ≤ a.reads → WroteLess a.held b.held (talk.sent entry (refusal_text r)) → SaysLess talk entry a b
    unfolding refused_is refused_sent
    refused_says_less reads held = record {
      tells = tells;
      database = database ∙ sym (ap (λ (d : Database × Reply). d.0) refused_is);
      held = subst (WroteLess a.held b.held) refused_sent held;
      reads = λ all. omega (arith, reads);
    }
