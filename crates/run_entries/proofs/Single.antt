-- One entry that is carried out or refused.
use Rattle.std.proofs.Common.{◌≡◌, inl, inr, ℕ, ◌+◌, ◌≤◌, List, [], ◌∷◌, Option, refl, ap, sym, subst, ◌∙◌, arith}
use Rattle.std.specs.Prelude.{IsOk, Ok, Err}
use Rattle.std.specs.Io.KnownBytes.{append_known}
use Rattle.std.specs.List.{AllByRecursion}
use Rattle.std.proofs.lemmas.List.{append-nil}
use Rattle.db_model.specs.declared.commands.Command.{Command}
use Rattle.run_input.specs.declared.ending.Ending.TheVariants.{Space, Flash, Sink}
use Rattle.session_model.specs.Steps.{WrotePart}
use Rattle.db_model.specs.declared.refusals.Refusal.{Refusal}
use Rattle.db_model.specs.Ahead.{aheads_after, cost_of}
use Rattle.db_model.specs.Database.{Database}
use Rattle.db_model.specs.ReplyText.{refusal_text, text}
use Rattle.db_model.specs.Step.{Reads, Refused, Reply, outcome, step}
use Rattle.db_model.proofs.ReplyTexts.{text_refused}
use Rattle.reply_text.proofs.Pieces.{append_known-nil}
use Rattle.reply_text.specs.WroteLess.{WroteLess}
use Rattle.run_model.specs.Talk.{AsksToRead, Talk, after_entry, aheads_answered, answered, cost_answered, talk_costs}
use Rattle.run_entries.specs.Carried.{Carried, HaltsIn, Limits, SaidLess, Standing, Stopped, no_space}
use Rattle.run_entries.proofs.Accepted.{accepted}

-- ---- an entry that asks for a command: its reply and its cost

module _ {E : Type 0} (talk : Talk E) (entry : E) (a b : Standing) (c : Command) (is : talk.heard entry ≡ Ok c) where
  steps : after_entry talk a.database entry ≡ step a.database c
  steps = ap (answered a.database) is

  sent_is : talk.sent entry (text ((after_entry talk a.database entry).1)) ≡ talk.sent entry (text ((step a.database c).1))
  sent_is = ap (λ (d : Database × Reply). talk.sent entry (text d.1)) steps

  command_reads : (Reads c → b.reads ≤ a.reads + cost_of a.database a.aheads c) → AllByRecursion (AsksToRead talk) (entry ∷ []) → b.reads ≤ a.reads + talk_costs talk a.database a.aheads (entry ∷ [])
  command_reads reads all =
      let few = reads (all.0 c is) in
      let cost : cost_answered a.database a.aheads (talk.heard entry) ≡ cost_of a.database a.aheads c = ap (cost_answered a.database a.aheads) is in
      omega (arith, few, cost)

  -- a fault of the files amid a command
  pub command_faulted : (limits : Limits) → (Reads c → b.reads ≤ a.reads + cost_of a.database a.aheads c)
      → WrotePart a.held b.held (talk.sent entry (text ((step a.database c).1))) → ((Reads c → ⊥) → b.held ≡ a.held) → limits.Breaks a.database c → HaltsIn talk limits (entry ∷ []) a b Flash
  unfolding sent_is command_reads
  command_faulted limits reads part unsaid breaks = record {
    stops = record {
      front = [];
      entry = entry;
      rest = [];
      split = refl;
      command = c;
      asks = is;
      before = a.held;
      front_is = sym (append_known-nil a.held);
      held = subst (λ (t : List ℕ). WrotePart a.held b.held t) (sym sent_is) part;
      unsaid = unsaid;
      breaks = breaks;
    };
    reads = command_reads reads;
  }

module _ {E : Type 0} (talk : Talk E) (entry : E) (a b : Standing) (tells : b.tells ≡ a.tells) where
  -- ---- an entry that is refused

  module _ (r : Refusal) (is : talk.heard entry ≡ Err r) (database : b.database ≡ a.database) where
    refused_is : after_entry talk a.database entry ≡ (a.database, Refused r)
    refused_is = ap (answered a.database) is

    refused_sent : talk.sent entry (text ((after_entry talk a.database entry).1)) ≡ talk.sent entry (refusal_text r)
    refused_sent = ap (λ (d : Database × Reply). talk.sent entry (text d.1)) refused_is ∙ ap (talk.sent entry) (text_refused r)

    pub refused_carried : b.aheads ≡ a.aheads → b.reads ≤ a.reads → b.held ≡ append_known a.held (talk.sent entry (refusal_text r)) → Carried talk (entry ∷ []) a b
    refused_carried aheads reads held = record {
      tells = tells;
      database = database ∙ sym (ap (λ (d : Database × Reply). d.0) refused_is);
      held = held ∙ ap (append_known a.held) (sym refused_sent ∙ sym (append-nil (talk.sent entry (text ((after_entry talk a.database entry).1)))));
      aheads = aheads ∙ sym (ap (aheads_answered a.database a.aheads) is);
      reads = λ all. omega (arith, reads);
    }

    refused_less : WroteLess a.held b.held (talk.sent entry (refusal_text r)) → SaidLess talk (entry ∷ []) a b
    refused_less less = record {
      front = [];
      entry = entry;
      rest = [];
      split = refl;
      tells = tells;
      before = a.held;
      front_is = sym (append_known-nil a.held);
      held = subst (λ (bytes : List ℕ). WroteLess a.held b.held bytes) (sym refused_sent) less;
      database = database ∙ sym (ap (λ (d : Database × Reply). d.0) refused_is);
    }

    pub refused_halts : (limits : Limits) → b.reads ≤ a.reads → WroteLess a.held b.held (talk.sent entry (refusal_text r)) → HaltsIn talk limits (entry ∷ []) a b Sink
    unfolding refused_less
    refused_halts limits reads less = record { stops = inl (refused_less less); reads = λ all. omega (arith, reads) }

  -- ---- an entry that asks for a command

  module _ (c : Command) (is : talk.heard entry ≡ Ok c) where
    pub command_carried : b.database ≡ (step a.database c).0 → b.held ≡ append_known a.held (talk.sent entry (text ((step a.database c).1)))
        → b.aheads ≡ aheads_after a.database a.aheads c → (Reads c → b.reads ≤ a.reads + cost_of a.database a.aheads c) → Carried talk (entry ∷ []) a b
    command_carried database held aheads reads = record {
      tells = tells;
      database = database ∙ sym (ap (λ (d : Database × Reply). d.0) (steps talk entry a b c is));
      held = held ∙ ap (append_known a.held) (sym (sent_is talk entry a b c is) ∙ sym (append-nil (talk.sent entry (text ((after_entry talk a.database entry).1)))));
      aheads = aheads ∙ sym (ap (aheads_answered a.database a.aheads) is);
      reads = command_reads talk entry a b c is reads;
    }

    command_less : WroteLess a.held b.held (talk.sent entry (text ((step a.database c).1))) → b.database ≡ (step a.database c).0 → SaidLess talk (entry ∷ []) a b
    command_less less database = record {
      front = [];
      entry = entry;
      rest = [];
      split = refl;
      tells = tells;
      before = a.held;
      front_is = sym (append_known-nil a.held);
      held = subst (λ (t : List ℕ). WroteLess a.held b.held t) (sym (sent_is talk entry a b c is)) less;
      database = database ∙ sym (ap (λ (d : Database × Reply). d.0) (steps talk entry a b c is));
    }

    module _ (limits : Limits) (reads : Reads c → b.reads ≤ a.reads + cost_of a.database a.aheads c) where
      pub command_halts_less : WroteLess a.held b.held (talk.sent entry (text ((step a.database c).1))) → b.database ≡ (step a.database c).0 → HaltsIn talk limits (entry ∷ []) a b Sink
      unfolding command_less command_reads
      command_halts_less less database = record { stops = inl (command_less less database); reads = command_reads talk entry a b c is reads }

      module _ (n : ℕ) (database : b.database ≡ a.database) (ok : IsOk (outcome a.database c)) (lacks : limits.Lacks c n) where
        command_stopped : Stopped talk limits (entry ∷ []) a b
        command_stopped = record {
          front = [];
          entry = entry;
          rest = [];
          split = refl;
          command = c;
          n = n;
          asks = is;
          tells = tells;
          database = database;
          accepted = accepted a.database c ok;
          lacks = lacks;
        }

        pub command_found : b.held ≡ append_known a.held (no_space talk entry n) → HaltsIn talk limits (entry ∷ []) a b Space
        unfolding command_stopped command_reads
        command_found held = record { stops = record { stopped = command_stopped; held = held }; reads = command_reads talk entry a b c is reads }

        pub command_unsaid : (before : Option (List ℕ)) → before ≡ a.held → WroteLess before b.held (no_space talk entry n) → HaltsIn talk limits (entry ∷ []) a b Sink
        unfolding command_stopped command_reads
        command_unsaid before same held = record {
          stops = inr (record {
            stopped = command_stopped;
            before = before;
            front_is = same ∙ sym (append_known-nil a.held);
            held = held;
          });
          reads = command_reads talk entry a b c is reads;
        }
