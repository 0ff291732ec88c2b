-- Where a run goes no further, by what comes of an entry.
use Rattle.std.proofs.Common.{◌≡◌, inl, ℕ, List, [], ◌∷◌, Option, refl, ap, sym, ◌∙◌}
use Rattle.std.specs.Io.KnownBytes.{append_known}
use Rattle.run_entries.proofs.Single.{command_found, command_unsaid}
use Rattle.run_entries.specs.Carried.{HaltsIn, Limits, Standing, no_space}
use Rattle.run_input.specs.declared.ending.Ending.TheVariants.{Space, Flash, Sink}
use Rattle.reply_text.proofs.Pieces.{append_known-nil}
use Rattle.reply_text.specs.WroteLess.{WroteLess}
use Rattle.run_model.specs.Talk.{Talk}
use Rattle.serve.specs.Answered.{FindsNone, SaysLess, SaysPart}

module _ {E : Type 0} (talk : Talk E) (entry : E) (limits : Limits) (a b : Standing) where
  pub less_halts : SaysLess talk entry a b → HaltsIn talk limits (entry ∷ []) a b Sink
  less_halts s = record {
    stops = inl (record {
      front = [];
      entry = entry;
      rest = [];
      split = refl;
      tells = s.tells;
      before = a.held;
      front_is = sym (append_known-nil a.held);
      held = s.held;
      database = s.database;
    });
    reads = s.reads;
  }

  pub part_halts : SaysPart talk entry limits a b → HaltsIn talk limits (entry ∷ []) a b Flash
  part_halts s = record {
    stops = record {
      front = [];
      entry = entry;
      rest = [];
      split = refl;
      command = s.command;
      asks = s.asks;
      before = a.held;
      front_is = sym (append_known-nil a.held);
      held = s.held;
      unsaid = s.unsaid;
      breaks = s.breaks;
    };
    reads = s.reads;
  }

  pub none_halts : (n : ℕ) (held : Option (List ℕ)) → FindsNone talk entry limits n a b → held ≡ append_known b.held (no_space talk entry n) → HaltsIn talk limits (entry ∷ []) a (record b { held = held }) Space
  none_halts n held f wrote =
      command_found talk entry a (record b { held = held }) f.tells f.command f.asks limits f.reads n f.database f.accepted f.lacks
      (wrote ∙ ap (λ (h : Option (List ℕ)). append_known h (no_space talk entry n)) f.held)

  pub unsaid_halts : (n : ℕ) (held : Option (List ℕ)) → FindsNone talk entry limits n a b → WroteLess b.held held (no_space talk entry n) → HaltsIn talk limits (entry ∷ []) a (record b { held = held }) Sink
  unsaid_halts n held f less =
      command_unsaid talk entry a (record b { held = held }) f.tells f.command f.asks limits f.reads n f.database f.accepted f.lacks b.held f.held less
