-- The line over what was counted.
use Rattle.std.proofs.Common.{◌≡◌, ℕ, List, ◌++◌, Option, ap, ◌∙◌, subst}
use Rattle.std.specs.Io.KnownBytes.{append_known}
use Rattle.run_entries.specs.Carried.{Limits}
use Rattle.db_model.specs.declared.commands.Command.{Command}
use Rattle.db_model.specs.declared.refusals.Refusal.TheVariants as no
use Rattle.db_model.specs.Database.{Database}
use Rattle.db_model.specs.ReplyText.{refusal_text}
use Rattle.db_model.specs.Workload.{Tally, tally_text}
use Rattle.reply_text.specs.WroteLess.{WroteLess}
use Rattle.run_generated.specs.Counted.{Counted, CountedUntil}
use Rattle.run_generated.specs.Summed.{SaidNoRoom, LeftLineUnsaid, LeftSpaceUnsaid, SummedUp}

module _ (cs : List Command) (a b : Database) (t : Tally) (before now : Option (List ℕ)) where
  pub summed_up : Counted cs a b t → now ≡ append_known before (tally_text t) → SummedUp cs a b before now
  summed_up c e = record { database = c.database; held = e ∙ ap (λ (s : Tally). append_known before (tally_text s)) c.tally_is }

  pub line_unsaid : Counted cs a b t → WroteLess before now (tally_text t) → LeftLineUnsaid cs a b before now
  line_unsaid c w = record { database = c.database; held = subst (λ (s : Tally). WroteLess before now (tally_text s)) c.tally_is w }

  module _ (limits : Limits) (n : ℕ) (c : CountedUntil limits cs a b t n) where
    pub found_none : now ≡ append_known before (tally_text t ++ refusal_text (no.Space n)) → SaidNoRoom limits cs a b before now
    found_none e = record {
      n = n;
      stops = c.stops;
      held = e ∙ ap (λ (s : Tally). append_known before (tally_text s ++ refusal_text (no.Space n))) c.tally_is;
    }

    pub space_unsaid : WroteLess before now (tally_text t ++ refusal_text (no.Space n)) → LeftSpaceUnsaid limits cs a b before now
    space_unsaid w = record {
      n = n;
      stops = c.stops;
      held = subst (λ (s : Tally). WroteLess before now (tally_text s ++ refusal_text (no.Space n))) c.tally_is w;
    }
