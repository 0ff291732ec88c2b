-- Entries that are carried out one after the other.
use Rattle.std.proofs.Common.{◌≡◌, inl, inr, ℕ, ◌+◌, ◌≤◌, List, [], ◌∷◌, ◌++◌, Option, refl, ap, sym, subst, ◌∙◌, arith, append_assoc}
use Rattle.std.specs.Io.KnownBytes.{append_known}
use Rattle.std.specs.List.{AllByRecursion}
use Rattle.db_model.specs.Ahead.{Aheads, is_refused}
use Rattle.db_model.specs.Database.{Database}
use Rattle.db_model.specs.ReplyText.{text}
use Rattle.db_model.specs.Step.{step}
use Rattle.run_input.specs.declared.ending.Ending.{Ending}
use Rattle.run_input.specs.declared.ending.Ending.TheVariants.{Space, Flash, Sink}
use Rattle.reply_text.proofs.Pieces.{append_known-nil, append_known-twice, held_more}
use Rattle.reply_text.specs.WroteLess.{WroteLess}
use Rattle.run_model.specs.Talk.{AsksToRead, Talk, after_entry, talk_costs, last_database, talk_aheads, talk_output}
use Rattle.run_model.proofs.Talks.{costs-append, last-append, last_aheads-append, output-append}
use Rattle.session_model.specs.Steps.{WrotePart}
use Rattle.run_entries.specs.Carried.{BrokeOff, Carried, HaltsIn, Limits, Standing, Stopped, StopsEntries, no_space}
use Rattle.padded.proofs.Facts.{all_front}

-- ---- entries that only read

all_behind : {X : Type 0} (P : X → Type 0) (xs ys : List X) → AllByRecursion P (xs ++ ys) → AllByRecursion P ys
all_behind P [] ys h = h
all_behind P (x ∷ xs) ys h = all_behind P xs ys h.1

module _ {E : Type 0} (talk : Talk E) where
  pub carried_none : (s : Standing) → Carried talk [] s s
  carried_none s = record {
    tells = refl;
    database = refl;
    held = sym (append_known-nil s.held);
    aheads = refl;
    reads = λ all. omega arith;
  }

  reads_then : (es fs : List E) (a b : Standing) → Carried talk es a b → (reads : ℕ)
      → (AllByRecursion (AsksToRead talk) fs → reads ≤ b.reads + talk_costs talk b.database b.aheads fs)
      → AllByRecursion (AsksToRead talk) (es ++ fs) → reads ≤ a.reads + talk_costs talk a.database a.aheads (es ++ fs)
  reads_then es fs a b x reads y all =
      let left = x.reads (all_front (AsksToRead talk) es fs all) in
      let right = y (all_behind (AsksToRead talk) es fs all) in
      let same : talk_costs talk b.database b.aheads fs ≡ talk_costs talk (last_database talk a.database es) (talk_aheads talk a.database a.aheads es) fs =
      ap (λ (db : Database). talk_costs talk db b.aheads fs) x.database ∙ ap (λ (aheads : Aheads). talk_costs talk (last_database talk a.database es) aheads fs) x.aheads in
      let sum = costs-append talk a.database a.aheads es fs in
      omega (arith, left, right, same, sum)

  pub carried_then : (es fs : List E) (a b c : Standing) → Carried talk es a b → Carried talk fs b c → Carried talk (es ++ fs) a c
  carried_then es fs a b c x y = record {
    tells = y.tells ∙ x.tells;
    database = y.database ∙ ap (λ (db : Database). last_database talk db fs) x.database ∙ sym (last-append talk a.database es fs);
    held = held_more a.held b.held c.held (talk_output talk a.database es) (talk_output talk (last_database talk a.database es) fs) (talk_output talk a.database (es ++ fs)) x.held
        (y.held ∙ ap (λ (db : Database). append_known b.held (talk_output talk db fs)) x.database) (output-append talk a.database es fs);
    aheads = y.aheads ∙ ap (λ (db : Database). talk_aheads talk db b.aheads fs) x.database
        ∙ ap (λ (aheads : Aheads). talk_aheads talk (last_database talk a.database es) aheads fs) x.aheads
        ∙ sym (last_aheads-append talk a.database a.aheads es fs);
    reads = reads_then es fs a b x c.reads y.reads;
  }

  -- ---- further entries in front

  module _ (limits : Limits) (es fs : List E) (a b c : Standing) (x : Carried talk es a b) where
    last_behind : (front : List E) → last_database talk b.database front ≡ last_database talk a.database (es ++ front)
    last_behind front = ap (λ (db : Database). last_database talk db front) x.database ∙ sym (last-append talk a.database es front)

    output_behind : (front : List E) (before : Option (List ℕ)) → before ≡ append_known b.held (talk_output talk b.database front)
        → before ≡ append_known a.held (talk_output talk a.database (es ++ front))
    output_behind front before e =
        held_more a.held b.held before (talk_output talk a.database es) (talk_output talk b.database front) (talk_output talk a.database (es ++ front)) x.held e
        (output-append talk a.database es front ∙ ap (λ (db : Database). talk_output talk a.database es ++ talk_output talk db front) (sym x.database))

    split_behind : (front rest : List E) (entry : E) → fs ≡ front ++ entry ∷ rest → es ++ fs ≡ (es ++ front) ++ entry ∷ rest
    split_behind front rest entry e = ap (λ (gs : List E). es ++ gs) e ∙ sym (append_assoc es front (entry ∷ rest))

    stopped_behind : Stopped talk limits fs b c → Stopped talk limits (es ++ fs) a c
    stopped_behind s = record {
      front = es ++ s.front;
      entry = s.entry;
      rest = s.rest;
      split = split_behind s.front s.rest s.entry s.split;
      command = s.command;
      n = s.n;
      asks = s.asks;
      tells = s.tells ∙ x.tells;
      database = s.database ∙ last_behind s.front;
      accepted = ap (λ (db : Database). is_refused ((step db s.command).1)) (sym (last_behind s.front)) ∙ s.accepted;
      lacks = s.lacks;
    }

    stops_later : (halt : Ending) → StopsEntries talk limits fs b c halt → StopsEntries talk limits (es ++ fs) a c halt
    unfolding stopped_behind
    stops_later Space h = record {
      stopped = stopped_behind h.stopped;
      held = held_more a.held (append_known b.held (talk_output talk b.database h.stopped.front)) c.held (talk_output talk a.database (es ++ h.stopped.front)) (no_space talk h.stopped.entry h.stopped.n)
          (talk_output talk a.database (es ++ h.stopped.front) ++ no_space talk h.stopped.entry h.stopped.n)
          (output_behind h.stopped.front (append_known b.held (talk_output talk b.database h.stopped.front)) refl)
          (h.held ∙ sym (append_known-twice b.held (talk_output talk b.database h.stopped.front) (no_space talk h.stopped.entry h.stopped.n))) refl;
    }
    stops_later Sink (inl h) = inl (record {
      front = es ++ h.front;
      entry = h.entry;
      rest = h.rest;
      split = split_behind h.front h.rest h.entry h.split;
      tells = h.tells ∙ x.tells;
      before = h.before;
      front_is = output_behind h.front h.before h.front_is;
      held = subst (λ (db : Database). WroteLess h.before c.held (talk.sent h.entry (text ((after_entry talk db h.entry).1)))) (last_behind h.front) h.held;
      database = h.database ∙ last_behind (h.front ++ h.entry ∷ [])
          ∙ ap (last_database talk a.database) (sym (append_assoc es h.front (h.entry ∷ [])));
    })
    stops_later Sink (inr h) = inr (record {
      stopped = stopped_behind h.stopped;
      before = h.before;
      front_is = output_behind h.stopped.front h.before h.front_is;
      held = h.held;
    })
    stops_later Flash h = record {
      front = es ++ h.front;
      entry = h.entry;
      rest = h.rest;
      split = split_behind h.front h.rest h.entry h.split;
      command = h.command;
      asks = h.asks;
      before = h.before;
      front_is = output_behind h.front h.before h.front_is;
      held = subst (λ (db : Database). WrotePart h.before c.held (talk.sent h.entry (text ((after_entry talk db h.entry).1)))) (last_behind h.front) h.held;
      unsaid = h.unsaid;
      breaks = subst (λ (db : Database). limits.Breaks db h.command) (last_behind h.front) h.breaks;
    }

    pub halts_later : (halt : Ending) → HaltsIn talk limits fs b c halt → HaltsIn talk limits (es ++ fs) a c halt
    halts_later halt h = record { stops = stops_later halt h.stops; reads = reads_then es fs a b x c.reads h.reads }

  -- ---- what was written for entries of which one broke off is a part of what all of them write

  pub part_written : (limits : Limits) (entries : List E) (a b : Standing) → BrokeOff talk limits entries a b → WrotePart a.held b.held (talk_output talk a.database entries)
  part_written limits entries a b h =
      let said = talk_output talk a.database h.front in
      let unsaid = talk_output talk ((after_entry talk (last_database talk a.database h.front) h.entry).0) h.rest in
      record {
        written = said ++ h.held.written;
        left = h.held.left ++ unsaid;
        whole = ap (talk_output talk a.database) h.split ∙ output-append talk a.database h.front (h.entry ∷ h.rest)
            ∙ ap (λ (bytes : List ℕ). said ++ (bytes ++ unsaid)) h.held.whole
            ∙ ap (λ (bytes : List ℕ). said ++ bytes) (append_assoc h.held.written h.held.left unsaid)
            ∙ sym (append_assoc said h.held.written (h.held.left ++ unsaid));
        held = held_more a.held h.before b.held said h.held.written (said ++ h.held.written) h.front_is h.held.held refl;
      }

  -- ---- further entries behind

  module _ (limits : Limits) (es fs : List E) (a b : Standing) where
    split_before : (front rest : List E) (entry : E) → es ≡ front ++ entry ∷ rest → es ++ fs ≡ front ++ entry ∷ (rest ++ fs)
    split_before front rest entry e = ap (λ (gs : List E). gs ++ fs) e ∙ append_assoc front (entry ∷ rest) fs

    stopped_before : Stopped talk limits es a b → Stopped talk limits (es ++ fs) a b
    stopped_before s = record {
      front = s.front;
      entry = s.entry;
      rest = s.rest ++ fs;
      split = split_before s.front s.rest s.entry s.split;
      command = s.command;
      n = s.n;
      asks = s.asks;
      tells = s.tells;
      database = s.database;
      accepted = s.accepted;
      lacks = s.lacks;
    }

    stops_sooner : (halt : Ending) → StopsEntries talk limits es a b halt → StopsEntries talk limits (es ++ fs) a b halt
    unfolding stopped_before
    stops_sooner Space h = record { stopped = stopped_before h.stopped; held = h.held }
    stops_sooner Sink (inl h) = inl (record {
      front = h.front;
      entry = h.entry;
      rest = h.rest ++ fs;
      split = split_before h.front h.rest h.entry h.split;
      tells = h.tells;
      before = h.before;
      front_is = h.front_is;
      held = h.held;
      database = h.database;
    })
    stops_sooner Sink (inr h) = inr (record { stopped = stopped_before h.stopped; before = h.before; front_is = h.front_is; held = h.held })
    stops_sooner Flash h = record {
      front = h.front;
      entry = h.entry;
      rest = h.rest ++ fs;
      split = split_before h.front h.rest h.entry h.split;
      command = h.command;
      asks = h.asks;
      before = h.before;
      front_is = h.front_is;
      held = h.held;
      unsaid = h.unsaid;
      breaks = h.breaks;
    }

    pub halts_sooner : (halt : Ending) → HaltsIn talk limits es a b halt → HaltsIn talk limits (es ++ fs) a b halt
    halts_sooner halt h = record {
      stops = stops_sooner halt h.stops;
      reads = λ all.
          let few = h.reads (all_front (AsksToRead talk) es fs all) in
          let sum = costs-append talk a.database a.aheads es fs in
          omega (arith, few, sum);
    }
