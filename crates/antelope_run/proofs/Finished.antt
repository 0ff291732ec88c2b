-- From what a session did with an input to what the image and the sink hold then.
use Rattle.std.proofs.Common.{◌≡◌, ◌≢◌, ◌⊎◌, inl, inr, ℕ, List, [], ◌∷◌, ◌++◌, Option, refl, ap, sym, subst, ◌∙◌, append_assoc}
use Rattle.std.specs.Prelude.{⊤, Result, Ok, Err}
use Rattle.std.specs.Io.KnownBytes.{append_known}
use Rattle.std.proofs.lemmas.List.{append-nil}
use Rattle.db_model.specs.declared.commands.Command.{Command}
use Rattle.db_model.specs.Between.{IsBetween}
use Rattle.db_model.specs.Database.{Database, bare}
use Rattle.db_model.specs.ReplyText.{text}
use Rattle.run_input.specs.declared.ending.Ending.TheVariants.{Space, Flash, Sink}
use Rattle.run_input.specs.declared.ending.InputEnding.{InputEnding}
use Rattle.run_input.specs.declared.ending.InputEnding.TheVariants.{Input, Long, Early}
use Rattle.reply_text.proofs.Pieces.{append_known-twice}
use Rattle.reply_text.specs.WroteLess.{WroteLess}
use Rattle.image_model.specs.Images.{base}
use Rattle.image_model.specs.Mending.{ImageMendsTo}
use Rattle.run_entries.proofs.Composed.{part_written}
use Rattle.run_entries.specs.Carried.{Carried, FoundNoRoom, Limits, SaidLess, SaidNone, Standing, Stopped, no_space}
use Rattle.run_entries.specs.Went.{CarriedAll, ReachedLimit, TookSome, Went, StoppedWithin}
use Rattle.run_model.specs.Line.{Line}
use Rattle.run_model.specs.Runs.{CarriedOut, FoundNoSpace, InputBrokenOff, InputCutOff, InputEnded, InputFaulted, InputFoundNoSpace, InputTooLong, InputUnsaid, ReplyUnsaid, SpaceUnsaid, StopsAt, World, WroteFrom, WroteInFront, WroteWithin, machine_from, world}
use Rattle.run_model.specs.Talk.{Talk, after_entry, last_database, talk_output}
use Rattle.run_model.proofs.Talks.{output-append}
use Rattle.antelope_run.specs.SessionImage.{IsImageOf}

-- less than some bytes, behind others
pub wrote_within : (least all whole : List ℕ) (old before now : Option (List ℕ)) → before ≡ append_known old least → WroteLess before now all → whole ≡ least ++ all
    → WroteWithin least whole old now
wrote_within least all whole old before now is w split = record {
  part = w.written;
  rest = w.left;
  some = w.some;
  split = split ∙ ap (λ t. least ++ t) w.whole ∙ sym (append_assoc least w.written w.left);
  held = w.held ∙ ap (λ h. append_known h w.written) is ∙ append_known-twice old least w.written;
}

module _ {E : Type 0} (talk : Talk E) (a b : Standing) (image image_now : List ℕ) (left left_now : Option (List ℕ)) where
  abbrev pub Before : World
  Before = world image left a.held

  abbrev pub After : World
  After = world image_now left_now b.held

  module _ (limits : Limits) (back : IsImageOf b.database limits.Lacks image_now) where
    pub carried_out : (entries : List E) → Carried talk entries a b → CarriedOut (machine_from talk a.database) entries Before After
    carried_out entries c = record {
      written = c.held;
      stands = record { sound = back.sound; base_is = back.base_is ∙ ap bare c.database };
    }

    stops_at : (entries : List E) (s : Stopped talk limits entries a b) → StopsAt (machine_from talk a.database) entries s.front s.n image_now
    stops_at entries s = record {
      entry = s.entry;
      rest = s.rest;
      split = s.split;
      command = s.command;
      asks = s.asks;
      accepted = s.accepted;
      lacks = back.lacks s.command s.n s.lacks;
      stands = record { sound = back.sound; base_is = back.base_is ∙ ap bare s.database };
    }

    pub found : (entries : List E) → FoundNoRoom talk limits entries a b → FoundNoSpace (machine_from talk a.database) entries Before After
    unfolding stops_at
    found entries f = record { front = f.stopped.front; n = f.stopped.n; stops = stops_at entries f.stopped; written = f.held }

    pub space_unsaid : (entries : List E) → SaidNone talk limits entries a b → SpaceUnsaid (machine_from talk a.database) (talk_output talk a.database) entries Before After
    unfolding stops_at
    space_unsaid entries f = record {
      front = f.stopped.front;
      n = f.stopped.n;
      stops = stops_at entries f.stopped;
      written = wrote_within (talk_output talk a.database f.stopped.front) (no_space talk f.stopped.entry f.stopped.n)
          (talk_output talk a.database f.stopped.front ++ no_space talk f.stopped.entry f.stopped.n) a.held f.before b.held f.front_is f.held refl;
    }

    pub reply_unsaid : (entries : List E) → SaidLess talk entries a b → ReplyUnsaid (machine_from talk a.database) entries Before After
    reply_unsaid entries f =
        let here : List ℕ = talk.sent f.entry (text ((after_entry talk (last_database talk a.database f.front) f.entry).1)) in
        record {
          front = f.front;
          entry = f.entry;
          rest = f.rest;
          split = f.split;
          written = wrote_within (talk_output talk a.database f.front) here (talk_output talk a.database (f.front ++ f.entry ∷ [])) a.held f.before b.held f.front_is f.held
              (output-append talk a.database f.front (f.entry ∷ []) ∙ ap (λ t. talk_output talk a.database f.front ++ t) (append-nil here));
          stands = record { sound = back.sound; base_is = back.base_is ∙ ap bare f.database };
        }

-- the files tell as they did, unless they failed
pub told_on : {E : Type 0} (line : Line E) (talk : Talk E) (a b : Standing) (left left_now : Option (List ℕ)) (limits : Limits) (result : Result ⊤ InputEnding)
    → Went line talk a b left left_now limits result → result ≢ Err (Early Flash) → b.tells ≡ a.tells
told_on line talk a b left left_now limits (Ok done) w other = w.carried.tells
told_on line talk a b left left_now limits (Err Input) w other = w.carried.tells
told_on line talk a b left left_now limits (Err Long) w other = w.carried.tells
told_on line talk a b left left_now limits (Err (Early Space)) w other = w.halts.stops.stopped.tells
told_on line talk a b left left_now limits (Err (Early Sink)) w other = by_stop w.halts.stops
  where
    by_stop : (SaidLess talk w.entries a b ⊎ SaidNone talk limits w.entries a b) → b.tells ≡ a.tells
    by_stop (inl s) = s.tells
    by_stop (inr s) = s.stopped.tells
told_on line talk a b left left_now limits (Err (Early Flash)) w other = absurd (other refl)

-- ---- status by status

module _ {E : Type 0} (line : Line E) (talk : Talk E) (a b : Standing) (image image_now : List ℕ) (left left_now : Option (List ℕ)) (start : a.database ≡ base image)
    (limits : Limits) where
  module _ (back : IsImageOf b.database limits.Lacks image_now) where
    pub ended : CarriedAll line talk a b left left_now → InputEnded line talk (world image left a.held) (world image_now left_now b.held)
    ended t = record {
      bytes = t.bytes;
      came = record { left = t.came; few = t.few };
      at_end = t.at_end;
      carried = subst (λ (db : Database). CarriedOut (machine_from talk db) (line.all t.bytes) (world image left a.held) (world image_now left_now b.held)) start
          (carried_out talk a b image image_now left left_now limits back (line.all t.bytes) t.carried);
    }

    pub cut_off : TookSome line talk a b left left_now → InputCutOff line talk (world image left a.held) (world image_now left_now b.held)
    cut_off t = record {
      bytes = t.bytes;
      came = record { left = t.came; few = t.few };
      carried = subst (λ (db : Database). CarriedOut (machine_from talk db) (line.whole t.bytes) (world image left a.held) (world image_now left_now b.held)) start
          (carried_out talk a b image image_now left left_now limits back (line.whole t.bytes) t.carried);
    }

    pub too_long : ReachedLimit line talk a b left left_now → InputTooLong line talk (world image left a.held) (world image_now left_now b.held)
    too_long t = record {
      bytes = t.bytes;
      more = t.more;
      left = t.came;
      many = t.many;
      one = t.one;
      carried = subst (λ (db : Database). CarriedOut (machine_from talk db) (line.whole t.bytes) (world image left a.held) (world image_now left_now b.held)) start
          (carried_out talk a b image image_now left left_now limits back (line.whole t.bytes) t.carried);
    }

    pub found_no_space : StoppedWithin line talk a b left left_now limits Space → InputFoundNoSpace line talk (world image left a.held) (world image_now left_now b.held)
    found_no_space t = record {
      bytes = t.bytes;
      entries = t.entries;
      came = record { left = t.came; few = t.few };
      are = t.are;
      found = subst (λ (db : Database). FoundNoSpace (machine_from talk db) t.entries (world image left a.held) (world image_now left_now b.held)) start
          (found talk a b image image_now left left_now limits back t.entries t.halts.stops);
    }

    abbrev Unsaid : List E → Database → Type 0
    Unsaid entries db = ReplyUnsaid (machine_from talk db) entries (world image left a.held) (world image_now left_now b.held)
        ⊎ SpaceUnsaid (machine_from talk db) (talk_output talk db) entries (world image left a.held) (world image_now left_now b.held)

    unsaid_at : (entries : List E) → (SaidLess talk entries a b ⊎ SaidNone talk limits entries a b) → Unsaid entries a.database
    unsaid_at entries (inl s) = inl (reply_unsaid talk a b image image_now left left_now limits back entries s)
    unsaid_at entries (inr s) = inr (space_unsaid talk a b image image_now left left_now limits back entries s)

    pub unsaid : StoppedWithin line talk a b left left_now limits Sink → InputUnsaid line talk (world image left a.held) (world image_now left_now b.held)
    unsaid t = record {
      bytes = t.bytes;
      entries = t.entries;
      came = record { left = t.came; few = t.few };
      are = t.are;
      stopped = subst (Unsaid t.entries) start (unsaid_at t.entries t.halts.stops);
    }

  pub faulted : StoppedWithin line talk a b left left_now limits Flash → InputFaulted line talk (world image left a.held) (world image_now left_now b.held)
  faulted t = record {
    bytes = t.bytes;
    entries = t.entries;
    came = record { left = t.came; few = t.few };
    are = t.are;
    written =
        let w = part_written talk limits t.entries a b t.halts.stops in
        subst (λ (db : Database). WroteInFront (talk_output talk db t.entries) a.held b.held) start
        (record { part = w.written; rest = w.left; split = w.whole; held = w.held });
  }

  -- the command that broke off leaves an image that mends to a database between
  pub broken_off : ((db : Database) (command : Command) → limits.Breaks db command → ImageMendsTo image_now (IsBetween db command))
      → StoppedWithin line talk a b left left_now limits Flash → InputBrokenOff line talk (world image left a.held) (world image_now left_now b.held)
  broken_off mends t =
      let s = t.halts.stops in
      let said = talk_output talk a.database s.front in
      let reply = talk.sent s.entry (text ((after_entry talk (last_database talk a.database s.front) s.entry).1)) in
      record {
        bytes = t.bytes;
        entries = t.entries;
        came = record { left = t.came; few = t.few };
        are = t.are;
        front = s.front;
        breaks = record {
          entry = s.entry;
          rest = s.rest;
          split = s.split;
          command = s.command;
          asks = s.asks;
          mends = subst (λ (db : Database). ImageMendsTo image_now (IsBetween (last_database talk db s.front) s.command)) start (mends (last_database talk a.database s.front) s.command s.breaks);
        };
        written = subst (λ (db : Database). WroteFrom (talk_output talk db s.front) (talk_output talk db (s.front ++ s.entry ∷ [])) a.held b.held) start (record {
          part = s.held.written;
          rest = s.held.left;
          split = output-append talk a.database s.front (s.entry ∷ []) ∙ ap (λ t. said ++ t) (append-nil reply ∙ s.held.whole) ∙ sym (append_assoc said s.held.written s.held.left);
          held = s.held.held ∙ ap (λ h. append_known h s.held.written) s.front_is ∙ append_known-twice a.held said s.held.written;
        });
        unsaid = λ changes. subst (λ (db : Database). b.held ≡ append_known a.held (talk_output talk db s.front)) start (s.unsaid changes ∙ s.front_is);
      }
