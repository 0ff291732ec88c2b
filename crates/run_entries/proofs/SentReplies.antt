-- A reply that goes through a sink that gathers, and not all of it further on.
use Rattle.std.proofs.Common.{◌≡◌, inl, inr, ℕ, ◌<◌, ◌≤◌, false, List, [], ◌∷◌, ◌++◌, length, Option, refl, ap, sym, subst, ◌∙◌, arith, append_assoc, length-append, ⊎_elim}
use Rattle.std.specs.Prelude.{⊤, IfErr, OnOk, Ok, Err, Result}
use Rattle.std.specs.Io.KnownBytes.{append_known}
use Rattle.std.proofs.lemmas.List.{append-nil}
use Rattle.afl_base.specs.declared.files.Files.{Ghosts as FilesOf}
use Rattle.afl_base.specs.Causes.{Rose}
use Rattle.afl_base.proofs.CauseLaws.{rose_later}
use Rattle.db_model.specs.declared.commands.Command.{Command}
use Rattle.db_model.specs.declared.refusals.Refusal.{Refusal}
use Rattle.db_model.specs.ReplyText.{text}
use Rattle.db_model.specs.Step.{Refused, Reply}
use Rattle.buffered_sink.proofs.Fronts.{front_part, less_of_all, less_of_less, none_left}
use Rattle.buffered_sink.specs.Handing.{WroteFront}
use Rattle.run_input.specs.declared.ending.Ending.{Ending}
use Rattle.run_input.specs.declared.ending.Ending.TheVariants.{Space, Flash, Sink}
use Rattle.run_input.specs.Sent.{FailsNow, Sent}
use Rattle.session_model.specs.Steps.{WrotePart}
use Rattle.run_model.specs.Talk.{Talk, after_entry, last_database, talk_output}
use Rattle.run_entries.specs.Carried.{Carried, FoundNoRoom, HaltsIn, Limits, SaidLess, SaidNone, Standing, Stopped, limits_of, no_space, standing_of}
use Rattle.db_model.specs.declared.refusals.Refusal.TheVariants as no
use Rattle.db_model.proofs.ReplyTexts.{text_refused}
use Rattle.reply_text.proofs.Pieces.{append_known-nil}
use Rattle.reply_text.specs.WroteLess.{WroteLess}
use Rattle.run_entries.specs.Taking.{CarriesEntries, KeepsRunning, HaltsInBytes, HaltsWithin, HasOne, Input, Running, TakesBytes, Told, running}
use Rattle.padded.proofs.Facts.{false_true}

-- the same, where the sink holds this
abbrev pub held_by : Standing → Option (List ℕ) → Standing
held_by s held = record s { held = held }

-- a part of a part
part_of_part : (h0 h2 wanted : Option (List ℕ)) (all : List ℕ) → WroteFront h0 h2 wanted → WrotePart h0 wanted all → WrotePart h0 h2 all
part_of_part h0 h2 wanted all w l =
    let p = front_part h0 h2 wanted l.written w l.held in
    record {
      written = p.written;
      left = p.left ++ l.left;
      whole = l.whole ∙ ap (λ xs. xs ++ l.left) p.whole ∙ append_assoc p.written p.left l.left;
      held = p.held;
    }

-- of nothing nothing goes out
no_front : (xs ys : List ℕ) → xs ++ ys ≡ [] → xs ≡ []
no_front [] ys e = refl
no_front (x ∷ xs) ys e = absurd (cc)

none_went : (h0 h2 wanted : Option (List ℕ)) → WroteFront h0 h2 wanted → wanted ≡ h0 → h2 ≡ h0
none_went h0 h2 wanted w same =
    let p = front_part h0 h2 wanted [] w (same ∙ sym (append_known-nil h0)) in
    p.held ∙ ap (append_known h0) (no_front p.written p.left (sym p.whole)) ∙ append_known-nil h0

one_front : {E : Type 0} (x y : E) (xs zs : List E) → x ∷ [] ≡ xs ++ y ∷ zs → xs ≡ []
one_front x y [] zs e = refl
one_front x y (a ∷ more) zs e = let long = ap length e in let sum = length-append more (y ∷ zs) in absurd (omega (arith, long, sum))

module _ {E : Type 0} (talk : Talk E) (some : (entry : E) (reply : Reply) → 0 < length (talk.sent entry (text reply))) (entry : E) (old new : Standing) (h1 : Option (List ℕ)) where
  -- nothing was written for the entries before the one that was not carried out
  said_before : (front rest : List E) (e : E) → entry ∷ [] ≡ front ++ e ∷ rest → old.held ≡ append_known old.held (talk_output talk old.database front)
  said_before front rest e split =
      sym (ap (λ es. append_known old.held (talk_output talk old.database es)) (one_front entry e front rest split) ∙ append_known-nil old.held)

  none_before : (front rest : List E) (e : E) (before : Option (List ℕ)) → entry ∷ [] ≡ front ++ e ∷ rest → before ≡ append_known old.held (talk_output talk old.database front) → before ≡ old.held
  none_before front rest e before split is =
      is ∙ sym (said_before front rest e split)

  module _ (w : WroteFront old.held new.held h1) where
    -- less of the reply was gathered
    less_still : SaidLess talk (entry ∷ []) old (held_by new h1) → SaidLess talk (entry ∷ []) old new
    less_still s =
        let reply = talk.sent s.entry (text ((after_entry talk (last_database talk old.database s.front) s.entry).1)) in
        record {
          front = s.front;
          entry = s.entry;
          rest = s.rest;
          split = s.split;
          tells = s.tells;
          before = old.held;
          front_is = said_before s.front s.rest s.entry s.split;
          held = less_of_less old.held new.held h1 reply w (subst (λ h. WroteLess h h1 reply) (none_before s.front s.rest s.entry s.before s.split s.front_is) s.held);
          database = s.database;
        }

    -- all of it was gathered, and less went out
    less_went : 0 < length w.left → Carried talk (entry ∷ []) old (held_by new h1) → SaidLess talk (entry ∷ []) old new
    less_went left c =
        let reply = (after_entry talk old.database entry).1 in
        record {
          front = [];
          entry = entry;
          rest = [];
          split = refl;
          tells = c.tells;
          before = old.held;
          front_is = said_before [] [] entry refl;
          held = less_of_all old.held new.held h1 (talk.sent entry (text reply)) w (c.held ∙ ap (append_known old.held) (append-nil (talk.sent entry (text reply)))) left (some entry reply);
          database = c.database;
        }

    module _ (limits : Limits) where
      still_stopped : Stopped talk limits (entry ∷ []) old (held_by new h1) → Stopped talk limits (entry ∷ []) old new
      still_stopped s = record {
        front = s.front;
        entry = s.entry;
        rest = s.rest;
        split = s.split;
        command = s.command;
        n = s.n;
        asks = s.asks;
        tells = s.tells;
        database = s.database;
        accepted = s.accepted;
        lacks = s.lacks;
      }

      -- the line that there is no space went out, or less of it
      found_still : w.left ≡ [] → FoundNoRoom talk limits (entry ∷ []) old (held_by new h1) → FoundNoRoom talk limits (entry ∷ []) old new
      unfolding still_stopped
      found_still none f = record {
        stopped = still_stopped f.stopped;
        held = sym (none_left old.held new.held h1 w none) ∙ f.held;
      }

      unsaid_still : SaidNone talk limits (entry ∷ []) old (held_by new h1) → SaidNone talk limits (entry ∷ []) old new
      unfolding still_stopped
      unsaid_still s =
          let t = s.stopped in
          let line = no_space talk t.entry t.n in
          record {
            stopped = still_stopped t;
            before = old.held;
            front_is = said_before t.front t.rest t.entry t.split;
            held = less_of_less old.held new.held h1 line w (subst (λ h. WroteLess h h1 line) (none_before t.front t.rest t.entry s.before t.split s.front_is) s.held);
          }

      unsaid_now : 0 < length w.left → FoundNoRoom talk limits (entry ∷ []) old (held_by new h1) → SaidNone talk limits (entry ∷ []) old new
      unfolding still_stopped
      unsaid_now left f =
          let t = f.stopped in
          let line = no_space talk t.entry t.n in
          let none = one_front entry t.entry t.front t.rest t.split in
          let long = subst (λ bytes. 0 < length (talk.sent t.entry bytes)) (text_refused (no.Space t.n)) (some t.entry (Refused (no.Space t.n))) in
          record {
            stopped = still_stopped t;
            before = old.held;
            front_is = said_before t.front t.rest t.entry t.split;
            held = less_of_all old.held new.held h1 line w (f.held ∙ ap (λ es. append_known old.held (talk_output talk old.database es ++ line)) none) left long;
          }

      -- why it went no further, before the reply was handed on and behind
      abbrev Halts : Ending → Type 0
      Halts halt = HaltsIn talk limits (entry ∷ []) old (held_by new h1) halt

      space_still : w.left ≡ [] → Halts Space → HaltsIn talk limits (entry ∷ []) old new Space
      space_still none h = record { stops = found_still none h.stops; reads = h.reads }

      flash_still : Halts Flash → HaltsIn talk limits (entry ∷ []) old new Flash
      flash_still h =
          let s = h.stops in
          let reply = talk.sent s.entry (text ((after_entry talk (last_database talk old.database s.front) s.entry).1)) in
          let none = none_before s.front s.rest s.entry s.before s.split s.front_is in
          record {
            stops = record {
              front = s.front;
              entry = s.entry;
              rest = s.rest;
              split = s.split;
              command = s.command;
              asks = s.asks;
              before = old.held;
              front_is = said_before s.front s.rest s.entry s.split;
              held = part_of_part old.held new.held h1 reply w (subst (λ h. WrotePart h h1 reply) none s.held);
              unsaid = λ changes. none_went old.held new.held h1 w (s.unsaid changes ∙ none);
              breaks = s.breaks;
            };
            reads = h.reads;
          }

      sink_still : Halts Sink → HaltsIn talk limits (entry ∷ []) old new Sink
      sink_still h = record { stops = ⊎_elim (λ s. inl (less_still s)) (λ s. inr (unsaid_still s)) h.stops; reads = h.reads }

      sink_now : 0 < length w.left → Carried talk (entry ∷ []) old (held_by new h1) → HaltsIn talk limits (entry ∷ []) old new Sink
      sink_now left c = record { stops = inl (less_went left c); reads = c.reads }

      space_now : 0 < length w.left → Halts Space → HaltsIn talk limits (entry ∷ []) old new Sink
      space_now left h = record { stops = inr (unsaid_now left h.stops); reads = h.reads }

-- ---- a session that takes an input

rose_on : (a b c : ℕ) → Rose a b → b ≤ c → Rose a c
rose_on a b c rose low = omega (arith, low, rose)

sink_flash : Sink ≡ Flash → ⊥
sink_flash e = cc

space_flash : Space ≡ Flash → ⊥
space_flash e = cc

on_ok : {A B : Type 0} (answered : Result ⊤ Ending) → (A → B) → OnOk answered A → OnOk answered B
on_ok (Ok done) f says = f says
on_ok (Err halt) f says = tt

module _ {E Q P V : Type 0} (input : Input E Q P) (files : FilesOf V)
    (some : (read : List ℕ → Result Command Refusal) (entry : E) (reply : Reply) → 0 < length ((input.talk read).sent entry (text reply)))
    (a b : Running V P) (held : Option (List ℕ)) (replies : ℕ) where
  -- the session, and what the sink behind has of the reply
  abbrev now : Running V P
  now = running b.session b.part held replies

  abbrev old : Standing
  old = standing_of files.state files.reads a.session a.held

  abbrev new : Standing
  new = standing_of files.state files.reads b.session held

  abbrev limits : Limits
  limits = limits_of files b.session

  module _ (entries : Q → List E) (one : HasOne input a.part entries) (w : WroteFront a.held held b.held) (later : b.replies ≤ replies) where
    on_now : KeepsRunning input files a b → KeepsRunning input files a now
    on_now on = record { faults = on.faults; replies = omega (arith, on.replies, later); store = on.store; lent = on.lent }

    told_now : (halt halt_now : Ending)
        → ((read : List ℕ → Result Command Refusal) (entry : E) → HaltsIn (input.talk read) limits (entry ∷ []) old (held_by new b.held) halt → HaltsIn (input.talk read) limits (entry ∷ []) old new halt_now)
        → HaltsWithin input files a b entries halt → a.session.stopped ≡ false → Told input files a (λ talk q. HaltsIn talk limits (entries q) old new halt_now)
    told_now halt halt_now f h = λ going told read reader q k.
        let entry = (one q k).0 in
        let is : entries q ≡ entry ∷ [] = (one q k).1 in
        subst (λ (es : List E). HaltsIn (input.talk read) limits es old new halt_now) (sym is)
        (f read entry (subst (λ (es : List E). HaltsIn (input.talk read) limits es old (held_by new b.held) halt) is (h.halts going told read reader q k)))

    still : (halt : Ending)
        → ((read : List ℕ → Result Command Refusal) (entry : E) → HaltsIn (input.talk read) limits (entry ∷ []) old (held_by new b.held) halt → HaltsIn (input.talk read) limits (entry ∷ []) old new halt)
        → HaltsWithin input files a b entries halt → HaltsWithin input files a now entries halt
    still halt f h = record {
      kept = h.kept;
      flash = h.flash;
      sink = λ going is. rose_on a.replies b.replies replies (h.sink going is) later;
      halts = told_now halt halt f h;
      on = on_now h.on;
    }

    still_sink : HaltsWithin input files a b entries Sink → HaltsWithin input files a now entries Sink
    still_sink h = still Sink (λ read entry. sink_still (input.talk read) (some read) entry old new b.held w limits) h

    fails_now : (answered : Result ⊤ Ending) → FailsNow answered b.replies replies w.left → OnOk answered (CarriesEntries input files a b entries)
        → IfErr answered (λ halt. HaltsWithin input files a b entries halt) → HaltsWithin input files a now entries Sink
    fails_now (Ok done) fails c h = record {
      kept = λ going kept lost. absurd (false_true b.session.lost (c.kept going kept) lost);
      flash = λ going is. absurd (sink_flash is);
      sink = λ going is. rose_later a.replies b.replies replies c.on.replies fails.rose;
      halts = λ going told read reader q k.
          let entry = (one q k).0 in
          let is : entries q ≡ entry ∷ [] = (one q k).1 in
          subst (λ (es : List E). HaltsIn (input.talk read) limits es old new Sink) (sym is)
          (sink_now (input.talk read) (some read) entry old new b.held w limits fails.some
          (subst (λ (es : List E). Carried (input.talk read) es old (held_by new b.held)) is (c.carried going told read reader q k)));
      on = on_now c.on;
    }
    fails_now (Err Space) fails c h = record {
      kept = λ going kept lost. absurd (space_flash (h.kept going kept lost));
      flash = λ going is. absurd (sink_flash is);
      sink = λ going is. rose_later a.replies b.replies replies h.on.replies fails.rose;
      halts = told_now Space Sink (λ read entry. space_now (input.talk read) (some read) entry old new b.held w limits fails.some) h;
      on = on_now h.on;
    }
    fails_now (Err Flash) fails c h = absurd (fails.fine refl)
    fails_now (Err Sink) fails c h = still_sink h

    pub sent_reply : (answered : Result ⊤ Ending) (halt : Ending) → OnOk answered (CarriesEntries input files a b entries)
        → IfErr answered (λ h. HaltsWithin input files a b entries h) → Sent answered b.replies replies w.left (Err halt) → HaltsWithin input files a now entries halt
    sent_reply answered Space c h sent = still Space (λ read entry. space_still (input.talk read) (some read) entry old new b.held w limits sent.1) (rw sent.0 at h)
    sent_reply answered Flash c h sent = still Flash (λ read entry. flash_still (input.talk read) (some read) entry old new b.held w limits) (rw sent at h)
    sent_reply answered Sink c h (inl same) = still_sink (rw same at h)
    sent_reply answered Sink c h (inr fails) = fails_now answered fails c h

  -- the reply to what a byte ends
  pub sent_behind : (came : List ℕ) (answered : Result ⊤ Ending) (halt : Ending) → HasOne input a.part (λ q. input.cut.ended q came)
      → OnOk answered (TakesBytes input files a came b) → IfErr answered (λ h. HaltsInBytes input files a came b h)
      → (w : WroteFront a.held held b.held) → b.replies ≤ replies → Sent answered b.replies replies w.left (Err halt) → HaltsInBytes input files a came now halt
  sent_behind came answered halt one takes h w later sent =
      sent_reply (λ q. input.cut.ended q came) one w later answered halt (on_ok answered (λ t. t.carries) takes) h sent
