-- From what a session did to what a run leaves behind, by the form of its words.
use Rattle.std.proofs.Common.{◌≡◌, ◌≢◌, ◌⊎◌, inl, inr, true, false, ℕ, ◌/◌, List, [], ◌++◌, length, Option, refl, ap, subst, sym, ◌∙◌}
use Rattle.std.specs.Prelude.{⊤, IsTrue, Result, Ok, Err}
use Rattle.db_model.specs.declared.commands.Command.{Command}
use Rattle.db_model.specs.declared.refusals.Refusal.TheVariants as no
use Rattle.db_model.specs.Between.{IsBetween}
use Rattle.db_model.specs.Database.{Database, bare}
use Rattle.db_model.specs.ReplyText.{refusal_text}
use Rattle.db_model.specs.Step.{after_all}
use Rattle.db_model.specs.Workload.{first_commands}
use Rattle.dump_model.specs.Script.{script}
use Rattle.run_look.specs.Text.{database_lines, flash_line, look_text}
use Rattle.run_input.specs.declared.ending.Ending.TheVariants.{Space, Flash, Sink}
use Rattle.run_input.specs.declared.ending.InputEnding.{InputEnding}
use Rattle.run_input.specs.declared.ending.InputEnding.TheVariants.{Input, Long, Early}
use Rattle.reply_text.proofs.Pieces.{append_known-nil}
use Rattle.reply_text.specs.WroteLess.{WroteLess}
use Rattle.image_model.specs.Images.{IsSound, base}
use Rattle.image_model.specs.Mending.{ImageMendsTo}
use Rattle.run_entries.specs.Carried.{Limits, Standing}
use Rattle.run_entries.specs.Went.{Went}
use Rattle.run_model.specs.Line.{Line}
use Rattle.run_model.specs.Runs.{CarriedOut, FoundNoSpace, SpaceUnsaid, StandsAfter, StopsAt, World, WroteWithin, world}
use Rattle.run_model.specs.Talk.{Talk}
use Rattle.space_plan.specs.Lines.{plan_reply}
use Rattle.run_generated.specs.Counted as counted
use Rattle.run_generated.specs.Summed.{summed}
use Rattle.run_generated.specs.Summed as sums
use Rattle.run_words.specs.declared.words.Form.{Form}
use Rattle.run_words.specs.declared.words.Form.TheVariants.{Run, Gen, Plan, Serve, Dump, Look}
use Rattle.antelope_run.specs.declared.came.Came.TheVariants.{Opened}
use Rattle.antelope_run.specs.Does.{DoesForm, Generates, OnlyTells, TellsOn, WritesText, Wrote}
use Rattle.antelope_run.specs.Follows.{WritesBehind, is_look}
use Rattle.antelope_run.specs.SessionImage.{IsImageOf}
use Rattle.antelope_run.specs.Endings.{BrokenOff, CommandsLeave, InputLeaves, LeavesBehind, LeavesImage, LineBrokenOff, LineUnsaid, TextLeaves, dumped_text, planned_text, summed_from}
use Rattle.antelope_run.specs.Promise.{TakesInput}
use Rattle.antelope_run.specs.Steps.{BreaksBy}
use Rattle.antelope_run.proofs.Behind.{wrote_on}
use Rattle.antelope_run.proofs.Finished.{broken_off, cut_off, ended, faulted, found_no_space, told_on, too_long, unsaid, wrote_within}

module _ (a b : Standing) (image image_now : List ℕ) (before now : Option (List ℕ)) (limits : Limits) (start : a.database ≡ base image) (told : IsTrue a.tells) where
  abbrev Old : World
  Old = world image before a.held

  abbrev New : World
  New = world image_now now b.held

  abbrev pub Back : Result ⊤ InputEnding → Type 0
  Back result = IsTrue b.tells → result ≢ Err (Early Flash) → IsImageOf b.database limits.Lacks image_now

  leaves_input : {E : Type 0} (line : Line E) (talk : Talk E) (result : Result ⊤ InputEnding) → Back result → Went line talk a b before now limits result → InputLeaves line talk Old New result
  leaves_input line talk (Ok done) back w =
      let other : ◌≢◌ {A = Result ⊤ InputEnding} (Ok done) (Err (Early Flash)) = λ e. (let n : ⊥ = cc in n) in
      ended line talk a b image image_now before now start limits (back (w.carried.tells ∙ told) other) w
  leaves_input line talk (Err Input) back w =
      let other : ◌≢◌ {A = Result ⊤ InputEnding} (Err Input) (Err (Early Flash)) = λ e. (let n : ⊥ = cc in n) in
      cut_off line talk a b image image_now before now start limits (back (w.carried.tells ∙ told) other) w
  leaves_input line talk (Err Long) back w =
      let other : ◌≢◌ {A = Result ⊤ InputEnding} (Err Long) (Err (Early Flash)) = λ e. (let n : ⊥ = cc in n) in
      too_long line talk a b image image_now before now start limits (back (w.carried.tells ∙ told) other) w
  leaves_input line talk (Err (Early Space)) back w =
      let other : ◌≢◌ {A = Result ⊤ InputEnding} (Err (Early Space)) (Err (Early Flash)) = λ e. (let n : ⊥ = cc in n) in
      found_no_space line talk a b image image_now before now start limits (back (told_on line talk a b before now limits (Err (Early Space)) w other ∙ told) other) w
  leaves_input line talk (Err (Early Flash)) back w = faulted line talk a b image image_now before now start limits w
  leaves_input line talk (Err (Early Sink)) back w =
      let other : ◌≢◌ {A = Result ⊤ InputEnding} (Err (Early Sink)) (Err (Early Flash)) = λ e. (let n : ⊥ = cc in n) in
      unsaid line talk a b image image_now before now start limits (back (told_on line talk a b before now limits (Err (Early Sink)) w other ∙ told) other) w

  -- ---- generated commands

  less_of : (all : List ℕ) → WroteLess a.held b.held all → WroteWithin [] all a.held b.held
  less_of all w = wrote_within [] all all a.held a.held b.held (sym (append_known-nil a.held)) w refl

  module _ (commands : List Command) (back : IsImageOf b.database limits.Lacks image_now) where
    all_made : sums.SummedUp commands a.database b.database a.held b.held → CarriedOut (summed_from a.database) commands Old New
    all_made s = record { written = s.held; stands = record { sound = back.sound; base_is = back.base_is ∙ ap bare s.database } }

    stops_at : (n : ℕ) (s : counted.StopsAtCommand limits commands a.database b.database n) → StopsAt (summed_from a.database) commands s.front n image_now
    stops_at n s = record {
      entry = s.command;
      rest = s.rest;
      split = s.split;
      command = s.command;
      asks = refl;
      accepted = s.accepted;
      lacks = back.lacks s.command n s.lacks;
      stands = record { sound = back.sound; base_is = back.base_is ∙ ap bare s.database };
    }

    found_at : sums.SaidNoRoom limits commands a.database b.database a.held b.held → FoundNoSpace (summed_from a.database) commands Old New
    unfolding stops_at
    found_at f = record { front = f.stops.front; n = f.n; stops = stops_at f.n f.stops; written = f.held }

    space_unsaid_at : sums.LeftSpaceUnsaid limits commands a.database b.database a.held b.held → SpaceUnsaid (summed_from a.database) (λ front. []) commands Old New
    unfolding stops_at
    space_unsaid_at f = record {
      front = f.stops.front;
      n = f.n;
      stops = stops_at f.n f.stops;
      written = less_of (summed a.database f.stops.front ++ refusal_text (no.Space f.n)) f.held;
    }

    line_unsaid : sums.LeftLineUnsaid commands a.database b.database a.held b.held → LineUnsaid commands Old New
    line_unsaid s = record {
      written = less_of (summed (base image) commands) (subst (λ (db : Database). WroteLess a.held b.held (summed db commands)) start s.held);
      stands = subst (λ (db : Database). StandsAfter (summed_from db) commands image_now) start
          (record { sound = back.sound; base_is = back.base_is ∙ ap bare s.database });
    }

    unsaid_by : (sums.LeftLineUnsaid commands a.database b.database a.held b.held ⊎ sums.LeftSpaceUnsaid limits commands a.database b.database a.held b.held)
        → (LineUnsaid commands Old New ⊎ SpaceUnsaid (summed_from (base image)) (λ front. []) commands Old New)
    unsaid_by (inl s) = inl (line_unsaid s)
    unsaid_by (inr s) = inr (subst (λ (db : Database). SpaceUnsaid (summed_from db) (λ front. []) commands Old New) start (space_unsaid_at s))

  by_gen : (seed count : ℕ) (result : Result ⊤ InputEnding) → Back result → TellsOn a b result → Generates a b limits (first_commands seed count) result → CommandsLeave (first_commands seed count) Old New result
  by_gen seed count (Ok done) back tells g =
      let other : ◌≢◌ {A = Result ⊤ InputEnding} (Ok done) (Err (Early Flash)) = λ e. (let n : ⊥ = cc in n) in
      subst (λ (db : Database). CarriedOut (summed_from db) (first_commands seed count) Old New) start
      (all_made (first_commands seed count) (back (tells other ∙ told) other) g)
  by_gen seed count (Err Input) back tells g = absurd g
  by_gen seed count (Err Long) back tells g = absurd g
  by_gen seed count (Err (Early Space)) back tells g =
      let other : ◌≢◌ {A = Result ⊤ InputEnding} (Err (Early Space)) (Err (Early Flash)) = λ e. (let n : ⊥ = cc in n) in
      subst (λ (db : Database). FoundNoSpace (summed_from db) (first_commands seed count) Old New) start
      (found_at (first_commands seed count) (back (tells other ∙ told) other) g)
  by_gen seed count (Err (Early Flash)) back tells g = g.0
  by_gen seed count (Err (Early Sink)) back tells g =
      let other : ◌≢◌ {A = Result ⊤ InputEnding} (Err (Early Sink)) (Err (Early Flash)) = λ e. (let n : ⊥ = cc in n) in
      unsaid_by (first_commands seed count) (back (tells other ∙ told) other) g

  -- ---- a command broke off

  module _ (mends : (db : Database) (command : Command) → limits.Breaks db command → ImageMendsTo image_now (IsBetween db command)) where
    gen_broken : (commands : List Command) → Generates a b limits commands (Err (Early Flash)) → LineBrokenOff commands Old New
    gen_broken commands g =
        let s = g.1 in
        record {
          front = s.front;
          breaks = record {
            entry = s.command;
            rest = s.rest;
            split = s.split;
            command = s.command;
            asks = refl;
            mends = subst (λ (db : Database). ImageMendsTo image_now (IsBetween (after_all db s.front) s.command)) start (mends (after_all a.database s.front) s.command s.breaks);
          };
          unsaid = g.0;
        }

    pub breaks : (sectors : ℕ) (form : Form) → (OnlyTells form → image_now ≡ image) → (OnlyTells form → now ≡ before)
        → DoesForm a b sectors before now limits form (Err (Early Flash)) → BrokenOff form Old New
    breaks sectors Run stays unread d = λ read reader. broken_off _ _ a b image image_now before now start limits mends (d read reader)
    breaks sectors Serve stays unread d = λ read reader. broken_off _ _ a b image image_now before now start limits mends (d read reader)
    breaks sectors (Gen seed count) stays unread d = gen_broken (first_commands seed count) d.1
    breaks sectors (Plan rows) stays unread d = record { same = stays tt; unread = unread tt }
    breaks sectors Dump stays unread d = record { same = stays tt; unread = unread tt }
    breaks sectors Look stays unread d = record { same = stays tt; unread = unread tt }

  -- ---- what is told of an image

  abbrev pub Stays : Type 0
  Stays = image_now ≡ image

  by_text : (text : List ℕ → List ℕ) → now ≡ before → (result : Result ⊤ InputEnding) → Stays → WritesText a b (text image) result → TextLeaves text Old New result
  by_text text unread (Ok done) stays w = (record { same = stays; unread = unread }, w)
  by_text text unread (Err Input) stays w = absurd w
  by_text text unread (Err Long) stays w = absurd w
  by_text text unread (Err (Early Space)) stays w = absurd w
  by_text text unread (Err (Early Flash)) stays w = (record { same = stays; unread = unread }, record { part = w.written; rest = w.left; split = w.whole; held = w.held })
  by_text text unread (Err (Early Sink)) stays w = (record { same = stays; unread = unread }, less_of (text image) w)

  by_look : (held : Option (List ℕ)) → now ≡ before → (result : Result ⊤ InputEnding) → Stays → Wrote a.held held (look_text image) result → LeavesBehind Look Old (world image_now now held) result
  by_look held unread (Ok done) stays w = (record { same = stays; unread = unread }, w)
  by_look held unread (Err Input) stays w = absurd w
  by_look held unread (Err Long) stays w = absurd w
  by_look held unread (Err (Early Space)) stays w = absurd w
  by_look held unread (Err (Early Flash)) stays w = (record { same = stays; unread = unread }, record { part = w.written; rest = w.left; split = w.whole; held = w.held })
  by_look held unread (Err (Early Sink)) stays w =
      (record { same = stays; unread = unread }, wrote_within [] (look_text image) (look_text image) a.held a.held held (sym (append_known-nil a.held)) w refl)

  -- ---- each form, and what follows once the flash is handed back

  module _ (done result : Result ⊤ InputEnding) (held : Option (List ℕ)) where
    on_same : (form : Form) → (result ≡ done) × (held ≡ b.held) → LeavesBehind form Old New done → LeavesBehind form Old (world image_now now held) result
    on_same form same h =
        subst (λ r. LeavesBehind form Old (world image_now now held) r) (sym same.0)
        (subst (λ k. LeavesBehind form Old (world image_now now k) done) (sym same.1) h)

    pub leaves : (sectors : ℕ) → sectors ≡ length image / 4096 → (form : Form) → Back done → (OnlyTells form → Stays) → (OnlyTells form → now ≡ before)
        → DoesForm a b sectors before now limits form done
        → (is_look form ≡ false → (result ≡ done) × (held ≡ b.held)) → (is_look form ≡ true → WritesBehind (flash_line image) done result b.held held)
        → LeavesBehind form Old (world image_now now held) result
    leaves sectors many Run back stays unread d same told = on_same Run (same refl) (λ read reader. leaves_input _ _ done back (d read reader))
    leaves sectors many Serve back stays unread d same told = on_same Serve (same refl) (λ read reader. leaves_input _ _ done back (d read reader))
    leaves sectors many (Gen seed count) back stays unread d same told = on_same (Gen seed count) (same refl) (by_gen seed count done back d.0 d.1)
    leaves sectors many (Plan rows) back stays unread d same told =
        on_same (Plan rows) (same refl)
        (by_text (planned_text rows) (unread tt) done (stays tt)
        (subst (λ (db : Database). WritesText a b (plan_reply db rows (length image / 4096)) done) start
        (subst (λ (n : ℕ). WritesText a b (plan_reply a.database rows n) done) many d.1)))
    leaves sectors many Dump back stays unread d same told =
        on_same Dump (same refl) (by_text dumped_text (unread tt) done (stays tt) (subst (λ (db : Database). WritesText a b (script db) done) start d.1))
    leaves sectors many Look back stays unread d same told =
        by_look held (unread tt) result (stays tt)
        (wrote_on a.held b.held held (database_lines (base image)) (flash_line image) done result
        (subst (λ (db : Database). WritesText a b (database_lines db) done) start d.1) (told refl))

-- what only tells of an image takes no input
pub tells_alone : (form : Form) → OnlyTells form → TakesInput form → ⊥
tells_alone Run h takes = h
tells_alone Serve h takes = h
tells_alone (Gen seed count) h takes = h
tells_alone (Plan rows) h takes = takes
tells_alone Dump h takes = takes
tells_alone Look h takes = takes

-- to look at an image only tells of it
pub look_tells : (form : Form) → is_look form ≡ true → OnlyTells form
look_tells Run e = absurd (let n : ⊥ = cc in n)
look_tells Serve e = absurd (let n : ⊥ = cc in n)
look_tells (Gen seed count) e = absurd (let n : ⊥ = cc in n)
look_tells (Plan rows) e = absurd (let n : ⊥ = cc in n)
look_tells Dump e = absurd (let n : ⊥ = cc in n)
look_tells Look e = tt

-- it broke off where no more follows, or in what follows where it only tells of an image
module _ (form : Form) (old mid new : World) (done result : Result ⊤ InputEnding) where
  pub breaks_by : (done ≡ Err (Early Flash) → BrokenOff form old mid) → (OnlyTells form → LeavesImage old new) → (is_look form ≡ false → (result ≡ done) × (new ≡ mid))
      → result ≡ Err (Early Flash) → BrokenOff form old new
  breaks_by = by_form form
    where
      carried : (f : Form) → (done ≡ Err (Early Flash) → BrokenOff f old mid) → (result ≡ done) × (new ≡ mid) → result ≡ Err (Early Flash) → BrokenOff f old new
      carried f broke same is = subst (BrokenOff f old) (sym same.1) (broke (sym same.0 ∙ is))

      by_form : (f : Form) → (done ≡ Err (Early Flash) → BrokenOff f old mid) → (OnlyTells f → LeavesImage old new) → (is_look f ≡ false → (result ≡ done) × (new ≡ mid))
          → result ≡ Err (Early Flash) → BrokenOff f old new
      by_form Run broke tells same is = carried Run broke (same refl) is
      by_form Serve broke tells same is = carried Serve broke (same refl) is
      by_form (Gen seed count) broke tells same is = carried (Gen seed count) broke (same refl) is
      by_form (Plan rows) broke tells same is = tells tt
      by_form Dump broke tells same is = tells tt
      by_form Look broke tells same is = tells tt

pub broken_opened : (form : Form) (old new : World) (result : Result ⊤ InputEnding) → IsSound old.image → (result ≡ Err (Early Flash) → BrokenOff form old new) → BreaksBy form old new (Opened result)
broken_opened form old new (Ok done) sound h = tt
broken_opened form old new (Err Input) sound h = tt
broken_opened form old new (Err Long) sound h = tt
broken_opened form old new (Err (Early Space)) sound h = tt
broken_opened form old new (Err (Early Sink)) sound h = tt
broken_opened form old new (Err (Early Flash)) sound h = (sound, h refl)
