-- Laws of an input: its bytes are taken one after the other.
use Rattle.std.specs.Prelude.{◌≡◌, ℕ, ◌≤◌, false, List, [], ◌++◌, Option, IsTrue, Result}
use Rattle.std.proofs.Common.{refl, sym, subst, ◌∙◌, arith}
use Rattle.afl_base.specs.declared.files.Files.{Ghosts as FilesOf}
use Rattle.afl_base.proofs.CauseLaws.{rose_later}
use Rattle.db_model.specs.declared.commands.Command.{Command}
use Rattle.db_model.specs.declared.refusals.Refusal.{Refusal}
use Rattle.db_model.specs.Reading.{IsReader}
use Rattle.run_input.specs.declared.ending.Ending.{Ending}
use Rattle.run_model.specs.Line.{ComesInParts, Line}
use Rattle.run_entries.specs.Carried.{Carried, HaltsIn, limits_of, standing_of}
use Rattle.antelope_engine.specs.Seen.{Seen}
use Rattle.run_entries.specs.Taking.{CarriesEntries, KeepsRunning, HaltsInBytes, Input, Running, TakesBytes, running}
use Rattle.run_entries.proofs.Composed.{carried_none, carried_then, halts_later, halts_sooner}

module _ {E Q P V : Type 0} (input : Input E Q P) (files : FilesOf V) (line : Line E) (parts : ComesInParts input.cut line) where
  on_then : (a b c : Running V P) → KeepsRunning input files a b → KeepsRunning input files b c → KeepsRunning input files a c
  on_then a b c x y = record {
    faults = omega (arith, x.faults, y.faults);
    replies = omega (arith, x.replies, y.replies);
    store = y.store ∙ x.store;
    lent = y.lent ∙ x.lent;
  }

  pub taken_none : (a : Running V P) → TakesBytes input files a [] a
  taken_none a = record {
    keeps = λ q k. subst (λ (p : Q). input.Keeps p a.part) (sym (parts.no_more q)) k;
    carries = record {
      going = λ e. e;
      kept = λ e f. f;
      carried = λ going told read reader q k.
          let s = standing_of files.state files.reads a.session a.held in
          subst (λ (es : List E). Carried (input.talk read) es s s) (sym (parts.none_ended q)) (carried_none (input.talk read) s);
      on = record { faults = omega arith; replies = omega arith; store = refl; lent = refl };
    };
  }

  told_on : (a b : Running V P) (es : Q → List E) → CarriesEntries input files a b es → a.session.stopped ≡ false → IsTrue (files.state a.session.files).tells
      → (read : List ℕ → Result Command Refusal) → IsReader read → (q : Q) → input.Keeps q a.part → IsTrue (files.state b.session.files).tells
  told_on a b es x going told read reader q k = (x.carried going told read reader q k).tells ∙ told

  pub taken_more : (a b c : Running V P) (xs ys : List ℕ) → TakesBytes input files a xs b → TakesBytes input files b ys c → TakesBytes input files a (xs ++ ys) c
  taken_more a b c xs ys x y = record {
    keeps = λ q k. subst (λ (p : Q). input.Keeps p c.part) (sym (parts.begun_on q xs ys)) (y.keeps (input.cut.begun q xs) (x.keeps q k));
    carries = record {
      going = λ e. y.carries.going (x.carries.going e);
      kept = λ e f. y.carries.kept (x.carries.going e) (x.carries.kept e f);
      carried = λ going told read reader q k.
          let first = x.carries.carried going told read reader q k in
          let second = y.carries.carried (x.carries.going going) (told_on a b (λ p. input.cut.ended p xs) x.carries going told read reader q k) read reader
          (input.cut.begun q xs) (x.keeps q k) in
          let Goal : List E → Type 0 = λ es. Carried (input.talk read) es (standing_of files.state files.reads a.session a.held) (standing_of files.state files.reads c.session c.held) in
          subst Goal (sym (parts.ended_on q xs ys))
          (carried_then (input.talk read) (input.cut.ended q xs) (input.cut.ended (input.cut.begun q xs) ys)
          (standing_of files.state files.reads a.session a.held) (standing_of files.state files.reads b.session b.held)
          (standing_of files.state files.reads c.session c.held) first second);
      on = on_then a b c x.carries.on y.carries.on;
    };
  }

  pub halted_behind : (a b c : Running V P) (xs ys : List ℕ) (halt : Ending) → TakesBytes input files a xs b → HaltsInBytes input files b ys c halt
      → HaltsInBytes input files a (xs ++ ys) c halt
  halted_behind a b c xs ys halt x h = record {
    kept = λ e f g. h.kept (x.carries.going e) (x.carries.kept e f) g;
    flash = λ e is. rose_later (files.faults a.session.files) (files.faults b.session.files) (files.faults c.session.files) x.carries.on.faults (h.flash (x.carries.going e) is);
    sink = λ e is. rose_later a.replies b.replies c.replies x.carries.on.replies (h.sink (x.carries.going e) is);
    halts = λ going told read reader q k.
        let first = x.carries.carried going told read reader q k in
        let second = h.halts (x.carries.going going) (told_on a b (λ p. input.cut.ended p xs) x.carries going told read reader q k) read reader
        (input.cut.begun q xs) (x.keeps q k) in
        let limits = limits_of files c.session in
        let Goal : List E → Type 0 = λ es. HaltsIn (input.talk read) limits es (standing_of files.state files.reads a.session a.held) (standing_of files.state files.reads c.session c.held) halt in
        subst Goal (sym (parts.ended_on q xs ys))
        (halts_later (input.talk read) limits (input.cut.ended q xs) (input.cut.ended (input.cut.begun q xs) ys)
        (standing_of files.state files.reads a.session a.held) (standing_of files.state files.reads b.session b.held)
        (standing_of files.state files.reads c.session c.held) first halt second);
    on = on_then a b c x.carries.on h.on;
  }

  pub halted_before : (a b : Running V P) (xs ys : List ℕ) (halt : Ending) → HaltsInBytes input files a xs b halt → HaltsInBytes input files a (xs ++ ys) b halt
  halted_before a b xs ys halt h = record {
    kept = h.kept;
    flash = h.flash;
    sink = h.sink;
    halts = λ going told read reader q k.
        let limits = limits_of files b.session in
        let Goal : List E → Type 0 = λ es. HaltsIn (input.talk read) limits es (standing_of files.state files.reads a.session a.held) (standing_of files.state files.reads b.session b.held) halt in
        subst Goal (sym (parts.ended_on q xs ys))
        (halts_sooner (input.talk read) limits (input.cut.ended q xs) (input.cut.ended (input.cut.begun q xs) ys)
        (standing_of files.state files.reads a.session a.held) (standing_of files.state files.reads b.session b.held) halt (h.halts going told read reader q k));
    on = h.on;
  }

-- bytes that end no entry: only what is kept of the one at hand changes
module _ {E Q P V : Type 0} (input : Input E Q P) (files : FilesOf V) (session : Seen V) (part part1 : P) (held : Option (List ℕ)) (replies : ℕ) (came : List ℕ) where
  pub taken_silent : ((q : Q) → input.Keeps q part → input.Keeps (input.cut.begun q came) part1) → ((q : Q) → input.Keeps q part → input.cut.ended q came ≡ [])
      → TakesBytes input files (running session part held replies) came (running session part1 held replies)
  taken_silent keeps ends = record {
    keeps = keeps;
    carries = record {
      going = λ e. e;
      kept = λ e f. f;
      carried = λ going told read reader q k.
          let s = standing_of files.state files.reads session held in
          subst (λ (es : List E). Carried (input.talk read) es s s) (sym (ends q k)) (carried_none (input.talk read) s);
      on = record { faults = omega arith; replies = omega arith; store = refl; lent = refl };
    };
  }
