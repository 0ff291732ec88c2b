-- From the bytes that a session took to the entries that it carried out.
use Rattle.std.proofs.Common.{◌≡◌, inl, inr, ℕ, false, true, List, refl, ap, sym, subst, ◌∙◌, arith}
use Rattle.std.specs.Prelude.{⊤, IsTrue, Option, Result, Ok, Err}
use Rattle.afl_base.specs.declared.files.Files.{Ghosts as FilesOf}
use Rattle.afl_base.specs.Causes.{Rose}
use Rattle.db_model.specs.declared.commands.Command.{Command}
use Rattle.db_model.specs.declared.refusals.Refusal.{Refusal}
use Rattle.db_model.specs.Reading.{IsReader}
use Rattle.run_input.specs.declared.ending.Ending.{Ending}
use Rattle.run_input.specs.declared.ending.Ending.TheVariants as halt
use Rattle.run_input.specs.declared.ending.InputEnding.{InputEnding}
use Rattle.run_input.specs.declared.ending.InputEnding.TheVariants.{Input as BadInput, Long, Early}
use Rattle.run_input.specs.Through.{Through}
use Rattle.run_model.specs.Line.{ComesInParts, Line}
use Rattle.run_entries.specs.Carried.{Carried, HaltsIn, limits_of, standing_of}
use Rattle.run_entries.specs.Taking.{EndsInput, KeepsRunning, HaltsAtLast, HaltsInBytes, Input, Running, TakesBytes}
use Rattle.run_entries.specs.Went.{Reaches, Went}
use Rattle.run_entries.proofs.Composed.{carried_then, halts_later}

module _ {E Q P V T : Type 0} (input : Input E Q P) (files : FilesOf V) (line : Line E) (parts : ComesInParts input.cut line) (seen : T → Running V P) where
  abbrev pub Takes : T → List ℕ → T → Type 0
  Takes a came b = TakesBytes input files (seen a) came (seen b)

  abbrev pub Ends : T → T → Type 0
  Ends a b = EndsInput input files (seen a) (seen b)

  abbrev pub Halts : T → List ℕ → T → Ending → Type 0
  Halts a came b halt = HaltsInBytes input files (seen a) came (seen b) halt

  abbrev pub HaltsAtEnd : T → T → Ending → Type 0
  HaltsAtEnd a b halt = HaltsAtLast input files (seen a) (seen b) halt

  module _ (a b : T) (left left_now : Option (List ℕ)) (reads reads_now : ℕ) (going : (seen a).session.stopped ≡ false) where
    -- ---- what is so whether the files tell or not

    -- no count falls, and what failed has counted it; only a fault of the files loses them
    pub record Sum (result : Result ⊤ InputEnding) : Type 0 where
      pub on : KeepsRunning input files (seen a) (seen b)
      pub kept : (seen a).session.lost ≡ false → (seen b).session.lost ≡ true → result ≡ Err (Early halt.Flash)
      pub flash : result ≡ Err (Early halt.Flash) → Rose (files.faults (seen a).session.files) (files.faults (seen b).session.files)
      pub sink : result ≡ Err (Early halt.Sink) → Rose (seen a).replies (seen b).replies

    clash : (c : T) → (seen c).session.lost ≡ false → (seen c).session.lost ≡ true → ⊥
    clash c e f = let n : false ≡ true = sym e ∙ f in cc

    later : (x y z : T) → KeepsRunning input files (seen x) (seen y) → KeepsRunning input files (seen y) (seen z) → KeepsRunning input files (seen x) (seen z)
    later x y z e f = record { faults = omega (arith, e.faults, f.faults); replies = omega (arith, e.replies, f.replies); store = f.store ∙ e.store; lent = f.lent ∙ e.lent }

    pub sum : (result : Result ⊤ InputEnding) → Through Takes Ends Halts HaltsAtEnd result a b left left_now reads reads_now → Sum result
    unfolding clash later
    sum (Ok done) t = record {
      on = later a t.last b t.takes.carries.on t.ends.on;
      kept = λ kept lost. absurd (clash b (t.ends.kept (t.takes.carries.going going) (t.takes.carries.kept going kept)) lost);
      flash = λ e. absurd (let n : ⊥ = cc in n);
      sink = λ e. absurd (let n : ⊥ = cc in n);
    }
    sum (Err BadInput) t = record {
      on = t.takes.carries.on;
      kept = λ kept lost. absurd (clash b (t.takes.carries.kept going kept) lost);
      flash = λ e. absurd (let n : ⊥ = cc in n);
      sink = λ e. absurd (let n : ⊥ = cc in n);
    }
    sum (Err Long) t = record {
      on = t.takes.carries.on;
      kept = λ kept lost. absurd (clash b (t.takes.carries.kept going kept) lost);
      flash = λ e. absurd (let n : ⊥ = cc in n);
      sink = λ e. absurd (let n : ⊥ = cc in n);
    }
    sum (Err (Early h)) (inl t) = record {
      on = t.halts.on;
      kept = λ kept lost. let is : h ≡ halt.Flash = t.halts.kept going kept lost in ap (λ k. Err (Early k)) is;
      flash = λ e. let is : h ≡ halt.Flash = cc in t.halts.flash going is;
      sink = λ e. let is : h ≡ halt.Sink = cc in t.halts.sink going is;
    }
    sum (Err (Early h)) (inr t) = record {
      on = later a t.last b t.takes.carries.on t.halts.on;
      kept = λ kept lost.
          let is : h ≡ halt.Flash = t.halts.kept (t.takes.carries.going going) (t.takes.carries.kept going kept) lost in ap (λ k. Err (Early k)) is;
      flash = λ e.
          let is : h ≡ halt.Flash = cc in
          let rose = t.halts.flash (t.takes.carries.going going) is in
          let before = t.takes.carries.on.faults in
          omega (arith, rose, before);
      sink = λ e.
          let is : h ≡ halt.Sink = cc in
          let rose = t.halts.sink (t.takes.carries.going going) is in
          let before = t.takes.carries.on.replies in
          omega (arith, rose, before);
    }

    pub reaches : (result : Result ⊤ InputEnding) → Through Takes Ends Halts HaltsAtEnd result a b left left_now reads reads_now → Reaches result left left_now
    reaches (Ok done) t = t.at_end
    reaches (Err BadInput) t = tt
    reaches (Err Long) t = record { bytes = t.came; more = t.more; left = t.left; many = t.many; one = t.one }
    reaches (Err (Early h)) t = tt

    -- ---- what was carried out, where they tell

    module _ (told : IsTrue (files.state (seen a).session.files).tells) (read : List ℕ → Result Command Refusal) (reader : IsReader read)
        (keeps : input.Keeps input.cut.start (seen a).part) where
      told_then : (c : T) (came : List ℕ) → Takes a came c → IsTrue (files.state (seen c).session.files).tells
      told_then c came t = (t.carries.carried going told read reader input.cut.start keeps).tells ∙ told

      pub went : (result : Result ⊤ InputEnding) → Through Takes Ends Halts HaltsAtEnd result a b left left_now reads reads_now
          → Went line (input.talk read) (standing_of files.state files.reads (seen a).session (seen a).held) (standing_of files.state files.reads (seen b).session (seen b).held)
          left left_now (limits_of files (seen b).session) result
      unfolding told_then
      went (Ok done) t =
          let old = standing_of files.state files.reads (seen a).session (seen a).held in
          let mid = standing_of files.state files.reads (seen t.last).session (seen t.last).held in
          let new = standing_of files.state files.reads (seen b).session (seen b).held in
          let first = t.takes.carries.carried going told read reader input.cut.start keeps in
          let second = t.ends.carried (t.takes.carries.going going) (told_then t.last t.came t.takes) read reader (input.cut.begun input.cut.start t.came) (t.takes.keeps input.cut.start keeps) in
          record {
            bytes = t.came;
            came = t.left;
            few = t.few;
            at_end = t.at_end;
            carried = subst (λ (es : List E). Carried (input.talk read) es old new) (sym (parts.all_is t.came))
                (carried_then (input.talk read) (input.cut.ended input.cut.start t.came) (input.cut.left (input.cut.begun input.cut.start t.came)) old mid new first second);
          }
      went (Err BadInput) t =
          let old = standing_of files.state files.reads (seen a).session (seen a).held in
          let new = standing_of files.state files.reads (seen b).session (seen b).held in
          record {
            bytes = t.came;
            came = t.left;
            few = t.few;
            carried = subst (λ (es : List E). Carried (input.talk read) es old new) (sym (parts.whole_is t.came))
                (t.takes.carries.carried going told read reader input.cut.start keeps);
          }
      went (Err Long) t =
          let old = standing_of files.state files.reads (seen a).session (seen a).held in
          let new = standing_of files.state files.reads (seen b).session (seen b).held in
          record {
            bytes = t.came;
            more = t.more;
            came = t.left;
            many = t.many;
            one = t.one;
            carried = subst (λ (es : List E). Carried (input.talk read) es old new) (sym (parts.whole_is t.came))
                (t.takes.carries.carried going told read reader input.cut.start keeps);
          }
      went (Err (Early h)) (inl t) =
          let old = standing_of files.state files.reads (seen a).session (seen a).held in
          let new = standing_of files.state files.reads (seen b).session (seen b).held in
          let limits = limits_of files (seen b).session in
          record {
            bytes = t.came;
            entries = line.whole t.came;
            came = t.left;
            few = t.few;
            are = inl refl;
            halts = subst (λ (es : List E). HaltsIn (input.talk read) limits es old new h) (sym (parts.whole_is t.came))
                (t.halts.halts going told read reader input.cut.start keeps);
          }
      went (Err (Early h)) (inr t) =
          let old = standing_of files.state files.reads (seen a).session (seen a).held in
          let mid = standing_of files.state files.reads (seen t.last).session (seen t.last).held in
          let new = standing_of files.state files.reads (seen b).session (seen b).held in
          let limits = limits_of files (seen b).session in
          let first = t.takes.carries.carried going told read reader input.cut.start keeps in
          let second = t.halts.halts (t.takes.carries.going going) (told_then t.last t.came t.takes) read reader (input.cut.begun input.cut.start t.came) (t.takes.keeps input.cut.start keeps) in
          record {
            bytes = t.came;
            entries = line.all t.came;
            came = t.left;
            few = t.few;
            are = inr (refl, t.at_end);
            halts = subst (λ (es : List E). HaltsIn (input.talk read) limits es old new h) (sym (parts.all_is t.came))
                (halts_later (input.talk read) limits (input.cut.ended input.cut.start t.came) (input.cut.left (input.cut.begun input.cut.start t.came)) old mid new first h second);
          }
