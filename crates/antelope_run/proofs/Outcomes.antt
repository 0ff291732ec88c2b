-- What a run came to, status by status.
use Rattle.std.proofs.Common.{◌≡◌, ◌≢◌, ◌≤◌, ◌/◌, ◌⊎◌, inl, inr, ℕ, List, ◌++◌, length, Option, Some, None, refl, ap, sym, subst, ◌∙◌, arith}
use Rattle.std.specs.Prelude.{Ok, Err}
use Rattle.std.proofs.lemmas.List.{length-append}
use Rattle.std.specs.Io.KnownBytes.{IsAtEnd}
use Rattle.afl_base.specs.Causes.{Rose}
use Rattle.run_input.specs.declared.ending.Ending.TheVariants.{Space, Flash, Sink}
use Rattle.run_input.specs.declared.ending.InputEnding.TheVariants.{Input, Long, Early}
use Rattle.run_model.specs.Runs.{CameToLimit, World}
use Rattle.run_model.specs.Scripts.{script_cut, script_line, script_talk}
use Rattle.run_model.proofs.Parts.{script_parts}
use Rattle.run_frames.specs.Frames.{frame_cut, frame_line}
use Rattle.run_frames.specs.Served.{serve_talk}
use Rattle.run_frames.proofs.Ending.{frame_parts}
use Rattle.image_model.specs.Images.{IsSound, base}
use Rattle.image_model.proofs.Judged.{sound_unbroken}
use Rattle.antelope_run.specs.declared.came.Came.{Came}
use Rattle.antelope_run.specs.declared.came.Came.TheVariants.{Opened, Refused, Unsaid, Failed}
use Rattle.run_words.specs.declared.words.Form.{Form}
use Rattle.run_words.specs.declared.words.Form.TheVariants.{Run, Gen, Plan, Serve, Dump, Look}
use Rattle.antelope_run.specs.Endings.{LeavesBehind, summed_from}
use Rattle.antelope_run.specs.Promise.{CausedBy, ComesTo, EndsBrokenOff, HasSpace, IsWithinLimit, LeftBy, NothingFailed, TakenBy, TakesInput, status_by}
use Rattle.run_model.specs.Moments.{Counts}
use Rattle.antelope_run.specs.Steps.{BreaksBy, HasCameCause, OnOpened, OnUnopened, ReachesBy}
use Rattle.antelope_run.proofs.Fronts.{has_fronts}
use Rattle.antelope_run.proofs.Space.{input_has_space, stops_nowhere}

-- which outcomes have a status
is_ended : (came : Came) → status_by came ≡ 0 → came ≡ Opened (Ok tt)
is_ended (Opened (Ok done)) e = refl
is_ended (Opened (Err Input)) e = absurd (omega (arith, e))
is_ended (Opened (Err (Early Space))) e = absurd (omega (arith, e))
is_ended (Opened (Err (Early Flash))) e = absurd (omega (arith, e))
is_ended (Opened (Err (Early Sink))) e = absurd (omega (arith, e))
is_ended (Opened (Err Long)) e = absurd (omega (arith, e))
is_ended Refused e = absurd (omega (arith, e))
is_ended Unsaid e = absurd (omega (arith, e))
is_ended Failed e = absurd (omega (arith, e))

is_cut : (came : Came) → status_by came ≡ 2 → came ≡ Opened (Err Input)
is_cut (Opened (Ok done)) e = absurd (omega (arith, e))
is_cut (Opened (Err Input)) e = refl
is_cut (Opened (Err (Early Space))) e = absurd (omega (arith, e))
is_cut (Opened (Err (Early Flash))) e = absurd (omega (arith, e))
is_cut (Opened (Err (Early Sink))) e = absurd (omega (arith, e))
is_cut (Opened (Err Long)) e = absurd (omega (arith, e))
is_cut Refused e = absurd (omega (arith, e))
is_cut Unsaid e = absurd (omega (arith, e))
is_cut Failed e = absurd (omega (arith, e))

is_spaceless : (came : Came) → status_by came ≡ 3 → came ≡ Opened (Err (Early Space))
is_spaceless (Opened (Ok done)) e = absurd (omega (arith, e))
is_spaceless (Opened (Err Input)) e = absurd (omega (arith, e))
is_spaceless (Opened (Err (Early Space))) e = refl
is_spaceless (Opened (Err (Early Flash))) e = absurd (omega (arith, e))
is_spaceless (Opened (Err (Early Sink))) e = absurd (omega (arith, e))
is_spaceless (Opened (Err Long)) e = absurd (omega (arith, e))
is_spaceless Refused e = absurd (omega (arith, e))
is_spaceless Unsaid e = absurd (omega (arith, e))
is_spaceless Failed e = absurd (omega (arith, e))

is_faulted : (came : Came) → status_by came ≡ 4 → (came ≡ Opened (Err (Early Flash))) ⊎ (came ≡ Failed)
is_faulted (Opened (Ok done)) e = absurd (omega (arith, e))
is_faulted (Opened (Err Input)) e = absurd (omega (arith, e))
is_faulted (Opened (Err (Early Space))) e = absurd (omega (arith, e))
is_faulted (Opened (Err (Early Flash))) e = inl refl
is_faulted (Opened (Err (Early Sink))) e = absurd (omega (arith, e))
is_faulted (Opened (Err Long)) e = absurd (omega (arith, e))
is_faulted Refused e = absurd (omega (arith, e))
is_faulted Unsaid e = absurd (omega (arith, e))
is_faulted Failed e = inr refl

is_unsaid : (came : Came) → status_by came ≡ 5 → (came ≡ Opened (Err (Early Sink))) ⊎ (came ≡ Unsaid)
is_unsaid (Opened (Ok done)) e = absurd (omega (arith, e))
is_unsaid (Opened (Err Input)) e = absurd (omega (arith, e))
is_unsaid (Opened (Err (Early Space))) e = absurd (omega (arith, e))
is_unsaid (Opened (Err (Early Flash))) e = absurd (omega (arith, e))
is_unsaid (Opened (Err (Early Sink))) e = inl refl
is_unsaid (Opened (Err Long)) e = absurd (omega (arith, e))
is_unsaid Refused e = absurd (omega (arith, e))
is_unsaid Unsaid e = inr refl
is_unsaid Failed e = absurd (omega (arith, e))

is_refused : (came : Came) → status_by came ≡ 6 → came ≡ Refused
is_refused (Opened (Ok done)) e = absurd (omega (arith, e))
is_refused (Opened (Err Input)) e = absurd (omega (arith, e))
is_refused (Opened (Err (Early Space))) e = absurd (omega (arith, e))
is_refused (Opened (Err (Early Flash))) e = absurd (omega (arith, e))
is_refused (Opened (Err (Early Sink))) e = absurd (omega (arith, e))
is_refused (Opened (Err Long)) e = absurd (omega (arith, e))
is_refused Refused e = refl
is_refused Unsaid e = absurd (omega (arith, e))
is_refused Failed e = absurd (omega (arith, e))

is_long : (came : Came) → status_by came ≡ 8 → came ≡ Opened (Err Long)
is_long (Opened (Ok done)) e = absurd (omega (arith, e))
is_long (Opened (Err Input)) e = absurd (omega (arith, e))
is_long (Opened (Err (Early Space))) e = absurd (omega (arith, e))
is_long (Opened (Err (Early Flash))) e = absurd (omega (arith, e))
is_long (Opened (Err (Early Sink))) e = absurd (omega (arith, e))
is_long (Opened (Err Long)) e = refl
is_long Refused e = absurd (omega (arith, e))
is_long Unsaid e = absurd (omega (arith, e))
is_long Failed e = absurd (omega (arith, e))

-- ---- causes

pub caused_by : (came : Came) (old new : Counts) → HasCameCause old new came → (status : ℕ) → status ≡ status_by came → CausedBy status old new
caused_by came old new c status is = record {
  input = λ e. c.input (is_cut came (sym is ∙ e));
  flash = λ e. by_flash (is_faulted came (sym is ∙ e));
  sink = λ e. by_sink (is_unsaid came (sym is ∙ e));
}
  where
    by_flash : (came ≡ Opened (Err (Early Flash))) ⊎ (came ≡ Failed) → Rose old.flash new.flash
    by_flash (inl h) = c.flash_failed h
    by_flash (inr h) = c.unopened h

    by_sink : (came ≡ Opened (Err (Early Sink))) ⊎ (came ≡ Unsaid) → Rose old.sink new.sink
    by_sink (inl h) = c.sink_failed h
    by_sink (inr h) = c.unsaid h

-- ---- the input

pub unread_at : (came : Came) (P : Type 0) → OnUnopened came P → status_by came ≡ 6 → P
unread_at came P h e = subst (λ (k : Came). OnUnopened k P) (is_refused came e) h

module _ (form : Form) (came : Came) (left left_now : Option (List ℕ)) (reaches : OnOpened came (λ done. ReachesBy form done left left_now)) where
  pub end_at : status_by came ≡ 0 → TakesInput form → IsAtEnd left_now
  end_at e takes = subst (λ (k : Came). OnOpened k (λ done. ReachesBy form done left left_now)) (is_ended came e) reaches takes

  pub limit_at : status_by came ≡ 8 → CameToLimit left left_now
  limit_at e = subst (λ (k : Came). OnOpened k (λ done. ReachesBy form done left left_now)) (is_long came e) reaches

pub taken_by : {S : Type 0} (left : S → Option (List ℕ)) (form : Form) (came : Came) (old new : S) (status : ℕ) → status ≡ status_by came
    → OnOpened came (λ done. ReachesBy form done (left old) (left new)) → OnUnopened came (new ≡ old) → ((TakesInput form → ⊥) → new ≡ old)
    → TakenBy left status form old new
taken_by left form came old new status is reaches unread untouched = record {
  unread = λ e. unread_at came (new ≡ old) unread (sym is ∙ e);
  untouched = untouched;
  at_end = λ e. end_at form came (left old) (left new) reaches (sym is ∙ e);
  one_more = λ e. limit_at form came (left old) (left new) reaches (sym is ∙ e);
}

-- ---- what is left behind

module _ (form : Form) (came : Came) (old new : World) (comes : ComesTo form old new came) (status : ℕ) (is : status ≡ status_by came) where
  pub broken_at : BreaksBy form old new came → status ≡ 4 → EndsBrokenOff form old new
  broken_at breaks e = by_case (is_faulted came (sym is ∙ e))
    where
      by_case : (came ≡ Opened (Err (Early Flash))) ⊎ (came ≡ Failed) → EndsBrokenOff form old new
      by_case (inl h) = inr (subst (BreaksBy form old new) h breaks)
      by_case (inr h) = inl (subst (BreaksBy form old new) h breaks)

  sound_by : (k : Came) → ComesTo form old new k → (IsSound old.image → ⊥) → (status_by k ≡ 4) ⊎ (status_by k ≡ 5) ⊎ (status_by k ≡ 6)
  sound_by (Opened done) h unsound = absurd (unsound h.0)
  sound_by Refused h unsound = inr (inr refl)
  sound_by Unsaid h unsound = inr (inl refl)
  sound_by Failed h unsound = inl refl

  pub unsound_at : (IsSound old.image → ⊥) → (status ≡ 4) ⊎ (status ≡ 5) ⊎ (status ≡ 6)
  unsound_at unsound = rw is (sound_by came comes unsound)

-- of a run that ended with status 0
pub ended_with : (form : Form) (old new : World) → LeftBy 0 form old new → IsSound old.image × LeavesBehind form old new (Ok tt)
ended_with form old new left = subst (ComesTo form old new) (is_ended left.came (sym left.is)) left.left

-- ---- completeness

-- an input within the limit does not pass it
within_limit : (text : List ℕ) (left left_now : Option (List ℕ)) → left ≡ Some text → length text ≤ 16777216 → CameToLimit left left_now → ⊥
within_limit text left None told few t = (let e : Some text ≡ None = sym told ∙ t.left in let n : ⊥ = cc in n)
within_limit text left (Some rest) told few t =
    let e : Some text ≡ Some ((t.bytes ++ t.more) ++ rest) = sym told ∙ t.left in
    let is : text ≡ (t.bytes ++ t.more) ++ rest = cc in
    let many = t.many in
    let one = t.one in
    let whole = ap length is in
    let split = length-append (t.bytes ++ t.more) rest in
    let parts = length-append t.bytes t.more in
    absurd (omega (arith, few, many, one, whole, split, parts))

-- only words that name an input can pass its limit
takes_by : (form : Form) (old new : World) → LeavesBehind form old new (Err Long) → TakesInput form
takes_by Run old new h = tt
takes_by Serve old new h = tt
takes_by (Gen seed count) old new h = absurd h
takes_by (Plan rows) old new h = absurd h
takes_by Dump old new h = absurd h
takes_by Look old new h = absurd h

module _ (form : Form) (old new : World) (sound : IsSound old.image) (short : IsWithinLimit form old.left) (counts counts_now : Counts) (well : NothingFailed counts counts_now) where
  ends_well : (came : Came) → ComesTo form old new came → OnOpened came (λ done. ReachesBy form done old.left new.left) → CausedBy (status_by came) counts counts_now
      → (status_by came ≡ 0) ⊎ (status_by came ≡ 3)
  ends_well (Opened (Ok done)) h r c = inl refl
  ends_well (Opened (Err Input)) h r c = absurd (well.input (c.input refl))
  ends_well (Opened (Err (Early Space))) h r c = inr refl
  ends_well (Opened (Err (Early Flash))) h r c = absurd (well.flash (c.flash refl))
  ends_well (Opened (Err (Early Sink))) h r c = absurd (well.sink (c.sink refl))
  ends_well (Opened (Err Long)) h r c =
      let s = short (takes_by form old new h.1) in
      absurd (within_limit s.0 old.left new.left s.1 s.2 r)
  ends_well Refused h r c = absurd (sound_unbroken old.image h.rule h.place sound h.first)
  ends_well Unsaid h r c = absurd (well.sink (c.sink refl))
  ends_well Failed h r c = absurd (well.flash (c.flash refl))

  pub no_fault_by : (came : Came) → ComesTo form old new came → OnOpened came (λ done. ReachesBy form done old.left new.left) → HasCameCause counts counts_now came
      → (status : ℕ) → status ≡ status_by came → (status ≡ 0) ⊎ (status ≡ 3)
  no_fault_by came h r cause status is = rw is (ends_well came h r (caused_by came counts counts_now cause (status_by came) refl))

-- ---- space

some_text : (left : Option (List ℕ)) → left ≢ None → (text : List ℕ) × (left ≡ Some text)
some_text None h = absurd (h refl)
some_text (Some text) h = (text, refl)

module _ (old new : World) (size : length new.image ≡ length old.image) where
  many : length old.image / 4096 ≡ length new.image / 4096
  many = ap (λ n. n / 4096) (sym size)

  spaceless : (form : Form) → LeavesBehind form old new (Err (Early Space)) → HasSpace form old → ⊥
  spaceless Run f has =
      let t = some_text old.left has.0 in
      input_has_space script_line (has_fronts script_cut script_line script_parts) (script_talk has.1) old new (length old.image / 4096) many t.0 t.1 (has.3 t.0 t.1) (f has.1 has.2)
  spaceless Serve f has =
      let t = some_text old.left has.0 in
      input_has_space frame_line (has_fronts frame_cut frame_line frame_parts) (serve_talk has.1) old new (length old.image / 4096) many t.0 t.1 (has.3 t.0 t.1) (f has.1 has.2)
  spaceless (Gen seed count) f has =
      stops_nowhere (summed_from (base old.image)) (length old.image / 4096) _ f.front f.n new.image many f.stops has
  spaceless (Plan rows) f has = f
  spaceless Dump f has = f
  spaceless Look f has = f

  pub suffices_by : (form : Form) (came : Came) → ComesTo form old new came → (status : ℕ) → status ≡ status_by came → HasSpace form old → status ≢ 3
  suffices_by form came comes status is has three =
      let ended : IsSound old.image × LeavesBehind form old new (Err (Early Space)) = subst (ComesTo form old new) (is_spaceless came (sym is ∙ three)) comes in
      spaceless form ended.1 has
