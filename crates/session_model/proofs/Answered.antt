-- The reply that was written is the one that the step gives.
use Rattle.std.proofs.Common.{◌≡◌, ℕ, List, Option, refl, ap, sym, ◌∙◌, subst, Ok, Err}
use Rattle.std.specs.Prelude.{IsOk}
use Rattle.std.specs.Io.KnownBytes.{append_known}
use Rattle.db_model.specs.declared.refusals.Refusal.{Refusal}
use Rattle.db_model.specs.Database.{Database}
use Rattle.db_model.specs.ReplyText.{count_text, ok_text, refusal_text, text}
use Rattle.db_model.specs.Step.{Fine, Removed, replied}
use Rattle.db_model.proofs.ReplyTexts.{text_fine, text_refused, text_removed}
use Rattle.reply_text.specs.WroteLess.{WroteLess}
use Rattle.session_model.specs.declared.step.Outcome.TheVariants as outcome
use Rattle.session_model.specs.declared.step.Step.TheVariants.{Done, NoSpace}
use Rattle.session_model.specs.Steps.{Does, Made}

pub does_fine : (made : Made) (old new : Database) (before now : Option (List ℕ)) → made ≡ Ok (new, Fine) → now ≡ append_known before ok_text → Does made old new (Done outcome.Fine) before now
does_fine made old new before now e h =
    subst (λ (m : Made). Does m old new (Done outcome.Fine) before now) (sym e) (refl, (h ∙ ap (append_known before) (sym text_fine), refl))

pub less_fine : (made : Made) (old new : Database) (before now : Option (List ℕ)) → made ≡ Ok (new, Fine) → WroteLess before now ok_text → (new ≡ (replied old made).0) × WroteLess before now (text (replied old made).1)
less_fine made old new before now e h =
    subst (λ (m : Made). (new ≡ (replied old m).0) × WroteLess before now (text (replied old m).1)) (sym e) (refl, subst (λ (bytes : List ℕ). WroteLess before now bytes) (sym text_fine) h)

pub does_refused : (made : Made) (old new : Database) (r : Refusal) (before now : Option (List ℕ)) → (made ≡ Err r) × (new ≡ old) → now ≡ append_known before (refusal_text r) → Does made old new (Done outcome.Refused) before now
does_refused made old new r before now e h =
    subst (λ (m : Made). Does m old new (Done outcome.Refused) before now) (sym e.0) (e.1, (h ∙ ap (append_known before) (sym (text_refused r)), refl))

pub less_refused : (made : Made) (old new : Database) (r : Refusal) (before now : Option (List ℕ)) → (made ≡ Err r) × (new ≡ old) → WroteLess before now (refusal_text r)
    → (new ≡ (replied old made).0) × WroteLess before now (text (replied old made).1)
less_refused made old new r before now e h =
    subst (λ (m : Made). (new ≡ (replied old m).0) × WroteLess before now (text (replied old m).1)) (sym e.0) (e.1, subst (λ (bytes : List ℕ). WroteLess before now bytes) (sym (text_refused r)) h)

pub does_nothing : (made : Made) (old new : Database) (need : ℕ) (h : Option (List ℕ)) → IsOk made × (new ≡ old) → Does made old new (NoSpace need) h h
does_nothing made old new need h e = (e.1, refl, e.0)

pub does_removed : (made : Made) (old new : Database) (k : ℕ) (before now : Option (List ℕ)) → made ≡ Ok (new, Removed k) → now ≡ append_known before (count_text k) → Does made old new (Done (outcome.Rows k)) before now
does_removed made old new k before now e h =
    subst (λ (m : Made). Does m old new (Done (outcome.Rows k)) before now) (sym e) (refl, (h ∙ ap (append_known before) (sym (text_removed k)), refl))

pub less_removed : (made : Made) (old new : Database) (k : ℕ) (before now : Option (List ℕ)) → made ≡ Ok (new, Removed k) → WroteLess before now (count_text k)
    → (new ≡ (replied old made).0) × WroteLess before now (text (replied old made).1)
less_removed made old new k before now e h =
    subst (λ (m : Made). (new ≡ (replied old m).0) × WroteLess before now (text (replied old m).1)) (sym e) (refl, subst (λ (bytes : List ℕ). WroteLess before now bytes) (sym (text_removed k)) h)
