-- What a run comes to over an image that is not sound.
use Rattle.std.proofs.Common.{◌≡◌, ◌⊎◌, inl, inr, ℕ, [], refl, subst, sym}
use Rattle.std.specs.Prelude.{⊤, Result}
use Rattle.std.specs.Io.KnownBytes.{append_known}
use Rattle.afl_base.specs.Causes.{Rose}
use Rattle.run_input.specs.declared.ending.InputEnding.{InputEnding}
use Rattle.reply_text.proofs.Pieces.{append_known-nil}
use Rattle.reply_text.specs.WroteLess.{WroteLess}
use Rattle.run_model.specs.Runs.{World, image_line}
use Rattle.image_model.specs.Images.{IsFirstBroken}
use Rattle.antelope_run.specs.declared.came.Came.{Came}
use Rattle.antelope_run.specs.declared.came.Came.TheVariants.{Refused, Unsaid}
use Rattle.run_words.specs.declared.words.Form.{Form}
use Rattle.antelope_run.specs.Promise.{ComesTo}
use Rattle.run_model.specs.Moments.{Counts}
use Rattle.antelope_run.specs.Steps.{BreaksBy, HasCameCause, OnOpened, OnUnopened}
use Rattle.antelope_run.proofs.Finished.{wrote_within}

module _ (came : Came) where
  abbrev pub IsUnopened : Type 0
  IsUnopened = (came ≡ Refused) ⊎ (came ≡ Unsaid)

  pub refused_comes : (form : Form) (old new : World) (rule place : ℕ) → IsUnopened → IsFirstBroken old.image rule place → new.image ≡ old.image → new.left ≡ old.left
      → (came ≡ Refused → new.held ≡ append_known old.held (image_line rule place)) → (came ≡ Unsaid → WroteLess old.held new.held (image_line rule place))
      → ComesTo form old new came
  refused_comes form old new rule place (inl e) first same unread written less =
      subst (ComesTo form old new) (sym e) (record { rule = rule; place = place; first = first; same = same; written = written e })
  refused_comes form old new rule place (inr e) first same unread written less =
      subst (ComesTo form old new) (sym e) (
        record {
          rule = rule;
          place = place;
          first = first;
          same = same;
          written = wrote_within [] (image_line rule place) (image_line rule place) old.held old.held new.held (sym (append_known-nil old.held)) (less e) refl;
        },
        unread,
      )

  pub nothing_broken : (form : Form) (old new : World) → IsUnopened → BreaksBy form old new came
  nothing_broken form old new (inl e) = subst (BreaksBy form old new) (sym e) tt
  nothing_broken form old new (inr e) = subst (BreaksBy form old new) (sym e) tt

  pub none_opened : (P : Result ⊤ InputEnding → Type 0) → IsUnopened → OnOpened came P
  none_opened P (inl e) = subst (λ (k : Came). OnOpened k P) (sym e) tt
  none_opened P (inr e) = subst (λ (k : Came). OnOpened k P) (sym e) tt

  pub on_unopened : (P : Type 0) → P → IsUnopened → OnUnopened came P
  on_unopened P p (inl e) = subst (λ (k : Came). OnUnopened k P) (sym e) p
  on_unopened P p (inr e) = subst (λ (k : Came). OnUnopened k P) (sym e) p

  pub refused_cause : (old new : Counts) → IsUnopened → (came ≡ Unsaid → Rose old.sink new.sink) → HasCameCause old new came
  refused_cause old new (inl e) rose = subst (λ (k : Came). HasCameCause old new k) (sym e) (record {
    input = λ h. absurd (let n : ⊥ = cc in n);
    flash_failed = λ h. absurd (let n : ⊥ = cc in n);
    sink_failed = λ h. absurd (let n : ⊥ = cc in n);
    unsaid = λ h. absurd (let n : ⊥ = cc in n);
    unopened = λ h. absurd (let n : ⊥ = cc in n);
  })
  refused_cause old new (inr e) rose = subst (λ (k : Came). HasCameCause old new k) (sym e) (record {
    input = λ h. absurd (let n : ⊥ = cc in n);
    flash_failed = λ h. absurd (let n : ⊥ = cc in n);
    sink_failed = λ h. absurd (let n : ⊥ = cc in n);
    unsaid = λ h. rose e;
    unopened = λ h. absurd (let n : ⊥ = cc in n);
  })
