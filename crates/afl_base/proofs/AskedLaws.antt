-- What is asked for where no byte has changed.
use Rattle.std.specs.Prelude.{◌≡◌, ℕ, ◌*◌, ◌≤◌, max}
use Rattle.std.proofs.Common.{◌∙◌, subst, sym}
use Rattle.afl_base.specs.Asked.{AreFewFor, asks_few}
use Rattle.afl_base.specs.Files.{KeepsBytes, State, file_at}
use Rattle.afl_base.specs.Fit.{fit}

pub asked_few : (asks : ℕ → ℕ → ℕ → ℕ → Type 0) (old new : State) (id w b need : ℕ) → KeepsBytes old new id
    → AreFewFor (file_at old.files id) need → asks id w b need → asks_few asks new.files id w b need
asked_few asks old new id w b need keeps few asked = (
  asked,
  record {
    growing = λ e. subst (λ (s : ℕ). need ≤ max 16 (2 * fit s)) (sym keeps.size) (few.growing (sym keeps.kind ∙ e));
    fixed = λ n e. few.fixed n (sym keeps.kind ∙ e);
  },
)
