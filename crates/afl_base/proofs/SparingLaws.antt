-- Calls that take no extent, one after the other.
use Rattle.std.proofs.Common.{◌≡◌, ℕ, Bool, List, ap, ◌∙◌}
use Rattle.afl_base.specs.Files.{State}
use Rattle.afl_base.specs.Sparing.{TakesNoPage, StandsStill}

pub takes_no_page_same : (is_free : List ℕ → ℕ → Bool) (old new : List ℕ) → new ≡ old → TakesNoPage is_free old new
takes_no_page_same is_free old new same page free = ap (λ (store : List ℕ). is_free store page) same ∙ free

pub takes_no_page_on : (is_free : List ℕ → ℕ → Bool) (old mid new : List ℕ) → TakesNoPage is_free old mid → TakesNoPage is_free mid new → TakesNoPage is_free old new
takes_no_page_on is_free old mid new first then page free = then page (first page free)

pub stays_on : {S : Type 0} (state : S → State) (asks : S → ℕ → ℕ → ℕ → ℕ → Type 0) (old mid new : S) → StandsStill state asks old mid → StandsStill state asks mid new → StandsStill state asks old new
stays_on state asks old mid new first then = record {
  store = then.store ∙ first.store;
  asks_less = λ id overwrites bytes need asked. first.asks_less id overwrites bytes need (then.asks_less id overwrites bytes need asked);
}
