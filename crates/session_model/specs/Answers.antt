-- What a command gives, by its answer.
use Rattle.std.specs.Prelude.{◌≡◌, ⊤, ℕ, Result, Ok, Err, IsOk, Bool, List, IsTrue}
use Rattle.afl_base.specs.Files.{State}
use Rattle.afl_base.specs.Sparing.{TakesNoPage}
use Rattle.db_model.specs.Step.{Reply, Fine, Removed}
use Rattle.db_model.specs.declared.refusals.Refusal.{Refusal}
use Rattle.session_model.specs.declared.answer.Answer.{Answer}
use Rattle.session_model.specs.declared.answer.Answer.TheVariants as answer

-- what was made of something, by the answer: what was to be made, or a refusal, or there was no space
abbrev pub Changed : {X : Type 0} → Result (X × Reply) Refusal → X → X → Answer → Type 0
Changed made old new answer.Fine = made ≡ Ok (new, Fine)
Changed made old new (answer.Removed k) = made ≡ Ok (new, Removed k)
Changed made old new (answer.Refused r) = (made ≡ Err r) × (new ≡ old)
Changed made old new (answer.NoSpace need) = IsOk made × (new ≡ old)

-- where there was no space
abbrev pub OnNoSpace : {E : Type 0} → Result Answer E → (ℕ → Type 0) → Type 0
OnNoSpace (Ok (answer.NoSpace need)) P = P need
OnNoSpace (Ok answer.Fine) P = ⊤
OnNoSpace (Ok (answer.Removed k)) P = ⊤
OnNoSpace (Ok (answer.Refused r)) P = ⊤
OnNoSpace (Err e) P = ⊤

-- P, where nothing was changed: a refusal, or a removal of no row
abbrev pub OnNothing : {E : Type 0} → Result Answer E → Type 0 → Type 0
OnNothing (Ok (answer.Refused r)) P = P
OnNothing (Ok (answer.Removed k)) P = k ≡ 0 → P
OnNothing (Ok answer.Fine) P = ⊤
OnNothing (Ok (answer.NoSpace need)) P = ⊤
OnNothing (Err e) P = ⊤

-- P, where the command was done
abbrev pub OnDone : {E : Type 0} → Result Answer E → Type 0 → Type 0
OnDone (Ok answer.Fine) P = P
OnDone (Ok (answer.Removed k)) P = P
OnDone (Ok (answer.Refused r)) P = ⊤
OnDone (Ok (answer.NoSpace need)) P = ⊤
OnDone (Err e) P = ⊤

-- a command that was done has taken no page, where bytes are told and something is so
abbrev pub SparesDone : {E : Type 0} → (List ℕ → ℕ → Bool) → (so : Type 0) → (old new : State) → Result Answer E → Type 0
SparesDone is_free so old new result = IsTrue old.tells → so → OnDone result (TakesNoPage is_free old.store new.store)
