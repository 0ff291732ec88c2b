-- The tallies of a list, one after the other.
use Rattle.std.proofs.Common.{◌≡◌, ◌≢◌, ℕ, ℤ, zero, suc, ◌+◌, ◌<◌, ◌≤◌, ◌⊎◌, Bool, true, false, ◌||◌, List, [], ◌∷◌, ◌++◌, length, get_or, take, Option, refl, ap, sym, ◌∙◌, subst, arith, IsTrue, inl, inr}
use Rattle.std.specs.Prelude.{IsFalse, slice_set}
use Rattle.std.proofs.Math.Logic.{⊎_elim}
use Rattle.std.proofs.lemmas.Bool.{cases_lt}
use Rattle.std.proofs.lemmas.Grind.{get_or-set_at}
use Rattle.std.proofs.lemmas.List.{get_or-set_other}
use Rattle.db_model.specs.declared.commands.Agg.{Agg}
use Rattle.db_model.specs.declared.commands.Agg.TheVariants.{Count, Sum, Min, Max, Mean, Median}
use Rattle.db_model.specs.declared.values.Value.{Value}
use Rattle.session_plans.specs.Aggregates.{answer, answers, asks_median, medians}
use Rattle.session_model.proofs.Running.{same_default}
use Rattle.session_queries.specs.Folded.{item_at, no_tally, tally_at}
use Rattle.session_queries.specs.declared.tally.Tally.{Tally}

true_and_false : (b : Bool) → IsTrue b → IsFalse b → ⊥
true_and_false b t f = cc

or_left : (a b : Bool) → IsTrue a → IsTrue (a || b)
or_left true b h = refl
or_left false b h = absurd (cc)

pub either_true : (a b : Bool) → (a || b) ≡ true → IsTrue a ⊎ IsTrue b
either_true true b e = inl refl
either_true false b e = inr e

-- ---- one tally of a list was set

before_or_at : (i j : ℕ) → j < i + 1 → (j < i) ⊎ (j ≡ i)
before_or_at i j h = ⊎_elim (λ less. inl less) (λ least. inr (omega arith)) (cases_lt j i)

pub set_before : (P : ℕ → Tally → Type 0) (tallies : List Tally) (i : ℕ) (tally : Tally) → i < length tallies
    → ((j : ℕ) → j < i → P j (tally_at tallies j)) → P i tally → (j : ℕ) → j < i + 1 → P j (tally_at (slice_set tallies i tally) j)
set_before P tallies i tally inside before here j below =
    ⊎_elim
    (λ less. let other : j ≢ i = λ e. absurd (omega arith) in
    subst (λ (t : Tally). P j t) (sym (get_or-set_other tallies i j tally no_tally other)) (before j less))
    (λ same. subst (λ (t : Tally). P j t) (sym (get_or-set_at tallies i j tally no_tally same inside)) (subst (λ (k : ℕ). P k tally) (sym same) here))
    (before_or_at i j below)

pub set_behind : (old tallies : List Tally) (i : ℕ) (tally : Tally) → ((j : ℕ) → i ≤ j → tally_at tallies j ≡ tally_at old j)
    → (j : ℕ) → i + 1 ≤ j → tally_at (slice_set tallies i tally) j ≡ tally_at old j
set_behind old tallies i tally behind j above =
    let other : j ≢ i = λ e. absurd (omega arith) in
    get_or-set_other tallies i j tally no_tally other ∙ behind j (omega arith)

pub tally_read : (old tallies : List Tally) (i : ℕ) (tally : Tally) → i < length tallies → tally ≡ get_or tallies i tally → ((j : ℕ) → i ≤ j → tally_at tallies j ≡ tally_at old j) → tally ≡ tally_at old i
tally_read old tallies i tally inside is behind = is ∙ same_default tallies i tally no_tally inside ∙ behind i (omega arith)

-- ---- medians

median_there : (agg : Agg) (b : Bool) → (agg ≢ Median → IsFalse b) → IsTrue b → (place : ℕ) → IsTrue (asks_median (agg, place))
median_there Median b once more place = refl
median_there Count b once more place = absurd (true_and_false b more (once (λ e. absurd (cc))))
median_there Sum b once more place = absurd (true_and_false b more (once (λ e. absurd (cc))))
median_there Min b once more place = absurd (true_and_false b more (once (λ e. absurd (cc))))
median_there Max b once more place = absurd (true_and_false b more (once (λ e. absurd (cc))))
median_there Mean b once more place = absurd (true_and_false b more (once (λ e. absurd (cc))))

or_right : (a b : Bool) → IsTrue b → IsTrue (a || b)
or_right true b h = refl
or_right false b h = h

any_at : (items : List (Agg × ℕ)) (i : ℕ) → i < length items → IsTrue (asks_median (item_at items i)) → IsTrue (medians items)
any_at [] i inside h = absurd (omega arith)
any_at (item ∷ items) zero inside h = or_left (asks_median item) (medians items) h
any_at (item ∷ items) (suc i) inside h = or_right (asks_median item) (medians items) (any_at items i (omega arith) h)

-- one that wants another pass is one of a median
pub median_of : (items : List (Agg × ℕ)) (i : ℕ) (agg : Agg) (b : Bool) → i < length items → agg ≡ (item_at items i).0 → (agg ≢ Median → IsFalse b) → IsTrue b → IsTrue (medians items)
median_of items i agg b inside is once more =
    any_at items i inside (median_there (item_at items i).0 b (λ other. once (λ e. other (sym is ∙ e))) more (item_at items i).1)

-- ---- answers

pub answers_more : (items : List (Agg × ℕ)) (i : ℕ) (all : List (List Value)) → i < length items → answers (take (i + 1) items) all ≡ answers (take i items) all ++ answer all (item_at items i) ∷ []
answers_more [] i all inside = absurd (omega arith)
answers_more (item ∷ items) zero all inside = refl
answers_more (item ∷ items) (suc i) all inside =
    let e : suc i + 1 ≡ suc (i + 1) = omega arith in
    ap (λ (n : ℕ). answers (take n (item ∷ items)) all) e ∙ ap (λ (l : List (Option ℤ)). answer all item ∷ l) (answers_more items i all (omega arith))
