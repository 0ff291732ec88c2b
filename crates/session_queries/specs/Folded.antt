-- The folds of a list of aggregates, one for each of its items. One that needs no other pass is closed, and takes no more.
use Rattle.std.specs.Prelude.{◌≡◌, ◌≢◌, ◌+◌, ◌<◌, ◌≤◌, ℕ, Bool, true, false, List, [], ◌∷◌, ◌++◌, length, get_or, None, IsFalse, IsTrue}
use Rattle.db_model.specs.declared.commands.Agg.{Agg}
use Rattle.db_model.specs.declared.commands.Agg.TheVariants.{Count, Median}
use Rattle.db_model.specs.declared.values.Value.{Value}
use Rattle.aggregate.specs.declared.stage.Stage.TheVariants.{Done}
use Rattle.aggregate.specs.Fold.{Folds, wants_pass}
use Rattle.session_plans.specs.Aggregates.{column_values}
use Rattle.session_queries.specs.declared.tally.Tally.{Tally}

-- what stands where there is no item and no tally
abbrev pub no_item : Agg × ℕ
no_item = (Count, 0)

abbrev pub no_tally : Tally
no_tally = record { fold = record { agg = Count; passes = 0; pushed = 0; stage = Done None }; is_open = false }

abbrev pub item_at : List (Agg × ℕ) → ℕ → Agg × ℕ
item_at items i = get_or items i no_item

abbrev pub tally_at : List Tally → ℕ → Tally
tally_at tallies i = get_or tallies i no_tally

-- ---- one tally

-- after this many passes: an open one has had them all and needs another, and a closed one needs none
pub record StandsAfterPasses (passes : ℕ) (tally : Tally) : Type 0 where
  pub wants : IsTrue tally.is_open → IsTrue (wants_pass tally.fold)
  pub passed : IsTrue tally.is_open → tally.fold.passes ≡ passes
  pub few : IsTrue tally.is_open → passes < 9
  pub closed : IsFalse tally.is_open → IsFalse (wants_pass tally.fold)

-- what an open one has taken
abbrev pub taken_by : {A : Type 0} → Bool → List A → List A
taken_by true xs = xs
taken_by false xs = []

-- before its first pass
pub record IsNew (agg : Agg) (tally : Tally) : Type 0 where
  pub agg_is : tally.fold.agg ≡ agg
  pub stands : StandsAfterPasses 0 tally
  pub fresh : tally.fold.pushed ≡ 0
  pub told : (all : List Value) → Folds all [] tally.fold

-- it was shown a value
pub record TakesValue (value : Value) (old new : Tally) : Type 0 where
  pub agg : new.fold.agg ≡ old.fold.agg
  pub stands : (passes : ℕ) → StandsAfterPasses passes old → StandsAfterPasses passes new
  pub open_only : IsTrue new.is_open → IsTrue old.is_open
  pub pushed : new.fold.pushed ≤ old.fold.pushed + 1
  pub told : (all so_far : List Value) → Folds all (taken_by old.is_open so_far) old.fold
      → Folds all (taken_by new.is_open (so_far ++ value ∷ [])) new.fold

-- a pass was ended
pub record EndsPass (old new : Tally) : Type 0 where
  pub agg : new.fold.agg ≡ old.fold.agg
  pub stands : (passes : ℕ) → StandsAfterPasses passes old → StandsAfterPasses (passes + 1) new
  pub fresh : IsTrue new.is_open → new.fold.pushed ≡ 0
  pub once : old.fold.agg ≢ Median → IsFalse new.is_open
  pub told : (all : List Value) → Folds all (taken_by old.is_open all) old.fold → Folds all [] new.fold

-- ---- all of them

-- each is one of its item's aggregate
abbrev pub HaveAggs : List (Agg × ℕ) → List Tally → Type 0
HaveAggs items tallies = (i : ℕ) → i < length items → (tally_at tallies i).fold.agg ≡ (item_at items i).0

abbrev pub AllStand : ℕ → List (Agg × ℕ) → List Tally → Type 0
AllStand passes items tallies = (i : ℕ) → i < length items → StandsAfterPasses passes (tally_at tallies i)

-- none that is open has taken more values in this pass than this number
abbrev pub PushedFew : ℕ → List (Agg × ℕ) → List Tally → Type 0
PushedFew n items tallies = (i : ℕ) → i < length items → IsTrue (tally_at tallies i).is_open → (tally_at tallies i).fold.pushed ≤ n

abbrev pub AreClosed : List (Agg × ℕ) → List Tally → Type 0
AreClosed items tallies = (i : ℕ) → i < length items → IsFalse (tally_at tallies i).is_open

-- none needs another pass
abbrev pub AreDone : List (Agg × ℕ) → List Tally → Type 0
AreDone items tallies = (i : ℕ) → i < length items → IsFalse (wants_pass (tally_at tallies i).fold)

-- between passes: in those that ended each has taken its column of all tuples, as long as it was open
abbrev pub AreFolded : List (Agg × ℕ) → List (List Value) → List Tally → Type 0
AreFolded items all tallies =
    (i : ℕ) → i < length items → Folds (column_values (item_at items i).1 all) [] (tally_at tallies i).fold

-- in a pass: each that is open has taken that of some tuples
abbrev pub AreFolding : List (Agg × ℕ) → List (List Value) → List (List Value) → List Tally → Type 0
AreFolding items all so_far tallies =
    (i : ℕ) → i < length items
    → Folds (column_values (item_at items i).1 all) (taken_by (tally_at tallies i).is_open (column_values (item_at items i).1 so_far)) (tally_at tallies i).fold
