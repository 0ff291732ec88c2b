-- What a search that goes one slot on tells of the slots ahead.
use Rattle.std.proofs.Common.{◌≡◌, ℕ, Bool, true, false, List, [], Option, Some, None, IsTrue}
use Rattle.std.specs.Prelude.{IsFalse, is_some, not}
use Rattle.afl_base.specs.Files.{State}
use Rattle.db_model.specs.Row.{Row}
use Rattle.index_set.specs.declared.candidates.Candidates.{Candidates}
use Rattle.index_set.specs.Tables.{Tables}
use Rattle.index_set.specs.Walks.{FindsAhead, ahead}

module _ (old new : Candidates) (state : State) (tables : Tables) (rows : List Row) where
  pub none_ahead : (found : Option ℕ) (none : Bool) → is_some found ≡ not none → IsTrue none → FindsAhead found old new state tables rows → ahead old rows ≡ []
  none_ahead None none is over finds = finds
  none_ahead (Some slot) true is over finds = absurd (cc)
  none_ahead (Some slot) false is over finds = absurd (cc)

  pub some_ahead : (found : Option ℕ) (none : Bool) → is_some found ≡ not none → IsFalse none → FindsAhead found old new state tables rows → ahead old rows ≡ [] → ⊥
  some_ahead (Some slot) none is more finds nothing = let e = finds.0 in absurd (cc)
  some_ahead None true is more finds nothing = absurd (cc)
  some_ahead None false is more finds nothing = absurd (cc)
