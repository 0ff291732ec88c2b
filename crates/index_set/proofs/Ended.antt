-- Candidates that have answered their last slot.
use Rattle.std.proofs.Common.{◌≡◌, ◌≤◌, ℕ, List, [], length, Option, arith}
use Rattle.afl_base.specs.Files.{State}
use Rattle.db_model.specs.Row.{Row}
use Rattle.index_maxheap.specs.declared.places.Place.{Place}
use Rattle.index_set.specs.declared.candidates.Candidates.{Candidates}
use Rattle.index_set.specs.declared.candidates.Search.{Search}
use Rattle.index_set.specs.declared.candidates.Search.TheVariants as by
use Rattle.index_set.specs.Tables.{Tables}
use Rattle.index_set.specs.Walks.{Fits, IsEnded, KnowsRows, Waits, ahead, reads_ahead, reads_by}
use Rattle.index_set.proofs.Nexts.{no_slots}

nothing_known : (s : Search) (all : List Row) (from end slots : ℕ) → slots ≤ from → from ≤ end → end ≤ slots → KnowsRows s all from end slots
nothing_known by.Nothing all from end slots over order within = tt
nothing_known by.Scan all from end slots over order within = tt
nothing_known (by.Order attribute range) all from end slots over order within = (λ i a b. absurd (omega (arith, a, b, over, within)), λ i a b. absurd (omega (arith, a, b, over, order)))
nothing_known (by.Tree attribute file key) all from end slots over order within = tt
nothing_known (by.Table attribute number key) all from end slots over order within = tt

none_less : (s : Search) (place : Option Place) (all : List Row) (k : ℕ) → reads_by s place all 0 ≤ reads_by s place all k
none_less by.Nothing place all k = omega arith
none_less by.Scan place all k = omega arith
none_less (by.Order attribute range) place all k = omega arith
none_less (by.Tree attribute file key) place all k = omega arith
none_less (by.Table attribute number key) place all k = omega arith

module _ (old new : Candidates) (is : IsEnded old new) (all : List Row) where
  over : new.slots ≤ new.from
  over = (let slots = is.slots in let from = is.from in omega (arith, slots, from))

  pub ahead_ended : ahead new all ≡ []
  ahead_ended = no_slots new all over

  pub waits_ended : Waits old all → Waits new all
  waits_ended w =
      let few = w.few in
      let slots = is.slots in
      record { few = omega (arith, few, slots); knows = nothing_known new.search all new.from new.end new.slots over new.order new.within }

  pub fits_ended : (state : State) (tables : Tables) → Waits old all → Fits new state tables all
  fits_ended state tables w = record { waits = waits_ended w; index = λ some. (let none = over in absurd (omega (arith, some, none))) }

  pub reads_ended : reads_ahead new all ≤ reads_ahead old all
  reads_ended = rw (ahead_ended, is.search, is.place) (none_less old.search old.place all (length (ahead old all)))
