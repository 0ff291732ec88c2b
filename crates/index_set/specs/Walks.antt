-- The slots that candidates have still to answer.
use Rattle.std.specs.Prelude.{◌≡◌, ◌≤◌, ◌<◌, ⊤, ℕ, ◌+◌, ◌-◌, ◌*◌, ℤ, Bool, true, false, List, [], ◌∷◌, length, filter, get_or, Option, Some, None, IfSome, MatchOption}
use Rattle.std.specs.List.{range_with_len}
use Rattle.std.specs.Ordering.{int_eq}
use Rattle.afl_base.specs.Files.{State, IsLive, bytes_at}
use Rattle.db_model.specs.declared.schemas.Range.{Range}
use Rattle.db_model.specs.Cost.{begin_cost, chosen_cost, keys_beside}
use Rattle.db_model.specs.Plan.{lies_in, plan}
use Rattle.db_model.specs.Row.{Row, no_row}
use Rattle.db_model.specs.Step.{keys}
use Rattle.index_set.specs.declared.candidates.Candidates.{Candidates}
use Rattle.index_set.specs.declared.candidates.Search.{Search}
use Rattle.index_set.specs.declared.candidates.Search.TheVariants as by
use Rattle.index_set.specs.declared.info.Access.TheVariants.{Tree, Table}
use Rattle.index_set.specs.declared.info.IndexInfo.{IndexInfo}
use Rattle.index_maxheap.specs.declared.places.Place.{Place}
use Rattle.index_set.specs.Complete.{key_at_place}
use Rattle.index_set.specs.Inserts.{SomeOf}
use Rattle.index_set.specs.Plans.{kinds, slots_passed}
use Rattle.index_set.specs.Tables.{Tables, entries}
use Rattle.index_maxheap.specs.Searches.{IsPlaceOf, walk_left}
use Rattle.afl_base.specs.Keys.{is_key_at}
use Rattle.index_tree.specs.Places.{KeepsNumbers}
use Rattle.index_tree.specs.Trees.{IsTreeOf}

-- which rows a search answers
abbrev pub search_takes : Search → Row → Bool
search_takes by.Nothing row = false
search_takes by.Scan row = true
search_takes (by.Order attribute range) row = lies_in range (key_at_place attribute row)
search_takes (by.Tree attribute file key) row = int_eq (key_at_place attribute row) key
search_takes (by.Table attribute number key) row = int_eq (key_at_place attribute row) key

-- their slots, from one up to another
abbrev pub slots_searched : Search → List Row → ℕ → ℕ → List ℕ
slots_searched search all from end = filter (λ slot. search_takes search (get_or all slot no_row)) (range_with_len from (end - from))

-- the slots still to come
abbrev pub ahead : Candidates → List Row → List ℕ
ahead c all = slots_searched c.search all c.from c.slots

-- rows may have come after the others, which are the same
pub record RowsGrow (old new : List Row) : Type 0 where
  pub more : length old ≤ length new
  pub same : (i : ℕ) → i < length old → get_or new i no_row ≡ get_or old i no_row

-- ---- what candidates know of the rows alone, and so whatever comes after

-- all rows from one up to another are in the range, and none from there on
abbrev pub KnowsRows : Search → List Row → ℕ → ℕ → ℕ → Type 0
KnowsRows (by.Order attribute range) all from end slots =
    ((i : ℕ) → from ≤ i → i < end → lies_in range (key_at_place attribute (get_or all i no_row)) ≡ true)
    × ((i : ℕ) → end ≤ i → i < slots → lies_in range (key_at_place attribute (get_or all i no_row)) ≡ false)
KnowsRows _ all from end slots = ⊤

pub record Waits (c : Candidates) (all : List Row) : Type 0 where
  pub few : c.slots ≤ length all
  pub knows : KnowsRows c.search all c.from c.end c.slots

-- ---- what they know of their tree or table

abbrev pub HasIndex : Search → Option Place → State → Tables → List Row → ℕ → Type 0
HasIndex (by.Tree attribute file key) place state tables all from =
    IsTreeOf (bytes_at state.files file) (keys attribute all)
    × IsPlaceOf (bytes_at state.files file) (keys attribute all) key from place
HasIndex (by.Table attribute number key) place state tables all from = entries tables number ≡ keys attribute all
HasIndex _ place state tables all from = ⊤

-- they stand where they should, over these rows; after their last slot no index is asked
pub record Fits (c : Candidates) (state : State) (tables : Tables) (all : List Row) : Type 0 where
  pub waits : Waits c all
  pub index : c.from < c.slots → HasIndex c.search c.place state tables all c.from

-- the index knows the keys of these rows, and the buckets of a tree have kept their numbers, as after inserts
abbrev pub HasGrown : Search → State → State → Tables → List Row → Type 0
HasGrown (by.Tree attribute file key) old new tables all =
    IsTreeOf (bytes_at new.files file) (keys attribute all) × KeepsNumbers (bytes_at old.files file) (bytes_at new.files file)
HasGrown (by.Table attribute number key) old new tables all = entries tables number ≡ keys attribute all
HasGrown _ old new tables all = ⊤

-- a tree's file may be read
abbrev pub IsSafeBy : Search → State → Type 0
IsSafeBy (by.Tree attribute file key) state = IsLive state.files file
IsSafeBy _ state = ⊤

-- the index that a search uses is one of the list
abbrev pub IsChosen : Search → List IndexInfo → Type 0
IsChosen (by.Tree attribute file key) infos = SomeOf (λ info. (info.attribute ≡ attribute) × (info.access ≡ Tree file)) infos
IsChosen (by.Table attribute number key) infos = SomeOf (λ info. (info.attribute ≡ attribute) × (info.access ≡ Table number)) infos
IsChosen _ infos = ⊤

-- the place and the key of a tree that is walked
abbrev pub walk_of_search : Search → Option (ℕ × ℤ)
walk_of_search (by.Tree attribute file key) = Some (attribute, key)
walk_of_search _ = None

-- ---- the pages that are read until no slot is left: a tree's walk along its path, and each pair's bucket again

abbrev pub reads_by : Search → Option Place → List Row → ℕ → ℕ
reads_by (by.Tree attribute file key) place all k = 15 + walk_left (keys_beside key (keys attribute all)) place + 9 * (k + 1)
reads_by _ place all k = 0

abbrev pub reads_ahead : Candidates → List Row → ℕ
reads_ahead c all = reads_by c.search c.place all (length (ahead c all))

-- and those until one slot is found, or none
abbrev pub reads_next : Candidates → List Row → ℕ
reads_next c all = reads_by c.search c.place all 0

-- with the row of each slot
abbrev pub cost_ahead : Candidates → List Row → ℕ
cost_ahead c all = 6 * length (ahead c all) + reads_ahead c all

-- ---- where they begin

-- they have ahead the slots below a number that the plan of some ranges passes, and the plan's cost is enough
pub record BeginsWalk (c : Candidates) (slots : ℕ) (infos : List IndexInfo) (ranges : List Range) (state : State) (tables : Tables) (all : List Row) : Type 0 where
  pub ahead : ahead c all ≡ slots_passed (kinds infos) ranges slots all
  pub fits : Fits c state tables all
  pub cost : begin_cost slots (plan (kinds infos) ranges) + cost_ahead c all ≤ chosen_cost (kinds infos) ranges all

-- ---- steps

-- they have gone behind the slot that was found, and know of the rows what they knew
pub record Advances (found : Option ℕ) (old new : Candidates) : Type 0 where
  pub search : new.search ≡ old.search
  pub slots : new.slots ≡ old.slots
  pub below : IfSome found (λ slot. slot < old.slots)
  pub forward : IfSome found (λ slot. (old.from ≤ slot) × (new.from ≡ slot + 1))
  pub waits : (all : List Row) → Waits old all → Waits new all

-- they have gone behind all their slots
pub record IsEnded (old new : Candidates) : Type 0 where
  pub search : new.search ≡ old.search
  pub place : new.place ≡ old.place
  pub slots : new.slots ≡ old.slots
  pub from : new.from ≡ old.slots
  pub end : new.end ≡ old.slots

-- the slot that was found is the first of those that were ahead
abbrev pub IsFirstAhead : Option ℕ → Candidates → Candidates → List Row → Type 0
IsFirstAhead found old new all = MatchOption found (ahead old all ≡ []) (λ slot. ahead old all ≡ slot ∷ ahead new all)

-- and they stand after it
abbrev pub FindsAhead : Option ℕ → Candidates → Candidates → State → Tables → List Row → Type 0
FindsAhead found old new state tables all =
    MatchOption found (ahead old all ≡ []) (λ slot. (ahead old all ≡ slot ∷ ahead new all) × Fits new state tables all)

-- over these rows, a step that began and ended at this many reads: what is ahead pays for what was read
pub record Steps (found : Option ℕ) (old new : Candidates) (state : State) (tables : Tables) (all : List Row) (before after : ℕ) : Type 0 where
  pub first : IsFirstAhead found old new all
  pub fits : Fits new state tables all
  pub reads : after + reads_ahead new all ≤ before + reads_ahead old all

-- no slot from one up to another has the key
abbrev pub LacksKey : ℤ → List ℤ → ℕ → ℕ → Type 0
LacksKey key keys from end = (i : ℕ) → from ≤ i → i < end → is_key_at key keys i ≡ false

-- their place stands in the tree of these keys
abbrev pub HasPlace : State → ℕ → ℤ → List ℤ → Candidates → Type 0
HasPlace state file key keys c = IsTreeOf (bytes_at state.files file) keys × IsPlaceOf (bytes_at state.files file) keys key c.from c.place

-- they have gone behind the slot that was answered, by one, up to the same end; else they are where they were
abbrev pub IsMoved : Option ℕ → Candidates → Candidates → Type 0
IsMoved None old new = new ≡ old
IsMoved (Some slot) old new = (new.from ≡ slot + 1) × (new.slots ≡ old.slots) × (new.search ≡ old.search) × (new.place ≡ old.place)

-- they have gone behind the slot that was answered, and end with their slots
abbrev pub IsMovedBy : Option ℕ → Candidates → Candidates → Type 0
IsMovedBy None old new = (new.from ≡ old.from) × (new.end ≡ old.end) × (new.slots ≡ old.slots) × (new.search ≡ old.search)
IsMovedBy (Some slot) old new = (new.from ≡ slot + 1) × (new.end ≡ new.slots) × (new.slots ≡ old.slots) × (new.search ≡ old.search) × (old.from ≤ slot) × (slot < old.slots)
