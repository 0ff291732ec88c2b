-- A relation that is found by its name.
use Rattle.std.proofs.Common.{◌≡◌, ℕ, zero, suc, ◌+◌, ◌*◌, ◌<◌, List, [], ◌∷◌, length, get_or, map, replicate, Option, Some, None, refl, ap, sym, ◌∙◌, subst, IsTrue}
use Rattle.std.specs.Prelude.{IsSomeAnd, option_map}
use Rattle.afl_base.specs.Asked.{asks_few}
use Rattle.afl_base.specs.Files.{State, size_at}
use Rattle.db_model.specs.Catalog.{Catalog, catalog_of, empty_catalog}
use Rattle.db_model.specs.Database.{Relation, relation_named}
use Rattle.index_set.specs.Tables.{Tables}
use Rattle.space_model.specs.FileNames.{asks_in, size_in}
use Rattle.space_model.specs.Wants.{WantsRelationSlot, room_for}
use Rattle.tuple_file.specs.declared.tuples.Tuples.{Tuples}
use Rattle.session_model.specs.declared.held.Held.{Held}
use Rattle.session_model.specs.declared.held.Open.{Open}
use Rattle.session_model.specs.Cells.{cell_from}
use Rattle.session_model.specs.Frames.{AsksNoExtent, schema_in}
use Rattle.session_model.specs.Running.{IsRunning, bytes_of_catalog}
use Rattle.session_model.specs.View.{view}
use Rattle.session_model.specs.Wanted.{room_in}
use Rattle.session_model.proofs.Running.{slot_is}
use Rattle.session_model.proofs.Wanted.{relation_seen, wants_catalog}
use Rattle.session_relations.specs.Changes.{AsksRelationSlot}

-- no slot is used
none_used : (name : List ℕ) (n m : ℕ) (slots : List (Option Tuples)) → map (option_map schema_in) slots ≡ replicate m None → cell_from name n slots ≡ None
none_used name n m [] e = refl
none_used name n zero (None ∷ slots) e = absurd (cc)
none_used name n (suc m) (None ∷ slots) e = none_used name (n + 1) m slots (let same : map (option_map schema_in) slots ≡ replicate m None = cc in same)
none_used name n zero (Some t ∷ slots) e = absurd (cc)
none_used name n (suc m) (Some t ∷ slots) e = absurd (cc)

-- a catalog that is told and absent has no relation
pub without_catalog : (state : State) (tables : Tables) (held : Held) (opens : List (Option Open)) (name : List ℕ) → IsRunning state tables held opens → IsTrue state.tells → held.cat ≡ None
    → cell_from name 0 held.relations ≡ None
without_catalog state tables held opens name r told none =
    let empty : catalog_of [] ≡ empty_catalog = refl in
    let bytes : bytes_of_catalog state.files held.cat ≡ [] = ap (bytes_of_catalog state.files) none in
    none_used name 0 8 held.relations (ap (λ (c : Catalog). c.relations) (sym (r.listed told) ∙ ap catalog_of bytes ∙ empty))

-- ---- what a change of its slot asks for

module _ (state : State) (tables : Tables) (held : Held) (opens : List (Option Open)) (asks : ℕ → ℕ → ℕ → ℕ → Type 0) (name : List ℕ) (cat slot : ℕ) (t : Tuples)
    (r : IsRunning state tables held opens) (has : held.cat ≡ Some cat) (cell : cell_from name 0 held.relations ≡ Some (slot, t)) where
  wants_over : (over : ℕ → ℕ → ℕ → ℕ → Type 0) (need : ℕ) → over cat ((room_for (size_at state.files cat) (176 * slot) 176).0) ((room_for (size_at state.files cat) (176 * slot) 176).1) need
      → IsSomeAnd (relation_named (view state.files held opens) name) (λ s. WantsRelationSlot (size_in state.files) (asks_in over state.files) (room_in state.files) s.0 need)
  wants_over over need asked =
      let P : Option (ℕ × Relation) → Type 0 = λ o. IsSomeAnd o (λ s. WantsRelationSlot (size_in state.files) (asks_in over state.files) (room_in state.files) s.0 need) in
      subst P (sym (relation_seen state.files held opens name slot t cell)) (wants_catalog state tables held opens r over cat (176 * slot) 176 need has asked)

  pub wants_found : (need : ℕ) → AsksRelationSlot asks state.files cat slot need
      → IsSomeAnd (relation_named (view state.files held opens) name) (λ s. WantsRelationSlot (size_in state.files) (asks_in (asks_few asks state.files) state.files) (room_in state.files) s.0 need)
  wants_found need asked = wants_over (asks_few asks state.files) need asked

  -- nothing is asked for, where the command wants no extent
  pub asks_nothing : ((need : ℕ) → IsSomeAnd (relation_named (view state.files held opens) name) (λ s. WantsRelationSlot (size_in state.files) (asks_in asks state.files) (room_in state.files) s.0 need) → ⊥)
      → AsksNoExtent asks state.files cat (176 * slot) 176
  asks_nothing none need asked = none need (wants_over asks need asked)

-- ---- where it stands

-- what stands at an index is what stands in the slot
pub slot_item : (slots : List (Option Tuples)) (n k : ℕ) (o : Option Tuples) (t : Tuples) → n ≡ k → k < length slots → o ≡ get_or slots n o → get_or slots n o ≡ Some t → get_or slots k None ≡ Some t
slot_item slots n k o t same below item is = slot_is slots k o t below (item ∙ ap (λ (m : ℕ). get_or slots m o) same) (item ∙ is)
