-- A relation has come into the lowest free slot.
use Rattle.std.proofs.Common.{◌≡◌, ℕ, ◌+◌, ◌*◌, ◌<◌, ◌⊎◌, List, [], ◌∷◌, length, map, get_or, Option, Some, None, refl, ap, sym, ◌∙◌, subst, arith, inl, inr, IsTrue, Ok, Err}
use Rattle.std.specs.Prelude.{IsSome, IsSomeAnd, option_map}
use Rattle.afl_base.specs.Asked.{asks_few}
use Rattle.afl_base.specs.declared.kind.Kind.TheVariants.{Doubling}
use Rattle.afl_base.specs.Files.{File, State, Table, bytes_at, new_file, place, size_at}
use Rattle.afl_base.proofs.FileLaws.{file_here, live_here, named_here}
use Rattle.catalog.proofs.Replaced.{read_back}
use Rattle.db_model.specs.declared.commands.Command.TheVariants as command
use Rattle.db_model.specs.declared.refusals.Pool.TheVariants as pool
use Rattle.db_model.specs.declared.refusals.Refusal.TheVariants as no
use Rattle.db_model.specs.Database.{free_from, relation_named, with_relation}
use Rattle.db_model.specs.Names.{is_name}
use Rattle.db_model.specs.Row.{Row, rows_bytes}
use Rattle.db_model.specs.Step.{Fine, create_relation}
use Rattle.index_set.specs.Tables.{Tables}
use Rattle.space_model.specs.FileNames.{asks_in, rows_file, size_in}
use Rattle.space_model.specs.Wants.{WantsRelationSlot}
use Rattle.tuple_file.specs.declared.tuples.Tuples.{Tuples}
use Rattle.tuple_file.specs.Tuples.{HoldsRows, rows, slots}
use Rattle.session_model.specs.declared.held.Held.{Held}
use Rattle.session_model.specs.declared.held.Indexed.{Indexed}
use Rattle.session_model.specs.declared.held.Open.{Open}
use Rattle.session_model.specs.Cells.{cell_from}
use Rattle.session_model.specs.Frames.{with_tuples}
use Rattle.session_model.specs.Running.{IsIndexedOn, HoldsRelation, IsRunning}
use Rattle.session_model.specs.View.{relation_of_rows, view}
use Rattle.session_model.specs.Wanted.{WantsFew, room_in}
use Rattle.session_model.proofs.Catalogs.{RelationChanges}
use Rattle.session_model.proofs.Grown.{rows_of_none, slots_of_none}
use Rattle.session_model.proofs.Running.{index_there}
use Rattle.session_model.proofs.Views.{found_in_view}
use Rattle.session_model.proofs.Wanted.{relation_seen, wants_catalog, wants_new_catalog}
use Rattle.session_relations.specs.Changes.{AsksRelationSlot, PutsSlot, Shows, bare_relation, bare_schema, changed_at}
use Rattle.session_relations.proofs.Shown.{shows_changed}
use Rattle.padded.proofs.Facts.{none_some}

-- ---- free slots

-- and so it is in the database
pub free_mapped : {A B : Type 0} (f : A → B) (n : ℕ) (xs : List (Option A)) → free_from n (map (option_map f) xs) ≡ free_from n xs
free_mapped f n [] = refl
free_mapped f n (None ∷ xs) = refl
free_mapped f n (Some x ∷ xs) = free_mapped f (n + 1) xs

-- ---- what the machine makes of it

-- what stands in a slot that is used
pub used_slot : {A : Type 0} (o : Option A) → IsSome o → (x : A) × (o ≡ Some x)
used_slot None h = absurd (cc)
used_slot (Some x) h = (x, refl)

-- a name that none has, in the database
pub relation_missing : (files : Table) (held : Held) (opens : List (Option Open)) (name : List ℕ) → cell_from name 0 held.relations ≡ None → relation_named (view files held opens) name ≡ None
relation_missing files held opens name e =
    found_in_view files name 0 held.relations ∙ ap (option_map (λ (p : ℕ × Tuples). (p.0, relation_of_rows files p.1))) e

pub made_exists : (files : Table) (held : Held) (opens : List (Option Open)) (name : List ℕ) (k : ℕ) (t : Tuples) → cell_from name 0 held.relations ≡ Some (k, t)
    → create_relation (view files held opens) name ≡ Err no.Exists
made_exists files held opens name k t e = rw (relation_seen files held opens name k t e) refl

pub made_full : (files : Table) (held : Held) (opens : List (Option Open)) (name : List ℕ) → cell_from name 0 held.relations ≡ None → free_from 0 held.relations ≡ None
    → create_relation (view files held opens) name ≡ Err (no.Full pool.Relations 8)
made_full files held opens name e full = rw (relation_missing files held opens name e, free_mapped (relation_of_rows files) 0 held.relations, full) refl

pub made_slot : (files : Table) (held : Held) (opens : List (Option Open)) (name : List ℕ) (slot : ℕ) → cell_from name 0 held.relations ≡ None → free_from 0 held.relations ≡ Some slot
    → create_relation (view files held opens) name ≡ Ok (with_relation (view files held opens) slot (Some (bare_relation name)), Fine)
made_slot files held opens name slot e free = rw (relation_missing files held opens name e, free_mapped (relation_of_rows files) 0 held.relations, free) refl

-- ---- the new relation

abbrev pub new_tuples : ℕ → List ℕ → Tuples
new_tuples file name = record { file = file; schema = bare_schema name }

-- a new file holds the rows of a relation without attributes
module _ (state : State) (file k : ℕ) (name : List ℕ) (here : place state.files file ≡ Some (new_file (rows_file k) Doubling)) where
  new_empty : bytes_at state.files file ≡ []
  new_empty = ap (λ (f : File). f.bytes) (file_here state.files file (new_file (rows_file k) Doubling) here)

  new_size : size_at state.files file ≡ 0
  new_size = ap (λ (xs : List ℕ). length xs) new_empty

  new_slots : slots state.files (new_tuples file name) ≡ 0
  new_slots = slots_of_none state (new_tuples file name) new_size

  new_rows : rows state.files (new_tuples file name) ≡ []
  new_rows = rows_of_none state (new_tuples file name) new_size

  new_holds : HoldsRows state (new_tuples file name)
  new_holds = record {
    file = record {
      live = live_here state.files file (new_file (rows_file k) Doubling) here;
      doubling = ap (λ (f : File). f.kind) (file_here state.files file (new_file (rows_file k) Doubling) here);
      short = omega arith;
    };
    whole = new_size ∙ sym (omega (arith, new_slots));
    few = omega (arith, new_slots);
    written = λ told. ap (rows_bytes []) new_rows ∙ sym new_empty;
  }

  new_relation : HoldsRelation state 2 k (new_tuples file name)
  new_relation = record {
    holds = new_holds;
    named = named_here state.files file (new_file (rows_file k) Doubling) here;
    few = omega (arith, new_slots);
  }

-- the slot was free, so nothing stood on it or read it
module _ (old new : State) (tables : Tables) (held : Held) (opens : List (Option Open)) (r : IsRunning old tables held opens) (k cat file : ℕ) (name : List ℕ)
    (has : held.cat ≡ Some cat) (below : k < 8) (free : get_or held.relations k None ≡ None) (is : IsTrue (is_name name))
    (put : PutsSlot old new cat k (Some (bare_schema name))) (here : place new.files file ≡ Some (new_file (rows_file k) Doubling)) where
  no_index : (j : ℕ) (y : Indexed) → get_or held.indexes j None ≡ Some y → y.relation ≡ k → IsIndexedOn new tables j y (Some (new_tuples file name))
  no_index j y e rel =
      let on = index_there old tables held opens r j y e in
      absurd (none_some on.tuples (sym free ∙ ap (λ (m : ℕ). get_or held.relations m None) (sym rel) ∙ on.is))

  created : RelationChanges old new tables held opens k (Some (new_tuples file name)) cat
  created = record {
    below = below;
    has = has;
    leaves = put.leaves;
    bytes = put.bytes;
    idle = put.idle;
    back = λ told. read_back (Some (bare_schema name)) (is, omega arith, tt);
    slot = new_relation new file k name here;
    indexes = no_index;
    unread = λ s e. absurd (none_some s (sym free ∙ e));
  }

  pub shows_created : Shows old new tables (with_tuples held k (Some (new_tuples file name))) opens (changed_at (view old.files held opens) k (Some (bare_relation name)))
  shows_created =
      let P : List Row → Type 0 = λ all. Shows old new tables (with_tuples held k (Some (new_tuples file name))) opens
      (changed_at (view old.files held opens) k (Some (record { schema = bare_schema name; rows = all }))) in
      subst P (new_rows new file k name here) (shows_changed old new tables held opens r k (Some (new_tuples file name)) cat created)

-- ---- what is asked for

module _ (state : State) (tables : Tables) (held : Held) (opens : List (Option Open)) (r : IsRunning state tables held opens) (asks : ℕ → ℕ → ℕ → ℕ → Type 0) (name : List ℕ) (need : ℕ) where
  -- the pages of a catalog
  pub wants_first : held.cat ≡ None → need ≡ 6 → WantsFew asks state.files (view state.files held opens) (command.CreateRelation name) need
  wants_first none six =
      let new = wants_new_catalog state tables held opens r (asks_few asks state.files) none in
      inl (new.0, six)

  -- room in the catalog, or the pages of a file of rows
  pub wants_slot : (slot cat : ℕ) → held.cat ≡ Some cat → free_from 0 held.relations ≡ Some slot → AsksRelationSlot asks state.files cat slot need ⊎ (need ≡ 16)
      → WantsFew asks state.files (view state.files held opens) (command.CreateRelation name) need
  wants_slot slot cat has free (inr pages) = inr (inr pages)
  wants_slot slot cat has free (inl asked) =
      let few : ℕ → ℕ → ℕ → ℕ → Type 0 = asks_few asks state.files in
      let P : Option ℕ → Type 0 = λ o. IsSomeAnd o (λ k. WantsRelationSlot (size_in state.files) (asks_in few state.files) (room_in state.files) k need) in
      inr (inl (subst P (sym (free_mapped (relation_of_rows state.files) 0 held.relations ∙ free))
      (wants_catalog state tables held opens r few cat (176 * slot) 176 need has asked)))
