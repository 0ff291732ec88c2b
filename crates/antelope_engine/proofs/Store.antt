-- The files of a session have the sizes that its database says, and no command asks them for more than is counted for it.
use Rattle.std.proofs.Common.{◌≡◌, ℕ, ◌*◌, ◌≤◌, List, [], length, max, get_or, Option, Some, None, refl, ap, sym, subst, ◌∙◌, arith, IsTrue}
use Rattle.std.specs.Prelude.{option_map}
use Rattle.std.specs.Option.{option_map_or}
use Rattle.afl_base.specs.Asked.{AreFewFor, asks_few}
use Rattle.afl_base.specs.Files.{File, IsNamed, State, Table, bytes_at, file_at, size_at}
use Rattle.afl_base.specs.Fit.{fit}
use Rattle.afl_base.specs.declared.kind.Kind.{Kind}
use Rattle.afl_base.specs.declared.kind.Kind.TheVariants.{Doubling, Fixed}
use Rattle.db_model.specs.declared.commands.Command.{Command}
use Rattle.db_model.specs.declared.schemas.IndexKind.TheVariants.{MaxHeap}
use Rattle.db_model.specs.Catalog.{Index}
use Rattle.db_model.specs.Database.{Database, Relation}
use Rattle.db_model.specs.Row.{Row, row_length}
use Rattle.db_model.specs.Step.{keys}
use Rattle.index_set.specs.declared.info.Access.{Access}
use Rattle.index_set.specs.declared.info.Access.TheVariants.{Order, Tree, Table as InTable}
use Rattle.index_set.specs.Complete.{IsComplete}
use Rattle.index_set.specs.Plans.{access_kind}
use Rattle.index_set.specs.Tables.{Tables}
use Rattle.index_tree.proofs.Law.{sized}
use Rattle.space_model.specs.Enough.{most, rows_in, rows_size, tree_size}
use Rattle.space_model.specs.FileNames.{asks_in, catalog_file, rows_file, size_in, tree_file}
use Rattle.space_model.specs.Wants.{AsksFew, IsStoreOf}
use Rattle.space_model.proofs.StillWanted.{wanted_still}
use Rattle.space_model.proofs.WantsMost.{wants_at_most}
use Rattle.tuple_file.specs.declared.tuples.Tuples.{Tuples}
use Rattle.tuple_file.specs.Tuples.{rows}
use Rattle.session_model.specs.declared.held.Held.{Held}
use Rattle.session_model.specs.declared.held.Indexed.{Indexed}
use Rattle.session_model.specs.declared.held.Open.{Open}
use Rattle.session_model.specs.Indexed.{index_known}
use Rattle.session_model.specs.Running.{HasCatalogFile, HasFile, IsRunning}
use Rattle.session_model.specs.View.{relation_of_rows, view}
use Rattle.session_model.specs.Wanted.{WantsFew, WantsOver, room_in}
use Rattle.session_model.proofs.Running.{index_there, relation_there}
use Rattle.session_model.proofs.Wanted.{room_bytes, size_by_name}
use Rattle.antelope_engine.proofs.Slots.{seen_of}
use Rattle.tuple_file.proofs.Columns.{rows_counted}
use Rattle.padded.proofs.Facts.{some_same, seen_at}

-- ---- sizes

module _ (state : State) (tables : Tables) (held : Held) (opens : List (Option Open)) (r : IsRunning state tables held opens) where
  none_asks : ℕ → ℕ → ℕ → ℕ → Type 0
  none_asks id w b n = ⊥

  size_named : (id : ℕ) (name : List ℕ) → IsNamed state.files id name → size_in state.files name ≡ Some (size_at state.files id)
  size_named id name named = size_by_name state tables held opens r none_asks id name named

  relation_slot : (slot : ℕ) (q : Relation) → get_or (view state.files held opens).relations slot None ≡ Some q
      → (P : Relation → Type 0) → ((t : Tuples) → get_or held.relations slot None ≡ Some t → P (relation_of_rows state.files t)) → P q
  relation_slot slot q e P each =
      let from = seen_of (relation_of_rows state.files) (get_or held.relations slot None) q (sym (seen_at (relation_of_rows state.files) held.relations slot) ∙ e) in
      subst P from.is (each from.from from.there)

  rows_sized : (slot : ℕ) (t : Tuples) → get_or held.relations slot None ≡ Some t → size_in state.files (rows_file slot) ≡ Some (rows_size (relation_of_rows state.files t))
  rows_sized slot t e =
      let here = relation_there state tables held opens r slot t e in
      size_named t.file (rows_file slot) here.named
      ∙ ap (λ (n : ℕ). Some n) (here.holds.whole ∙ ap (λ (n : ℕ). row_length t.schema.attributes * n) (sym (rows_counted state.files t)))

  tree_sized : (told : IsTrue state.tells) (slot : ℕ) (x : Indexed) (t : Tuples) (access : Access) → access_kind access ≡ MaxHeap → HasFile state.files slot access
      → IsComplete state tables access (keys x.attribute (rows state.files t)) → size_in state.files (tree_file slot) ≡ Some (tree_size (keys x.attribute (rows state.files t)))
  tree_sized told slot x t Order e file complete = absurd (cc)
  tree_sized told slot x t (InTable number) e file complete = absurd (cc)
  tree_sized told slot x t (Tree g) e file complete =
      size_named g (tree_file slot) file ∙ ap (λ (n : ℕ). Some n) (sized (bytes_at state.files g) (keys x.attribute (rows state.files t)) complete)

  index_sized : IsTrue state.tells → (slot : ℕ) (x : Indexed) → get_or held.indexes slot None ≡ Some x → (index_known x).kind ≡ MaxHeap
      → size_in state.files (tree_file slot) ≡ Some (tree_size (keys x.attribute (rows_in (view state.files held opens) x.relation)))
  index_sized told slot x e heap =
      let o = index_there state tables held opens r slot x e in
      let all : rows_in (view state.files held opens) x.relation ≡ rows state.files o.tuples =
      ap (λ (z : Option Relation). option_map_or (λ (q : Relation). q.rows) z []) (seen_at (relation_of_rows state.files) held.relations x.relation ∙ ap (option_map (relation_of_rows state.files)) o.is) in
      let P : List Row → Type 0 = λ rs. size_in state.files (tree_file slot) ≡ Some (tree_size (keys x.attribute rs)) in
      subst P (sym all) (tree_sized told slot x o.tuples x.access heap o.indexed.file (o.indexed.complete told))

  pub is_store : IsTrue state.tells → IsStoreOf (size_in state.files) (view state.files held opens)
  is_store told = record {
    short = λ slot q e. relation_slot slot q e (λ z. row_length z.schema.attributes ≤ 128) (λ t there. (relation_there state tables held opens r slot t there).holds.file.short);
    few = λ slot q e. relation_slot slot q e (λ z. length z.rows ≤ 32768)
        (λ t there. subst (λ (n : ℕ). n ≤ 32768) (sym (rows_counted state.files t)) (relation_there state tables held opens r slot t there).holds.few);
    rows = λ slot q e. relation_slot slot q e (λ z. size_in state.files (rows_file slot) ≡ Some (rows_size z)) (λ t there. rows_sized slot t there);
    trees = λ slot index e heap.
        let from = seen_of index_known (get_or held.indexes slot None) index (sym (seen_at index_known held.indexes slot) ∙ e) in
        let P : Index → Type 0 = λ z. z.kind ≡ MaxHeap → size_in state.files (tree_file slot) ≡ Some (tree_size (keys z.attribute (rows_in (view state.files held opens) z.relation))) in
        subst P from.is (λ h. index_sized told slot from.from from.there h) heap;
  }

  -- ---- few pages

  few_pages : (f : File) (need : ℕ) → AreFewFor f need → need ≤ max 16 (2 * fit (length f.bytes))
  few_pages f need few = by_kind f.kind refl
    where
      by_kind : (k : Kind) → f.kind ≡ k → need ≤ max 16 (2 * fit (length f.bytes))
      by_kind Doubling e = few.growing e
      by_kind (Fixed n) e = let bound = few.fixed n e in omega (arith, bound)

  of_catalog : (id : ℕ) → IsNamed state.files id catalog_file → (file_at state.files id).kind ≡ Fixed 6
  of_catalog id named = by_cat held.cat r.catalog
    where
      by_cat : (o : Option ℕ) → HasCatalogFile state.files o → (file_at state.files id).kind ≡ Fixed 6
      by_cat None h = absurd (h id named)
      by_cat (Some cat) h = ap (λ (i : ℕ). (file_at state.files i).kind) (r.distinct id cat catalog_file named h.0) ∙ h.2

  asks_few_by_name : (asks : ℕ → ℕ → ℕ → ℕ → Type 0) → AsksFew (size_in state.files) (asks_in (asks_few asks state.files) state.files) (room_in state.files)
  asks_few_by_name asks = record {
    bucket = λ slot key. room_bytes _ key;
    few = λ name w b need size small most is h.
        let same : size ≡ size_at state.files h.0 = some_same size (size_at state.files h.0) (sym is ∙ size_named h.0 name h.1) in
        subst (λ (n : ℕ). need ≤ max 16 (2 * fit n)) (sym same) (few_pages (file_at state.files h.0) need h.2.1);
    catalog = λ w b need h. h.2.1.fixed 6 (of_catalog h.0 h.1);
  }

  -- a command that asks for few pages asks for no more than is counted for it
  pub few_at_most : (asks : ℕ → ℕ → ℕ → ℕ → Type 0) (command : Command) (need : ℕ) → IsTrue state.tells
      → WantsFew asks state.files (view state.files held opens) command need → need ≤ most (view state.files held opens) command
  few_at_most asks command need told wanted =
      wants_at_most (size_in state.files) (asks_in (asks_few asks state.files) state.files) (room_in state.files) (view state.files held opens) command need
      (is_store told) (asks_few_by_name asks) wanted

-- what is asked for few pages is asked for
pub few_wanted : (asks : ℕ → ℕ → ℕ → ℕ → Type 0) (files : Table) (db : Database) (command : Command) (need : ℕ)
    → WantsFew asks files db command need → WantsOver asks files db command need
few_wanted asks files db command need h =
    wanted_still (size_in files) (size_in files) (asks_in (asks_few asks files) files) (asks_in asks files) (room_in files) (room_in files)
    (λ name. refl) (λ slot key. refl) (λ name w b n a. (a.0, a.1, a.2.0)) db command need h
