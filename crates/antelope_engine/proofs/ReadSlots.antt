-- What is read of a session by slots is what its database has there.
use Rattle.std.proofs.Common.{◌≡◌, ℕ, ℤ, ◌+◌, ◌*◌, ◌<◌, ◌≤◌, Bool, List, [], length, get_or, Option, Some, None, IsTrue, refl, ap, sym, subst, ◌∙◌, arith}
use Rattle.std.specs.Prelude.{option_and_then, option_map}
use Rattle.std.specs.Option.{option_map_or}
use Rattle.std.proofs.lemmas.List.{length-map}
use Rattle.afl_base.specs.Files.{IsLive, State, Table, bytes_at, size_at}
use Rattle.afl_base.proofs.FileLaws.{named_live}
use Rattle.cursor.proofs.Walking.{row_there}
use Rattle.db_model.specs.declared.schemas.IndexKind.TheVariants.{MaxHeap}
use Rattle.db_model.specs.declared.values.Value.{Value}
use Rattle.db_model.specs.Catalog.{Index}
use Rattle.db_model.specs.Database.{Relation}
use Rattle.db_model.specs.HashTree.{buckets}
use Rattle.db_model.specs.Row.{Row, no_row}
use Rattle.db_model.specs.Step.{keys}
use Rattle.db_model.proofs.Buckets.{buckets_bound}
use Rattle.index_set.specs.declared.info.Access.{Access}
use Rattle.index_set.specs.declared.info.Access.TheVariants.{Order, Tree, Table as InTable}
use Rattle.index_set.specs.Complete.{IsComplete}
use Rattle.index_set.specs.Plans.{access_kind}
use Rattle.index_set.specs.Tables.{Tables}
use Rattle.index_tree.proofs.Law.{sized}
use Rattle.space_model.specs.Enough.{rows_in}
use Rattle.tuple_file.specs.declared.tuples.Tuples.{Tuples}
use Rattle.tuple_file.specs.Tuples.{HoldsRows, row, rows, slots}
use Rattle.session_model.specs.declared.held.Held.{Held}
use Rattle.session_model.specs.declared.held.Indexed.{Indexed}
use Rattle.session_model.specs.declared.held.Open.{Open}
use Rattle.session_model.specs.Indexed.{index_known}
use Rattle.session_model.specs.Running.{HasFile, IsRunning}
use Rattle.session_model.specs.View.{relation_of_rows, view}
use Rattle.session_model.proofs.Running.{index_there, relation_there, same_default}
use Rattle.antelope_engine.specs.Reading.{index_in_slot, keys_at_index, row_in_slot, schema_at, tree_of}
use Rattle.antelope_engine.proofs.Slots.{seen_of}
use Rattle.tuple_file.proofs.Columns.{rows_counted}
use Rattle.padded.proofs.Facts.{some_same, seen_at}

-- what stands in a slot, found by its number
pub found_at : {A : Type 0} (xs : List (Option A)) (k id : ℕ) (o : Option A) → k ≡ id → id < length xs → get_or xs k o ≡ get_or xs id None
found_at xs k id o same below = ap (λ (n : ℕ). get_or xs n o) same ∙ same_default xs id o None below

pub schema_seen : (files : Table) (held : Held) (opens : List (Option Open)) (id : ℕ)
    → option_map (λ (t : Tuples). t.schema) (get_or held.relations id None) ≡ schema_at (view files held opens) id
schema_seen files held opens id =
    by_slot (get_or held.relations id None) ∙ ap (option_map (λ (r : Relation). r.schema)) (sym (seen_at (relation_of_rows files) held.relations id))
  where
    by_slot : (o : Option Tuples) → option_map (λ (t : Tuples). t.schema) o ≡ option_map (λ (r : Relation). r.schema) (option_map (relation_of_rows files) o)
    by_slot None = refl
    by_slot (Some t) = refl

pub rows_seen : (files : Table) (held : Held) (opens : List (Option Open)) (id : ℕ) (t : Tuples) → get_or held.relations id None ≡ Some t
    → rows_in (view files held opens) id ≡ rows files t
rows_seen files held opens id t e =
    ap (λ (o : Option Relation). option_map_or (λ (r : Relation). r.rows) o []) (seen_at (relation_of_rows files) held.relations id ∙ ap (option_map (relation_of_rows files)) e)

module _ (state : State) (tables : Tables) (held : Held) (opens : List (Option Open)) (r : IsRunning state tables held opens) where
  pub holds_rows : (id : ℕ) (t : Tuples) → get_or held.relations id None ≡ Some t → HoldsRows state t
  holds_rows id t e = (relation_there state tables held opens r id t e).holds

  pub slot_of_rows : (id slot : ℕ) (t : Tuples) → get_or held.relations id None ≡ Some t → slot < length (rows_in (view state.files held opens) id) → slot < slots state.files t
  slot_of_rows id slot t e below =
      let many = ap (λ (rs : List Row). length rs) (rows_seen state.files held opens id t e) ∙ rows_counted state.files t in
      omega (arith, below, many)

  pub row_seen : (id slot : ℕ) (tuple : List Value) (live : Bool) → slot < length (rows_in (view state.files held opens) id)
      → ((t : Tuples) → get_or held.relations id None ≡ Some t → row state.files t slot ≡ record { tuple = tuple; live = live })
      → row_in_slot (view state.files held opens) id slot ≡ record { tuple = tuple; live = live }
  row_seen id slot tuple live below each = by_slot (get_or held.relations id None) refl
    where
      by_slot : (o : Option Tuples) → get_or held.relations id None ≡ o → row_in_slot (view state.files held opens) id slot ≡ record { tuple = tuple; live = live }
      by_slot None e =
          let none : rows_in (view state.files held opens) id ≡ [] =
          ap (λ (z : Option Relation). option_map_or (λ (q : Relation). q.rows) z []) (seen_at (relation_of_rows state.files) held.relations id ∙ ap (option_map (relation_of_rows state.files)) e) in
          let long = ap (λ (rs : List Row). length rs) none in
          absurd (omega (arith, below, long))
      by_slot (Some t) e =
          ap (λ (rs : List Row). get_or rs slot no_row) (rows_seen state.files held opens id t e)
          ∙ row_there t.schema.attributes (bytes_at state.files t.file) slot (slot_of_rows id slot t e below)
          ∙ each t e

  -- ---- hash trees

  -- the tree of an index slot, with its file
  record IsTreeIn (id file : ℕ) : Type 0 where
    index : Indexed
    there : get_or held.indexes id None ≡ Some index
    access_is : index.access ≡ Tree file

  tree_by : (file : ℕ) (access : Access) → elim access [ Order ↦ None | Tree f ↦ Some f | InTable number ↦ None ] ≡ Some file → access ≡ Tree file
  tree_by file Order e = absurd (cc)
  tree_by file (Tree f) e = ap Tree (some_same f file e)
  tree_by file (InTable number) e = absurd (cc)

  tree_in : (id file : ℕ) → Some file ≡ option_and_then tree_of (get_or held.indexes id None) → IsTreeIn id file
  tree_in id file e = by_slot (get_or held.indexes id None) refl e
    where
      by_slot : (o : Option Indexed) → get_or held.indexes id None ≡ o → Some file ≡ option_and_then tree_of o → IsTreeIn id file
      by_slot None is e = absurd (cc)
      by_slot (Some x) is e = record { index = x; there = is; access_is = tree_by file x.access (sym e) }

  pub tree_live : (id file : ℕ) → Some file ≡ option_and_then tree_of (get_or held.indexes id None) → IsLive state.files file
  tree_live id file e =
      let t = tree_in id file e in
      let o = index_there state tables held opens r id t.index t.there in
      let P : Access → Type 0 = λ a. HasFile state.files id a in
      named_live state.files file _ (subst P t.access_is o.indexed.file)

  pub tree_size : IsTrue state.tells → (id file : ℕ) → Some file ≡ option_and_then tree_of (get_or held.indexes id None) → (index : Index)
      → index_in_slot (view state.files held opens) id ≡ Some index
      → (buckets (keys_at_index (view state.files held opens) index) ≤ 1365) × (size_at state.files file ≡ 683 + 195 * buckets (keys_at_index (view state.files held opens) index))
  tree_size told id file e index at =
      let t = tree_in id file e in
      let o = index_there state tables held opens r id t.index t.there in
      let is : index_known t.index ≡ index = some_same (index_known t.index) index (ap (option_map index_known) (sym t.there) ∙ sym (seen_at index_known held.indexes id) ∙ at) in
      let ks : List ℤ = keys t.index.attribute (rows state.files o.tuples) in
      let P : Access → Type 0 = λ a. IsComplete state tables a ks in
      let whole : size_at state.files file ≡ 683 + 195 * buckets ks = sized (bytes_at state.files file) ks (subst P t.access_is (o.indexed.complete told)) in
      let many : length ks ≡ length (rows state.files o.tuples) = length-map (rows state.files o.tuples) _ in
      let count = rows_counted state.files o.tuples in
      let slots_few = (holds_rows t.index.relation o.tuples o.is).few in
      let bound = buckets_bound ks in
      let few : buckets ks ≤ 1365 = omega (arith, many, count, slots_few, bound) in
      let all : ks ≡ keys_at_index (view state.files held opens) (index_known t.index) = ap (keys t.index.attribute) (sym (rows_seen state.files held opens t.index.relation o.tuples o.is)) in
      let Q : List ℤ → Type 0 = λ zs. (buckets zs ≤ 1365) × (size_at state.files file ≡ 683 + 195 * buckets zs) in
      subst (λ (i : Index). Q (keys_at_index (view state.files held opens) i)) is (subst Q all (few, whole))

  -- a tree has its file
  pub no_tree : (id : ℕ) → None ≡ option_and_then tree_of (get_or held.indexes id None) → (index : Index)
      → index_in_slot (view state.files held opens) id ≡ Some index → index.kind ≡ MaxHeap → ⊥
  no_tree id e index at heap =
      let from = seen_of index_known (get_or held.indexes id None) index (sym (seen_at index_known held.indexes id) ∙ at) in
      let none : None ≡ tree_of from.from = e ∙ ap (option_and_then tree_of) from.there in
      by_access from.from.access none (ap (λ (i : Index). i.kind) from.is ∙ heap)
    where
      by_access : (a : Access) → ◌≡◌ {A = Option ℕ} None (elim a [ Order ↦ None | Tree f ↦ Some f | InTable number ↦ None ]) → access_kind a ≡ MaxHeap → ⊥
      by_access Order e h = absurd (cc)
      by_access (Tree f) e h = absurd (cc)
      by_access (InTable number) e h = absurd (cc)
