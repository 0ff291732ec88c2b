-- The indexes of a relation may be read, and are complete for its rows.
use Rattle.std.proofs.Common.{◌≡◌, ◌≢◌, ℕ, zero, suc, ◌<◌, ◌≤◌, Bool, true, false, cond, List, [], ◌∷◌, get_or, Option, Some, None, refl, ap, sym, ◌∙◌, arith, inl, inr, IsTrue, eqb}
use Rattle.std.specs.Prelude.{slice_get}
use Rattle.std.specs.Option.{option_map_or}
use Rattle.std.proofs.lemmas.Bool.Decides.{nat_tests}
use Rattle.std.proofs.lemmas.List.FromFn.{get_or-map-range_with_len}
use Rattle.afl_base.specs.Files.{State, bytes_at}
use Rattle.db_model.specs.declared.schemas.Attribute.{Attribute}
use Rattle.db_model.specs.declared.schemas.Domain.{Domain}
use Rattle.db_model.specs.declared.schemas.Domain.TheVariants.{Int, Long, Time, Str}
use Rattle.db_model.specs.declared.schemas.IndexKind.{IndexKind}
use Rattle.db_model.specs.declared.schemas.IndexKind.TheVariants.{MaxHeap, MemHash}
use Rattle.db_model.specs.Row.{Row, no_row, row_at, width}
use Rattle.db_model.specs.Step.{allows}
use Rattle.index_set.specs.declared.candidates.Search.{Search}
use Rattle.index_set.specs.declared.candidates.Search.TheVariants as by
use Rattle.index_set.specs.declared.info.Access.{Access}
use Rattle.index_set.specs.declared.info.Access.TheVariants.{Order, Tree, Table as InTable}
use Rattle.index_set.specs.declared.info.IndexInfo.{IndexInfo}
use Rattle.index_set.specs.Complete.{AreIndexesOf, AreReadable, HasTree, IsHeld, IsInfoOf, IsNarrowFor, IsReadable, key_at_place}
use Rattle.index_set.specs.Inserts.{SomeOf}
use Rattle.index_set.specs.Plans.{access_kind}
use Rattle.index_set.specs.Tables.{HasTable, Tables}
use Rattle.index_set.specs.Walks.{IsChosen}
use Rattle.cursor.specs.Remaining.{AreOnNumbers}
use Rattle.tuple_file.specs.declared.tuples.Tuples.{Tuples}
use Rattle.tuple_file.specs.Column.{IsNumber, is_number}
use Rattle.tuple_file.specs.Tuples.{HoldsRows, rows, slots}
use Rattle.tuple_file.proofs.Columns.{column_field, column_key, column_width, rows_counted}
use Rattle.session_model.specs.declared.held.Held.{Held}
use Rattle.session_model.specs.declared.held.Indexed.{Indexed}
use Rattle.session_model.specs.declared.held.Open.{Open}
use Rattle.session_model.specs.Indexed.{AreNumbers, info_of, infos_of}
use Rattle.session_model.specs.Running.{IndexStands, IsIndexed, IsRunning}
use Rattle.session_model.proofs.Running.{all_of, index_there, on_relation, relation_there}

-- ---- what a kind allows

pub number_of_kind : (kind : IndexKind) (d : Domain) → allows kind d ≡ true → is_number d ≡ true
number_of_kind kind Int e = refl
number_of_kind kind Long e = refl
number_of_kind kind Time e = refl
number_of_kind kind (Str n) e = absurd (cc)

pub number_at : (kind : IndexKind) (o : Option Attribute) → option_map_or (λ (a : Attribute). allows kind a.domain) o false ≡ true → option_map_or (λ (a : Attribute). is_number a.domain) o false ≡ true
number_at kind None e = e
number_at kind (Some a) e = number_of_kind kind a.domain e

heap_narrow : (d : Domain) → allows MaxHeap d ≡ true → width d ≢ 8
heap_narrow Int e = omega arith
heap_narrow Long e = omega arith
heap_narrow Time e = absurd (cc)
heap_narrow (Str n) e = absurd (cc)

hash_narrow : (d : Domain) → allows MemHash d ≡ true → width d ≢ 8
hash_narrow Int e = omega arith
hash_narrow Long e = omega arith
hash_narrow Time e = absurd (cc)
hash_narrow (Str n) e = absurd (cc)

narrow_at : (access : Access) (o : Option Attribute) → option_map_or (λ (a : Attribute). allows (access_kind access) a.domain) o false ≡ true → IsNarrowFor (option_map_or (λ (a : Attribute). width a.domain) o 0) access
narrow_at Order o e = tt
narrow_at (Tree file) None e = absurd (cc)
narrow_at (Tree file) (Some a) e = heap_narrow a.domain e
narrow_at (InTable number) None e = absurd (cc)
narrow_at (InTable number) (Some a) e = hash_narrow a.domain e

-- ---- one index

tree_there : (state : State) (tables : Tables) (n : ℕ) (access : Access) → IsHeld state tables n access → HasTree state access
tree_there state tables n Order h = tt
tree_there state tables n (Tree file) h = h.0
tree_there state tables n (InTable number) h = tt

pub table_there : (state : State) (tables : Tables) (n : ℕ) (access : Access) → IsHeld state tables n access → HasTable access
table_there state tables n Order h = tt
table_there state tables n (Tree file) h = tt
table_there state tables n (InTable number) h = h.0

pub index_number : (state : State) (tables : Tables) (i : ℕ) (x : Indexed) (t : Tuples) → IsIndexed state tables i x t → IsNumber t.schema.attributes x.attribute
index_number state tables i x t d = number_at (access_kind x.access) (slice_get t.schema.attributes x.attribute) d.allowed

pub index_readable : (state : State) (tables : Tables) (i : ℕ) (x : Indexed) (t : Tuples) (n : ℕ) → n ≤ slots state.files t → HoldsRows state t → IsIndexed state tables i x t → IsReadable state n (info_of t x)
index_readable state tables i x t n few holds d =
    let number = index_number state tables i x t d in
    record {
      place = d.place;
      width = column_width t x.attribute number;
      narrow = narrow_at x.access (slice_get t.schema.attributes x.attribute) d.allowed;
      fields = λ slot below. column_field state t x.attribute slot number holds (omega (arith, below, few));
      tree = tree_there state tables _ x.access d.held;
      table = table_there state tables _ x.access d.held;
    }

pub index_complete : (state : State) (tables : Tables) (i : ℕ) (x : Indexed) (t : Tuples) → HoldsRows state t → IsTrue state.tells → IsIndexed state tables i x t → IsInfoOf state tables (rows state.files t) (info_of t x)
index_complete state tables i x t holds told d =
    let number = index_number state tables i x t d in
    record {
      column = λ slot below.
          let inside : slot < slots state.files t = omega (arith, rows_counted state.files t) in
          column_key state t x.attribute slot number holds told inside
          ∙ ap (λ (z : Row). key_at_place x.attribute z) (sym (get_or-map-range_with_len (row_at t.schema.attributes (bytes_at state.files t.file)) 0 (slots state.files t) slot slot no_row inside (omega arith)));
      complete = d.complete told;
    }

-- each index has a table that is there, if it has one
pub have_tables : (state : State) (tables : Tables) (held : Held) (opens : List (Option Open)) → IsRunning state tables held opens → (i : ℕ) (x : Indexed) → get_or held.indexes i None ≡ Some x → HasTable x.access
have_tables state tables held opens r i x e =
    let o = index_there state tables held opens r i x e in
    table_there state tables (slots state.files o.tuples) x.access o.indexed.held

-- ---- those of a relation

module _ (state : State) (tables : Tables) (held : Held) (opens : List (Option Open)) (r : IsRunning state tables held opens) (k : ℕ) (t : Tuples) (there : get_or held.relations k None ≡ Some t) where
  pub are_numbers : AreNumbers k t held.indexes
  are_numbers i x e rel = index_number state tables i x t (on_relation state tables held opens r k t there i x e rel)

  pub are_on_numbers : AreOnNumbers t.schema.attributes (infos_of k t held.indexes)
  are_on_numbers = all_of (λ info. IsNumber t.schema.attributes info.attribute) k t held.indexes are_numbers

  pub are_readable : (n : ℕ) → n ≤ slots state.files t → AreReadable state n (infos_of k t held.indexes)
  are_readable n few = all_of (IsReadable state n) k t held.indexes
      (λ i x e rel. index_readable state tables i x t n few (relation_there state tables held opens r k t there).holds (on_relation state tables held opens r k t there i x e rel))

  pub are_indexes : IsTrue state.tells → AreIndexesOf state tables (rows state.files t) (infos_of k t held.indexes)
  are_indexes told = all_of (IsInfoOf state tables (rows state.files t)) k t held.indexes
      (λ i x e rel. index_complete state tables i x t (relation_there state tables held opens r k t there).holds told (on_relation state tables held opens r k t there i x e rel))

-- ---- the index with which a cursor begins stands in a slot

pub record Found (P : IndexInfo → Type 0) (k : ℕ) (t : Tuples) (xs : List (Option Indexed)) : Type 0 where
  pub slot : ℕ
  pub index : Indexed
  pub is_there : get_or xs slot None ≡ Some index
  pub relation : index.relation ≡ k
  pub holds : P (info_of t index)

found_behind : (P : IndexInfo → Type 0) (k : ℕ) (t : Tuples) (o : Option Indexed) (xs : List (Option Indexed)) → Found P k t xs → Found P k t (o ∷ xs)
found_behind P k t o xs f = record { slot = suc f.slot; index = f.index; is_there = f.is_there; relation = f.relation; holds = f.holds }

found_at : (P : IndexInfo → Type 0) (k : ℕ) (t : Tuples) (x : Indexed) (xs : List (Option Indexed)) (b : Bool) → eqb x.relation k ≡ b → (SomeOf P (infos_of k t xs) → Found P k t xs)
    → SomeOf P (cond b (info_of t x ∷ infos_of k t xs) (infos_of k t xs)) → Found P k t (Some x ∷ xs)
found_at P k t x xs true e rest (inl h) = record { slot = zero; index = x; is_there = refl; relation = grind (arith, nat_tests); holds = h }
found_at P k t x xs true e rest (inr h) = found_behind P k t (Some x) xs (rest h)
found_at P k t x xs false e rest h = found_behind P k t (Some x) xs (rest h)

pub found : (P : IndexInfo → Type 0) (k : ℕ) (t : Tuples) (xs : List (Option Indexed)) → SomeOf P (infos_of k t xs) → Found P k t xs
found P k t [] h = absurd h
found P k t (None ∷ xs) h = found_behind P k t None xs (found P k t xs h)
found P k t (Some x ∷ xs) h = found_at P k t x xs (eqb x.relation k) refl (λ z. found P k t xs z) h

pub stands_for : (held : Held) (k : ℕ) (t : Tuples) (s : Search) → IsChosen s (infos_of k t held.indexes) → IndexStands held k s
stands_for held k t (by.Tree attribute file key) h =
    let f = found (λ info. (info.attribute ≡ attribute) × (info.access ≡ Tree file)) k t held.indexes h in
    record { slot = f.slot; index = f.index; there = f.is_there; relation = f.relation; place = f.holds.0; access_is = f.holds.1 }
stands_for held k t (by.Table attribute number key) h =
    let f = found (λ info. (info.attribute ≡ attribute) × (info.access ≡ InTable number)) k t held.indexes h in
    record { slot = f.slot; index = f.index; there = f.is_there; relation = f.relation; place = f.holds.0; access_is = f.holds.1 }
stands_for held k t by.Nothing h = tt
stands_for held k t by.Scan h = tt
stands_for held k t (by.Order attribute range) h = tt
