-- An index that is complete for the keys of its column is kept, and ready.
use Rattle.std.proofs.Common.{◌≡◌, ◌≢◌, ℕ, ◌<◌, Bool, List, length, map, get_or, Option, Some, None, refl, ap, sym, ◌∙◌, subst, arith, IsTrue, ℤ}
use Rattle.std.specs.Prelude.{⊤, IfOk, Result, Ok, Err}
use Rattle.std.specs.Bool.{Decides}
use Rattle.std.specs.List.{range_with_len}
use Rattle.std.proofs.lemmas.List.FromFn.{get_or-map-range_with_len}
use Rattle.afl_base.specs.Files.{State, bytes_at}
use Rattle.afl_base.specs.KeyColumn.{key_of}
use Rattle.db_model.specs.Row.{Row, no_row, row_at}
use Rattle.db_model.specs.Step.{keys}
use Rattle.index_set.specs.declared.info.Access.{Access}
use Rattle.index_set.specs.declared.info.Access.TheVariants.{Order, Tree, Table as InTable}
use Rattle.index_set.specs.declared.info.IndexInfo.{IndexInfo}
use Rattle.index_set.specs.declared.info.TableId.{TableId}
use Rattle.index_set.specs.Complete.{HasKeys, IsComplete, IsHeld, key_at_place}
use Rattle.index_set.specs.Inserts.{IsDoublingTree, IsElsewhere, IsNoTable}
use Rattle.index_set.specs.Tables.{HasTable, Tables, entries}
use Rattle.index_set.proofs.Fronts.{keys_whole}
use Rattle.tuple_file.specs.declared.tuples.Tuples.{Tuples}
use Rattle.tuple_file.specs.Tuples.{row, rows, slots}
use Rattle.session_model.specs.declared.held.Held.{Held}
use Rattle.session_model.specs.declared.held.Indexed.{Indexed}
use Rattle.session_start.specs.Found.{ShareNoAccess}
use Rattle.session_start.specs.Judged.{IsKept, MayBeUsed, IsReadyOf, IsReadyOn, IsReadySlot}
use Rattle.tuple_file.proofs.Columns.{rows_counted}

pub on_ok : {T E : Type 0} (P Q : T → Type 0) (r : Result T E) → ((x : T) → P x → Q x) → IfOk r P → IfOk r Q
on_ok P Q (Ok x) f h = f x h
on_ok P Q (Err e) f h = tt

-- what is so where bytes are told
pub told_ok : {T E : Type 0} (Told : Type 0) (P : T → Type 0) (r : Result T E) → (Told → IfOk r P) → IfOk r (λ x. Told → P x)
told_ok Told P (Ok x) h = h
told_ok Told P (Err e) h = tt

pub both_ok : {T E : Type 0} (P Q : T → Type 0) (r : Result T E) → IfOk r P → IfOk r Q → IfOk r (λ x. P x × Q x)
both_ok P Q (Ok x) h k = (h, k)
both_ok P Q (Err e) h k = tt

-- not in a table
abbrev pub IsAlone : Access → Type 0
IsAlone Order = ⊤
IsAlone (Tree file) = ⊤
IsAlone (InTable number) = ⊥

pub kept_alone : (state : State) (tables : Tables) (access : Access) (ks : List ℤ) (whole : Bool) → IsAlone access → Decides whole (IsComplete state tables access ks) → Decides whole (IsKept state.files access ks)
kept_alone state tables Order ks whole a d = d
kept_alone state tables (Tree file) ks whole a d = d
kept_alone state tables (InTable number) ks whole a d = absurd a

held_alone : (state : State) (tables : Tables) (n : ℕ) (access : Access) → IsAlone access → IsDoublingTree state access → IsHeld state tables n access
held_alone state tables n Order a h = tt
held_alone state tables n (Tree file) a h = h
held_alone state tables n (InTable number) a h = absurd a

module _ (state : State) (t : Tuples) (info : IndexInfo) (each : (slot : ℕ) → slot < slots state.files t → key_of state info.column slot ≡ key_at_place info.attribute (row state.files t slot)) where
  pub has_keys : HasKeys state (rows state.files t) info
  has_keys slot below =
      let inside : slot < slots state.files t = omega (arith, below, rows_counted state.files t) in
      each slot inside
      ∙ ap (λ (z : Row). key_at_place info.attribute z) (sym (get_or-map-range_with_len (row_at t.schema.attributes (bytes_at state.files t.file)) 0 (slots state.files t) slot slot no_row inside (omega arith)))

  pub column_keys : map (key_of state info.column) (range_with_len 0 (slots state.files t)) ≡ keys info.attribute (rows state.files t)
  column_keys = keys_whole state info (rows state.files t) (slots state.files t) (rows_counted state.files t) has_keys

pub alone_ready : (state : State) (tables : Tables) (x : Indexed) (t : Tuples) → IsAlone x.access → IsDoublingTree state x.access
    → (IsTrue state.tells → IsComplete state tables x.access (keys x.attribute (rows state.files t))) → MayBeUsed state tables x t
alone_ready state tables x t alone doubling complete = record { held = held_alone state tables (slots state.files t) x.access alone doubling; complete = complete }

pub table_ready : (state : State) (tables : Tables) (x : Indexed) (t : Tuples) (number : TableId) → x.access ≡ InTable number → HasTable x.access → length (entries tables number) ≡ slots state.files t
    → (IsTrue state.tells → entries tables number ≡ keys x.attribute (rows state.files t)) → MayBeUsed state tables x t
table_ready state tables x t number is there size complete = record {
  held = subst (λ (a : Access). IsHeld state tables (slots state.files t) a) (sym is) (subst HasTable is there, size);
  complete = λ told. subst (λ (a : Access). IsComplete state tables a (keys x.attribute (rows state.files t))) (sym is) (complete told);
}

-- ---- other indexes

-- a table that is filled is that of no other index
kept_entries : (old new : Tables) (number : TableId) (access : Access) → IsElsewhere (InTable number) access → ((n : TableId) → IsNoTable n access → entries new n ≡ entries old n) → entries new number ≡ entries old number
kept_entries old new number access other same = same number other

ready_access : (state : State) (old new : Tables) (t : Tuples) (attribute : ℕ) (a access : Access) → IsElsewhere a access → ((n : TableId) → IsNoTable n access → entries new n ≡ entries old n)
    → (ks : List ℤ) (n : ℕ) → IsHeld state old n a × (IsTrue state.tells → IsComplete state old a ks) → IsHeld state new n a × (IsTrue state.tells → IsComplete state new a ks)
ready_access state old new t attribute Order access other same ks n h = h
ready_access state old new t attribute (Tree file) access other same ks n h = h
ready_access state old new t attribute (InTable number) access other same ks n h =
    let e = kept_entries old new number access other same in
    ((h.0.0, ap (λ (l : List ℤ). length l) e ∙ h.0.1), λ told. e ∙ h.1 told)

ready_on : (state : State) (old new : Tables) (x : Indexed) (access : Access) (o : Option Tuples) → IsElsewhere x.access access → ((n : TableId) → IsNoTable n access → entries new n ≡ entries old n)
    → IsReadyOn state old x o → IsReadyOn state new x o
ready_on state old new x access None other same h = tt
ready_on state old new x access (Some t) other same h =
    let r = ready_access state old new t x.attribute x.access access other same (keys x.attribute (rows state.files t)) (slots state.files t) (h.held, h.complete) in
    record { held = r.0; complete = r.1 }

pub others_ready : (state : State) (old new : Tables) (held : Held) (n : ℕ) (y : Indexed) → ShareNoAccess held.indexes → get_or held.indexes n None ≡ Some y → ((m : TableId) → IsNoTable m y.access → entries new m ≡ entries old m)
    → (i : ℕ) → i ≢ n → IsReadySlot state old held i → IsReadySlot state new held i
others_ready state old new held n y apart there same i other h = by_slot (get_or held.indexes i None) refl h
  where
    by_slot : (o : Option Indexed) → get_or held.indexes i None ≡ o → IsReadyOf state old held.relations o → IsReadyOf state new held.relations o
    by_slot None e h = tt
    by_slot (Some x) e h = ready_on state old new x y.access (get_or held.relations x.relation None) (apart i n x y other e there) same h
