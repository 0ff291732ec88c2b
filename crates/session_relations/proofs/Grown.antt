-- A relation without rows has one attribute more.
use Rattle.std.proofs.Common.{◌≡◌, ◌⊎◌, ℕ, zero, suc, ◌+◌, ◌-◌, ◌*◌, ◌<◌, ◌≤◌, List, [], ◌∷◌, length, drop, map, get_or, Option, Some, None, unwrap_or, refl, ap, sym, ◌∙◌, subst, arith, length-append, IsTrue}
use Rattle.std.specs.Prelude.{option_map, slice_range}
use Rattle.std.proofs.Math.Logic.{⊎_elim}
use Rattle.std.proofs.lemmas.List.{get_or-replicate, length-drop, length-take-le}
use Rattle.std.proofs.lemmas.List.FromFn.{get_or-map-range_with_len}
use Rattle.padded.proofs.Facts.{some_same}
use Rattle.afl_base.specs.Files.{File, IsNamed, State, bytes_at, name_at, no_file, place, size_at}
use Rattle.catalog.specs.CatalogFile.{PutsRelation}
use Rattle.catalog.proofs.Replaced.{IsReadBack, read_back}
use Rattle.db_model.specs.declared.schemas.Attribute.{Attribute}
use Rattle.db_model.specs.declared.schemas.Schema.{Schema}
use Rattle.db_model.specs.Catalog.{Catalog as Slots, IsAttribute, catalog_of, empty_catalog, relation_at, relation_slot_bytes, relation_slot_of}
use Rattle.db_model.specs.Row.{Row}
use Rattle.index_set.specs.Tables.{Tables}
use Rattle.space_model.specs.FileNames.{catalog_file, rows_file}
use Rattle.tuple_file.specs.declared.tuples.Tuples.{Tuples}
use Rattle.tuple_file.specs.Tuples.{HoldsRows, rows, slots}
use Rattle.session_model.specs.declared.held.Held.{Held}
use Rattle.session_model.specs.declared.held.Open.{Open}
use Rattle.session_model.specs.Frames.{schema_in, with_tuples}
use Rattle.session_model.specs.Running.{IsRunning, IsWritten, IsWrittenOrEmpty, ReadsRows, bytes_of_catalog}
use Rattle.session_model.specs.View.{view}
use Rattle.session_model.proofs.Catalogs.{RelationChanges, catalog_there}
use Rattle.session_model.proofs.Grown.{grown_indexes, holds_none, no_bytes, rows_of_none, slots_of_none, unread_empty}
use Rattle.session_model.proofs.Running.{catalog_no_rows, differ, relation_there}
use Rattle.session_relations.specs.Changes.{IsLonger, Shows, changed_at}
use Rattle.session_relations.proofs.ReadBack.{alone, longer, read_back_more}
use Rattle.session_relations.proofs.Shown.{shows_changed}
use Rattle.session_relations.proofs.Slots.{slot_put}
use Rattle.tuple_file.proofs.Columns.{rows_counted}
use Rattle.tuple_file.proofs.Holding.{holds_by}

-- ---- what is held is read back

seen : (xs : List (Option Tuples)) (k : ℕ) (t : Tuples) → get_or xs k None ≡ Some t → get_or (map (option_map schema_in) xs) k None ≡ Some t.schema
seen [] k t e = absurd (cc)
seen (o ∷ xs) zero t e = ap (option_map schema_in) e
seen (o ∷ xs) (suc k) t e = seen xs k t e

slot_long : (bytes : List ℕ) (k : ℕ) → k < 8 → 1472 ≤ length bytes → length (slice_range bytes (176 * k) (176 * k + 176)) ≡ 176
slot_long bytes k below long =
    length-take-le (176 * k + 176 - 176 * k) (drop (176 * k) bytes) (omega (arith, length-drop (176 * k) bytes, below, long)) ∙ omega arith

-- what a slot of a written catalog says of itself
slot_back : (bytes : List ℕ) (k : ℕ) (s : Schema) → k < 8 → 1472 ≤ length bytes → IsWritten bytes → relation_at bytes k ≡ Some s → IsReadBack (Some s)
slot_back bytes k s below long w is =
    let slot : slice_range bytes (176 * k) (176 * k + 176) ≡ relation_slot_bytes (Some s) = w.relations k below ∙ ap relation_slot_bytes is in
    (ap (λ (xs : List ℕ). length xs) (sym slot) ∙ slot_long bytes k below long, ap relation_slot_of (sym slot) ∙ is)

-- a catalog without bytes has no relation
no_slot : (bytes : List ℕ) (k : ℕ) (s : Schema) → k < 8 → length bytes ≡ 0 → relation_at bytes k ≡ Some s → ⊥
no_slot [] k s below none is =
    let empty : catalog_of [] ≡ empty_catalog = refl in
    let here : relation_at [] k ≡ None =
    sym (get_or-map-range_with_len (relation_at []) 0 8 k k None below (omega arith)) ∙ ap (λ (c : Slots). get_or c.relations k None) empty ∙ get_or-replicate 8 k None None below in
    none_some s (sym here ∙ is)
  where
    none_some : (x : Schema) → None ≡ Some x → ⊥
    none_some x e = cc
no_slot (b ∷ bytes) k s below none is = absurd (omega (arith, none))

-- the relation in a slot of a catalog that is told
pub held_back : (state : State) (tables : Tables) (held : Held) (opens : List (Option Open)) (k cat : ℕ) (t : Tuples) → IsRunning state tables held opens → held.cat ≡ Some cat → k < 8
    → get_or held.relations k None ≡ Some t → IsTrue state.tells → IsReadBack (Some t.schema)
held_back state tables held opens k cat t r has below there told =
    let bytes : List ℕ = bytes_at state.files cat in
    let same : bytes_of_catalog state.files held.cat ≡ bytes = ap (bytes_of_catalog state.files) has in
    let listed = ap catalog_of (sym same) ∙ r.listed told in
    let here : relation_at bytes k ≡ Some t.schema =
    sym (get_or-map-range_with_len (relation_at bytes) 0 8 k k None below (omega arith)) ∙ ap (λ (c : Slots). get_or c.relations k None) listed ∙ seen held.relations k t there in
    let written : IsWrittenOrEmpty bytes = subst IsWrittenOrEmpty same (r.written told) in
    let back = λ (long : 1472 ≤ length bytes). slot_back bytes k t.schema below long (written (omega (arith, long))) here in
    ⊎_elim
    (λ (none : length bytes ≡ 0). absurd (no_slot bytes k t.schema below none here))
    (λ (some : (length bytes ≡ 1472) ⊎ (length bytes ≡ 1480)).
    ⊎_elim (λ (first : length bytes ≡ 1472). back (omega (arith, first))) (λ (second : length bytes ≡ 1480). back (omega (arith, second))) some)
    (catalog_there state tables held opens cat r has).1

-- the attribute that comes would be read back in a relation of its own
alone_back : (a : Attribute) → IsAttribute a → IsReadBack (Some (alone a))
alone_back a good =
    read_back (Some (alone a)) (good.0, omega arith, (good, tt))

-- and so would it be with one attribute more
pub longer_back : (was is : Tuples) → IsLonger was is → IsReadBack (Some was.schema) → IsReadBack (Some is.schema)
longer_back was is more back =
    let same : is.schema ≡ longer was.schema more.attribute = λ i. record { name = more.name i; attributes = more.attributes i } in
    let few : length was.schema.attributes < 8 =
    omega (arith, more.few, ap (λ (xs : List Attribute). length xs) more.attributes, length-append was.schema.attributes (more.attribute ∷ [])) in
    subst (λ (s : Schema). IsReadBack (Some s)) (sym same) (read_back_more was.schema more.attribute back (alone_back more.attribute more.good) few)

-- ---- the relation grows

module _ (old new : State) (tables : Tables) (held : Held) (opens : List (Option Open)) (r : IsRunning old tables held opens) (k cat : ℕ) (was is : Tuples) (has : held.cat ≡ Some cat) (below : k < 8)
    (there : get_or held.relations k None ≡ Some was) (empty : slots old.files was ≡ 0) (more : IsLonger was is) (u : PutsRelation old new cat k (Some is.schema)) where
  none : length (rows old.files was) ≡ 0
  none = rows_counted old.files was ∙ empty

  same_place : place new.files was.file ≡ place old.files was.file
  same_place =
      let named = (relation_there old tables held opens r k was there).named in
      let cat_named = (catalog_there old tables held opens cat r has).0 in
      u.others was.file (differ old.files was.file cat (rows_file k) catalog_file named cat_named (λ e. catalog_no_rows k (sym e)))

  new_size : size_at new.files is.file ≡ 0
  new_size =
      ap (λ (id : ℕ). size_at new.files id) more.file ∙ ap (λ (o : Option File). length (unwrap_or o no_file).bytes) same_place
      ∙ no_bytes old was (relation_there old tables held opens r k was there).holds none

  new_holds : HoldsRows new is
  new_holds = holds_none new was is (holds_by old new was same_place u.tells (relation_there old tables held opens r k was there).holds) more.file more.short new_size

  new_named : IsNamed new.files is.file (rows_file k)
  new_named =
      ap (λ (id : ℕ). name_at new.files id) more.file ∙ ap (option_map (λ (f : File). f.name)) same_place ∙ (relation_there old tables held opens r k was there).named

  grown_back : IsTrue old.tells → IsReadBack (Some is.schema)
  grown_back told = longer_back was is more (held_back old tables held opens k cat was r has below there told)

  grown : RelationChanges old new tables held opens k (Some is) cat
  grown =
      let put = slot_put old new cat k (Some is.schema) r.idle (catalog_there old tables held opens cat r has) u in
      record {
        below = below;
        has = has;
        leaves = put.leaves;
        bytes = put.bytes;
        idle = put.idle;
        back = grown_back;
        slot = record { holds = new_holds; named = new_named; few = omega (arith, slots_of_none new is new_size) };
        indexes = grown_indexes old new tables held opens r k was there none put.leaves is more.attribute more.attributes new_size;
        unread = λ s e n o at reads. unread_empty old new tables held opens r k was there none n o at (subst (λ (z : Tuples). ReadsRows o z) (some_same s was (sym e ∙ there)) reads);
      }

  pub shows_grown : Shows old new tables (with_tuples held k (Some is)) opens (changed_at (view old.files held opens) k (Some (record { schema = is.schema; rows = [] })))
  shows_grown =
      let P : List Row → Type 0 = λ all. Shows old new tables (with_tuples held k (Some is)) opens (changed_at (view old.files held opens) k (Some (record { schema = is.schema; rows = all }))) in
      subst P (rows_of_none new is new_size) (shows_changed old new tables held opens r k (Some is) cat grown)
