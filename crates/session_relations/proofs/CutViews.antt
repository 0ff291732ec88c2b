-- The database that is left of a command on relations that was cut off: that before it, or that after it.
use Rattle.std.proofs.Common.{◌≡◌, ◌≢◌, ℕ, zero, suc, ◌+◌, ◌*◌, ◌<◌, ◌≤◌, inl, inr, List, [], ◌∷◌, length, map, get_or, Option, Some, None, true, false, Bool, cond, refl, ap, sym, ◌∙◌, subst, arith, IsTrue}
use Rattle.std.specs.Prelude.{option_map, slice_range}
use Rattle.std.specs.Str.{bytes_eq}
use Rattle.std.specs.List.{range_with_len}
use Rattle.std.proofs.Math.Logic.{⊎_elim}
use Rattle.std.proofs.Math.Nat.{zero-div}
use Rattle.std.proofs.lemmas.Bool.{cases_eq}
use Rattle.std.proofs.lemmas.List.{get_or-map, nil_from_length}
use Rattle.std.proofs.lemmas.List.FromFn.{get_or-map-range_with_len}
use Rattle.std.proofs.lemmas.Slice.Eq.{bytes_eq-Decides}
use Rattle.afl_base.specs.declared.kind.Kind.TheVariants.{Fixed}
use Rattle.afl_base.specs.Files.{Creates, IsNamed, State, Table, bytes_at}
use Rattle.catalog.proofs.Named.{named_found, named_none}
use Rattle.afl_base.proofs.FileLaws.{named_live, place_live}
use Rattle.db_model.specs.declared.schemas.Schema.{Schema}
use Rattle.db_model.specs.Between.{AreAlike}
use Rattle.db_model.specs.Catalog.{Catalog as Slots, catalog_of, relation_at, relation_slot_bytes}
use Rattle.db_model.specs.Database.{Database, Relation, bare, with_relation}
use Rattle.db_model.specs.Names.{is_name}
use Rattle.db_model.specs.Row.{Row, row_at, row_length, rows_of}
use Rattle.index_set.specs.Tables.{Tables}
use Rattle.space_model.specs.FileNames.{bytes_in_file, bytes_named, catalog_file, file_named, rows_file}
use Rattle.stored.specs.Mended.{mended_base}
use Rattle.stored.proofs.MendedBase.{relation_read}
use Rattle.stored.proofs.MendedTables.{KeepsRowsOf, KeepsTreeOf, ReadsRelation, ReadsSame}
use Rattle.stored.proofs.CatalogParts.{replaced_relation}
use Rattle.catalog.proofs.Replaced.{IsReadBack, read_back}
use Rattle.tuple_file.specs.declared.tuples.Tuples.{Tuples}
use Rattle.tuple_file.specs.Tuples.{slots}
use Rattle.tuple_file.proofs.Columns.{rows_counted}
use Rattle.session_model.specs.declared.held.Held.{Held}
use Rattle.session_model.specs.declared.held.Open.{Open}
use Rattle.session_model.specs.Carried.{IsEither}
use Rattle.session_model.specs.Frames.{LeavesOthers, schema_in}
use Rattle.session_model.specs.Running.{HasCatalogFile, IsRelationSlot, IsRunning, IsWrittenOrEmpty, bytes_of_catalog}
use Rattle.session_model.specs.View.{view}
use Rattle.session_model.proofs.Catalogs.{catalog_there, with_catalog}
use Rattle.session_model.proofs.CutCatalogs.{leaves_spares, relation_alike, rows_kept, slots_alike, tree_kept}
use Rattle.session_model.proofs.Grown.{no_bytes}
use Rattle.session_model.proofs.ReadAs.{running_alike}
use Rattle.session_model.proofs.Running.{catalog_no_rows, relation_there, row_no_tree, rows_apart}
use Rattle.session_relations.specs.Changes.{IsLonger, MayMakeSlot, MayPutSlot, MayTakeSlot, bare_relation, bare_schema}
use Rattle.session_relations.proofs.Grown.{held_back, longer_back}
use Rattle.session_relations.proofs.Parts.{MayRead, more_read, new_read, none_read}
use Rattle.session_relations.proofs.ReadBack.{longer}
use Rattle.session_relations.proofs.Shown.{shows_made}

-- no bytes are no rows
pub rows_of_none : (schema : Schema) → rows_of schema.attributes [] ≡ []
rows_of_none schema = ap (λ (n : ℕ). map (row_at schema.attributes []) (range_with_len 0 n)) (zero-div (row_length schema.attributes))

-- where each file of a name has no bytes, there are none under the name
pub none_written : (files : Table) (name : List ℕ) → ((id : ℕ) → IsNamed files id name → bytes_at files id ≡ []) → bytes_named name files ≡ []
none_written [] name empty = refl
none_written (None ∷ files) name empty = none_written files name (λ id is. empty (suc id) is)
none_written (Some f ∷ files) name empty =
    by_test (bytes_eq f.name name) (λ same. empty zero (ap (λ (n : List ℕ). Some n) ((bytes_eq-Decides f.name name).0 same))) (none_written files name (λ id is. empty (suc id) is))
  where
    by_test : (b : Bool) → (b ≡ true → f.bytes ≡ []) → bytes_named name files ≡ [] → bytes_in_file (cond b (Some f) (file_named name files)) ≡ []
    by_test true here rest = here refl
    by_test false here rest = rest

module _ (old : State) (tables : Tables) (held : Held) (opens : List (Option Open)) (r : IsRunning old tables held opens) (told : IsTrue old.tells) (k cat : ℕ) (has : held.cat ≡ Some cat) (below : k < 8) where
  abbrev bytes : List ℕ
  bytes = bytes_at old.files cat

  pub there : HasCatalogFile old.files (Some cat)
  there = catalog_there old tables held opens cat r has

  bytes_held : bytes_of_catalog old.files held.cat ≡ bytes
  bytes_held = ap (bytes_of_catalog old.files) has

  -- the slot says what is held
  slot_seen : (o : Option Tuples) → get_or held.relations k None ≡ o → relation_at bytes k ≡ option_map schema_in o
  slot_seen o e =
      sym (get_or-map-range_with_len (relation_at bytes) 0 8 k k None below (omega arith))
      ∙ ap (λ (c : Slots). get_or c.relations k None) (ap catalog_of (sym bytes_held) ∙ r.listed told)
      ∙ get_or-map (option_map schema_in) held.relations k None None (omega (arith, below, r.eight))
      ∙ ap (option_map schema_in) e

  -- and has the bytes for it
  pub slot_written : (o : Option Tuples) → get_or held.relations k None ≡ o → 1472 ≤ length bytes → slice_range bytes (176 * k) (176 * k + 176) ≡ relation_slot_bytes (option_map schema_in o)
  slot_written o e long =
      let written : IsWrittenOrEmpty bytes = subst IsWrittenOrEmpty bytes_held (r.written told) in
      (written (omega (arith, long))).relations k below ∙ ap relation_slot_bytes (slot_seen o e)

  -- no rows file but that of the slot, and no tree, has come, changed or gone
  module _ (after : State) (l : LeavesOthers old after (rows_file k)) where
    pub other_rows : (j : ℕ) → j < 8 → j ≢ k → KeepsRowsOf old.files after.files j
    other_rows j inside differs used = rows_kept old after tables held opens r (rows_file k) l j inside (rows_apart j k differs)

    pub all_rows : bytes_named (rows_file k) after.files ≡ bytes_named (rows_file k) old.files → (j : ℕ) → j < 8 → KeepsRowsOf old.files after.files j
    all_rows here j inside used = ⊎_elim
        (λ (same : j ≡ k). subst (λ (m : ℕ). bytes_named (rows_file m) after.files ≡ bytes_named (rows_file m) old.files) (sym same) here)
        (λ (differs : j ≢ k). other_rows j inside differs used)
        (cases_eq j k)

    pub all_trees : (i : ℕ) → i < 8 → KeepsTreeOf old.files after.files i
    all_trees i inside tree = tree_kept old after tables held opens r (rows_file k) l i inside (λ same. row_no_tree k i (sym same))

  -- a new relation was being made
  pub created_cut : (after : State) (name : List ℕ) → get_or held.relations k None ≡ None → IsTrue (is_name name) → MayMakeSlot old after cat k (bare_schema name)
      → IsEither (view old.files held opens) (with_relation (view old.files held opens) k (Some (bare_relation name))) (mended_base after.files)
  created_cut after name free is w =
      let P : Option Tuples → Type 0 = λ o. IsRelationSlot old held.version k o in
      let was : bytes_named (rows_file k) old.files ≡ [] = ap bytes_in_file (named_none old.files (rows_file k) (subst P free (r.relations k below))) in
      let now : bytes_named (rows_file k) after.files ≡ [] = none_written after.files (rows_file k) w.empty in
      ⊎_elim
      (λ (same : ReadsSame bytes (bytes_at after.files cat)).
      inl (slots_alike old after tables held opens r told cat has (rows_file k) w.leaves w.named same (all_rows after w.leaves (now ∙ sym was)) (all_trees after w.leaves)))
      (λ (other : ReadsRelation bytes (bytes_at after.files cat) k (Some (bare_schema name))).
      inr (relation_alike old after tables held opens r told cat has (rows_file k) w.leaves w.named k (Some (bare_schema name)) (Some (bare_relation name)) below other
      (other_rows after w.leaves) (all_trees after w.leaves)
      (ap (λ (xs : List ℕ). Some (relation_read xs (bare_schema name))) now ∙ ap (λ (rs : List Row). Some (record { schema = bare_schema name; rows = rs })) (rows_of_none (bare_schema name)))))
      (new_read bytes (bytes_at after.files cat) k there.1 below name is (slot_written None free) w.bytes)

  -- the slot was being put
  module _ (after : State) (o : Option Schema) (w : MayPutSlot old after cat k o) where
    leaves : LeavesOthers old after (rows_file k)
    leaves = leaves_spares old after cat (rows_file k) there.0 w.0

    named : IsNamed after.files cat catalog_file
    named = w.0.named cat ∙ there.0

    rows_stay : bytes_named (rows_file k) after.files ≡ bytes_named (rows_file k) old.files
    rows_stay = rows_kept old after tables held opens r catalog_file (leaves_spares old after cat catalog_file there.0 w.0) k below (λ e. catalog_no_rows k (sym e))

    put_cut : (q : Option Relation) → option_map (relation_read (bytes_named (rows_file k) old.files)) o ≡ q → MayRead bytes (bytes_at after.files cat) k o
        → IsEither (view old.files held opens) (with_relation (view old.files held opens) k q) (mended_base after.files)
    put_cut q is (inl same) =
        inl (slots_alike old after tables held opens r told cat has (rows_file k) leaves named same (all_rows after leaves rows_stay) (all_trees after leaves))
    put_cut q is (inr other) =
        inr (relation_alike old after tables held opens r told cat has (rows_file k) leaves named k o q below other (other_rows after leaves) (all_trees after leaves)
        (ap (λ (xs : List ℕ). option_map (relation_read xs) o) rows_stay ∙ is))

  -- a relation without rows was to have one attribute more
  pub grown_cut : (after : State) (was now : Tuples) → get_or held.relations k None ≡ Some was → slots old.files was ≡ 0 → IsLonger was now → MayPutSlot old after cat k (Some now.schema)
      → IsEither (view old.files held opens) (with_relation (view old.files held opens) k (Some (record { schema = now.schema; rows = [] }))) (mended_base after.files)
  grown_cut after was now e none more w =
      let h = relation_there old tables held opens r k was e in
      let size = no_bytes old was h.holds (rows_counted old.files was ∙ none) in
      let empty : bytes_named (rows_file k) old.files ≡ [] =
      ap bytes_in_file (named_found old.files was.file (rows_file k) h.named (λ j also. r.distinct j was.file (rows_file k) also h.named) ∙ place_live old.files was.file (named_live old.files was.file (rows_file k) h.named))
      ∙ nil_from_length (bytes_at old.files was.file) size in
      let same : now.schema ≡ longer was.schema more.attribute = λ i. record { name = more.name i; attributes = more.attributes i } in
      let few : length (longer was.schema more.attribute).attributes ≤ 8 = subst (λ (s : Schema). length s.attributes ≤ 8) same more.few in
      let back = held_back old tables held opens k cat was r has below e told in
      let part = subst (λ (s : Schema). MayPutSlot old after cat k (Some s)) same w in
      let read = more_read bytes (bytes_at after.files cat) k there.1 below was.schema more.attribute back (subst (λ (s : Schema). IsReadBack (Some s)) same (longer_back was now more back)) few (slot_written (Some was) e) part.1 in
      put_cut after (Some now.schema) w (Some (record { schema = now.schema; rows = [] }))
      (ap (λ (xs : List ℕ). Some (relation_read xs now.schema)) empty ∙ ap (λ (rs : List Row). Some (record { schema = now.schema; rows = rs })) (rows_of_none now.schema))
      (subst (λ (s : Schema). MayRead bytes (bytes_at after.files cat) k (Some s)) (sym same) read)

  -- the slot was being emptied, or is empty
  pub taken_cut : (after : State) → MayTakeSlot old after cat k → IsEither (view old.files held opens) (with_relation (view old.files held opens) k None) (mended_base after.files)
  taken_cut after (inl w) = put_cut after None w None refl (none_read bytes (bytes_at after.files cat) k there.1 below w.1)
  taken_cut after (inr p) =
      inr (relation_alike old after tables held opens r told cat has (rows_file k) p.leaves p.bytes.named k None None below
      (subst (λ (xs : List ℕ). ReadsRelation bytes xs k None) (sym (p.bytes.bytes told)) (replaced_relation bytes k None there.1 below (read_back None tt)))
      (other_rows after p.leaves) (all_trees after p.leaves) refl)

-- an empty catalog was made, or not
pub made_cut : (old after : State) (tables : Tables) (held : Held) (opens : List (Option Open)) (cat : ℕ) → IsRunning old tables held opens → IsTrue old.tells → held.cat ≡ None → Creates old after cat catalog_file (Fixed 6)
    → AreAlike (mended_base after.files) (bare (view old.files held opens))
made_cut old after tables held opens cat r told none u =
    let shows = shows_made old after tables held opens r cat none u in
    subst (λ (db : Database). AreAlike (mended_base after.files) (bare db)) (shows.seen told) (running_alike after tables (with_catalog held cat) opens shows.running (shows.tells ∙ told))
