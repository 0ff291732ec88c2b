-- A catalog in which the slot of a relation was being put: the files beside it are ones that a cut can have left.
use Rattle.std.proofs.Common.{◌≡◌, ◌≢◌, ◌⊎◌, inl, inr, ⊎_elim, ℕ, zero, suc, ◌+◌, ◌-◌, ◌*◌, ◌/◌, ◌%◌, ◌<◌, ◌≤◌, ◌==◌, Bool, true, false, List, [], ◌∷◌, ◌++◌, length, map, take, drop, set, get_or, replicate, Option, Some, None, is_some, if◌then◌else◌, refl, ap, sym, subst, ◌∙◌, arith, IsTrue, append_assoc, length-append}
use Rattle.std.specs.Prelude.{flat_map, option_map, slice_range, unwrap_or}
use Rattle.std.specs.List.{AllByRecursion, list_any}
use Rattle.std.specs.Option.{option_map_or}
use Rattle.std.proofs.Math.Nat.{zero-div}
use Rattle.std.proofs.lemmas.Bool.{cases_eq, cases_lt}
use Rattle.std.proofs.lemmas.List.{drop_at, get_or-set_other, get_or-set_same, length-take-le, nil_from_length, take-append-le, take-replicate, take_all, length-set}
use Rattle.std.proofs.lemmas.List.Concat.{flat_map-cons}
use Rattle.std.proofs.lemmas.List.FromFn.{get_or-map-range_with_len}
use Rattle.afl_base.specs.declared.kind.Kind.TheVariants.{Fixed, Doubling}
use Rattle.afl_base.specs.Fields.{put_at}
use Rattle.afl_base.specs.Frames.{SparesOthers}
use Rattle.afl_base.proofs.FieldLaws.{length-put_at}
use Rattle.afl_base.specs.Files.{Creates, File, IsNamed, IsUnnamed, State, Table, bytes_at, file_at, place, no_file}
use Rattle.catalog.specs.CatalogFile.{IsCatalogSize, ReplacesFront}
use Rattle.catalog.specs.Rules.{catalog_bytes_in, is_schema, is_stranger, has_form}
use Rattle.catalog.proofs.Named.{named_none}
use Rattle.catalog.proofs.PutRanges.{before_put, behind_put}
use Rattle.catalog.proofs.Replaced.{IsReadBack, read_back}
use Rattle.db_model.specs.declared.schemas.Attribute.{Attribute}
use Rattle.db_model.specs.declared.schemas.Domain.{Domain}
use Rattle.db_model.specs.declared.schemas.Domain.TheVariants.{Int, Long, Time, Str}
use Rattle.db_model.specs.declared.schemas.Schema.{Schema}
use Rattle.db_model.specs.Between.{AreAlike}
use Rattle.db_model.specs.Catalog.{Index, catalog_bytes, empty_bytes, in_version_2, index_slot_bytes, relation_at, relation_slot_bytes, version_mark, with_relation_slot, with_slot, IsAttribute, catalog_of, empty_catalog, index_at, index_slot_of, relation_slot_of, version_of, attribute_bytes}
use Rattle.db_model.specs.Database.{Database, Relation, bare, free_from, with_relation}
use Rattle.db_model.specs.Names.{is_name}
use Rattle.db_model.specs.Row.{Row, row_length, rows_bytes, rows_of, slots_in_bytes}
use Rattle.db_model.specs.Sound.{IsSoundDatabase, IsSoundAttribute, IsSoundSchema}
use Rattle.db_model.specs.Step.{slots_limit}
use Rattle.index_set.specs.Tables.{Tables}
use Rattle.padded.specs.Padded.{padded}
use Rattle.padded.proofs.Facts.{by_truth, none_some, seen_at, some_same, either_way, either_part, neither_left, neither_right, other_side}
use Rattle.space_model.specs.Enough.{rows_in}
use Rattle.space_model.specs.FileNames.{bytes_named, catalog_file, is_there, rows_file, tree_file, bytes_in_file}
use Rattle.stored.specs.CutTables.{IsBehindSlot, IsCutTable, IsTimed, relation, slot_bytes, HasMark, IsFirstInPart, first_catalog, IsGrownInPart}
use Rattle.stored.specs.Mended.{has_time, mended_base, mended_catalog, whole_bytes, whole_catalog, is_time_domain}
use Rattle.stored.specs.declared.half.Half.{Half}
use Rattle.stored.specs.declared.half.Half.TheVariants.{Emptying, Growing, LoneRows, Nothing}
use Rattle.stored.proofs.CatalogParts.{back_same, bare_end, bare_slot, here_part, length-with_slot, name_size, over_relation, reads_same, relation_part, replaced_relation, unused_slot, FitsSlot, attribute_size, grown_all, grown_less, grown_none, grown_some, grown_whole, relation_not_changed}
use Rattle.stored.proofs.FilesOf.{IsNumbered, by_kind}
use Rattle.stored.proofs.MendedBase.{relation_read, whole_long}
use Rattle.stored.proofs.MendedTables.{ReadsRelation, ReadsSame}
use Rattle.tuple_file.specs.declared.tuples.Tuples.{Tuples}
use Rattle.tuple_file.proofs.Columns.{rows_counted}
use Rattle.tuple_file.specs.Tuples.{AreRows, rows, slots}
use Rattle.session_model.specs.declared.held.Held.{Held}
use Rattle.session_model.specs.declared.held.Indexed.{Indexed}
use Rattle.session_model.specs.declared.held.Open.{Open}
use Rattle.session_model.specs.Frames.{LeavesOthers, schema_in}
use Rattle.session_model.specs.Indexed.{index_known}
use Rattle.session_model.specs.Running.{HasCatalogFile, IsRunning, IsWritten, IsIndexSlot, IsRelationSlot}
use Rattle.session_model.specs.View.{relation_of_rows, view}
use Rattle.session_model.proofs.Catalogs.{with_catalog, catalog_there}
use Rattle.session_model.proofs.CutCatalogs.{leaves_spares, relation_alike, rows_there_kept, slots_alike, rows_kept}
use Rattle.session_model.proofs.CutForms.{IsCutIn, IsFrontOf, IsPart, IsShort, IsWhole, cut_in, front_index_slots, front_mark, front_relations, front_slots, front_long, part_whole, put_whole, front_size}
use Rattle.session_model.proofs.CutHeld.{RelationCut, cut_held, now_bytes, one_or_two, relation_cut, relations_by, rows_later, schemas_seen, was_relation, were_rows, schemas_long}
use Rattle.session_model.proofs.CutPuts.{empty_none, first_version, front_first, front_later, same_index_slots, same_later, same_mark, same_slots, same_whole, size, untimed, written_old, written_or, empty_indexes, none_timed}
use Rattle.session_model.proofs.CutSlots.{schema_of, IsInPart}
use Rattle.session_model.proofs.Grown.{no_bytes, no_items}
use Rattle.session_model.proofs.Rules.{formed, schema_true, stranger_none}
use Rattle.session_model.proofs.Running.{catalog_no_rows, catalog_no_tree, row_no_tree, rows_apart, relation_there}
use Rattle.session_model.proofs.Sound.{rows_there, seen, named_bytes}
use Rattle.session_model.proofs.Written.{relation_written}
use Rattle.session_relations.specs.Changes.{MayMakeSlot, MayPutSlot, MayTakeSlot, bare_relation, bare_schema, changed_at, IsLonger}
use Rattle.session_relations.proofs.CutViews.{all_rows, all_trees, none_written, other_rows, rows_of_none, slot_written}
use Rattle.session_relations.proofs.Grown.{held_back, longer_back}
use Rattle.session_relations.proofs.ReadBack.{longer, short_of}
use Rattle.session_relations.proofs.Shown.{shows_made}

-- an empty catalog was made
pub made_table : (old after : State) (tables : Tables) (held : Held) (opens : List (Option Open)) (cat : ℕ) → IsRunning old tables held opens → IsTrue old.tells → IsSoundDatabase (view old.files held opens) → held.cat ≡ None
    → Creates old after cat catalog_file (Fixed 6) → IsCutTable after.files
made_table old after tables held opens cat r told s none u =
    let shows = shows_made old after tables held opens r cat none u in
    cut_held after tables (with_catalog held cat) opens shows.running (shows.tells ∙ told) (subst IsSoundDatabase (sym (shows.seen told)) s)

-- no relation
abbrev pub no_schema : Option Schema
no_schema = None

-- no bytes are no rows
pub none_are_rows : (v : ℕ) (schema : Schema) → AreRows v schema.attributes []
none_are_rows v schema = record {
  whole = ap (rows_bytes schema.attributes) (rows_of_none schema);
  few = subst (λ (n : ℕ). n ≤ slots_limit v) (sym (zero-div (row_length schema.attributes))) (least (slots_limit v));
  some = λ none. refl;
}
  where
    least : (n : ℕ) → 0 ≤ n
    least n = omega arith

-- a relation that is read has its schema
pub schema_read : (bytes : List ℕ) (o : Option Schema) → option_map schema_of (option_map (relation_read bytes) o) ≡ o
schema_read bytes None = refl
schema_read bytes (Some schema) = refl

module _ (old : State) (tables : Tables) (held : Held) (opens : List (Option Open)) (r : IsRunning old tables held opens) (told : IsTrue old.tells) (s : IsSoundDatabase (view old.files held opens))
    (k cat : ℕ) (has : held.cat ≡ Some cat) (below : k < 8) where
  abbrev pub bytes : List ℕ
  bytes = bytes_at old.files cat

  abbrev pub schemas : List (Option Schema)
  schemas = map (option_map schema_in) held.relations

  abbrev pub knowns : List (Option Index)
  knowns = map (option_map index_known) held.indexes

  abbrev pub db : Database
  db = view old.files held opens

  pub seen_here : option_map schema_of (get_or db.relations k None) ≡ get_or schemas k None
  seen_here = sym (seen_at schema_of db.relations k) ∙ ap (λ xs. get_or xs k None) (schemas_seen old.files held.relations)

  -- ---- the catalog has its bytes

  pub same_table : (after : State) (l : LeavesOthers old after (rows_file k)) (named : IsNamed after.files cat catalog_file) → bytes_at after.files cat ≡ bytes → 1472 ≤ length bytes
      → bytes_named (rows_file k) after.files ≡ bytes_named (rows_file k) old.files → (half : Half) → ((j : ℕ) → half ≡ Emptying j → ⊥) → ((j : ℕ) → half ≡ Growing j → ⊥)
      → (is_some (get_or schemas k None) ≡ true → is_there (rows_file k) after.files ≡ true)
      → (is_there (rows_file k) after.files ≡ true → (is_some (get_or schemas k None) ≡ true) ⊎ (half ≡ LoneRows k)) → IsCutTable after.files
  same_table after l named same long rows half not_emptied not_grown file_there file_lone =
      relation_cut old tables held opens r told s cat k after half (view old.files held opens) (get_or schemas k None) (record {
        has = has;
        leaves = l;
        named = named;
        below = below;
        read = record {
          here = ap (λ (b : List ℕ). relation_at (whole_bytes b) k) same ∙ was_relation old tables held opens r told s cat has k below;
          relations = λ j inside differs. ap (λ (b : List ℕ). relation_at (whole_bytes b) j) same;
          indexes = (reads_same bytes (bytes_at after.files cat) (ap whole_bytes same)).indexes;
        };
        like = slots_alike old after tables held opens r told cat has (rows_file k) l named (reads_same bytes (bytes_at after.files cat) (ap whole_bytes same))
            (all_rows old tables held opens r told k cat has below after l rows) (all_trees old tables held opens r told k cat has below after l);
        sound = s;
        here = seen_here;
        others = λ j differs. refl;
        indexes = refl;
        same_keys = λ i x e. refl;
        later = λ j schema e. same_later old tables held opens r told s cat has after (rows_file k) l named same long;
        whole = same_whole old tables held opens r told s cat has after (rows_file k) l named same long;
        mark = same_mark old tables held opens r told s cat has after (rows_file k) l named same long half;
        slots = λ j inside. inl (same_slots old tables held opens r told s cat has after (rows_file k) l named same long j inside);
        index_slots = same_index_slots old tables held opens r told s cat has after (rows_file k) l named same long;
        emptied = λ j e. absurd (not_emptied j e);
        grown = λ j e. absurd (not_grown j e);
        file_there = λ used. ⊎_elim (λ (e : is_some (get_or schemas k None) ≡ true). file_there e) (λ e. absurd (not_emptied k e)) used;
        file_lone = λ there. ⊎_elim (λ e. inl e) (λ e. inr (inl e)) (file_lone there);
        rows = λ schema e.
            subst (AreRows (mended_catalog after.files).version schema.attributes) (sym rows)
            (rows_later (same_later old tables held opens r told s cat has after (rows_file k) l named same long) r.version (one_or_two after.files) (were_rows old tables held opens r told s k schema e));
      })

  -- ---- the slot is put

  module _ (after : State) (l : LeavesOthers old after (rows_file k)) (named : IsNamed after.files cat catalog_file) (o : Option Schema) (back : IsReadBack o)
      (w : IsWhole (bytes_at old.files cat) (176 * k) (relation_slot_bytes o) (bytes_at after.files cat)) where
    abbrev pub whole : List ℕ
    whole = with_slot (bytes_at old.files cat) (176 * k) (relation_slot_bytes o)

    abbrev pub front : IsFrontOf (catalog_bytes_in after.files) (with_slot (bytes_at old.files cat) (176 * k) (relation_slot_bytes o))
    front = record {
      upto = w.front.upto;
      some = w.front.some;
      most = w.front.most;
      is = now_bytes old tables held opens r told s cat has after (rows_file k) l named ∙ w.front.is;
      long = w.front.long;
      written = w.front.written;
    }

    pub read_whole : ReadsRelation (bytes_at old.files cat) (bytes_at after.files cat) k o
    read_whole =
        front_relations (bytes_at after.files cat) (with_slot (bytes_at old.files cat) (176 * k) (relation_slot_bytes o)) w.front (bytes_at old.files cat) k o
        (replaced_relation (bytes_at old.files cat) k o (size old tables held opens r told s cat has) below back) below

    -- the relations that are read
    abbrev pub now_schemas : List (Option Schema)
    now_schemas = set schemas k o

    pub schemas_eight : length (map (option_map schema_in) held.relations) ≡ 8
    schemas_eight = schemas_long old tables held opens r told s

    -- the list of relations that is read
    pub list_now : (catalog_of (whole_catalog after.files)).relations ≡ set (map (option_map schema_in) held.relations) k o
    list_now = relations_by old tables held opens r told s cat has after (rows_file k) l named now_schemas (length-set schemas k o ∙ schemas_eight) each
      where
        each : (j : ℕ) → j < 8 → relation_at (whole_bytes (bytes_at after.files cat)) j ≡ get_or (set (map (option_map schema_in) held.relations) k o) j None
        each j inside = ⊎_elim
            (λ (same : j ≡ k). ap (relation_at (whole_bytes (bytes_at after.files cat))) same ∙ read_whole.here ∙ sym (get_or-set_same (map (option_map schema_in) held.relations) k o None (omega (arith, below, schemas_eight))) ∙ ap (λ (m : ℕ). get_or (set (map (option_map schema_in) held.relations) k o) m None) (sym same))
            (λ (differs : j ≢ k). read_whole.relations j inside differs ∙ was_relation old tables held opens r told s cat has j inside ∙ sym (get_or-set_other (map (option_map schema_in) held.relations) k j o None differs))
            (cases_eq j k)

    -- where none has a TIME it is of version 1 without a mark
    pub version_now : ((schema : Schema) → o ≡ Some schema → has_time (Some schema) ≡ false) → w.front.upto ≡ 1472 → (mended_catalog after.files).version ≡ 1
    version_now plain e =
        front_first old tables held opens r told s cat has after (rows_file k) l named whole front w.first now_schemas list_now untimed_now e
      where
        untimed_now : (length (bytes_at old.files cat) ≡ 0) ⊎ (length (bytes_at old.files cat) ≡ 1472) → (j : ℕ) (schema : Schema) → get_or (set (map (option_map schema_in) held.relations) k o) j None ≡ Some schema → has_time (Some schema) ≡ false
        untimed_now first j schema at = ⊎_elim
            (λ (same : j ≡ k). plain schema (sym (get_or-set_same (map (option_map schema_in) held.relations) k o None (omega (arith, below, schemas_eight))) ∙ ap (λ (m : ℕ). get_or (set (map (option_map schema_in) held.relations) k o) m None) (sym same) ∙ at))
            (λ (differs : j ≢ k). untimed old tables held opens r told s cat has first j schema (sym (get_or-set_other (map (option_map schema_in) held.relations) k j o None differs) ∙ at))
            (cases_eq j k)

    pub whole_table : (half : Half) (q : Option Relation) → option_map (relation_read (bytes_named (rows_file k) after.files)) o ≡ q → IsSoundDatabase (changed_at (view old.files held opens) k q)
        → ((i : ℕ) (x : Index) → get_or knowns i None ≡ Some x → x.relation ≡ k → option_map_or (λ (z : Relation). z.rows) q [] ≡ rows_in (view old.files held opens) k)
        → (w.front.upto ≡ 1472 → ((mended_catalog after.files).version ≡ 1) ⊎ (IsTimed after.files × (half ≡ Nothing))) → IsBehindSlot half
        → ((j : ℕ) → half ≡ Emptying j → ⊥) → ((j : ℕ) → half ≡ Growing j → ⊥)
        → (is_some o ≡ true → is_there (rows_file k) after.files ≡ true)
        → (is_there (rows_file k) after.files ≡ true → (is_some o ≡ true) ⊎ (half ≡ LoneRows k))
        → ((schema : Schema) → o ≡ Some schema → bytes_named (rows_file k) after.files ≡ []) → IsCutTable after.files
    whole_table half q is sound keys_here one behind not_emptied not_grown file_there file_lone empty =
        let inside : k < length (view old.files held opens).relations = omega (arith, below, s.eight_relations) in
        relation_cut old tables held opens r told s cat k after half (changed_at (view old.files held opens) k q) o (record {
          has = has;
          leaves = l;
          named = named;
          below = below;
          read = read_whole;
          like = relation_alike old after tables held opens r told cat has (rows_file k) l named k o q below read_whole
              (other_rows old tables held opens r told k cat has below after l) (all_trees old tables held opens r told k cat has below after l) is;
          sound = sound;
          here = ap (option_map schema_of) (get_or-set_same (view old.files held opens).relations k q None inside) ∙ ap (option_map schema_of) (sym is) ∙ schema_read (bytes_named (rows_file k) after.files) o;
          others = λ j differs. get_or-set_other (view old.files held opens).relations k j q None differs;
          indexes = refl;
          same_keys = λ i x e. ⊎_elim
              (λ (same : x.relation ≡ k).
              ap (λ (m : ℕ). option_map_or (λ (z : Relation). z.rows) (get_or (set (view old.files held opens).relations k q) m None) []) same
              ∙ ap (λ (z : Option Relation). option_map_or (λ (y : Relation). y.rows) z []) (get_or-set_same (view old.files held opens).relations k q None inside)
              ∙ keys_here i x e same ∙ ap (rows_in (view old.files held opens)) (sym same))
              (λ (differs : x.relation ≢ k). ap (λ (z : Option Relation). option_map_or (λ (y : Relation). y.rows) z []) (get_or-set_other (view old.files held opens).relations k x.relation q None differs))
              (cases_eq x.relation k);
          later = front_later old tables held opens r told s cat has after (rows_file k) l named whole front w.first;
          whole = front_long after.files whole front;
          mark = front_mark after.files whole front half one (inr (inr behind));
          slots = λ j there. inl (front_slots after.files whole front j there);
          index_slots = front_index_slots after.files whole front;
          emptied = λ j e. absurd (not_emptied j e);
          grown = λ j e. absurd (not_grown j e);
          file_there = λ used. ⊎_elim (λ (e : is_some o ≡ true). file_there e) (λ e. absurd (not_emptied k e)) used;
          file_lone = λ there. ⊎_elim (λ e. inl e) (λ e. inr (inl e)) (file_lone there);
          rows = λ schema e. subst (AreRows (mended_catalog after.files).version schema.attributes) (sym (empty schema e)) (none_are_rows (mended_catalog after.files).version schema);
        })

  -- what a change of the slot left
  pub cut_of : (after : State) (o : Option Schema) → IsReadBack o → ReplacesFront bytes (176 * k) (relation_slot_bytes o) (bytes_at after.files cat) → IsCutIn bytes (176 * k) (relation_slot_bytes o) (bytes_at after.files cat)
  cut_of after o back f =
      let n : length (relation_slot_bytes o) ≡ 176 = back.0 in
      let inside : 176 * k + length (relation_slot_bytes o) ≤ 1472 = omega (arith, n, below) in
      let z = size old tables held opens r told s cat has in
      cut_in bytes (176 * k) (relation_slot_bytes o) z inside (length-with_slot bytes (relation_slot_bytes o) (176 * k) z inside)
      (relation_written bytes k o z below back (written_or old tables held opens r told s cat has)) (bytes_at after.files cat) f

  pub put_all : (o : Option Schema) (back : IsReadBack o) → 1472 ≤ length bytes → IsWhole bytes (176 * k) (relation_slot_bytes o) (put_at bytes (176 * k) (relation_slot_bytes o))
  put_all o back long =
      let n : length (relation_slot_bytes o) ≡ 176 = back.0 in
      let inside : 176 * k + length (relation_slot_bytes o) ≤ 1472 = omega (arith, n, below) in
      let z = size old tables held opens r told s cat has in
      put_whole bytes (176 * k) (relation_slot_bytes o) z inside (length-with_slot bytes (relation_slot_bytes o) (176 * k) z inside)
      (relation_written bytes k o z below back (written_or old tables held opens r told s cat has)) long

  -- ---- a part of the slot was put

  module _ (after : State) (l : LeavesOthers old after (rows_file k)) (named : IsNamed after.files cat catalog_file) (part : List ℕ) (few : length part ≤ 176) (long : 1472 ≤ length (bytes_at old.files cat))
      (is : bytes_at after.files cat ≡ put_at (bytes_at old.files cat) (176 * k) part) where
    abbrev pub put : List ℕ
    put = put_at (bytes_at old.files cat) (176 * k) part

    pub put_size : length (put_at (bytes_at old.files cat) (176 * k) part) ≡ length (bytes_at old.files cat)
    put_size = length-put_at (bytes_at old.files cat) part (176 * k) (omega (arith, few, long, below))

    pub part_bytes : catalog_bytes_in after.files ≡ put_at (bytes_at old.files cat) (176 * k) part
    part_bytes = now_bytes old tables held opens r told s cat has after (rows_file k) l named ∙ is

    pub part_catalog : whole_catalog after.files ≡ put_at (bytes_at old.files cat) (176 * k) part
    part_catalog = ap whole_bytes part_bytes ∙ whole_long (put_at (bytes_at old.files cat) (176 * k) part) (omega (arith, put_size, long))

    pub part_long : 1472 ≤ length (catalog_bytes_in after.files)
    part_long = subst (λ (b : List ℕ). 1472 ≤ length b) (sym part_bytes) (omega (arith, put_size, long))

    pub part_relation : (j : ℕ) → j < 8 → relation after.files j ≡ relation_at (whole_catalog after.files) j
    unfolding mended_catalog
    part_relation j inside = get_or-map-range_with_len (relation_at (whole_catalog after.files)) 0 8 j j None inside (omega arith)

    pub room : 176 * k ≤ length (bytes_at old.files cat)
    room = omega (arith, long, below)

    pub other_slot : (j : ℕ) → j < 8 → j ≢ k → slot_bytes after.files j ≡ slice_range (bytes_at old.files cat) (176 * j) (176 * j + 176)
    other_slot j inside differs =
        ap (λ (b : List ℕ). slice_range b (176 * j) (176 * j + 176)) part_catalog
        ∙ ⊎_elim
        (λ (less : j < k). before_put (bytes_at old.files cat) part (176 * k) (176 * j) (176 * j + 176) (omega arith) (omega (arith, less)) room)
        (λ (more : k ≤ j). behind_put (bytes_at old.files cat) part (176 * k) (176 * j) (176 * j + 176) (omega (arith, few, more, differs)) room)
        (cases_lt j k)

    pub part_slots : (j : ℕ) → j < 8 → j ≢ k → slot_bytes after.files j ≡ relation_slot_bytes (relation after.files j)
    part_slots j inside differs =
        let e = other_slot j inside differs in
        e ∙ (written_old old tables held opens r told s cat has long).relations j inside ∙ ap relation_slot_bytes (ap relation_slot_of (sym e) ∙ sym (part_relation j inside))

    pub part_index_slots : (i : ℕ) → i < 8 → slice_range (whole_catalog after.files) (1408 + 8 * i) (1408 + 8 * i + 8) ≡ index_slot_bytes (index_at (whole_catalog after.files) i)
    part_index_slots i inside =
        let e : slice_range (whole_catalog after.files) (1408 + 8 * i) (1408 + 8 * i + 8) ≡ slice_range (bytes_at old.files cat) (1408 + 8 * i) (1408 + 8 * i + 8) =
        ap (λ (b : List ℕ). slice_range b (1408 + 8 * i) (1408 + 8 * i + 8)) part_catalog ∙ behind_put (bytes_at old.files cat) part (176 * k) (1408 + 8 * i) (1408 + 8 * i + 8) (omega (arith, few, below)) room in
        e ∙ (written_old old tables held opens r told s cat has long).indexes i inside ∙ ap (λ (xs : List ℕ). index_slot_bytes (index_slot_of xs)) (sym e)

    pub part_size : (length (bytes_at old.files cat) ≡ 1472) ⊎ (length (bytes_at old.files cat) ≡ 1480)
    part_size = by_size (size old tables held opens r told s cat has)
      where
        by_size : IsCatalogSize (length (bytes_at old.files cat)) → (length (bytes_at old.files cat) ≡ 1472) ⊎ (length (bytes_at old.files cat) ≡ 1480)
        by_size (inl none) = absurd (omega (arith, none, long))
        by_size (inr e) = e

    pub part_version : (timed : Bool) → list_any has_time (catalog_of (whole_catalog after.files)).relations ≡ timed → (mended_catalog after.files).version ≡ (if timed then 2 else (if length (bytes_at old.files cat) == 1472 then 1 else 2))
    unfolding mended_catalog
    part_version timed e =
        ap (λ (t : Bool). if t then 2 else version_of (whole_catalog after.files)) e
        ∙ ap (λ (b : List ℕ). if timed then 2 else version_of b) part_catalog
        ∙ ap (λ (n : ℕ). if timed then 2 else (if n == 1472 then 1 else 2)) put_size

    pub part_later : (held.version ≡ 1) ⊎ ((mended_catalog after.files).version ≡ 2)
    part_later = ⊎_elim
        (λ (e : length (bytes_at old.files cat) ≡ 1472). inl (first_version old tables held opens r told s cat has e))
        (λ (e : length (bytes_at old.files cat) ≡ 1480).
        inr (part_version (list_any has_time (catalog_of (whole_catalog after.files)).relations) refl
        ∙ ap (λ (n : ℕ). if list_any has_time (catalog_of (whole_catalog after.files)).relations then 2 else (if n == 1472 then 1 else 2)) e
        ∙ either_way (list_any has_time (catalog_of (whole_catalog after.files)).relations) 2))
        part_size

    -- its mark is as it was
    pub part_mark : (half : Half) → (length (bytes_at old.files cat) ≡ 1472 → list_any has_time (catalog_of (whole_catalog after.files)).relations ≡ false) → HasMark after.files half
    part_mark half plain = inl (
      ap has_form part_bytes ∙ formed (put_at (bytes_at old.files cat) (176 * k) part) (inr sized) (λ e. behind_put (bytes_at old.files cat) part (176 * k) 1472 1480 (omega (arith, few, below)) room ∙ (written_old old tables held opens r told s cat has long).mark (sym put_size ∙ e)),
      ap version_of part_bytes ∙ ap (λ (n : ℕ). if n == 1472 then 1 else 2) put_size ∙ version,
    )
      where
        sized : (length (put_at (bytes_at old.files cat) (176 * k) part) ≡ 1472) ⊎ (length (put_at (bytes_at old.files cat) (176 * k) part) ≡ 1480)
        sized = ⊎_elim (λ (e : length (bytes_at old.files cat) ≡ 1472). inl (put_size ∙ e)) (λ (e : length (bytes_at old.files cat) ≡ 1480). inr (put_size ∙ e)) part_size

        version : (if length (bytes_at old.files cat) == 1472 then 1 else 2) ≡ (mended_catalog after.files).version
        version = ⊎_elim
            (λ (e : length (bytes_at old.files cat) ≡ 1472). sym (part_version false (plain e)))
            (λ (e : length (bytes_at old.files cat) ≡ 1480).
            let timed : Bool = list_any has_time (catalog_of (whole_catalog after.files)).relations in
            ap (λ (n : ℕ). if n == 1472 then 1 else 2) e
            ∙ sym (either_way timed 2)
            ∙ sym (ap (λ (n : ℕ). if timed then 2 else (if n == 1472 then 1 else 2)) e)
            ∙ sym (part_version timed refl))
            part_size
