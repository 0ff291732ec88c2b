-- Files that a cut in the middle of CREATE ATTRIBUTE leaves.
use Rattle.std.proofs.Common.{◌≡◌, ◌≢◌, ◌⊎◌, inl, inr, ⊎_elim, ℕ, zero, suc, ◌+◌, ◌-◌, ◌*◌, ◌/◌, ◌%◌, ◌<◌, ◌≤◌, ◌==◌, Bool, true, false, List, [], ◌∷◌, ◌++◌, length, map, take, drop, set, get_or, replicate, Option, Some, None, is_some, if◌then◌else◌, refl, ap, sym, subst, ◌∙◌, arith, IsTrue, append_assoc, length-append}
use Rattle.std.specs.Prelude.{flat_map, option_map, slice_range, unwrap_or}
use Rattle.std.specs.List.{AllByRecursion, list_any}
use Rattle.std.specs.Option.{option_map_or}
use Rattle.std.proofs.Math.Nat.{zero-div}
use Rattle.std.proofs.lemmas.Bool.{cases_eq, cases_lt}
use Rattle.std.proofs.lemmas.List.{drop_at, get_or-set_other, get_or-set_same, length-take-le, nil_from_length, take-append-le, take-replicate, take_all, length-set}
use Rattle.std.proofs.lemmas.List.Concat.{flat_map-cons}
use Rattle.std.proofs.lemmas.List.FromFn.{get_or-map-range_with_len}
use Rattle.afl_base.specs.declared.kind.Kind.TheVariants.{Fixed, Doubling}
use Rattle.afl_base.specs.Fields.{put_at}
use Rattle.afl_base.specs.Frames.{SparesOthers}
use Rattle.afl_base.proofs.FieldLaws.{length-put_at}
use Rattle.afl_base.specs.Files.{Creates, File, IsNamed, IsUnnamed, State, Table, bytes_at, file_at, place, no_file}
use Rattle.catalog.specs.CatalogFile.{IsCatalogSize, ReplacesFront}
use Rattle.catalog.specs.Rules.{catalog_bytes_in, is_schema, is_stranger, has_form}
use Rattle.catalog.proofs.Named.{named_none}
use Rattle.catalog.proofs.PutRanges.{before_put, behind_put}
use Rattle.catalog.proofs.Replaced.{IsReadBack, read_back}
use Rattle.db_model.specs.declared.schemas.Attribute.{Attribute}
use Rattle.db_model.specs.declared.schemas.Domain.{Domain}
use Rattle.db_model.specs.declared.schemas.Domain.TheVariants.{Int, Long, Time, Str}
use Rattle.db_model.specs.declared.schemas.Schema.{Schema}
use Rattle.db_model.specs.Between.{AreAlike}
use Rattle.db_model.specs.Catalog.{Index, catalog_bytes, empty_bytes, in_version_2, index_slot_bytes, relation_at, relation_slot_bytes, version_mark, with_relation_slot, with_slot, IsAttribute, catalog_of, empty_catalog, index_at, index_slot_of, relation_slot_of, version_of, attribute_bytes}
use Rattle.db_model.specs.Database.{Database, Relation, bare, free_from, with_relation}
use Rattle.db_model.specs.Names.{is_name}
use Rattle.db_model.specs.Row.{Row, row_length, rows_bytes, rows_of, slots_in_bytes}
use Rattle.db_model.specs.Sound.{IsSoundDatabase, IsSoundAttribute, IsSoundSchema}
use Rattle.db_model.specs.Step.{slots_limit}
use Rattle.index_set.specs.Tables.{Tables}
use Rattle.padded.specs.Padded.{padded}
use Rattle.padded.proofs.Facts.{by_truth, none_some, seen_at, some_same, either_way, either_part, neither_left, neither_right, other_side}
use Rattle.space_model.specs.Enough.{rows_in}
use Rattle.space_model.specs.FileNames.{bytes_named, catalog_file, is_there, rows_file, tree_file, bytes_in_file}
use Rattle.stored.specs.CutTables.{IsBehindSlot, IsCutTable, IsTimed, relation, slot_bytes, HasMark, IsFirstInPart, first_catalog, IsGrownInPart}
use Rattle.stored.specs.Mended.{has_time, mended_base, mended_catalog, whole_bytes, whole_catalog, is_time_domain}
use Rattle.stored.specs.declared.half.Half.{Half}
use Rattle.stored.specs.declared.half.Half.TheVariants.{Emptying, Growing, LoneRows, Nothing}
use Rattle.stored.proofs.CatalogParts.{back_same, bare_end, bare_slot, here_part, length-with_slot, name_size, over_relation, reads_same, relation_part, replaced_relation, unused_slot, FitsSlot, attribute_size, grown_all, grown_less, grown_none, grown_some, grown_whole, relation_not_changed}
use Rattle.stored.proofs.FilesOf.{IsNumbered, by_kind}
use Rattle.stored.proofs.MendedBase.{relation_read, whole_long}
use Rattle.stored.proofs.MendedTables.{ReadsRelation, ReadsSame}
use Rattle.tuple_file.specs.declared.tuples.Tuples.{Tuples}
use Rattle.tuple_file.proofs.Columns.{rows_counted}
use Rattle.tuple_file.specs.Tuples.{AreRows, rows, slots}
use Rattle.session_model.specs.declared.held.Held.{Held}
use Rattle.session_model.specs.declared.held.Indexed.{Indexed}
use Rattle.session_model.specs.declared.held.Open.{Open}
use Rattle.session_model.specs.Frames.{LeavesOthers, schema_in}
use Rattle.session_model.specs.Indexed.{index_known}
use Rattle.session_model.specs.Running.{HasCatalogFile, IsRunning, IsWritten, IsIndexSlot, IsRelationSlot}
use Rattle.session_model.specs.View.{relation_of_rows, view}
use Rattle.session_model.proofs.Catalogs.{with_catalog, catalog_there}
use Rattle.session_model.proofs.CutCatalogs.{leaves_spares, relation_alike, rows_there_kept, slots_alike, rows_kept}
use Rattle.session_model.proofs.CutForms.{IsCutIn, IsFrontOf, IsPart, IsShort, IsWhole, cut_in, front_index_slots, front_mark, front_relations, front_slots, front_long, part_whole, put_whole, front_size}
use Rattle.session_model.proofs.CutHeld.{RelationCut, cut_held, now_bytes, one_or_two, relation_cut, relations_by, rows_later, schemas_seen, was_relation, were_rows, schemas_long}
use Rattle.session_model.proofs.CutPuts.{empty_none, first_version, front_first, front_later, same_index_slots, same_later, same_mark, same_slots, same_whole, size, untimed, written_old, written_or, empty_indexes, none_timed}
use Rattle.session_model.proofs.CutSlots.{schema_of, IsInPart}
use Rattle.session_model.proofs.Grown.{no_bytes, no_items}
use Rattle.session_model.proofs.Rules.{formed, schema_true, stranger_none}
use Rattle.session_model.proofs.Running.{catalog_no_rows, catalog_no_tree, row_no_tree, rows_apart, relation_there}
use Rattle.session_model.proofs.Sound.{rows_there, seen, named_bytes}
use Rattle.session_model.proofs.Written.{relation_written}
use Rattle.session_relations.specs.Changes.{MayMakeSlot, MayPutSlot, MayTakeSlot, bare_relation, bare_schema, changed_at, IsLonger}
use Rattle.session_relations.proofs.CutViews.{all_rows, all_trees, none_written, other_rows, rows_of_none, slot_written}
use Rattle.session_relations.proofs.Grown.{held_back, longer_back}
use Rattle.session_relations.proofs.ReadBack.{longer, short_of}
use Rattle.session_relations.proofs.Shown.{shows_made}
use Rattle.session_relations.proofs.CutPlaces.{none_are_rows, front, list_now, put_all, same_table, whole_table, version_now, cut_of, part_relation, part_later, part_long, part_mark, part_slots, part_index_slots, part_catalog, seen_here}
use Rattle.session_relations.proofs.CutTables.{file_here, long_there, put_leaves, put_named, rows_here, schema_there, unchanged_table}

-- ---- CREATE ATTRIBUTE

-- of attributes of which the last alone may be one, it is a TIME
last_timed : (list : List Attribute) (a : Attribute) → list_any (λ (x : Attribute). is_time_domain x.domain) (list ++ a ∷ []) ≡ true → list_any (λ (x : Attribute). is_time_domain x.domain) list ≡ false → a.domain ≡ Time
last_timed [] a t none = by_domain a.domain (⊎_elim (λ (e : is_time_domain a.domain ≡ true). e) (λ (e : false ≡ true). cc) (either_part (is_time_domain a.domain) false t))
  where
    by_domain : (d : Domain) → is_time_domain d ≡ true → d ≡ Time
    by_domain Int e = cc
    by_domain Long e = cc
    by_domain Time e = refl
    by_domain (Str n) e = cc
last_timed (x ∷ list) a t none =
    let rest : Bool = list_any (λ (y : Attribute). is_time_domain y.domain) list in
    last_timed list a (other_side (is_time_domain x.domain) (list_any (λ (y : Attribute). is_time_domain y.domain) (list ++ a ∷ [])) (neither_left (is_time_domain x.domain) rest none) t) (neither_right (is_time_domain x.domain) rest none)

module _ (old : State) (tables : Tables) (held : Held) (opens : List (Option Open)) (r : IsRunning old tables held opens) (told : IsTrue old.tells) (s : IsSoundDatabase (view old.files held opens))
    (k cat : ℕ) (has : held.cat ≡ Some cat) (below : k < 8) (was : Tuples) (there : get_or held.relations k None ≡ Some was) (none : slots old.files was ≡ 0) (a : Attribute) (good : IsAttribute a)
    (few : length (was.schema.attributes ++ a ∷ []) ≤ 8) (more_back : IsReadBack (Some (longer was.schema a)))
    (sound : IsSoundDatabase (changed_at (view old.files held opens) k (Some (record { schema = longer was.schema a; rows = [] }))))
    (after : State) (w : MayPutSlot old after cat k (Some (longer was.schema a))) where
  abbrev next : Schema
  next = longer was.schema a

  abbrev grown : Relation
  grown = record { schema = longer was.schema a; rows = [] }

  was_back : IsReadBack (Some was.schema)
  was_back = held_back old tables held opens k cat was r has below there told

  less : length was.schema.attributes < 8
  less = let n = length-append was.schema.attributes (a ∷ []) in omega (arith, n, few)

  fits_was : FitsSlot was.schema
  fits_was = short_of was.schema was_back (omega (arith, less))

  fits_next : FitsSlot (longer was.schema a)
  fits_next = short_of (longer was.schema a) more_back few

  held_there : get_or (map (option_map schema_in) held.relations) k None ≡ Some was.schema
  held_there = schema_there old tables held opens r told s k cat has below was there

  long : 1472 ≤ length (bytes_at old.files cat)
  long = long_there old tables held opens r told s k cat has below was there

  g_leaves : LeavesOthers old after (rows_file k)
  g_leaves = put_leaves old tables held opens r told s k cat has below was there after w.0

  g_named : IsNamed after.files cat catalog_file
  g_named = put_named old tables held opens r told s k cat has below was there after w.0

  g_file : is_there (rows_file k) after.files ≡ true
  g_file = file_here old tables held opens r told s k cat has below was there after w.0

  no_rows : rows old.files was ≡ []
  no_rows = no_items (rows old.files was) (rows_counted old.files was ∙ none)

  -- its file has no bytes
  g_empty : bytes_named (rows_file k) after.files ≡ []
  g_empty =
      let h = relation_there old tables held opens r k was there in
      rows_here old tables held opens r told s k cat has below was there after w.0
      ∙ named_bytes old tables held opens r told was.file (rows_file k) h.named
      ∙ nil_from_length (bytes_at old.files was.file) (no_bytes old was h.holds (rows_counted old.files was ∙ none))

  rows_seen : rows_in (view old.files held opens) k ≡ []
  rows_seen = ap (λ (q : Option Relation). option_map_or (λ (z : Relation). z.rows) q []) (seen (relation_of_rows old.files) held.relations k was there) ∙ no_rows

  -- ---- all of the slot

  module _ (p : IsWhole (bytes_at old.files cat) (176 * k) (relation_slot_bytes (Some (longer was.schema a))) (bytes_at after.files cat)) where
    g_list : (catalog_of (whole_catalog after.files)).relations ≡ set (map (option_map schema_in) held.relations) k (Some (longer was.schema a))
    g_list = list_now old tables held opens r told s k cat has below after g_leaves g_named (Some (longer was.schema a)) more_back p

    g_relation : (j : ℕ) → relation after.files j ≡ get_or (set (map (option_map schema_in) held.relations) k (Some (longer was.schema a))) j None
    unfolding mended_catalog
    g_relation j = ap (λ os. get_or os j None) g_list

    g_here : relation after.files k ≡ Some (longer was.schema a)
    g_here = g_relation k ∙ get_or-set_same (map (option_map schema_in) held.relations) k (Some (longer was.schema a)) None (let n = schemas_long old tables held opens r told s in omega (arith, below, n))

    timed : p.front.upto ≡ 1472 → has_time (Some (longer was.schema a)) ≡ true → IsTimed after.files
    timed e t = record {
      short = front_size (catalog_bytes_in after.files) (with_slot (bytes_at old.files cat) (176 * k) (relation_slot_bytes (Some (longer was.schema a))))
          (front old tables held opens r told s k cat has below after g_leaves g_named (Some (longer was.schema a)) more_back p) ∙ e;
      k = k;
      schema = longer was.schema a;
      there = g_here;
      front = was.schema.attributes;
      last = a;
      time = (refl, last_timed was.schema.attributes a t (plain_was e));
      before = plain_was e;
      alone = λ j found. ⊎_elim
          (λ (same : j ≡ k). same)
          (λ (differs : j ≢ k). absurd (not_timed e j (get_or (map (option_map schema_in) held.relations) j None) refl
          (ap has_time (sym (get_or-set_other (map (option_map schema_in) held.relations) k j (Some (longer was.schema a)) None differs) ∙ sym (g_relation j)) ∙ found)))
          (cases_eq j k);
      empty = g_empty;
    }
      where
        plain_was : p.front.upto ≡ 1472 → has_time (Some was.schema) ≡ false
        plain_was first = untimed old tables held opens r told s cat has (p.first first) k was.schema held_there

        not_timed : p.front.upto ≡ 1472 → (j : ℕ) (o : Option Schema) → get_or (map (option_map schema_in) held.relations) j None ≡ o → has_time o ≡ true → ⊥
        not_timed first j None at found = let n : ⊥ = cc in n
        not_timed first j (Some schema) at found = let f = sym (untimed old tables held opens r told s cat has (p.first first) j schema at) ∙ found in let n : ⊥ = cc in n

    grown_whole_table : IsCutTable after.files
    grown_whole_table =
        whole_table old tables held opens r told s k cat has below after g_leaves g_named (Some (longer was.schema a)) more_back p Nothing (Some (record { schema = longer was.schema a; rows = [] }))
        (ap (λ (xs : List ℕ). Some (relation_read xs (longer was.schema a))) g_empty ∙ ap (λ (rs : List Row). Some (record { schema = longer was.schema a; rows = rs })) (rows_of_none (longer was.schema a)))
        sound (λ i x e on. sym rows_seen)
        (λ e. by_truth (has_time (Some (longer was.schema a)))
        (λ (t : has_time (Some (longer was.schema a)) ≡ true). inr (timed e t, refl))
        (λ (plain : has_time (Some (longer was.schema a)) ≡ false).
        inl (version_now old tables held opens r told s k cat has below after g_leaves g_named (Some (longer was.schema a)) more_back p (λ schema is. sym (ap (λ (z : Schema). has_time (Some z)) (some_same (longer was.schema a) schema is)) ∙ plain) e)))
        tt (λ j e. let n : ⊥ = cc in n) (λ j e. let n : ⊥ = cc in n) (λ used. g_file) (λ present. inl refl) (λ schema is. g_empty)

  -- ---- a part of it

  module _ (p : IsPart (bytes_at old.files cat) (176 * k) (relation_slot_bytes (Some (longer was.schema a))) (bytes_at after.files cat)) where
    abbrev slot : List ℕ
    slot = relation_slot_bytes (Some (longer was.schema a))

    abbrev part : List ℕ
    part = take p.done (relation_slot_bytes (Some (longer was.schema a)))

    abbrev before : List ℕ
    before = slice_range (bytes_at old.files cat) (176 * k) (176 * k + 176)

    slot_long : length (relation_slot_bytes (Some (longer was.schema a))) ≡ 176
    slot_long = more_back.0

    part_long' : length (take p.done (relation_slot_bytes (Some (longer was.schema a)))) ≡ p.done
    part_long' = length-take-le p.done (relation_slot_bytes (Some (longer was.schema a))) (omega (arith, p.less))

    part_few : length (take p.done (relation_slot_bytes (Some (longer was.schema a)))) ≤ 176
    part_few = omega (arith, part_long', p.less, slot_long)

    before_is : slice_range (bytes_at old.files cat) (176 * k) (176 * k + 176) ≡ relation_slot_bytes (Some was.schema)
    before_is = slot_written old tables held opens r told k cat has below (Some was) there p.long

    whole_part : (x : List ℕ) → take p.done (relation_slot_bytes (Some (longer was.schema a))) ++ drop p.done (relation_slot_bytes (Some was.schema)) ≡ x
        → take p.done (relation_slot_bytes (Some (longer was.schema a))) ++ drop p.done (slice_range (bytes_at old.files cat) (176 * k) (176 * k + 176)) ≡ x
    whole_part x e = ap (λ (xs : List ℕ). take p.done (relation_slot_bytes (Some (longer was.schema a))) ++ drop p.done xs) before_is ∙ e

    -- what stands in the slot, where the number is not written
    grown_part_table : p.done < 161 → (half : Half) → ((j : ℕ) → half ≡ Emptying j → ⊥) → ((j : ℕ) → half ≡ Growing j → j ≡ k)
        → (take p.done (relation_slot_bytes (Some (longer was.schema a))) ++ drop p.done (relation_slot_bytes (Some was.schema)) ≡ relation_slot_bytes (Some was.schema))
        ⊎ ((half ≡ Growing k) × IsGrownInPart k (take p.done (relation_slot_bytes (Some (longer was.schema a))) ++ drop p.done (relation_slot_bytes (Some was.schema))) was.schema)
        → IsCutTable after.files
    grown_part_table early half not_emptied only slot_is =
        let read : ReadsRelation (bytes_at old.files cat) (bytes_at after.files cat) k (Some was.schema) =
        subst (λ (b : List ℕ). ReadsRelation (bytes_at old.files cat) b k (Some was.schema)) (sym p.is)
        (over_relation (bytes_at old.files cat) slot p.done p.long k (Some was.schema) slot_long (omega (arith, p.less, slot_long)) below
        (ap relation_slot_of (whole_part _ refl) ∙ grown_less was.schema a fits_was fits_next p.done early)) in
        let all_same : ReadsSame (bytes_at old.files cat) (bytes_at after.files cat) =
        relation_not_changed (bytes_at old.files cat) (bytes_at after.files cat) k (Some was.schema) read (was_relation old tables held opens r told s cat has k below ∙ held_there) in
        let here : relation after.files k ≡ Some was.schema =
        part_relation old tables held opens r told s k cat has below after g_leaves g_named part part_few p.long p.is k below
        ∙ ap (λ (b : List ℕ). relation_at b k) (ap whole_bytes (now_bytes old tables held opens r told s cat has after (rows_file k) g_leaves g_named)) ∙ read.here in
        let stands : slot_bytes after.files k ≡ take p.done (relation_slot_bytes (Some (longer was.schema a))) ++ drop p.done (relation_slot_bytes (Some was.schema)) =
        ap (λ (b : List ℕ). slice_range b (176 * k) (176 * k + 176)) (part_catalog old tables held opens r told s k cat has below after g_leaves g_named part part_few p.long p.is)
        ∙ here_part (bytes_at old.files cat) slot (176 * k) 176 p.done slot_long (omega (arith, p.less, slot_long)) (omega (arith, p.long, below)) ∙ whole_part _ refl in
        relation_cut old tables held opens r told s cat k after half (view old.files held opens) (Some was.schema) (record {
          has = has;
          leaves = g_leaves;
          named = g_named;
          below = below;
          read = read;
          like = slots_alike old after tables held opens r told cat has (rows_file k) g_leaves g_named all_same
              (all_rows old tables held opens r told k cat has below after g_leaves (rows_here old tables held opens r told s k cat has below was there after w.0)) (all_trees old tables held opens r told k cat has below after g_leaves);
          sound = s;
          here = seen_here old tables held opens r told s k cat has below ∙ held_there;
          others = λ j differs. refl;
          indexes = refl;
          same_keys = λ i x e. refl;
          later = λ j schema e. part_later old tables held opens r told s k cat has below after g_leaves g_named part part_few p.long p.is;
          whole = part_long old tables held opens r told s k cat has below after g_leaves g_named part part_few p.long p.is;
          mark = part_mark old tables held opens r told s k cat has below after g_leaves g_named part part_few p.long p.is half (λ first.
              ap (list_any has_time) (relations_by old tables held opens r told s cat has after (rows_file k) g_leaves g_named (map (option_map schema_in) held.relations) (schemas_long old tables held opens r told s)
              (λ j inside. all_same.relations j inside ∙ was_relation old tables held opens r told s cat has j inside))
              ∙ none_timed (map (option_map schema_in) held.relations) (untimed old tables held opens r told s cat has (inr first)));
          slots = λ j inside. ⊎_elim
              (λ (same : j ≡ k). subst (λ (m : ℕ). (slot_bytes after.files m ≡ relation_slot_bytes (relation after.files m)) ⊎ IsInPart half m (slot_bytes after.files m) (relation after.files m)) (sym same)
              (subst (λ (o : Option Schema). (slot_bytes after.files k ≡ relation_slot_bytes o) ⊎ IsInPart half k (slot_bytes after.files k) o) (sym here)
              (⊎_elim (λ e. inl (stands ∙ e)) (λ e. inr (e.0, subst (λ (b : List ℕ). IsGrownInPart k b was.schema) (sym stands) e.1)) slot_is)))
              (λ (differs : j ≢ k). inl (part_slots old tables held opens r told s k cat has below after g_leaves g_named part part_few p.long p.is j inside differs))
              (cases_eq j k);
          index_slots = part_index_slots old tables held opens r told s k cat has below after g_leaves g_named part part_few p.long p.is;
          emptied = λ j e. absurd (not_emptied j e);
          grown = λ j e. ap (λ (m : ℕ). bytes_named (rows_file m) after.files) (only j e) ∙ g_empty;
          file_there = λ used. g_file;
          file_lone = λ present. inl refl;
          rows = λ schema e. subst (AreRows (mended_catalog after.files).version schema.attributes) (sym g_empty) (none_are_rows (mended_catalog after.files).version schema);
        })

    abbrev begin : ℕ
    begin = 16 + 18 * length was.schema.attributes

    in_part : (upto : ℕ) → 0 < upto → upto ≤ 18 → 16 + 18 * length was.schema.attributes + upto ≤ p.done → p.done ≤ 160 → (upto ≡ 18) ⊎ (16 + 18 * length was.schema.attributes + upto ≡ p.done)
        → take p.done (relation_slot_bytes (Some (longer was.schema a))) ++ drop p.done (relation_slot_bytes (Some was.schema)) ≡ put_at (relation_slot_bytes (Some was.schema)) (16 + 18 * length was.schema.attributes) (take upto (attribute_bytes a))
        → IsGrownInPart k (take p.done (relation_slot_bytes (Some (longer was.schema a))) ++ drop p.done (relation_slot_bytes (Some was.schema))) was.schema
    in_part upto some most inside early edge is =
        let n : ℕ = length was.schema.attributes in
        let at : 16 + 18 * n + 0 ≡ 16 + 18 * n = omega arith in
        let width : upto - 0 ≡ upto = omega arith in record {
          more = a;
          valid = good;
          begin = 0;
          upto = upto;
          inside = (some, most);
          first = inl refl;
          last = ⊎_elim (λ (e : upto ≡ 18). inl e) (λ (e : 16 + 18 * n + upto ≡ p.done). inr (ap (λ (m : ℕ). (176 * k + m) % 128) e ∙ p.ends)) edge;
          fits = λ from all. schema_true 2 (longer was.schema a) (sound.relations k (record { schema = longer was.schema a; rows = [] }) (get_or-set_same (view old.files held opens).relations k (Some (record { schema = longer was.schema a; rows = [] })) None (omega (arith, below, s.eight_relations)))).schema;
          room = less;
          apart = regions_apart (176 * k) n upto p.done inside early p.ends some;
          bytes = is ∙ ap (λ (m : ℕ). put_at (relation_slot_bytes (Some was.schema)) m (take upto (attribute_bytes a))) (sym at) ∙ ap (λ (m : ℕ). put_at (relation_slot_bytes (Some was.schema)) (16 + 18 * n + 0) (take m (attribute_bytes a))) (sym width);
        }
      where
        regions_apart : (from n upto done : ℕ) → 16 + 18 * n + upto ≤ done → done ≤ 160 → (from + done) % 128 ≡ 0 → 0 < upto → (from + 16 + 18 * n + upto - 1) / 128 < (from + 160) / 128
        regions_apart from n upto done inside early ends some = omega (arith, inside, early, ends, some)

    part_cut : IsCutTable after.files
    part_cut = ⊎_elim
        (λ (early : p.done < 161). ⊎_elim
        (λ (before_it : p.done < begin + 1).
        grown_part_table early Nothing (λ j e. let n : ⊥ = cc in n) (λ j e. absurd (let n : ⊥ = cc in n)) (inl (grown_none was.schema a fits_was fits_next p.done (omega (arith, before_it)))))
        (λ (behind : begin + 1 ≤ p.done). ⊎_elim
        (λ (within : p.done < begin + 18).
        let upto : ℕ = p.done - begin in
        let sum : p.done ≡ begin + upto = omega (arith, behind) in
        grown_part_table early (Growing k) (λ j e. let n : ⊥ = cc in n) (λ j e. sym (growing_same k j e)) (inr (
          refl,
          in_part upto (omega (arith, behind)) (omega (arith, within)) (omega (arith, sum)) (omega (arith, early)) (inr (sym sum)) (grown_some was.schema a fits_was fits_next p.done upto sum (omega (arith, within))),
        )))
        (λ (past : begin + 18 ≤ p.done).
        let m : ℕ = p.done - (begin + 18) in
        let sum : p.done ≡ begin + 18 + m = omega (arith, past) in
        let all : take 18 (attribute_bytes a) ≡ attribute_bytes a = take_all 18 (attribute_bytes a) (let n = attribute_size was.schema a fits_was fits_next in omega (arith, n)) in
        grown_part_table early (Growing k) (λ j e. let n : ⊥ = cc in n) (λ j e. sym (growing_same k j e)) (inr (
          refl,
          in_part 18 (omega arith) (omega arith) (omega (arith, past)) (omega (arith, early)) (inl refl)
              (grown_all was.schema a fits_was fits_next p.done m sum (omega (arith, early)) ∙ ap (put_at (relation_slot_bytes (Some was.schema)) begin) (sym all)),
        )))
        (cases_lt p.done (begin + 18)))
        (cases_lt p.done (begin + 1)))
        (λ (late : 161 ≤ p.done).
        let width : length slot ≡ 176 = slot_long in
        let is : take p.done slot ++ drop p.done (slice_range (bytes_at old.files cat) (176 * k) (176 * k + length slot)) ≡ slot =
        ap (λ (m : ℕ). take p.done slot ++ drop p.done (slice_range (bytes_at old.files cat) (176 * k) (176 * k + m))) width ∙ whole_part slot (grown_whole was.schema a fits_was fits_next p.done late) in
        grown_whole_table (subst (IsWhole (bytes_at old.files cat) (176 * k) slot)
        (sym (p.is ∙ part_whole (bytes_at old.files cat) slot (176 * k) p.done (omega (arith, p.less)) (omega (arith, width, p.long, below)) is))
        (put_all old tables held opens r told s k cat has below (Some (longer was.schema a)) more_back p.long)))
        (cases_lt p.done 161)
      where
        growing_same : (m j : ℕ) → Growing m ≡ Growing j → m ≡ j
        growing_same m j e = cc

  attribute_cut : IsCutTable after.files
  attribute_cut = by_cut (cut_of old tables held opens r told s k cat has below after (Some (longer was.schema a)) more_back w.1)
    where
      by_cut : IsCutIn (bytes_at old.files cat) (176 * k) (relation_slot_bytes (Some (longer was.schema a))) (bytes_at after.files cat) → IsCutTable after.files
      by_cut (inl same) = unchanged_table old tables held opens r told s k cat has below was there after w.0 same
      by_cut (inr (inl whole)) = grown_whole_table whole
      by_cut (inr (inr (inl part))) = part_cut part
      by_cut (inr (inr (inr short))) = absurd (let z = long in omega (arith, z, short.none))

-- a relation without rows was to have one attribute more
pub grown_table : (old : State) (tables : Tables) (held : Held) (opens : List (Option Open)) (r : IsRunning old tables held opens) (told : IsTrue old.tells) (s : IsSoundDatabase (view old.files held opens))
    (k cat : ℕ) (has : held.cat ≡ Some cat) (below : k < 8) (was now : Tuples) → get_or held.relations k None ≡ Some was → slots old.files was ≡ 0 → IsLonger was now
    → IsSoundDatabase (changed_at (view old.files held opens) k (Some (record { schema = now.schema; rows = [] }))) → (after : State) → MayPutSlot old after cat k (Some now.schema) → IsCutTable after.files
grown_table old tables held opens r told s k cat has below was now there none more sound after w =
    let same : now.schema ≡ longer was.schema more.attribute = λ i. record { name = more.name i; attributes = more.attributes i } in
    let few : length (longer was.schema more.attribute).attributes ≤ 8 = subst (λ (z : Schema). length z.attributes ≤ 8) same more.few in
    let back = held_back old tables held opens k cat was r has below there told in
    attribute_cut old tables held opens r told s k cat has below was there none more.attribute more.good few
    (subst (λ (z : Schema). IsReadBack (Some z)) same (longer_back was now more back))
    (subst (λ (z : Schema). IsSoundDatabase (changed_at (view old.files held opens) k (Some (record { schema = z; rows = [] })))) same sound)
    after (subst (λ (z : Schema). MayPutSlot old after cat k (Some z)) same w)
