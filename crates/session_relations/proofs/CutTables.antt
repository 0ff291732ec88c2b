-- Files that a cut in the middle of REMOVE RELATION or CREATE RELATION leaves.
use Rattle.std.proofs.Common.{◌≡◌, ◌≢◌, ◌⊎◌, inl, inr, ⊎_elim, ℕ, zero, suc, ◌+◌, ◌-◌, ◌*◌, ◌/◌, ◌%◌, ◌<◌, ◌≤◌, ◌==◌, Bool, true, false, List, [], ◌∷◌, ◌++◌, length, map, take, drop, set, get_or, replicate, Option, Some, None, is_some, if◌then◌else◌, refl, ap, sym, subst, ◌∙◌, arith, IsTrue, append_assoc, length-append}
use Rattle.std.specs.Prelude.{flat_map, option_map, slice_range, unwrap_or}
use Rattle.std.specs.List.{AllByRecursion, list_any}
use Rattle.std.specs.Option.{option_map_or}
use Rattle.std.proofs.Math.Nat.{zero-div}
use Rattle.std.proofs.lemmas.Bool.{cases_eq, cases_lt}
use Rattle.std.proofs.lemmas.List.{drop_at, get_or-set_other, get_or-set_same, length-take-le, nil_from_length, take-append-le, take-replicate, take_all, length-set}
use Rattle.std.proofs.lemmas.List.Concat.{flat_map-cons}
use Rattle.std.proofs.lemmas.List.FromFn.{get_or-map-range_with_len}
use Rattle.afl_base.specs.declared.kind.Kind.TheVariants.{Fixed, Doubling}
use Rattle.afl_base.specs.Fields.{put_at}
use Rattle.afl_base.specs.Frames.{SparesOthers}
use Rattle.afl_base.proofs.FieldLaws.{length-put_at}
use Rattle.afl_base.specs.Files.{Creates, File, IsNamed, IsUnnamed, State, Table, bytes_at, file_at, place, no_file}
use Rattle.catalog.specs.CatalogFile.{IsCatalogSize, ReplacesFront}
use Rattle.catalog.specs.Rules.{catalog_bytes_in, is_schema, is_stranger, has_form}
use Rattle.catalog.proofs.Named.{named_none}
use Rattle.catalog.proofs.PutRanges.{before_put, behind_put}
use Rattle.catalog.proofs.Replaced.{IsReadBack, read_back}
use Rattle.db_model.specs.declared.schemas.Attribute.{Attribute}
use Rattle.db_model.specs.declared.schemas.Domain.{Domain}
use Rattle.db_model.specs.declared.schemas.Domain.TheVariants.{Int, Long, Time, Str}
use Rattle.db_model.specs.declared.schemas.Schema.{Schema}
use Rattle.db_model.specs.Between.{AreAlike}
use Rattle.db_model.specs.Catalog.{Index, catalog_bytes, empty_bytes, in_version_2, index_slot_bytes, relation_at, relation_slot_bytes, version_mark, with_relation_slot, with_slot, IsAttribute, catalog_of, empty_catalog, index_at, index_slot_of, relation_slot_of, version_of, attribute_bytes}
use Rattle.db_model.specs.Database.{Database, Relation, bare, free_from, with_relation}
use Rattle.db_model.specs.Names.{is_name}
use Rattle.db_model.specs.Row.{Row, row_length, rows_bytes, rows_of, slots_in_bytes}
use Rattle.db_model.specs.Sound.{IsSoundDatabase, IsSoundAttribute, IsSoundSchema}
use Rattle.db_model.specs.Step.{slots_limit}
use Rattle.index_set.specs.Tables.{Tables}
use Rattle.padded.specs.Padded.{padded}
use Rattle.padded.proofs.Facts.{by_truth, none_some, seen_at, some_same, either_way, either_part, neither_left, neither_right, other_side}
use Rattle.space_model.specs.Enough.{rows_in}
use Rattle.space_model.specs.FileNames.{bytes_named, catalog_file, is_there, rows_file, tree_file, bytes_in_file}
use Rattle.stored.specs.CutTables.{IsBehindSlot, IsCutTable, IsTimed, relation, slot_bytes, HasMark, IsFirstInPart, first_catalog, IsGrownInPart}
use Rattle.stored.specs.Mended.{has_time, mended_base, mended_catalog, whole_bytes, whole_catalog, is_time_domain}
use Rattle.stored.specs.declared.half.Half.{Half}
use Rattle.stored.specs.declared.half.Half.TheVariants.{Emptying, Growing, LoneRows, Nothing}
use Rattle.stored.proofs.CatalogParts.{back_same, bare_end, bare_slot, here_part, length-with_slot, name_size, over_relation, reads_same, relation_part, replaced_relation, unused_slot, FitsSlot, attribute_size, grown_all, grown_less, grown_none, grown_some, grown_whole, relation_not_changed}
use Rattle.stored.proofs.FilesOf.{IsNumbered, by_kind}
use Rattle.stored.proofs.MendedBase.{relation_read, whole_long}
use Rattle.stored.proofs.MendedTables.{ReadsRelation, ReadsSame}
use Rattle.tuple_file.specs.declared.tuples.Tuples.{Tuples}
use Rattle.tuple_file.proofs.Columns.{rows_counted}
use Rattle.tuple_file.specs.Tuples.{AreRows, rows, slots}
use Rattle.session_model.specs.declared.held.Held.{Held}
use Rattle.session_model.specs.declared.held.Indexed.{Indexed}
use Rattle.session_model.specs.declared.held.Open.{Open}
use Rattle.session_model.specs.Frames.{LeavesOthers, schema_in}
use Rattle.session_model.specs.Indexed.{index_known}
use Rattle.session_model.specs.Running.{HasCatalogFile, IsRunning, IsWritten, IsIndexSlot, IsRelationSlot}
use Rattle.session_model.specs.View.{relation_of_rows, view}
use Rattle.session_model.proofs.Catalogs.{with_catalog, catalog_there}
use Rattle.session_model.proofs.CutCatalogs.{leaves_spares, relation_alike, rows_there_kept, slots_alike, rows_kept}
use Rattle.session_model.proofs.CutForms.{IsCutIn, IsFrontOf, IsPart, IsShort, IsWhole, cut_in, front_index_slots, front_mark, front_relations, front_slots, front_long, part_whole, put_whole, front_size}
use Rattle.session_model.proofs.CutHeld.{RelationCut, cut_held, now_bytes, one_or_two, relation_cut, relations_by, rows_later, schemas_seen, was_relation, were_rows, schemas_long}
use Rattle.session_model.proofs.CutPuts.{empty_none, first_version, front_first, front_later, same_index_slots, same_later, same_mark, same_slots, same_whole, size, untimed, written_old, written_or, empty_indexes, none_timed}
use Rattle.session_model.proofs.CutSlots.{schema_of, IsInPart}
use Rattle.session_model.proofs.Grown.{no_bytes, no_items}
use Rattle.session_model.proofs.Rules.{formed, schema_true, stranger_none}
use Rattle.session_model.proofs.Running.{catalog_no_rows, catalog_no_tree, row_no_tree, rows_apart, relation_there}
use Rattle.session_model.proofs.Sound.{rows_there, seen, named_bytes}
use Rattle.session_model.proofs.Written.{relation_written}
use Rattle.session_relations.specs.Changes.{MayMakeSlot, MayPutSlot, MayTakeSlot, bare_relation, bare_schema, changed_at, IsLonger}
use Rattle.session_relations.proofs.CutViews.{all_rows, all_trees, none_written, other_rows, rows_of_none, slot_written}
use Rattle.session_relations.proofs.Grown.{held_back, longer_back}
use Rattle.session_relations.proofs.ReadBack.{longer, short_of}
use Rattle.session_relations.proofs.Shown.{shows_made}
use Rattle.session_relations.proofs.CutPlaces.{no_schema, none_are_rows, schema_read, same_table, whole_table, version_now, cut_of, part_relation, part_later, part_long, part_mark, part_slots, part_index_slots, part_catalog, put_all}

-- ---- REMOVE RELATION

module _ (old : State) (tables : Tables) (held : Held) (opens : List (Option Open)) (r : IsRunning old tables held opens) (told : IsTrue old.tells) (s : IsSoundDatabase (view old.files held opens))
    (k cat : ℕ) (has : held.cat ≡ Some cat) (below : k < 8) where
  abbrev pub bytes : List ℕ
  bytes = bytes_at old.files cat

  abbrev pub schemas : List (Option Schema)
  schemas = map (option_map schema_in) held.relations

  abbrev pub knowns : List (Option Index)
  knowns = map (option_map index_known) held.indexes

  cleared : (n : ℕ) (rest : List ℕ) → 0 < n → relation_slot_of (take n (relation_slot_bytes None) ++ rest) ≡ None
  cleared zero rest some = absurd (omega (arith, some))
  cleared (suc n) rest some = refl

  -- the attributes of a sound schema may be written
  good_attributes : (v : ℕ) (list : List Attribute) → AllByRecursion (IsSoundAttribute v) list → AllByRecursion IsAttribute list
  good_attributes v [] h = tt
  good_attributes v (a ∷ list) h = ((h.0.name, h.0.domain), good_attributes v list h.1)

  module _ (u : Tuples) (there : get_or held.relations k None ≡ Some u) where
    pub schema_there : get_or schemas k None ≡ Some u.schema
    schema_there = seen_at schema_in held.relations k ∙ ap (option_map schema_in) there

    pub long_there : 1472 ≤ length bytes
    long_there = by_size (size old tables held opens r told s cat has)
      where
        by_size : IsCatalogSize (length (bytes_at old.files cat)) → 1472 ≤ length (bytes_at old.files cat)
        by_size (inl none) = absurd (none_some u.schema (sym (empty_none old tables held opens r told s cat has none k) ∙ schema_there))
        by_size (inr (inl e)) = omega (arith, e)
        by_size (inr (inr e)) = omega (arith, e)

    -- where only the catalog changes its file is there still
    module _ (after : State) (spared : SparesOthers old after (λ j. j ≢ cat)) where
      catalog_named : IsNamed old.files cat catalog_file
      catalog_named = (catalog_there old tables held opens cat r has).0

      pub put_leaves : LeavesOthers old after (rows_file k)
      put_leaves = leaves_spares old after cat (rows_file k) catalog_named spared

      pub put_named : IsNamed after.files cat catalog_file
      put_named = spared.named cat ∙ catalog_named

      pub rows_here : bytes_named (rows_file k) after.files ≡ bytes_named (rows_file k) old.files
      rows_here = rows_kept old after tables held opens r catalog_file (leaves_spares old after cat catalog_file catalog_named spared) k below (λ e. catalog_no_rows k (sym e))

      pub file_here : is_there (rows_file k) after.files ≡ true
      file_here =
          rows_there_kept old after tables held opens r catalog_file (leaves_spares old after cat catalog_file catalog_named spared) k below (λ e. catalog_no_rows k (sym e))
          ∙ rows_there old tables held opens r told s k below ∙ ap is_some schema_there

      pub unchanged_table : bytes_at after.files cat ≡ bytes → IsCutTable after.files
      unchanged_table same =
          same_table old tables held opens r told s k cat has below after put_leaves put_named same long_there rows_here Nothing (λ j e. let n : ⊥ = cc in n) (λ j e. let n : ⊥ = cc in n) (λ used. file_here) (λ present. inl (ap is_some schema_there))

    -- no index is on it
    module _ (sound : IsSoundDatabase (changed_at (view old.files held opens) k None)) where
      not_indexed : (i : ℕ) (x : Index) → get_or knowns i None ≡ Some x → x.relation ≡ k → ⊥
      not_indexed i x e on =
          let at = sound.indexes i x e in
          let inside : k < length (view old.files held opens).relations = omega (arith, below, s.eight_relations) in
          none_some at.relation (sym (get_or-set_same (view old.files held opens).relations k None None inside) ∙ ap (λ (m : ℕ). get_or (set (view old.files held opens).relations k None) m None) (sym on) ∙ at.stands)

      taken_whole : (after : State) (l : LeavesOthers old after (rows_file k)) (named : IsNamed after.files cat catalog_file) → IsWhole bytes (176 * k) (relation_slot_bytes None) (bytes_at after.files cat) → IsCutTable after.files
      taken_whole after l named w = by_truth (is_there (rows_file k) after.files)
          (λ (present : is_there (rows_file k) after.files ≡ true). by_half (LoneRows k) tt (λ j e. let n : ⊥ = cc in n) (λ j e. let n : ⊥ = cc in n) (λ t. inr refl))
          (λ (gone : is_there (rows_file k) after.files ≡ false). by_half Nothing tt (λ j e. let n : ⊥ = cc in n) (λ j e. let n : ⊥ = cc in n) (λ t. absurd (let e = sym gone ∙ t in let n : ⊥ = cc in n)))
        where
          by_half : (half : Half) → IsBehindSlot half → ((j : ℕ) → half ≡ Emptying j → ⊥) → ((j : ℕ) → half ≡ Growing j → ⊥)
              → (is_there (rows_file k) after.files ≡ true → (is_some no_schema ≡ true) ⊎ (half ≡ LoneRows k)) → IsCutTable after.files
          by_half half behind a b lone =
              whole_table old tables held opens r told s k cat has below after l named None (read_back None tt) w half None refl sound (λ i x e on. absurd (not_indexed i x e on))
              (λ e. inl (version_now old tables held opens r told s k cat has below after l named None (read_back None tt) w (λ schema none. absurd (none_some schema none)) e)) behind a b
              (λ used. absurd (let n : ⊥ = cc in n)) lone (λ schema none. absurd (none_some schema none))

      emptied_table : (after : State) → SparesOthers old after (λ j. j ≢ cat) → IsPart bytes (176 * k) (relation_slot_bytes None) (bytes_at after.files cat) → IsCutTable after.files
      emptied_table after spared p =
          let slot : List ℕ = relation_slot_bytes None in
          let part : List ℕ = take p.done slot in
          let n : length part ≡ p.done = length-take-le p.done slot (omega (arith, p.less)) in
          let few : length part ≤ 176 = omega (arith, n, p.less) in
          let l = put_leaves after spared in
          let named = put_named after spared in
          let read : ReadsRelation bytes (bytes_at after.files cat) k None =
          subst (λ (b : List ℕ). ReadsRelation bytes b k None) (sym p.is)
          (over_relation bytes slot p.done p.long k None refl (omega (arith, p.less)) below (cleared p.done (drop p.done (slice_range bytes (176 * k) (176 * k + 176))) p.some)) in
          let here : relation after.files k ≡ None = part_relation old tables held opens r told s k cat has below after l named part few p.long p.is k below ∙ ap (λ (b : List ℕ). relation_at b k) (ap whole_bytes (now_bytes old tables held opens r told s cat has after (rows_file k) l named)) ∙ read.here in
          let inside : k < length (view old.files held opens).relations = omega (arith, below, s.eight_relations) in
          relation_cut old tables held opens r told s cat k after (Emptying k) (changed_at (view old.files held opens) k None) None (record {
            has = has;
            leaves = l;
            named = named;
            below = below;
            read = read;
            like = relation_alike old after tables held opens r told cat has (rows_file k) l named k None None below read
                (other_rows old tables held opens r told k cat has below after l) (all_trees old tables held opens r told k cat has below after l) refl;
            sound = sound;
            here = ap (option_map schema_of) (get_or-set_same (view old.files held opens).relations k None None inside);
            others = λ j differs. get_or-set_other (view old.files held opens).relations k j None None differs;
            indexes = refl;
            same_keys = λ i x e. ⊎_elim
                (λ (on : x.relation ≡ k). absurd (not_indexed i x e on))
                (λ (differs : x.relation ≢ k). ap (λ (z : Option Relation). option_map_or (λ (y : Relation). y.rows) z []) (get_or-set_other (view old.files held opens).relations k x.relation None None differs))
                (cases_eq x.relation k);
            later = λ j schema e. part_later old tables held opens r told s k cat has below after l named part few p.long p.is;
            whole = part_long old tables held opens r told s k cat has below after l named part few p.long p.is;
            mark = part_mark old tables held opens r told s k cat has below after l named part few p.long p.is (Emptying k) (λ first.
                ap (list_any has_time) (relations_by old tables held opens r told s cat has after (rows_file k) l named (set schemas k None) (length-set schemas k None ∙ schemas_long old tables held opens r told s) (each read))
                ∙ none_timed (set schemas k None) (untimed_none first));
            slots = λ j within. ⊎_elim
                (λ (same : j ≡ k). subst (λ (m : ℕ). (slot_bytes after.files m ≡ relation_slot_bytes (relation after.files m)) ⊎ IsInPart (Emptying k) m (slot_bytes after.files m) (relation after.files m)) (sym same)
                (subst (λ (o : Option Schema). (slot_bytes after.files k ≡ relation_slot_bytes o) ⊎ IsInPart (Emptying k) k (slot_bytes after.files k) o) (sym here) (inr (
                  refl,
                  record {
                    was = u.schema;
                    valid = (sound_schema.name, sound_schema.few, good_attributes held.version u.schema.attributes sound_schema.attributes);
                    at = p.done;
                    inside = (p.some, omega (arith, p.less));
                    edge = p.ends;
                    bytes =
                        ap (λ (b : List ℕ). slice_range b (176 * k) (176 * k + 176)) (part_catalog old tables held opens r told s k cat has below after l named part few p.long p.is)
                        ∙ here_part bytes slot (176 * k) 176 p.done refl (omega (arith, p.less)) (omega (arith, p.long, below))
                        ∙ ap (λ (xs : List ℕ). xs ++ drop p.done (slice_range bytes (176 * k) (176 * k + 176))) (front_zeros p.done p.less)
                        ∙ ap (λ (xs : List ℕ). replicate p.done 0 ++ drop p.done xs) (slot_written old tables held opens r told k cat has below (Some u) there p.long);
                  },
                ))))
                (λ (differs : j ≢ k). inl (part_slots old tables held opens r told s k cat has below after l named part few p.long p.is j within differs))
                (cases_eq j k);
            index_slots = part_index_slots old tables held opens r told s k cat has below after l named part few p.long p.is;
            emptied = λ j e. sym (cc);
            grown = λ j e. absurd (let z : ⊥ = cc in z);
            file_there = λ used. file_here after spared;
            file_lone = λ present. inr (inr refl);
            rows = λ schema none. absurd (none_some schema none);
          })
        where
          sound_schema : IsSoundSchema held.version u.schema
          sound_schema = (s.relations k (relation_of_rows old.files u) (seen (relation_of_rows old.files) held.relations k u there)).schema

          schemas_eight' : length (map (option_map schema_in) held.relations) ≡ 8
          schemas_eight' = schemas_long old tables held opens r told s

          front_zeros : (n : ℕ) → n < 176 → take n (relation_slot_bytes None) ≡ replicate n 0
          front_zeros n less = take-append-le n (replicate 175 0) (1 ∷ []) (omega (arith, less)) ∙ take-replicate n 175 0 (omega (arith, less))

          each : ReadsRelation (bytes_at old.files cat) (bytes_at after.files cat) k None → (j : ℕ) → j < 8 → relation_at (whole_bytes (bytes_at after.files cat)) j ≡ get_or (set (map (option_map schema_in) held.relations) k None) j None
          each read j there = ⊎_elim
              (λ (same : j ≡ k). ap (relation_at (whole_bytes (bytes_at after.files cat))) same ∙ read.here ∙ sym (get_or-set_same (map (option_map schema_in) held.relations) k None None (omega (arith, below, schemas_eight'))) ∙ ap (λ (m : ℕ). get_or (set (map (option_map schema_in) held.relations) k None) m None) (sym same))
              (λ (differs : j ≢ k). read.relations j there differs ∙ was_relation old tables held opens r told s cat has j there ∙ sym (get_or-set_other (map (option_map schema_in) held.relations) k j None None differs))
              (cases_eq j k)

          untimed_none : length (bytes_at old.files cat) ≡ 1472 → (j : ℕ) (schema : Schema) → get_or (set (map (option_map schema_in) held.relations) k None) j None ≡ Some schema → has_time (Some schema) ≡ false
          untimed_none first j schema at = ⊎_elim
              (λ (same : j ≡ k). absurd (none_some schema (sym (get_or-set_same (map (option_map schema_in) held.relations) k None None (omega (arith, below, schemas_eight'))) ∙ ap (λ (m : ℕ). get_or (set (map (option_map schema_in) held.relations) k None) m None) (sym same) ∙ at)))
              (λ (differs : j ≢ k). untimed old tables held opens r told s cat has (inr first) j schema (sym (get_or-set_other (map (option_map schema_in) held.relations) k j None None differs) ∙ at))
              (cases_eq j k)

      -- the slot was being emptied, or is empty
      pub taken_table : (after : State) → MayTakeSlot old after cat k → IsCutTable after.files
      taken_table after (inl w) = by_cut (cut_of old tables held opens r told s k cat has below after None (read_back None tt) w.1)
        where
          by_cut : IsCutIn (bytes_at old.files cat) (176 * k) (relation_slot_bytes None) (bytes_at after.files cat) → IsCutTable after.files
          by_cut (inl same) = unchanged_table after w.0 same
          by_cut (inr (inl whole)) = taken_whole after (put_leaves after w.0) (put_named after w.0) whole
          by_cut (inr (inr (inl part))) = emptied_table after w.0 part
          by_cut (inr (inr (inr short))) = absurd (let z = long_there in omega (arith, z, short.none))
      taken_table after (inr p) = taken_whole after p.leaves p.bytes.named (record {
        front = record {
          upto = 1480;
          some = omega arith;
          most = omega arith;
          is = p.bytes.bytes told ∙ sym (take_all 1480 (with_slot bytes (176 * k) (relation_slot_bytes None)) (omega (arith, long)));
          long = long;
          written = relation_written bytes k None (size old tables held opens r told s cat has) below (read_back None tt) (written_or old tables held opens r told s cat has);
        };
        first = λ e. absurd (omega (arith, e));
        later = λ e. refl;
      })
        where
          long : length (with_slot (bytes_at old.files cat) (176 * k) (relation_slot_bytes None)) ≡ 1480
          long = length-with_slot (bytes_at old.files cat) (relation_slot_bytes None) (176 * k) (size old tables held opens r told s cat has) (omega (arith, below))

-- ---- CREATE RELATION

-- the first slot is free where it is unused
first_free : {A : Type 0} (slots : List (Option A)) (k : ℕ) → get_or slots 0 None ≡ None → free_from 0 slots ≡ Some k → k ≡ 0
first_free [] k none free = absurd (none_some k free)
first_free (None ∷ slots) k none free = sym (some_same 0 k free)
first_free (Some x ∷ slots) k none free = absurd (none_some x (sym none))

-- nothing is held where nothing is read
held_none : {A B : Type 0} (f : A → B) (o : Option A) → option_map f o ≡ None → o ≡ None
held_none f None e = refl
held_none f (Some x) e = absurd (none_some (f x) (sym e))

-- the first catalog, as it is put into an empty one
first_put : (name : List ℕ) → length (relation_slot_bytes (Some (bare_schema name))) ≡ 176
    → with_slot [] 0 (relation_slot_bytes (Some (bare_schema name))) ≡ catalog_bytes (first_catalog name)
unfolding empty_bytes
first_put name long =
    let slot : List ℕ = relation_slot_bytes (Some (bare_schema name)) in
    let unused : List ℕ = relation_slot_bytes None in
    let others : List ℕ = flat_map relation_slot_bytes (replicate 7 None) in
    let indexes : List ℕ = flat_map index_slot_bytes (replicate 8 None) in
    let rest : List ℕ = others ++ indexes ++ version_mark in
    let parts : (first : List ℕ) → (first ++ others) ++ indexes ++ version_mark ≡ first ++ rest =
    λ first. ap (λ (xs : List ℕ). xs ++ version_mark) (append_assoc first others indexes) ∙ append_assoc first (others ++ indexes) version_mark in
    let empty : catalog_bytes empty_catalog ≡ unused ++ rest =
    ap (λ (xs : List ℕ). xs ++ indexes ++ version_mark) (flat_map-cons relation_slot_bytes None (replicate 7 None)) ∙ parts unused in
    let first : catalog_bytes (first_catalog name) ≡ slot ++ rest =
    ap (λ (xs : List ℕ). xs ++ indexes ++ version_mark) (flat_map-cons relation_slot_bytes (Some (bare_schema name)) (replicate 7 None)) ∙ parts slot in
    let zero_on : 0 + length slot ≡ 176 = omega (arith, long) in
    ap (λ (n : ℕ). slot ++ drop n (catalog_bytes empty_catalog)) zero_on
    ∙ ap (λ (xs : List ℕ). slot ++ drop 176 xs) empty
    ∙ ap (λ (xs : List ℕ). slot ++ xs) (drop_at unused rest 176 refl)
    ∙ sym first

module _ (old : State) (tables : Tables) (held : Held) (opens : List (Option Open)) (r : IsRunning old tables held opens) (told : IsTrue old.tells) (s : IsSoundDatabase (view old.files held opens))
    (k cat : ℕ) (has : held.cat ≡ Some cat) (below : k < 8) (after : State) (name : List ℕ) (free : get_or held.relations k None ≡ None) (lowest : free_from 0 held.relations ≡ Some k) (good : IsTrue (is_name name))
    (sound : IsSoundDatabase (changed_at (view old.files held opens) k (Some (bare_relation name)))) (w : MayMakeSlot old after cat k (bare_schema name)) where
  abbrev made : Option Schema
  made = Some (bare_schema name)

  made_back : IsReadBack (Some (bare_schema name))
  made_back = read_back (Some (bare_schema name)) (good, omega arith, tt)

  none_here : get_or (map (option_map schema_in) held.relations) k None ≡ None
  none_here = seen_at schema_in held.relations k ∙ ap (option_map schema_in) free

  rows_was : bytes_named (rows_file k) old.files ≡ []
  rows_was =
      let P : Option Tuples → Type 0 = λ o. IsRelationSlot old held.version k o in
      ap bytes_in_file (named_none old.files (rows_file k) (subst P free (r.relations k below)))

  rows_now : bytes_named (rows_file k) after.files ≡ []
  rows_now = none_written after.files (rows_file k) w.empty

  -- ---- there was no catalog

  module _ (none : length (bytes_at old.files cat) ≡ 0) where
    k_is : k ≡ 0
    k_is = first_free held.relations k (held_none schema_in (get_or held.relations 0 None) (sym (seen_at schema_in held.relations 0) ∙ empty_none old tables held opens r told s cat has none 0)) lowest

    alone : (id : ℕ) (f : File) → place after.files id ≡ Some f → (f.name ≡ catalog_file) ⊎ ((f.name ≡ rows_file 0) × (f.bytes ≡ []))
    alone id f e = ⊎_elim
        (λ (c : (f.name ≡ catalog_file) × (f.kind ≡ Fixed 6)). inl c.0)
        (λ (n : (IsNumbered 84 f.name ⊎ IsNumbered 88 f.name) × (f.kind ≡ Doubling)). ⊎_elim
        (λ (m : IsNumbered 84 f.name).
        let own : IsNamed after.files id (rows_file m.slot) = ap (option_map (λ (x : File). x.name)) e ∙ ap (λ (n : List ℕ). Some n) m.is in
        ⊎_elim
        (λ (same : m.slot ≡ k). inr (
          m.is ∙ ap rows_file (same ∙ k_is),
          sym (ap (λ (o : Option File). (unwrap_or o no_file).bytes) e) ∙ w.empty id (subst (λ (j : ℕ). IsNamed after.files id (rows_file j)) same own),
        ))
        (λ (differs : m.slot ≢ k).
        let P : Option Tuples → Type 0 = λ o. IsRelationSlot old held.version m.slot o in
        let missing : IsUnnamed old.files (rows_file m.slot) =
        subst P (held_none schema_in (get_or held.relations m.slot None) (sym (seen_at schema_in held.relations m.slot) ∙ empty_none old tables held opens r told s cat has none m.slot)) (r.relations m.slot m.below) in
        absurd (w.leaves.unnamed (rows_file m.slot) (λ x. catalog_no_rows m.slot (sym x)) (rows_apart m.slot k differs) missing id own))
        (cases_eq m.slot k))
        (λ (m : IsNumbered 88 f.name).
        let own : IsNamed after.files id (tree_file m.slot) = ap (option_map (λ (x : File). x.name)) e ∙ ap (λ (n : List ℕ). Some n) m.is in
        let P : Option Indexed → Type 0 = λ o. IsIndexSlot old tables held m.slot o in
        let missing : IsUnnamed old.files (tree_file m.slot) =
        subst P (held_none index_known (get_or held.indexes m.slot None) (sym (seen_at index_known held.indexes m.slot) ∙ empty_indexes old tables held opens r told s cat has none m.slot)) (r.indexes m.slot m.below) in
        absurd (w.leaves.unnamed (tree_file m.slot) (λ x. catalog_no_tree m.slot (sym x)) (λ x. row_no_tree k m.slot (sym x)) missing id own))
        n.0)
        (by_kind f.name f.kind (w.leaves.known r.known id f e))

    begun_table : (catalog_bytes_in after.files ≡ []) ⊎ IsFirstInPart after.files → length (catalog_bytes_in after.files) < 1472 → IsCutTable after.files
    begun_table catalog short = record {
      known = stranger_none after.files (w.leaves.known r.known);
      done = inl (record { short = short; alone = alone; catalog = catalog });
    }

    now_here : catalog_bytes_in after.files ≡ bytes_at after.files cat
    now_here = now_bytes old tables held opens r told s cat has after (rows_file k) w.leaves w.named

    short_table : is_there (rows_file k) after.files ≡ true → IsShort (bytes_at old.files cat) (176 * k) (relation_slot_bytes (Some (bare_schema name))) (bytes_at after.files cat) → IsCutTable after.files
    short_table there p =
        let slot : List ℕ = relation_slot_bytes (Some (bare_schema name)) in
        let inside : 176 * k + length slot ≤ 1472 = let n : length slot ≡ 176 = made_back.0 in omega (arith, n, below) in
        let whole : with_slot (bytes_at old.files cat) (176 * k) slot ≡ catalog_bytes (first_catalog name) =
        ap (λ (b : List ℕ). with_slot b (176 * k) slot) (nil_from_length (bytes_at old.files cat) none) ∙ ap (λ (n : ℕ). with_slot [] (176 * n) slot) k_is ∙ first_put name made_back.0 in
        let long : length (with_slot (bytes_at old.files cat) (176 * k) slot) ≡ 1480 = length-with_slot (bytes_at old.files cat) slot (176 * k) (size old tables held opens r told s cat has) inside in
        let is : catalog_bytes_in after.files ≡ take p.done (with_slot (bytes_at old.files cat) (176 * k) slot) = now_here ∙ p.is in
        let n : length (catalog_bytes_in after.files) ≡ p.done = ap length is ∙ length-take-le p.done (with_slot (bytes_at old.files cat) (176 * k) slot) (omega (arith, long, p.few)) in
        begun_table (inr (record {
          name = name;
          valid = schema_true 2 (bare_schema name) (sound.relations k (bare_relation name) (get_or-set_same (view old.files held opens).relations k (Some (bare_relation name)) None (omega (arith, below, s.eight_relations)))).schema;
          front = is ∙ ap (λ (b : List ℕ). take p.done b) whole ∙ ap (λ (m : ℕ). take m (catalog_bytes (first_catalog name))) (sym n);
          rows = subst (λ (j : ℕ). is_there (rows_file j) after.files ≡ true) k_is there;
        })) (omega (arith, n, p.few))

  -- ---- the catalog has its bytes

  unmade_table : bytes_at after.files cat ≡ bytes_at old.files cat → IsCutTable after.files
  unmade_table same = by_size (size old tables held opens r told s cat has)
    where
      with_slots : 1472 ≤ length (bytes_at old.files cat) → IsCutTable after.files
      with_slots long =
          same_table old tables held opens r told s k cat has below after w.leaves w.named same long (rows_now ∙ sym rows_was) (LoneRows k)
          (λ j e. let n : ⊥ = cc in n) (λ j e. let n : ⊥ = cc in n)
          (λ used. absurd (let e = sym used ∙ ap is_some none_here in let n : ⊥ = cc in n)) (λ there. inr refl)

      by_size : IsCatalogSize (length (bytes_at old.files cat)) → IsCutTable after.files
      by_size (inl none) =
          let empty : catalog_bytes_in after.files ≡ [] = now_here none ∙ same ∙ nil_from_length (bytes_at old.files cat) none in
          begun_table none (inl empty) (let n : length (catalog_bytes_in after.files) ≡ 0 = ap (λ (b : List ℕ). length b) empty in omega (arith, n))
      by_size (inr (inl e)) = with_slots (omega (arith, e))
      by_size (inr (inr e)) = with_slots (omega (arith, e))

  -- ---- the slot is put

  made_whole : is_there (rows_file k) after.files ≡ true → IsWhole (bytes_at old.files cat) (176 * k) (relation_slot_bytes (Some (bare_schema name))) (bytes_at after.files cat) → IsCutTable after.files
  made_whole there p =
      whole_table old tables held opens r told s k cat has below after w.leaves w.named (Some (bare_schema name)) made_back p Nothing (Some (bare_relation name))
      (ap (λ (xs : List ℕ). Some (relation_read xs (bare_schema name))) rows_now ∙ ap (λ (rs : List Row). Some (record { schema = bare_schema name; rows = rs })) (rows_of_none (bare_schema name)))
      sound
      (λ i x e on. sym (ap (λ (z : Option Relation). option_map_or (λ (y : Relation). y.rows) z []) (seen_at (relation_of_rows old.files) held.relations k ∙ ap (option_map (relation_of_rows old.files)) free)))
      (λ e. inl (version_now old tables held opens r told s k cat has below after w.leaves w.named (Some (bare_schema name)) made_back p (λ schema is. sym (ap (λ (z : Schema). has_time (Some z)) (some_same (bare_schema name) schema is))) e))
      tt (λ j e. let n : ⊥ = cc in n) (λ j e. let n : ⊥ = cc in n) (λ used. there) (λ present. inl refl) (λ schema is. rows_now)

  -- a new relation was being made
  pub created_table : IsCutTable after.files
  created_table = ⊎_elim (λ same. unmade_table same) (λ there. by_cut there (cut_of old tables held opens r told s k cat has below after (Some (bare_schema name)) made_back w.bytes)) w.there
    where
      all : (p : IsPart (bytes_at old.files cat) (176 * k) (relation_slot_bytes (Some (bare_schema name))) (bytes_at after.files cat))
          → take p.done (relation_slot_bytes (Some (bare_schema name))) ++ drop p.done (slice_range (bytes_at old.files cat) (176 * k) (176 * k + length (relation_slot_bytes (Some (bare_schema name))))) ≡ relation_slot_bytes (Some (bare_schema name))
      all p =
          let n : ℕ = p.done in
          let slot : List ℕ = relation_slot_bytes (Some (bare_schema name)) in
          let long : length slot ≡ 176 = made_back.0 in
          let long_name : length (padded 16 name) ≡ 16 = name_size name good in
          let past : 16 ≤ n = ⊎_elim (λ (none : n ≡ 0). absurd (omega (arith, none, p.some))) (λ (more : 16 ≤ n). more) (relation_part k n below (omega (arith, long, p.less)) (inr (inr p.ends))) in
          ap (λ (m : ℕ). take n slot ++ drop n (slice_range (bytes_at old.files cat) (176 * k) (176 * k + m))) long
          ∙ ap (λ (xs : List ℕ). take n xs ++ drop n (slice_range (bytes_at old.files cat) (176 * k) (176 * k + 176))) (bare_slot name)
          ∙ ap (λ (xs : List ℕ). take n (padded 16 name ++ bare_end) ++ drop n xs) (slot_written old tables held opens r told k cat has below None free p.long ∙ unused_slot)
          ∙ back_same (padded 16 name) (replicate 16 0) bare_end n long_name (omega (arith, past, long_name))
          ∙ sym (bare_slot name)

      by_cut : is_there (rows_file k) after.files ≡ true → IsCutIn (bytes_at old.files cat) (176 * k) (relation_slot_bytes (Some (bare_schema name))) (bytes_at after.files cat) → IsCutTable after.files
      by_cut there (inl same) = unmade_table same
      by_cut there (inr (inl whole)) = made_whole there whole
      by_cut there (inr (inr (inl p))) =
          let n : length (relation_slot_bytes (Some (bare_schema name))) ≡ 176 = made_back.0 in
          made_whole there (subst (IsWhole (bytes_at old.files cat) (176 * k) (relation_slot_bytes (Some (bare_schema name))))
          (sym (p.is ∙ part_whole (bytes_at old.files cat) (relation_slot_bytes (Some (bare_schema name))) (176 * k) p.done (omega (arith, p.less)) (omega (arith, n, p.long, below)) (all p)))
          (put_all old tables held opens r told s k cat has below (Some (bare_schema name)) made_back p.long))
      by_cut there (inr (inr (inr short))) = short_table short.none there short
