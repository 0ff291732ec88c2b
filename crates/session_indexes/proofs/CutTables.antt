-- Files that a cut in the middle of a command on indexes leaves.
use Rattle.std.proofs.Common.{◌≡◌, ◌≢◌, ◌⊎◌, inl, inr, ⊎_elim, ℕ, ◌+◌, ◌*◌, ◌<◌, ◌≤◌, true, false, List, [], length, map, set, get_or, Option, Some, None, refl, ap, sym, subst, ◌∙◌, arith, IsTrue}
use Rattle.std.specs.Prelude.{ℤ, is_some, option_map}
use Rattle.std.specs.List.{range_with_len}
use Rattle.std.specs.Option.{option_map_or}
use Rattle.std.proofs.lemmas.Bool.{cases_eq}
use Rattle.std.proofs.lemmas.List.{get_or-set_other, get_or-set_same, take_all}
use Rattle.std.proofs.lemmas.List.FromFn.{get_or-map-range_with_len}
use Rattle.afl_base.specs.Files.{IsNamed, IsUnnamed, State, bytes_at, file_at}
use Rattle.afl_base.proofs.FileLaws.{named_live, place_live}
use Rattle.catalog.specs.CatalogFile.{IsCatalogSize, ReplacesFront}
use Rattle.catalog.specs.Rules.{catalog_bytes_in, is_tree}
use Rattle.catalog.proofs.Named.{named_found, named_none}
use Rattle.db_model.specs.declared.schemas.IndexKind.{IndexKind}
use Rattle.db_model.specs.declared.schemas.IndexKind.TheVariants.{Inline, MaxHeap, MemHash}
use Rattle.db_model.specs.declared.schemas.Schema.{Schema}
use Rattle.db_model.specs.Between.{AreAlike}
use Rattle.db_model.specs.Catalog.{Index, catalog_of, index_at, index_slot_bytes, relation_at, with_index_slot, with_slot}
use Rattle.db_model.specs.Database.{Database, Relation, bare, with_index}
use Rattle.db_model.specs.Row.{Row}
use Rattle.db_model.specs.Sound.{IsSoundDatabase, SuitKind}
use Rattle.db_model.specs.Step.{keys}
use Rattle.db_model.proofs.Catalogs.{length-index_slot}
use Rattle.index_set.specs.Tables.{Tables}
use Rattle.index_tree.specs.Trees.{IsTreeOf}
use Rattle.padded.proofs.Facts.{by_truth, none_some, seen_at, some_same}
use Rattle.space_model.specs.Enough.{rows_in}
use Rattle.space_model.specs.FileNames.{bytes_in_file, bytes_named, catalog_file, file_named, is_there, tree_file}
use Rattle.stored.specs.CutTables.{IsBehindSlot, IsCutTable, index_read}
use Rattle.stored.specs.Mended.{has_time, mended_base, mended_catalog, standing, whole_bytes, whole_catalog}
use Rattle.stored.specs.Sound.{IsIndexComplete}
use Rattle.stored.specs.declared.half.Half.{Half}
use Rattle.stored.specs.declared.half.Half.TheVariants.{Emptying, Growing, LoneTree, Nothing, Treeless}
use Rattle.stored.proofs.CatalogParts.{index_part, length-with_slot, reads_same}
use Rattle.stored.proofs.MendedBase.{index_waits}
use Rattle.stored.proofs.MendedTables.{ReadsIndex}
use Rattle.tuple_file.specs.declared.tuples.Tuples.{Tuples}
use Rattle.tuple_file.specs.Tuples.{rows}
use Rattle.session_model.specs.declared.held.Held.{Held}
use Rattle.session_model.specs.declared.held.Open.{Open}
use Rattle.session_model.specs.Carried.{IsEither}
use Rattle.session_model.specs.Frames.{LeavesOthers, schema_in}
use Rattle.session_model.specs.Indexed.{index_known}
use Rattle.session_model.specs.Running.{HasCatalogFile, IsRunning}
use Rattle.session_model.specs.View.{relation_of_rows, view}
use Rattle.session_model.proofs.Catalogs.{catalog_there}
use Rattle.session_model.proofs.CutCatalogs.{leaves_spares, slots_alike, tree_bytes_kept, tree_kept, rows_kept}
use Rattle.session_model.proofs.CutForms.{IsCutIn, IsFrontOf, IsPart, IsWhole, cut_in, front_index_slots, front_indexes, front_long, front_mark, front_slots}
use Rattle.session_model.proofs.CutHeld.{IndexCut, index_cut, indexes_by, knowns_long, now_bytes, relations_by, schemas_long, was_index, was_relation, were_keys}
use Rattle.session_model.proofs.CutPuts.{empty_indexes, empty_none, front_first, front_later, same_index_slots, same_later, same_mark, same_slots, same_whole, size, untimed, written_or}
use Rattle.session_model.proofs.Running.{catalog_no_rows, catalog_no_tree, row_no_tree}
use Rattle.session_model.proofs.Sound.{seen, trees_there}
use Rattle.session_model.proofs.Written.{index_written}
use Rattle.session_indexes.specs.declared.sites.Site.{Site}
use Rattle.session_indexes.specs.Made.{IsReadyFor, index_for, keys_at}
use Rattle.session_indexes.specs.Parts.{MayMake, MayPut, MayTakeIndexSlot}
use Rattle.session_indexes.proofs.MendedIndexes.{reads_put}

module _ (old : State) (tables : Tables) (held : Held) (opens : List (Option Open)) (r : IsRunning old tables held opens) (told : IsTrue old.tells) (s : IsSoundDatabase (view old.files held opens))
    (cat : ℕ) (has : held.cat ≡ Some cat) (slot : ℕ) (below : slot < 8) (after : State) where
  abbrev schemas : List (Option Schema)
  schemas = map (option_map schema_in) held.relations

  abbrev knowns : List (Option Index)
  knowns = map (option_map index_known) held.indexes

  catalog_named : IsNamed old.files cat catalog_file
  catalog_named = (catalog_there old tables held opens cat r has).0

  -- ---- the catalog has its bytes, and the tree is as it was

  same_table : (l : LeavesOthers old after catalog_file) (named : IsNamed after.files cat catalog_file) → LeavesOthers old after (tree_file slot) → bytes_at after.files cat ≡ bytes_at old.files cat
      → 1472 ≤ length (bytes_at old.files cat) → IsCutTable after.files
  same_table l named beside same long =
      let there : is_there (tree_file slot) after.files ≡ is_tree (get_or knowns slot None) =
      tree_kept old after tables held opens r catalog_file l slot below (λ e. catalog_no_tree slot (sym e)) ∙ trees_there old tables held opens r told s slot below in
      index_cut old tables held opens r told s cat slot after Nothing (view old.files held opens) (get_or knowns slot None) (record {
        has = has;
        leaves = beside;
        named = named;
        below = below;
        read = record {
          here = ap (λ (b : List ℕ). index_at (whole_bytes b) slot) same ∙ was_index old tables held opens r told s cat has slot below;
          relations = (reads_same (bytes_at old.files cat) (bytes_at after.files cat) (ap whole_bytes same)).relations;
          indexes = λ j inside differs. ap (λ (b : List ℕ). index_at (whole_bytes b) j) same;
        };
        sound = s;
        here = refl;
        others = λ j differs. refl;
        relations = refl;
        same_rows = ap (λ (d : Database). d.relations) (slots_alike old after tables held opens r told cat has catalog_file l named (reads_same (bytes_at old.files cat) (bytes_at after.files cat) (ap whole_bytes same))
            (λ k inside used. rows_kept old after tables held opens r catalog_file l k inside (λ e. catalog_no_rows k (sym e)))
            (λ i inside tree. tree_kept old after tables held opens r catalog_file l i inside (λ e. catalog_no_tree i (sym e))));
        later = λ j schema e. same_later old tables held opens r told s cat has after (tree_file slot) beside named same long;
        whole = same_whole old tables held opens r told s cat has after (tree_file slot) beside named same long;
        mark = same_mark old tables held opens r told s cat has after (tree_file slot) beside named same long Nothing;
        slots = same_slots old tables held opens r told s cat has after (tree_file slot) beside named same long;
        index_slots = same_index_slots old tables held opens r told s cat has after (tree_file slot) beside named same long;
        not_emptied = λ j e. let n : ⊥ = cc in n;
        not_grown = λ j e. let n : ⊥ = cc in n;
        tree_there = λ used. inl (there ∙ used);
        tree_lone = λ present. inl (sym there ∙ present);
        key = λ x e stands. subst (λ (b : List ℕ). IsIndexComplete x.kind b (keys x.attribute (rows_in (view old.files held opens) x.relation)))
            (sym (tree_bytes_kept old after tables held opens r catalog_file l slot below (λ n. catalog_no_tree slot (sym n)))) (were_keys old tables held opens r told s slot x e);
      })

  -- ---- the slot is put

  module _ (o : Option Index) (l : LeavesOthers old after (tree_file slot)) (named : IsNamed after.files cat catalog_file)
      (w : IsWhole (bytes_at old.files cat) (1408 + 8 * slot) (index_slot_bytes o) (bytes_at after.files cat)) where
    abbrev whole : List ℕ
    whole = with_slot (bytes_at old.files cat) (1408 + 8 * slot) (index_slot_bytes o)

    abbrev front : IsFrontOf (catalog_bytes_in after.files) (with_slot (bytes_at old.files cat) (1408 + 8 * slot) (index_slot_bytes o))
    front = record {
      upto = w.front.upto;
      some = w.front.some;
      most = w.front.most;
      is = now_bytes old tables held opens r told s cat has after (tree_file slot) l named ∙ w.front.is;
      long = w.front.long;
      written = w.front.written;
    }

    read_whole : ReadsIndex (bytes_at old.files cat) (bytes_at after.files cat) slot o
    read_whole =
        front_indexes (bytes_at after.files cat) (with_slot (bytes_at old.files cat) (1408 + 8 * slot) (index_slot_bytes o)) w.front (bytes_at old.files cat) slot o
        (reads_put (bytes_at old.files cat) slot o (size old tables held opens r told s cat has) w.front.long below) below

    version_now : w.front.upto ≡ 1472 → (mended_catalog after.files).version ≡ 1
    version_now e =
        front_first old tables held opens r told s cat has after (tree_file slot) l named whole front w.first (map (option_map schema_in) held.relations)
        (relations_by old tables held opens r told s cat has after (tree_file slot) l named (map (option_map schema_in) held.relations) (schemas_long old tables held opens r told s)
        (λ k inside. read_whole.relations k inside ∙ was_relation old tables held opens r told s cat has k inside))
        (untimed old tables held opens r told s cat has) e

    -- a tree that is not there leaves no index
    missing : is_tree o ≡ true → is_there (tree_file slot) after.files ≡ false → (x : Index) → get_or (mended_catalog after.files).indexes slot None ≡ Some x → ⊥
    unfolding mended_catalog
    missing tree gone x e =
        let read : get_or (catalog_of (whole_catalog after.files)).indexes slot None ≡ o =
        get_or-map-range_with_len (index_at (whole_catalog after.files)) 0 8 slot slot None below (omega arith)
        ∙ ap (λ (b : List ℕ). index_at b slot) (ap whole_bytes (now_bytes old tables held opens r told s cat has after (tree_file slot) l named)) ∙ read_whole.here in
        let none : get_or (mended_catalog after.files).indexes slot None ≡ None =
        get_or-map-range_with_len (λ (i : ℕ). standing after.files i (get_or (catalog_of (whole_catalog after.files)).indexes i None)) 0 8 slot slot None below (omega arith)
        ∙ ap (standing after.files slot) read ∙ index_waits after.files slot o tree gone in
        none_some x (sym none ∙ e)

    whole_table : (half : Half) → IsSoundDatabase (record (with_index (view old.files held opens) slot o) { version = 2 })
        → IsEither (view old.files held opens) (with_index (view old.files held opens) slot o) (mended_base after.files) → IsBehindSlot half
        → ((j : ℕ) → half ≡ Emptying j → ⊥) → ((j : ℕ) → half ≡ Growing j → ⊥)
        → (is_tree o ≡ true → (is_there (tree_file slot) after.files ≡ true) ⊎ (half ≡ Treeless slot))
        → (is_there (tree_file slot) after.files ≡ true → (is_tree o ≡ true) ⊎ ((half ≡ LoneTree slot) × (o ≡ None)))
        → ((x : Index) → o ≡ Some x → get_or (mended_catalog after.files).indexes slot None ≡ Some x
        → IsIndexComplete x.kind (bytes_named (tree_file slot) after.files) (keys x.attribute (rows_in (view old.files held opens) x.relation))) → IsCutTable after.files
    whole_table half sound either behind not_emptied not_grown tree_there tree_lone key =
        let inside : slot < length (view old.files held opens).indexes = omega (arith, below, s.eight_indexes) in
        index_cut old tables held opens r told s cat slot after half (record (with_index (view old.files held opens) slot o) { version = 2 }) o (record {
          has = has;
          leaves = l;
          named = named;
          below = below;
          read = read_whole;
          sound = sound;
          here = get_or-set_same (view old.files held opens).indexes slot o None inside;
          others = λ j differs. get_or-set_other (view old.files held opens).indexes slot j o None differs;
          relations = refl;
          same_rows = ⊎_elim (λ (e : AreAlike (mended_base after.files) (bare (view old.files held opens))). ap (λ (d : Database). d.relations) e)
              (λ (e : AreAlike (mended_base after.files) (bare (with_index (view old.files held opens) slot o))). ap (λ (d : Database). d.relations) e) either;
          later = front_later old tables held opens r told s cat has after (tree_file slot) l named whole front w.first;
          whole = front_long after.files whole front;
          mark = front_mark after.files whole front half (λ e. inl (version_now e)) (inr (inr behind));
          slots = front_slots after.files whole front;
          index_slots = front_index_slots after.files whole front;
          not_emptied = not_emptied;
          not_grown = not_grown;
          tree_there = tree_there;
          tree_lone = tree_lone;
          key = key;
        })

    -- keys of an index that stands suit its kind
    suits : IsSoundDatabase (record (with_index (view old.files held opens) slot o) { version = 2 }) → (x : Index) → o ≡ Some x → SuitKind x.kind (keys x.attribute (rows_in (view old.files held opens) x.relation))
    suits sound x e =
        let inside : slot < length (view old.files held opens).indexes = omega (arith, below, s.eight_indexes) in
        let at = sound.indexes slot x (get_or-set_same (view old.files held opens).indexes slot o None inside ∙ e) in
        let all : rows_in (view old.files held opens) x.relation ≡ at.relation.rows = ap (λ (q : Option Relation). option_map_or (λ (z : Relation). z.rows) q []) at.stands in
        subst (λ (rs : List Row). SuitKind x.kind (keys x.attribute rs)) (sym all) at.suits.keys

  -- what a change of the slot left
  cut_of : (o : Option Index) → ReplacesFront (bytes_at old.files cat) (1408 + 8 * slot) (index_slot_bytes o) (bytes_at after.files cat) → 1472 ≤ length (bytes_at old.files cat)
      → (bytes_at after.files cat ≡ bytes_at old.files cat) ⊎ IsWhole (bytes_at old.files cat) (1408 + 8 * slot) (index_slot_bytes o) (bytes_at after.files cat)
  cut_of o f some = by_cut (cut_in (bytes_at old.files cat) (1408 + 8 * slot) (index_slot_bytes o) z inside (length-with_slot (bytes_at old.files cat) (index_slot_bytes o) (1408 + 8 * slot) z inside)
      (index_written (bytes_at old.files cat) slot o z below (written_or old tables held opens r told s cat has)) (bytes_at after.files cat) f)
    where
      z : IsCatalogSize (length (bytes_at old.files cat))
      z = size old tables held opens r told s cat has

      inside : 1408 + 8 * slot + length (index_slot_bytes o) ≤ 1472
      inside = let n = length-index_slot o in omega (arith, n, below)

      by_cut : IsCutIn (bytes_at old.files cat) (1408 + 8 * slot) (index_slot_bytes o) (bytes_at after.files cat)
          → (bytes_at after.files cat ≡ bytes_at old.files cat) ⊎ IsWhole (bytes_at old.files cat) (1408 + 8 * slot) (index_slot_bytes o) (bytes_at after.files cat)
      by_cut (inl same) = inl same
      by_cut (inr (inl w)) = inr w
      by_cut (inr (inr (inl p))) =
          let n : length (index_slot_bytes o) ≡ 8 = length-index_slot o in
          absurd (⊎_elim (λ (e : p.done ≡ 0). omega (arith, e, p.some)) (λ (e : p.done ≡ 8). omega (arith, e, n, p.less)) (index_part slot p.done below (omega (arith, n, p.less)) (inr (inr p.ends))))
      by_cut (inr (inr (inr short))) = absurd (omega (arith, some, short.none))

  -- where a relation or an index is there, the catalog is not empty
  long_by : (length (bytes_at old.files cat) ≡ 0 → ⊥) → 1472 ≤ length (bytes_at old.files cat)
  long_by some = by_size (size old tables held opens r told s cat has)
    where
      by_size : IsCatalogSize (length (bytes_at old.files cat)) → 1472 ≤ length (bytes_at old.files cat)
      by_size (inl none) = absurd (some none)
      by_size (inr (inl e)) = omega (arith, e)
      by_size (inr (inr e)) = omega (arith, e)

  -- ---- an index that was being taken away

  pub take_table : (x : Index) → get_or (map (option_map index_known) held.indexes) slot None ≡ Some x → MayTakeIndexSlot old after cat slot → IsSoundDatabase (record (with_index (view old.files held opens) slot None) { version = 2 })
      → IsEither (view old.files held opens) (with_index (view old.files held opens) slot None) (mended_base after.files) → IsCutTable after.files
  take_table x at (inl p) sound either = ⊎_elim
      (λ same. same_table (leaves_spares old after cat catalog_file catalog_named p.0) named beside same long)
      (λ w. by_truth (is_there (tree_file slot) after.files)
      (λ (present : is_there (tree_file slot) after.files ≡ true).
      whole_table None beside named w (LoneTree slot) sound either tt (λ j e. let n : ⊥ = cc in n) (λ j e. let n : ⊥ = cc in n) (λ used. absurd (let n : ⊥ = cc in n)) (λ p. inr (refl, refl)) (λ y e stands. absurd (none_some y e)))
      (λ (gone : is_there (tree_file slot) after.files ≡ false).
      whole_table None beside named w Nothing sound either tt (λ j e. let n : ⊥ = cc in n) (λ j e. let n : ⊥ = cc in n) (λ used. absurd (let n : ⊥ = cc in n))
      (λ present. absurd (let e = sym gone ∙ present in let n : ⊥ = cc in n)) (λ y e stands. absurd (none_some y e))))
      (cut_of None p.1 long)
    where
      long : 1472 ≤ length (bytes_at old.files cat)
      long = long_by (λ none. none_some x (sym (empty_indexes old tables held opens r told s cat has none slot) ∙ at))

      named : IsNamed after.files cat catalog_file
      named = p.0.named cat ∙ catalog_named

      beside : LeavesOthers old after (tree_file slot)
      beside = leaves_spares old after cat (tree_file slot) catalog_named p.0
  take_table x at (inr p) sound either =
      whole_table None p.leaves p.bytes.named (record {
        front = record {
          upto = 1480;
          some = omega arith;
          most = omega arith;
          is = p.bytes.bytes told ∙ sym (take_all 1480 (with_slot (bytes_at old.files cat) (1408 + 8 * slot) (index_slot_bytes None)) (omega (arith, long)));
          long = long;
          written = index_written (bytes_at old.files cat) slot None (size old tables held opens r told s cat has) below (written_or old tables held opens r told s cat has);
        };
        first = λ e. absurd (omega (arith, e));
        later = λ e. refl;
      }) Nothing sound either tt (λ j e. let n : ⊥ = cc in n) (λ j e. let n : ⊥ = cc in n) (λ used. absurd (let n : ⊥ = cc in n))
      (λ present. absurd (let e = sym (ap is_some (named_none after.files (tree_file slot) p.unnamed)) ∙ present in let n : ⊥ = cc in n)) (λ y e stands. absurd (none_some y e))
    where
      long : length (with_slot (bytes_at old.files cat) (1408 + 8 * slot) (index_slot_bytes None)) ≡ 1480
      long = length-with_slot (bytes_at old.files cat) (index_slot_bytes None) (1408 + 8 * slot) (size old tables held opens r told s cat has) (let n = length-index_slot None in omega (arith, n, below))

-- ---- keys that suit a kind that has no tree

suits_inline : (kind : IndexKind) (bytes : List ℕ) (ks : List ℤ) → kind ≡ Inline → SuitKind kind ks → IsIndexComplete kind bytes ks
suits_inline kind bytes ks e suit = subst (λ (z : IndexKind). IsIndexComplete z bytes ks) (sym e) (subst (λ (z : IndexKind). SuitKind z ks) e suit)

suits_table : (kind : IndexKind) (bytes : List ℕ) (ks : List ℤ) → kind ≡ MemHash → SuitKind kind ks → IsIndexComplete kind bytes ks
suits_table kind bytes ks e suit = subst (λ (z : IndexKind). IsIndexComplete z bytes ks) (sym e) (subst (λ (z : IndexKind). SuitKind z ks) e suit)

-- ---- an index that was being made

module _ (old : State) (tables : Tables) (held : Held) (opens : List (Option Open)) (r : IsRunning old tables held opens) (told : IsTrue old.tells) (s : IsSoundDatabase (view old.files held opens))
    (cat : ℕ) (has : held.cat ≡ Some cat) (after : State) (t : Tuples) (site : Site) (ready : IsReadyFor old cat t site) (there : get_or held.relations site.relation None ≡ Some t) where
  made_long : 1472 ≤ length (bytes_at old.files cat)
  made_long = long_by old tables held opens r told s cat has site.slot ready.slot after (λ none. none_some t.schema (sym (empty_none old tables held opens r told s cat has none site.relation) ∙ seen_at schema_in held.relations site.relation ∙ ap (option_map schema_in) there))

  -- its slot was being put, and there is no tree
  put_table : (kind : IndexKind) → MayPut old after cat site.slot (Some (index_for site kind)) → IsSoundDatabase (record (with_index (view old.files held opens) site.slot (Some (index_for site kind))) { version = 2 })
      → IsEither (view old.files held opens) (with_index (view old.files held opens) site.slot (Some (index_for site kind))) (mended_base after.files) → IsCutTable after.files
  put_table kind p sound either = ⊎_elim
      (λ same. same_table old tables held opens r told s cat has site.slot ready.slot after (leaves_spares old after cat catalog_file (catalog_named old tables held opens r told s cat has site.slot ready.slot after) p.0) named beside same made_long)
      (λ w. by_kind kind refl w sound either)
      (cut_of old tables held opens r told s cat has site.slot ready.slot after (Some (index_for site kind)) p.1 made_long)
    where
      named : IsNamed after.files cat catalog_file
      named = p.0.named cat ∙ catalog_named old tables held opens r told s cat has site.slot ready.slot after

      beside : LeavesOthers old after (tree_file site.slot)
      beside = leaves_spares old after cat (tree_file site.slot) (catalog_named old tables held opens r told s cat has site.slot ready.slot after) p.0

      gone : is_there (tree_file site.slot) after.files ≡ false
      gone = ap is_some (named_none after.files (tree_file site.slot) ((leaves_spares old after cat catalog_file (catalog_named old tables held opens r told s cat has site.slot ready.slot after) p.0).unnamed (tree_file site.slot) (λ e. catalog_no_tree site.slot (sym e)) (λ e. catalog_no_tree site.slot (sym e)) ready.unnamed))

      not_there : {A : Type 0} → is_there (tree_file site.slot) after.files ≡ true → A
      not_there present = absurd (let e = sym gone ∙ present in let n : ⊥ = cc in n)

      by_kind : (want : IndexKind) → kind ≡ want → IsWhole (bytes_at old.files cat) (1408 + 8 * site.slot) (index_slot_bytes (Some (index_for site kind))) (bytes_at after.files cat)
          → IsSoundDatabase (record (with_index (view old.files held opens) site.slot (Some (index_for site kind))) { version = 2 })
          → IsEither (view old.files held opens) (with_index (view old.files held opens) site.slot (Some (index_for site kind))) (mended_base after.files) → IsCutTable after.files
      by_kind Inline is w sound either =
          whole_table old tables held opens r told s cat has site.slot ready.slot after (Some (index_for site kind)) beside named w Nothing sound either tt (λ j e. let n : ⊥ = cc in n) (λ j e. let n : ⊥ = cc in n)
          (λ used. absurd (let e = sym (ap (λ (z : IndexKind). is_tree (Some (index_for site z))) is) ∙ used in let n : ⊥ = cc in n)) (λ present. not_there present)
          (λ x e stands. suits_inline x.kind (bytes_named (tree_file site.slot) after.files) (keys x.attribute (rows_in (view old.files held opens) x.relation)) (ap (λ (z : Index). z.kind) (sym (some_same (index_for site kind) x e)) ∙ is) (suits old tables held opens r told s cat has site.slot ready.slot after (Some (index_for site kind)) beside named w sound x e))
      by_kind MemHash is w sound either =
          whole_table old tables held opens r told s cat has site.slot ready.slot after (Some (index_for site kind)) beside named w Nothing sound either tt (λ j e. let n : ⊥ = cc in n) (λ j e. let n : ⊥ = cc in n)
          (λ used. absurd (let e = sym (ap (λ (z : IndexKind). is_tree (Some (index_for site z))) is) ∙ used in let n : ⊥ = cc in n)) (λ present. not_there present)
          (λ x e stands. suits_table x.kind (bytes_named (tree_file site.slot) after.files) (keys x.attribute (rows_in (view old.files held opens) x.relation)) (ap (λ (z : Index). z.kind) (sym (some_same (index_for site kind) x e)) ∙ is) (suits old tables held opens r told s cat has site.slot ready.slot after (Some (index_for site kind)) beside named w sound x e))
      by_kind MaxHeap is w sound either =
          let tree : is_tree (Some (index_for site kind)) ≡ true = ap (λ (z : IndexKind). is_tree (Some (index_for site z))) is in
          whole_table old tables held opens r told s cat has site.slot ready.slot after (Some (index_for site kind)) beside named w (Treeless site.slot) sound either tt (λ j e. let n : ⊥ = cc in n) (λ j e. let n : ⊥ = cc in n)
          (λ used. inr refl) (λ present. not_there present)
          (λ x e stands. absurd (missing old tables held opens r told s cat has site.slot ready.slot after (Some (index_for site kind)) beside named w tree gone x stands))

  pub make_table : (kind : IndexKind) → MayMake old after cat t (site) kind → IsSoundDatabase (record (with_index (view old.files held opens) site.slot (Some (index_for site kind))) { version = 2 })
      → IsEither (view old.files held opens) (with_index (view old.files held opens) site.slot (Some (index_for site kind))) (mended_base after.files) → IsCutTable after.files
  make_table Inline p sound either = put_table Inline p sound either
  make_table MemHash p sound either = put_table MemHash p sound either
  make_table MaxHeap (inl p) sound either = put_table MaxHeap p sound either
  make_table MaxHeap (inr (file, p)) sound either =
      whole_table old tables held opens r told s cat has site.slot ready.slot after (Some (index_for site MaxHeap)) p.leaves p.bytes.named (record {
        front = record {
          upto = 1480;
          some = omega arith;
          most = omega arith;
          is = p.bytes.bytes told ∙ sym (take_all 1480 (with_slot (bytes_at old.files cat) (1408 + 8 * site.slot) (index_slot_bytes (Some (index_for site MaxHeap)))) (omega (arith, long)));
          long = long;
          written = index_written (bytes_at old.files cat) site.slot (Some (index_for site MaxHeap)) (size old tables held opens r told s cat has) ready.slot (written_or old tables held opens r told s cat has);
        };
        first = λ e. absurd (omega (arith, e));
        later = λ e. refl;
      }) Nothing sound either tt (λ j e. let n : ⊥ = cc in n) (λ j e. let n : ⊥ = cc in n)
      (λ used. inl (ap is_some found)) (λ present. inl refl)
      (λ x e stands.
      let all : rows_in (view old.files held opens) site.relation ≡ rows old.files t = ap (λ (q : Option Relation). option_map_or (λ (z : Relation). z.rows) q []) (seen (relation_of_rows old.files) held.relations site.relation t there) in
      let tree : IsTreeOf (bytes_named (tree_file site.slot) after.files) (keys site.attribute (rows_in (view old.files held opens) site.relation)) =
      subst (λ (b : List ℕ). IsTreeOf b (keys site.attribute (rows_in (view old.files held opens) site.relation))) (sym (ap bytes_in_file found))
      (subst (λ (rs : List Row). IsTreeOf (bytes_at after.files file) (keys site.attribute rs)) (sym all) (p.tree told)) in
      subst (λ (z : Index). IsIndexComplete z.kind (bytes_named (tree_file site.slot) after.files) (keys z.attribute (rows_in (view old.files held opens) z.relation))) (some_same (index_for site MaxHeap) x e) tree)
    where
      long : length (with_slot (bytes_at old.files cat) (1408 + 8 * site.slot) (index_slot_bytes (Some (index_for site MaxHeap)))) ≡ 1480
      long = length-with_slot (bytes_at old.files cat) (index_slot_bytes (Some (index_for site MaxHeap))) (1408 + 8 * site.slot) (size old tables held opens r told s cat has) (let n = length-index_slot (Some (index_for site MaxHeap)) in omega (arith, n, ready.slot))

      found : file_named (tree_file site.slot) after.files ≡ Some (file_at after.files file)
      found = named_found after.files file (tree_file site.slot) p.named (λ j also. p.leaves.distinct r.distinct j file (tree_file site.slot) also p.named) ∙ place_live after.files file (named_live after.files file (tree_file site.slot) p.named)
