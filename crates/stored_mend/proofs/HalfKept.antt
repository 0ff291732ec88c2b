-- Files in which one thing is half done stay so where a step changes the bytes of the catalog, or removes a file.
use Rattle.std.proofs.Common.{◌≡◌, ◌≢◌, ◌⊎◌, inl, inr, ⊎_elim, ℕ, ◌+◌, ◌*◌, ◌<◌, ◌≤◌, true, false, List, [], length, map, take, get_or, Option, Some, None, refl, ap, sym, subst, ◌∙◌, arith}
use Rattle.std.specs.Prelude.{is_some, option_map, slice_range}
use Rattle.std.specs.List.{range_with_len}
use Rattle.std.proofs.lemmas.Bool.{cases_eq}
use Rattle.std.proofs.lemmas.List.FromFn.{get_or-map-range_with_len}
use Rattle.afl_base.specs.Files.{File, Table}
use Rattle.catalog.specs.Rules.{breaks_index, catalog_bytes_in, has_form, is_named_among, is_tree}
use Rattle.db_model.specs.declared.schemas.Schema.{Schema}
use Rattle.db_model.specs.Catalog.{Index, catalog_of, index_at, relation_at, version_of}
use Rattle.db_model.specs.Database.{Database, Relation}
use Rattle.db_model.specs.Step.{keys}
use Rattle.padded.proofs.Facts.{none_some}
use Rattle.space_model.specs.Enough.{rows_in}
use Rattle.space_model.specs.FileNames.{bytes_in_file, bytes_named, catalog_file, file_named, is_there, rows_file, tree_file}
use Rattle.stored.specs.CutTables.{HasMark, HoldsRowsOr, IsBehindSlot, IsHalfDone, IsIndexWhile, IsMarkedInPart, IsSlot, IsTimed, index_read, relation, slot_bytes}
use Rattle.stored.specs.Mended.{has_time, mended_base, mended_catalog, whole_bytes, whole_catalog}
use Rattle.stored.specs.declared.half.Half.{Half}
use Rattle.stored.specs.declared.half.Half.TheVariants.{Nothing, Emptying, LoneRows, Treeless, LoneTree}
use Rattle.stored.proofs.MendedBase.{relation_mended_at, relation_read, slots_same}
use Rattle.stored_mend.specs.Listed.{IsMarked, IsMarkedTo}
use Rattle.stored_mend.proofs.OneFile.{catalog_no_rows, catalog_no_tree, rows_no_tree, same_rows_slot, same_tree_slot, tree_no_rows}

-- ---- what files mend to, by the database

pub version_is : (files : Table) → (mended_catalog files).version ≡ (mended_base files).version
unfolding mended_base
version_is files = refl

pub indexes_are : (files : Table) → (mended_catalog files).indexes ≡ (mended_base files).indexes
unfolding mended_base
indexes_are files = refl

pub relations_read : (files : Table) → (mended_catalog files).relations ≡ map (relation_at (whole_catalog files)) (range_with_len 0 8)
unfolding mended_catalog
relations_read files = refl

-- a relation is that of its slot
pub relation_at_slot : (files : Table) (k : ℕ) → k < 8 → relation files k ≡ relation_at (whole_catalog files) k
relation_at_slot files k below = ap (λ (os : List (Option Schema)). get_or os k None) (relations_read files) ∙ get_or-map-range_with_len (relation_at (whole_catalog files)) 0 8 k k None below (omega arith)

pub index_at_slot : (files : Table) (i : ℕ) → i < 8 → index_read files i ≡ index_at (whole_catalog files) i
index_at_slot files i below = get_or-map-range_with_len (index_at (whole_catalog files)) 0 8 i i None below (omega arith)

schema_in : (bytes : List ℕ) (o : Option Schema) → option_map (λ (r : Relation). r.schema) (option_map (relation_read bytes) o) ≡ o
schema_in bytes None = refl
schema_in bytes (Some schema) = refl

-- a file that is not there has no bytes
pub gone_bytes : (files : Table) (name : List ℕ) → is_there name files ≡ false → bytes_named name files ≡ []
gone_bytes files name e = by_file (file_named name files) e
  where
    by_file : (o : Option File) → is_some o ≡ false → bytes_in_file o ≡ []
    by_file None e = refl
    by_file (Some f) e = cc

-- files that mend to the same database
module _ (old new : Table) (base : mended_base new ≡ mended_base old) where
  pub version_same : (mended_catalog new).version ≡ (mended_catalog old).version
  version_same = version_is new ∙ ap (λ (db : Database). db.version) base ∙ sym (version_is old)

  pub indexes_same : (mended_catalog new).indexes ≡ (mended_catalog old).indexes
  indexes_same = indexes_are new ∙ ap (λ (db : Database). db.indexes) base ∙ sym (indexes_are old)

  pub slot_same : (k : ℕ) → k < 8 → relation_at (whole_catalog new) k ≡ relation_at (whole_catalog old) k
  slot_same k below =
      let schemas : Option Relation → Option Schema = option_map (λ (r : Relation). r.schema) in
      sym (schema_in (bytes_named (rows_file k) new) (relation_at (whole_catalog new) k))
      ∙ ap schemas (sym (relation_mended_at new k below) ∙ ap (λ (db : Database). get_or db.relations k None) base ∙ relation_mended_at old k below)
      ∙ schema_in (bytes_named (rows_file k) old) (relation_at (whole_catalog old) k)

  pub relations_same : (mended_catalog new).relations ≡ (mended_catalog old).relations
  relations_same = relations_read new ∙ slots_same (relation_at (whole_catalog new)) (relation_at (whole_catalog old)) 0 8 (λ k low below. slot_same k below) ∙ sym (relations_read old)

  pub relation_same : (k : ℕ) → relation new k ≡ relation old k
  relation_same k = ap (λ (os : List (Option Schema)). get_or os k None) relations_same

  named_same : (k : ℕ) → is_named_among (relation new k) (take k (mended_catalog new).relations) ≡ is_named_among (relation old k) (take k (mended_catalog old).relations)
  named_same k =
      ap (λ (o : Option Schema). is_named_among o (take k (mended_catalog new).relations)) (relation_same k)
      ∙ ap (λ (os : List (Option Schema)). is_named_among (relation old k) (take k os)) relations_same

  -- the one relation with a TIME is so still
  abbrev pub timed_same : length (catalog_bytes_in new) ≡ length (catalog_bytes_in old) → ((k : ℕ) (schema : Schema) → relation old k ≡ Some schema → bytes_named (rows_file k) new ≡ bytes_named (rows_file k) old) → IsTimed old → IsTimed new
  timed_same size rows t = record {
    short = size ∙ t.short;
    k = t.k;
    schema = t.schema;
    there = relation_same t.k ∙ t.there;
    front = t.front;
    last = t.last;
    time = t.time;
    before = t.before;
    alone = λ j e. t.alone j (sym (ap has_time (relation_same j)) ∙ e);
    empty = rows t.k t.schema t.there ∙ t.empty;
  }

  -- and so is what the mark lacks
  pub marked_as : catalog_bytes_in new ≡ catalog_bytes_in old → ((k : ℕ) (schema : Schema) → relation old k ≡ Some schema → bytes_named (rows_file k) new ≡ bytes_named (rows_file k) old) → (n : ℕ) → IsMarkedTo old n → IsMarkedTo new n
  marked_as catalog rows n m = ⊎_elim
      (λ (marked : IsMarked old). inl (ap has_form catalog ∙ marked.0, ap version_of catalog ∙ marked.1 ∙ sym version_same))
      (λ (timed : (t : IsTimed old) × (n ≤ t.k)). inr (timed_same (ap (λ (bytes : List ℕ). length bytes) catalog) rows timed.0, timed.1))
      m

  module _ (half : Half) (h : IsHalfDone old half) where
    -- ---- a step that changes the bytes of the catalog

    module _ (files : (n : List ℕ) → n ≢ catalog_file → file_named n new ≡ file_named n old) where
      rows_found : (k : ℕ) → file_named (rows_file k) new ≡ file_named (rows_file k) old
      rows_found k = files (rows_file k) (λ e. catalog_no_rows k (sym e))

      tree_found : (i : ℕ) → file_named (tree_file i) new ≡ file_named (tree_file i) old
      tree_found i = files (tree_file i) (λ e. catalog_no_tree i (sym e))

      -- an index is as it was, or is gone, and had no tree
      pub edited : 1472 ≤ length (catalog_bytes_in new) → HasMark new half
          → ((k : ℕ) → k < 8 → IsSlot half (mended_catalog old).version k (slot_bytes new k) (relation old k))
          → ((i : ℕ) → i < 8 → breaks_index (whole_catalog new) i ≡ false)
          → ((i : ℕ) → i < 8 → (index_read new i ≡ index_read old i) ⊎ ((index_read new i ≡ None) × (is_there (tree_file i) old ≡ false)))
          → IsHalfDone new half
      edited whole mark slots indexes reads = record {
        whole = whole;
        mark = mark;
        slots = λ k below.
            subst (λ (o : Option Schema). IsSlot half (mended_catalog new).version k (slot_bytes new k) o) (sym (relation_same k))
            (subst (λ (v : ℕ). IsSlot half v k (slot_bytes new k) (relation old k)) (sym version_same) (slots k below));
        named_once = λ k below. named_same k ∙ h.named_once k below;
        indexes = indexes;
        rows_there = λ k below e. ap is_some (rows_found k) ∙ h.rows_there k below (⊎_elim (λ (used : is_some (relation new k) ≡ true). inl (sym (ap is_some (relation_same k)) ∙ used)) (λ (emptying : half ≡ Emptying k). inr emptying) e);
        rows_lone = λ k below there. ⊎_elim
            (λ (used : is_some (relation old k) ≡ true). inl (ap is_some (relation_same k) ∙ used))
            (λ (lone : (half ≡ LoneRows k) ⊎ (half ≡ Emptying k)). inr lone)
            (h.rows_lone k below (sym (ap is_some (rows_found k)) ∙ there));
        tree_there = λ i below tree. ⊎_elim
            (λ (same : index_read new i ≡ index_read old i). ⊎_elim
            (λ (there : is_there (tree_file i) old ≡ true). inl (ap is_some (tree_found i) ∙ there))
            (λ (treeless : half ≡ Treeless i). inr treeless)
            (h.tree_there i below (sym (ap is_tree same) ∙ tree)))
            (λ (gone : (index_read new i ≡ None) × (is_there (tree_file i) old ≡ false)). let no : false ≡ true = sym (ap is_tree gone.0) ∙ tree in absurd (cc))
            (reads i below);
        tree_lone = λ i below there.
            let was : is_there (tree_file i) old ≡ true = sym (ap is_some (tree_found i)) ∙ there in
            ⊎_elim
            (λ (same : index_read new i ≡ index_read old i). ⊎_elim
            (λ (tree : is_tree (index_read old i) ≡ true). inl (ap is_tree same ∙ tree))
            (λ (lone : (half ≡ LoneTree i) × (index_read old i ≡ None)). inr (lone.0, same ∙ lone.1))
            (h.tree_lone i below was))
            (λ (gone : (index_read new i ≡ None) × (is_there (tree_file i) old ≡ false)). let no : false ≡ true = sym gone.1 ∙ was in absurd (cc))
            (reads i below);
        grown = λ k e. ap bytes_in_file (rows_found k) ∙ h.grown k e;
        rows = λ k schema is.
            subst (λ (v : ℕ). HoldsRowsOr half v k schema.attributes (bytes_named (rows_file k) new)) (sym version_same)
            (subst (λ (bytes : List ℕ). HoldsRowsOr half (mended_catalog old).version k schema.attributes bytes) (sym (ap bytes_in_file (rows_found k))) (h.rows k schema (sym (relation_same k) ∙ is)));
        keys = λ i index is.
            subst (λ (db : Database). IsIndexWhile half index (bytes_named (tree_file i) new) (keys index.attribute (rows_in db index.relation))) (sym base)
            (subst (λ (bytes : List ℕ). IsIndexWhile half index bytes (keys index.attribute (rows_in (mended_base old) index.relation))) (sym (ap bytes_in_file (tree_found i)))
            (h.keys i index (sym (ap (λ (os : List (Option Index)). get_or os i None) indexes_same) ∙ is)));
      }

    -- ---- a step that removes a file beside the catalog

    module _ (catalog : catalog_bytes_in new ≡ catalog_bytes_in old) where
      whole_same : whole_catalog new ≡ whole_catalog old
      whole_same = ap whole_bytes catalog

      read_same : (i : ℕ) → index_read new i ≡ index_read old i
      read_same i = ap (λ (bytes : List ℕ). get_or (catalog_of (whole_bytes bytes)).indexes i None) catalog

      pub mark_kept : ((k : ℕ) (schema : Schema) → relation old k ≡ Some schema → bytes_named (rows_file k) new ≡ bytes_named (rows_file k) old) → HasMark new half
      mark_kept rows = ⊎_elim
          (λ (marked : (has_form (catalog_bytes_in old) ≡ true) × (version_of (catalog_bytes_in old) ≡ (mended_catalog old).version)). inl (ap has_form catalog ∙ marked.0, ap version_of catalog ∙ marked.1 ∙ sym version_same))
          (λ rest. inr (⊎_elim
          (λ (part : IsMarkedInPart (catalog_bytes_in old) × IsBehindSlot half). inl (subst IsMarkedInPart (sym catalog) part.0, part.1))
          (λ (timed : IsTimed old × (half ≡ Nothing)). inr (timed_same (ap (λ (bytes : List ℕ). length bytes) catalog) rows timed.0, timed.1))
          rest))
          h.mark

      slots_kept : (k : ℕ) → k < 8 → IsSlot half (mended_catalog new).version k (slot_bytes new k) (relation new k)
      slots_kept k below =
          subst (λ (bytes : List ℕ). IsSlot half (mended_catalog new).version k (slice_range bytes (176 * k) (176 * k + 176)) (relation new k)) (sym whole_same)
          (subst (λ (o : Option Schema). IsSlot half (mended_catalog new).version k (slot_bytes old k) o) (sym (relation_same k))
          (subst (λ (v : ℕ). IsSlot half v k (slot_bytes old k) (relation old k)) (sym version_same) (h.slots k below)))

      whole_long : 1472 ≤ length (catalog_bytes_in new)
      whole_long = subst (λ (bytes : List ℕ). 1472 ≤ length bytes) (sym catalog) h.whole

      indexes_kept : (i : ℕ) → i < 8 → breaks_index (whole_catalog new) i ≡ false
      indexes_kept i below = ap (λ (bytes : List ℕ). breaks_index bytes i) whole_same ∙ h.indexes i below

      keys_at : (i : ℕ) (index : Index) → get_or (mended_catalog new).indexes i None ≡ Some index → get_or (mended_catalog old).indexes i None ≡ Some index
      keys_at i index is = sym (ap (λ (os : List (Option Index)). get_or os i None) indexes_same) ∙ is

    -- the rows of a slot without a relation
    module _ (slot : ℕ) (files : (n : List ℕ) → n ≢ rows_file slot → file_named n new ≡ file_named n old) (gone : is_there (rows_file slot) new ≡ false)
        (unused : relation old slot ≡ None) (settled : half ≡ Emptying slot → ⊥) where
      catalog_stays : catalog_bytes_in new ≡ catalog_bytes_in old
      catalog_stays = ap bytes_in_file (files catalog_file (catalog_no_rows slot))

      other_rows : (k : ℕ) → k ≢ slot → file_named (rows_file k) new ≡ file_named (rows_file k) old
      other_rows k differs = files (rows_file k) (λ e. differs (same_rows_slot k slot e))

      same_tree : (i : ℕ) → file_named (tree_file i) new ≡ file_named (tree_file i) old
      same_tree i = files (tree_file i) (tree_no_rows i slot)

      not_used : (k : ℕ) → k ≡ slot → is_some (relation old k) ≡ true → ⊥
      not_used k same used = let no : false ≡ true = sym (ap is_some (ap (relation old) same ∙ unused)) ∙ used in cc

      used_rows : (k : ℕ) (schema : Schema) → relation old k ≡ Some schema → bytes_named (rows_file k) new ≡ bytes_named (rows_file k) old
      used_rows k schema is = ap bytes_in_file (other_rows k (λ same. not_used k same (ap is_some is)))

      pub without_rows : IsHalfDone new half
      without_rows = record {
        whole = whole_long catalog_stays;
        mark = mark_kept catalog_stays used_rows;
        slots = slots_kept catalog_stays;
        named_once = λ k below. named_same k ∙ h.named_once k below;
        indexes = indexes_kept catalog_stays;
        rows_there = λ k below e.
            let was : (is_some (relation old k) ≡ true) ⊎ (half ≡ Emptying k) =
            ⊎_elim (λ (used : is_some (relation new k) ≡ true). inl (sym (ap is_some (relation_same k)) ∙ used)) (λ (emptying : half ≡ Emptying k). inr emptying) e in
            let differs : k ≢ slot = λ same. ⊎_elim
            (λ (used : is_some (relation old k) ≡ true). not_used k same used)
            (λ (emptying : half ≡ Emptying k). settled (subst (λ (j : ℕ). half ≡ Emptying j) same emptying))
            was in
            ap is_some (other_rows k differs) ∙ h.rows_there k below was;
        rows_lone = λ k below there.
            let differs : k ≢ slot = λ same. let no : false ≡ true = sym gone ∙ subst (λ (j : ℕ). is_there (rows_file j) new ≡ true) same there in cc in
            ⊎_elim
            (λ (used : is_some (relation old k) ≡ true). inl (ap is_some (relation_same k) ∙ used))
            (λ (lone : (half ≡ LoneRows k) ⊎ (half ≡ Emptying k)). inr lone)
            (h.rows_lone k below (sym (ap is_some (other_rows k differs)) ∙ there));
        tree_there = λ i below tree. ⊎_elim
            (λ (there : is_there (tree_file i) old ≡ true). inl (ap is_some (same_tree i) ∙ there))
            (λ (treeless : half ≡ Treeless i). inr treeless)
            (h.tree_there i below (sym (ap is_tree (read_same catalog_stays i)) ∙ tree));
        tree_lone = λ i below there. ⊎_elim
            (λ (tree : is_tree (index_read old i) ≡ true). inl (ap is_tree (read_same catalog_stays i) ∙ tree))
            (λ (lone : (half ≡ LoneTree i) × (index_read old i ≡ None)). inr (lone.0, read_same catalog_stays i ∙ lone.1))
            (h.tree_lone i below (sym (ap is_some (same_tree i)) ∙ there));
        grown = λ k e. ⊎_elim
            (λ (same : k ≡ slot). subst (λ (j : ℕ). bytes_named (rows_file j) new ≡ []) (sym same) (gone_bytes new (rows_file slot) gone))
            (λ (differs : k ≢ slot). ap bytes_in_file (other_rows k differs) ∙ h.grown k e)
            (cases_eq k slot);
        rows = λ k schema is.
            let was : relation old k ≡ Some schema = sym (relation_same k) ∙ is in
            subst (λ (v : ℕ). HoldsRowsOr half v k schema.attributes (bytes_named (rows_file k) new)) (sym version_same)
            (subst (λ (bytes : List ℕ). HoldsRowsOr half (mended_catalog old).version k schema.attributes bytes) (sym (used_rows k schema was)) (h.rows k schema was));
        keys = λ i index is.
            subst (λ (db : Database). IsIndexWhile half index (bytes_named (tree_file i) new) (keys index.attribute (rows_in db index.relation))) (sym base)
            (subst (λ (bytes : List ℕ). IsIndexWhile half index bytes (keys index.attribute (rows_in (mended_base old) index.relation))) (sym (ap bytes_in_file (same_tree i)))
            (h.keys i index (keys_at catalog_stays i index is)));
      }

    -- the tree of a slot without an index
    module _ (slot : ℕ) (files : (n : List ℕ) → n ≢ tree_file slot → file_named n new ≡ file_named n old) (gone : is_there (tree_file slot) new ≡ false)
        (unused : index_read old slot ≡ None) (unlisted : get_or (mended_catalog old).indexes slot None ≡ None) where
      catalog_as_was : catalog_bytes_in new ≡ catalog_bytes_in old
      catalog_as_was = ap bytes_in_file (files catalog_file (catalog_no_tree slot))

      other_tree : (i : ℕ) → i ≢ slot → file_named (tree_file i) new ≡ file_named (tree_file i) old
      other_tree i differs = files (tree_file i) (λ e. differs (same_tree_slot i slot e))

      same_rows : (k : ℕ) → file_named (rows_file k) new ≡ file_named (rows_file k) old
      same_rows k = files (rows_file k) (rows_no_tree k slot)

      pub without_tree : IsHalfDone new half
      without_tree = record {
        whole = whole_long catalog_as_was;
        mark = mark_kept catalog_as_was (λ k schema is. ap bytes_in_file (same_rows k));
        slots = slots_kept catalog_as_was;
        named_once = λ k below. named_same k ∙ h.named_once k below;
        indexes = indexes_kept catalog_as_was;
        rows_there = λ k below e. ap is_some (same_rows k) ∙ h.rows_there k below (⊎_elim (λ (used : is_some (relation new k) ≡ true). inl (sym (ap is_some (relation_same k)) ∙ used)) (λ (emptying : half ≡ Emptying k). inr emptying) e);
        rows_lone = λ k below there. ⊎_elim
            (λ (used : is_some (relation old k) ≡ true). inl (ap is_some (relation_same k) ∙ used))
            (λ (lone : (half ≡ LoneRows k) ⊎ (half ≡ Emptying k)). inr lone)
            (h.rows_lone k below (sym (ap is_some (same_rows k)) ∙ there));
        tree_there = λ i below tree.
            let differs : i ≢ slot = λ same. let no : false ≡ true = sym (ap is_tree (read_same catalog_as_was i ∙ ap (index_read old) same ∙ unused)) ∙ tree in cc in
            ⊎_elim
            (λ (there : is_there (tree_file i) old ≡ true). inl (ap is_some (other_tree i differs) ∙ there))
            (λ (treeless : half ≡ Treeless i). inr treeless)
            (h.tree_there i below (sym (ap is_tree (read_same catalog_as_was i)) ∙ tree));
        tree_lone = λ i below there.
            let differs : i ≢ slot = λ same. let no : false ≡ true = sym gone ∙ subst (λ (j : ℕ). is_there (tree_file j) new ≡ true) same there in cc in
            ⊎_elim
            (λ (tree : is_tree (index_read old i) ≡ true). inl (ap is_tree (read_same catalog_as_was i) ∙ tree))
            (λ (lone : (half ≡ LoneTree i) × (index_read old i ≡ None)). inr (lone.0, read_same catalog_as_was i ∙ lone.1))
            (h.tree_lone i below (sym (ap is_some (other_tree i differs)) ∙ there));
        grown = λ k e. ap bytes_in_file (same_rows k) ∙ h.grown k e;
        rows = λ k schema is.
            subst (λ (v : ℕ). HoldsRowsOr half v k schema.attributes (bytes_named (rows_file k) new)) (sym version_same)
            (subst (λ (bytes : List ℕ). HoldsRowsOr half (mended_catalog old).version k schema.attributes bytes) (sym (ap bytes_in_file (same_rows k))) (h.rows k schema (sym (relation_same k) ∙ is)));
        keys = λ i index is.
            let was = keys_at catalog_as_was i index is in
            let differs : i ≢ slot = λ same. none_some index (sym unlisted ∙ subst (λ (j : ℕ). get_or (mended_catalog old).indexes j None ≡ Some index) same was) in
            subst (λ (db : Database). IsIndexWhile half index (bytes_named (tree_file i) new) (keys index.attribute (rows_in db index.relation))) (sym base)
            (subst (λ (bytes : List ℕ). IsIndexWhile half index bytes (keys index.attribute (rows_in (mended_base old) index.relation))) (sym (ap bytes_in_file (other_tree i differs)))
            (h.keys i index was));
      }
