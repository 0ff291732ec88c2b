-- Files that a cut left, repaired as far as their catalog asks, keep the rules 14 to 18.
use Rattle.std.proofs.Common.{◌≡◌, ◌≢◌, ◌⊎◌, inl, inr, ⊎_elim, ℕ, ◌+◌, ◌*◌, ◌<◌, ◌≤◌, Bool, true, false, not, List, [], length, map, replicate, take, get_or, Option, Some, None, refl, ap, sym, subst, ◌∙◌, arith}
use Rattle.std.specs.Prelude.{is_some, slice_range}
use Rattle.std.specs.List.{range_with_len}
use Rattle.std.proofs.lemmas.Bool.{cases_eq}
use Rattle.afl_base.specs.Files.{Table}
use Rattle.catalog.specs.Rules.{breaks_files, breaks_index, breaks_relation, broken_catalog, catalog_bytes_in, catalog_in, differ, is_named_among, is_relation_slot, is_stranger, is_tree}
use Rattle.catalog.proofs.Breaks.{breaks_none, breaks_nothing, empty_breaks_none}
use Rattle.db_model.specs.declared.schemas.Schema.{Schema}
use Rattle.db_model.specs.Catalog.{Index, catalog_of, index_at, relation_at, relation_slot_of, version_of}
use Rattle.padded.proofs.Facts.{both_true, false_by, none_some, none_there, some_found}
use Rattle.space_model.specs.FileNames.{catalog_file, file_named, is_there, rows_file, tree_file}
use Rattle.space_model.proofs.NamedFiles.{named_place}
use Rattle.stored.specs.CutTables.{IsSlot, IsTimed, index_read, relation, slot_bytes}
use Rattle.stored.specs.Mended.{mended_catalog, standing, whole_bytes, whole_catalog}
use Rattle.stored.specs.declared.half.Half.{Half}
use Rattle.stored.specs.declared.half.Half.TheVariants.{Nothing, Emptying, LoneRows, Treeless, LoneTree}
use Rattle.stored.proofs.MendedBase.{whole_long}
use Rattle.stored.proofs.SoundSlots.{slot_below}
use Rattle.stored_mend.specs.Listed.{IsBeyond, IsBare, IsDoneTo, IsListedTo, IsMarked, trees_below}
use Rattle.stored_mend.specs.Stages.{IsCatalogSound}
use Rattle.stored_mend.proofs.HalfKept.{index_at_slot, relation_at_slot, relations_read}
use Rattle.stored_mend.proofs.IndexGone.{files_kept, first_nothing}
use Rattle.stored_mend.proofs.OneFile.{catalog_no_rows, catalog_no_tree, rows_no_tree, same_rows_slot}

same_use : (there used : Bool) → (there ≡ true → used ≡ true) → (used ≡ true → there ≡ true) → differ there used ≡ false
same_use true used f g = ap not (f refl)
same_use false true f g = sym (g refl)
same_use false false f g = refl

-- ---- with a catalog

module _ (files : Table) (half : Half) (known : (id : ℕ) → is_stranger files id ≡ false) (d : IsDoneTo (trees_below 8) files half) where
  abbrev bytes : List ℕ
  bytes = catalog_bytes_in files

  whole_is : whole_catalog files ≡ bytes
  whole_is = whole_long bytes d.done.whole

  relation_is : (k : ℕ) → k < 8 → relation files k ≡ relation_at bytes k
  relation_is k below = relation_at_slot files k below ∙ ap (λ (xs : List ℕ). relation_at xs k) whole_is

  index_is : (i : ℕ) → i < 8 → index_read files i ≡ index_at bytes i
  index_is i below = index_at_slot files i below ∙ ap (λ (xs : List ℕ). index_at xs i) whole_is

  relations_are : (mended_catalog files).relations ≡ (catalog_of bytes).relations
  unfolding mended_catalog
  relations_are = ap (λ (xs : List ℕ). (catalog_of xs).relations) whole_is

  -- nothing is half done in the eight slots
  past : {P : Type 0} (k : ℕ) → k < 8 → 8 ≤ k → P
  past k below more = absurd (omega (arith, below, more))

  marked : IsMarked files
  marked = ⊎_elim
      (λ (m : IsMarked files). m)
      (λ (timed : (t : IsTimed files) × (8 ≤ t.k)).
      let at = slot_below (relation_at (whole_catalog files)) 8 timed.0.k timed.0.schema (sym (ap (λ (os : List (Option Schema)). get_or os timed.0.k None) (relations_read files)) ∙ timed.0.there) in
      past timed.0.k at.below timed.1)
      d.mark

  written : (k : ℕ) → k < 8 → is_relation_slot (mended_catalog files).version (slot_bytes files k) (relation files k) ≡ true
  written k below = by_slot (relation files k) (d.done.slots k below)
    where
      by_slot : (o : Option Schema) → IsSlot half (mended_catalog files).version k (slot_bytes files k) o → is_relation_slot (mended_catalog files).version (slot_bytes files k) o ≡ true
      by_slot None (inl e) = e
      by_slot None (inr part) = past k below (subst (IsBeyond (trees_below 8)) part.0 d.ahead)
      by_slot (Some schema) (inl e) = e
      by_slot (Some schema) (inr part) = past k below (subst (IsBeyond (trees_below 8)) part.0 d.ahead)

  relation_kept : (k : ℕ) → k < 8 → breaks_relation bytes k ≡ false
  unfolding breaks_relation
  relation_kept k below =
      let slot : List ℕ = slice_range bytes (176 * k) (176 * k + 176) in
      let before : List (Option Schema) = take k (catalog_of bytes).relations in
      let form : is_relation_slot (version_of bytes) slot (relation_slot_of slot) ≡ true =
      subst (λ (v : ℕ). is_relation_slot v slot (relation_slot_of slot) ≡ true) (sym marked.1)
      (subst (λ (o : Option Schema). is_relation_slot (mended_catalog files).version slot o ≡ true) (relation_is k below)
      (subst (λ (xs : List ℕ). is_relation_slot (mended_catalog files).version (slice_range xs (176 * k) (176 * k + 176)) (relation files k) ≡ true) whole_is (written k below))) in
      let once : is_named_among (relation_slot_of slot) before ≡ false =
      ap (λ (o : Option Schema). is_named_among o before) (sym (relation_is k below))
      ∙ ap (λ (os : List (Option Schema)). is_named_among (relation files k) (take k os)) (sym relations_are) ∙ d.done.named_once k below in
      ap not (both_true (is_relation_slot (version_of bytes) slot (relation_slot_of slot)) (not (is_named_among (relation_slot_of slot) before)) form (ap not once))

  catalog_kept : broken_catalog bytes ≡ None
  catalog_kept =
      breaks_none bytes marked.0 (λ none. let long = d.done.whole in omega (arith, long, none))
      (first_nothing (breaks_relation bytes) 8 relation_kept)
      (first_nothing (breaks_index bytes) 8 (λ i below. ap (λ (xs : List ℕ). breaks_index xs i) (sym whole_is) ∙ d.done.indexes i below))

  relation_listed : (k : ℕ) → get_or (catalog_in files).relations k None ≡ relation files k
  relation_listed k = ap (λ (os : List (Option Schema)). get_or os k None) (sym relations_are)

  index_listed : (i : ℕ) → i < 8 → get_or (catalog_in files).indexes i None ≡ index_read files i
  index_listed i below = ap (λ (xs : List ℕ). get_or (catalog_of xs).indexes i None) (sym whole_is)

  rows_used : (k : ℕ) → k < 8 → differ (is_there (rows_file k) files) (is_some (get_or (catalog_in files).relations k None)) ≡ false
  rows_used k below =
      ap (λ (o : Option Schema). differ (is_there (rows_file k) files) (is_some o)) (relation_listed k)
      ∙ same_use (is_there (rows_file k) files) (is_some (relation files k))
      (λ there. ⊎_elim
      (λ (used : is_some (relation files k) ≡ true). used)
      (λ (lone : (half ≡ LoneRows k) ⊎ (half ≡ Emptying k)). ⊎_elim
      (λ (e : half ≡ LoneRows k). past k below (subst (IsBeyond (trees_below 8)) e d.ahead))
      (λ (e : half ≡ Emptying k). past k below (subst (IsBeyond (trees_below 8)) e d.ahead))
      lone)
      (d.done.rows_lone k below there))
      (λ used. d.done.rows_there k below (inl used))

  tree_used : (i : ℕ) → i < 8 → differ (is_there (tree_file i) files) (is_tree (get_or (catalog_in files).indexes i None)) ≡ false
  tree_used i below =
      ap (λ (o : Option Index). differ (is_there (tree_file i) files) (is_tree o)) (index_listed i below)
      ∙ same_use (is_there (tree_file i) files) (is_tree (index_read files i))
      (λ there. ⊎_elim
      (λ (tree : is_tree (index_read files i) ≡ true). tree)
      (λ (lone : (half ≡ LoneTree i) × (index_read files i ≡ None)). past i below (subst (IsBeyond (trees_below 8)) lone.0 d.ahead))
      (d.done.tree_lone i below there))
      (λ tree. ⊎_elim
      (λ (there : is_there (tree_file i) files ≡ true). there)
      (λ (e : half ≡ Treeless i). past i below (subst (IsBeyond (trees_below 8)) e d.ahead))
      (d.done.tree_there i below tree))

  pub catalog_sound : IsCatalogSound files half
  catalog_sound = record {
    known = known;
    catalog = breaks_nothing files
        (sym (first_nothing (is_stranger files) 32 (λ id below. known id)))
        catalog_kept
        (sym (first_nothing (breaks_files files (catalog_in files).relations (catalog_in files).indexes) 16 (files_kept files (catalog_in files).relations (catalog_in files).indexes rows_used tree_used)));
    rows = d.done.rows;
    keys = d.done.keys;
  }

-- ---- without one

module _ (files : Table) (known : (id : ℕ) → is_stranger files id ≡ false) (bare : IsBare files 8) where
  no_relations : map (relation_at []) (range_with_len 0 8) ≡ replicate 8 None
  no_relations = refl

  no_indexes : map (index_at []) (range_with_len 0 8) ≡ replicate 8 None
  no_indexes = refl

  none_listed : (k : ℕ) → get_or (catalog_in files).relations k None ≡ None
  none_listed k =
      ap (λ (xs : List ℕ). get_or (map (relation_at xs) (range_with_len 0 8)) k None) bare.none
      ∙ ap (λ (os : List (Option Schema)). get_or os k None) no_relations ∙ none_there 8 k

  no_index : (i : ℕ) → get_or (catalog_in files).indexes i None ≡ None
  no_index i =
      ap (λ (xs : List ℕ). get_or (map (index_at xs) (range_with_len 0 8)) i None) bare.none
      ∙ ap (λ (os : List (Option Index)). get_or os i None) no_indexes ∙ none_there 8 i

  -- no file stands but the two
  not_there : (name : List ℕ) → name ≢ catalog_file → name ≢ rows_file 0 → is_there name files ≡ false
  not_there name catalog rows = false_by (is_there name files) (λ there.
      let found = some_found (file_named name files) there in
      let at = named_place files name found.0 found.1 in
      ⊎_elim
      (λ (e : found.0.name ≡ catalog_file). catalog (sym at.2 ∙ e))
      (λ (e : (found.0.name ≡ rows_file 0) × (found.0.bytes ≡ [])). rows (sym at.2 ∙ e.0))
      (bare.alone at.0 found.0 at.1))

  no_rows : (k : ℕ) → is_there (rows_file k) files ≡ false
  no_rows k = ⊎_elim
      (λ (first : k ≡ 0). ap (λ (j : ℕ). is_there (rows_file j) files) first ∙ bare.gone (omega arith))
      (λ (more : k ≢ 0). not_there (rows_file k) (λ e. catalog_no_rows k (sym e)) (λ e. more (same_rows_slot k 0 e)))
      (cases_eq k 0)

  no_trees : (i : ℕ) → is_there (tree_file i) files ≡ false
  no_trees i = not_there (tree_file i) (λ e. catalog_no_tree i (sym e)) (λ e. rows_no_tree 0 i (sym e))

  empty : whole_catalog files ≡ []
  empty = ap whole_bytes bare.none

  no_relation : (k : ℕ) → relation files k ≡ None
  no_relation k =
      ap (λ (os : List (Option Schema)). get_or os k None) (relations_read files)
      ∙ ap (λ (xs : List ℕ). get_or (map (relation_at xs) (range_with_len 0 8)) k None) empty
      ∙ ap (λ (os : List (Option Schema)). get_or os k None) no_relations ∙ none_there 8 k

  no_standing : (i : ℕ) (index : Index) → get_or (mended_catalog files).indexes i None ≡ Some index → ⊥
  unfolding mended_catalog
  no_standing i index is =
      let at = slot_below (λ (slot : ℕ). standing files slot (get_or (catalog_of (whole_catalog files)).indexes slot None)) 8 i index is in
      let none : get_or (catalog_of (whole_catalog files)).indexes i None ≡ None =
      ap (λ (xs : List ℕ). get_or (map (index_at xs) (range_with_len 0 8)) i None) empty ∙ ap (λ (os : List (Option Index)). get_or os i None) no_indexes ∙ none_there 8 i in
      none_some index (sym (ap (standing files i) none) ∙ at.is)

  pub bare_sound : IsCatalogSound files Nothing
  bare_sound = record {
    known = known;
    catalog = breaks_nothing files
        (sym (first_nothing (is_stranger files) 32 (λ id below. known id)))
        (empty_breaks_none (catalog_bytes_in files) (ap (λ (xs : List ℕ). length xs) bare.none))
        (sym (first_nothing (breaks_files files (catalog_in files).relations (catalog_in files).indexes) 16 (files_kept files (catalog_in files).relations (catalog_in files).indexes
        (λ k below. ap (λ (t : Bool). differ t (is_some (get_or (catalog_in files).relations k None))) (no_rows k) ∙ ap is_some (none_listed k))
        (λ i below. ap (λ (t : Bool). differ t (is_tree (get_or (catalog_in files).indexes i None))) (no_trees i) ∙ ap is_tree (no_index i)))));
    rows = λ k schema is. absurd (none_some schema (sym (no_relation k) ∙ is));
    keys = λ i index is. absurd (no_standing i index is);
  }

-- ---- either way

pub listed_sound : (files : Table) → IsListedTo (trees_below 8) files → (half : Half) × IsCatalogSound files half
listed_sound files l = ⊎_elim
    (λ (bare : IsBare files 8). (Nothing, bare_sound files l.known bare))
    (λ (done : (half : Half) × IsDoneTo (trees_below 8) files half). (done.0, catalog_sound files done.0 l.known done.1))
    l.left
