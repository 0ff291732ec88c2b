-- Sound files are ones that a cut can have left: nothing is half done.
use Rattle.std.proofs.Common.{◌≡◌, ◌⊎◌, inl, inr, ⊎_elim, ℕ, zero, suc, ◌+◌, ◌*◌, ◌<◌, ◌≤◌, Bool, true, false, not, ◌&&◌, ◌||◌, ◌==◌, List, [], ◌∷◌, length, map, replicate, take, get_or, Option, Some, None, if◌then◌else◌, refl, ap, sym, subst, ◌∙◌, arith}
use Rattle.std.specs.Prelude.{is_some, slice_range, unwrap_or}
use Rattle.std.specs.List.{range_with_len}
use Rattle.std.specs.Str.{bytes_eq}
use Rattle.std.proofs.lemmas.List.FromFn.{get_or-map-range_with_len}
use Rattle.std.proofs.lemmas.Slice.Eq.{bytes_eq-Decides}
use Rattle.afl_base.specs.declared.kind.Kind.TheVariants.{Doubling, Fixed}
use Rattle.afl_base.specs.Files.{File, IsNamed, Table, file_at, place}
use Rattle.afl_base.proofs.FileLaws.{named_here, named_live, place_live}
use Rattle.catalog.specs.Rules.{breaks_files, breaks_index, breaks_relation, catalog_bytes_in, catalog_in, differ, has_form, is_named_among, is_of_database, is_relation_slot, is_sound_relation, is_stranger, is_tree}
use Rattle.db_model.specs.declared.schemas.Schema.{Schema}
use Rattle.db_model.specs.Catalog.{Index, catalog_of, index_at, relation_at, version_mark, version_of}
use Rattle.db_model.specs.Step.{keys}
use Rattle.padded.proofs.Facts.{both_parts, none_there, not_not, some_same, true_eq, untrue}
use Rattle.space_model.specs.Enough.{rows_in}
use Rattle.space_model.specs.FileNames.{bytes_named, catalog_file, file_named, is_there, rows_file, tree_file}
use Rattle.stored.specs.Mended.{mended_base, mended_catalog, whole_catalog}
use Rattle.stored.specs.Sound.{IsSoundTable}
use Rattle.stored.proofs.FilesOf.{IsNumbered, Unbroken, by_kind, first_false, in_table, rows_wanted, tree_wanted, unbroken}
use Rattle.stored.proofs.HasFiles.{formed, no_stranger}
use Rattle.stored.proofs.MendedBase.{whole_long}
use Rattle.stored.proofs.MendedSound.{mended_of_sound}
use Rattle.stored.proofs.SoundSlots.{IsUnbroken, kept, nothing, slot_below, unbroken_slots}
use Rattle.stored.specs.CutTables.{HoldsRowsOr, IsBegun, IsCutTable, IsHalfDone, IsIndexWhile, IsSlot, index_read, relation}
use Rattle.stored.specs.declared.half.Half.TheVariants.{Nothing}

pub same_used : (there used : Bool) → differ there used ≡ false → there ≡ used
same_used true true e = refl
same_used true false e = cc
same_used false true e = cc
same_used false false e = refl

whole_slot : (version k : ℕ) (slot : List ℕ) (o : Option Schema) → is_relation_slot version slot o ≡ true → IsSlot Nothing version k slot o
whole_slot version k slot None e = inl e
whole_slot version k slot (Some schema) e = inl e

-- a file under an id is there by its name
there_at : (files : Table) (id : ℕ) (f : File) → place files id ≡ Some f → is_there f.name files ≡ true
there_at [] id f e = cc
there_at (None ∷ files) zero f e = cc
there_at (None ∷ files) (suc id) f e = there_at files id f e
there_at (Some g ∷ files) zero f e =
    let same : g ≡ f = ap (λ o. unwrap_or o g) e in
    let named : bytes_eq g.name f.name ≡ true = (bytes_eq-Decides g.name f.name).1 (ap (λ (x : File). x.name) same) in
    ap (λ (b : Bool). is_some (if b then Some g else file_named f.name files)) named
there_at (Some g ∷ files) (suc id) f e = by_test (bytes_eq g.name f.name) (there_at files id f e)
  where
    by_test : (b : Bool) → is_there f.name files ≡ true → is_some (if b then Some g else file_named f.name files) ≡ true
    by_test true rest = refl
    by_test false rest = rest

-- and so is one that has a name
pub named_there : (files : Table) (id : ℕ) (name : List ℕ) → IsNamed files id name → is_there name files ≡ true
named_there files id name is =
    let f : File = file_at files id in
    let at : place files id ≡ Some f = place_live files id (named_live files id name is) in
    let own : Some f.name ≡ Some name = sym (named_here files id f at) ∙ is in
    subst (λ (n : List ℕ). is_there n files ≡ true) (some_same f.name name own) (there_at files id f at)

-- a catalog that has a form has all slots, or none
long_or_none : (bytes : List ℕ) → has_form bytes ≡ true → (1472 ≤ length bytes) ⊎ (bytes ≡ [])
long_or_none bytes e = ⊎_elim
    (λ (t : length bytes == 0 ≡ true). inr (nothing bytes (true_eq (length bytes) 0 t)))
    (λ (r : (length bytes == 1472 ≡ true) ⊎ ((length bytes == 1480 && bytes_eq (slice_range bytes 1472 1480) version_mark) ≡ true)). inl (⊎_elim
    (λ (t : length bytes == 1472 ≡ true). let size = true_eq (length bytes) 1472 t in omega (arith, size))
    (λ (t : (length bytes == 1480 && bytes_eq (slice_range bytes 1472 1480) version_mark) ≡ true).
    let size = true_eq (length bytes) 1480 (both_parts (length bytes == 1480) (bytes_eq (slice_range bytes 1472 1480) version_mark) t).0 in omega (arith, size))
    r))
    (three (length bytes == 0) (length bytes == 1472) (length bytes == 1480 && bytes_eq (slice_range bytes 1472 1480) version_mark) e)
  where
    three : (a b c : Bool) → (a || b || c) ≡ true → (a ≡ true) ⊎ ((b ≡ true) ⊎ (c ≡ true))
    three true b c e = inl refl
    three false true c e = inr (inl refl)
    three false false c e = inr (inr e)

no_relations : map (relation_at []) (range_with_len 0 8) ≡ replicate 8 None
no_relations = refl

no_indexes : map (index_at []) (range_with_len 0 8) ≡ replicate 8 None
no_indexes = refl

module _ (files : Table) (s : IsSoundTable files) where
  abbrev bytes : List ℕ
  bytes = catalog_bytes_in files

  parts : Unbroken files
  parts = unbroken files s.catalog

  slots_are : IsUnbroken bytes
  slots_are = unbroken_slots bytes parts.inner

  rows_there : (k : ℕ) → k < 8 → is_there (rows_file k) files ≡ is_some (get_or (catalog_in files).relations k None)
  rows_there k below =
      same_used (is_there (rows_file k) files) (is_some (get_or (catalog_in files).relations k None))
      (rows_wanted files (catalog_in files).relations (catalog_in files).indexes k below (first_false (breaks_files files (catalog_in files).relations (catalog_in files).indexes) 16 k (omega (arith, below)) parts.files_there))

  tree_there : (i : ℕ) → i < 8 → is_there (tree_file i) files ≡ is_tree (get_or (catalog_in files).indexes i None)
  tree_there i below =
      same_used (is_there (tree_file i) files) (is_tree (get_or (catalog_in files).indexes i None))
      (tree_wanted files (catalog_in files).relations (catalog_in files).indexes i (first_false (breaks_files files (catalog_in files).relations (catalog_in files).indexes) 16 (8 + i) (omega (arith, below)) parts.files_there))

  -- ---- a catalog with all slots

  module _ (long : 1472 ≤ length bytes) where
    whole_is : whole_catalog files ≡ bytes
    whole_is = whole_long bytes long

    relations_are : (mended_catalog files).relations ≡ (catalog_in files).relations
    unfolding mended_catalog
    relations_are = ap (λ (b : List ℕ). (catalog_of b).relations) whole_is

    version_is : (mended_catalog files).version ≡ (catalog_in files).version
    unfolding mended_catalog mended_base
    version_is = ap (λ db. db.version) (mended_of_sound files s)

    indexes_are : (mended_catalog files).indexes ≡ (catalog_in files).indexes
    unfolding mended_catalog mended_base
    indexes_are = ap (λ db. db.indexes) (mended_of_sound files s)

    relation_is : (k : ℕ) → relation files k ≡ get_or (catalog_in files).relations k None
    relation_is k = ap (λ xs. get_or xs k None) relations_are

    index_is : (i : ℕ) → index_read files i ≡ get_or (catalog_in files).indexes i None
    index_is i = ap (λ (b : List ℕ). get_or (catalog_of b).indexes i None) whole_is

    -- its mark is whole
    pub sound_mark : (has_form bytes ≡ true) × (version_of bytes ≡ (mended_catalog files).version)
    sound_mark = (formed bytes parts.inner, sym version_is)

    some : length bytes ≡ 0 → ⊥
    some none = omega (arith, long, none)

    slot_kept : (k : ℕ) → k < 8 → is_sound_relation (version_of bytes) (slice_range bytes (176 * k) (176 * k + 176)) (take k (catalog_of bytes).relations) ≡ true
    unfolding breaks_relation
    slot_kept k below =
        not_not (is_sound_relation (version_of bytes) (slice_range bytes (176 * k) (176 * k + 176)) (take k (catalog_of bytes).relations))
        (kept bytes (breaks_relation bytes) k below some slots_are.relations)

    pub half_done : IsHalfDone files Nothing
    half_done = record {
      whole = long;
      mark = inl sound_mark;
      slots = λ k below.
          let slot : List ℕ = slice_range bytes (176 * k) (176 * k + 176) in
          let p = both_parts (is_relation_slot (version_of bytes) slot (relation_at bytes k)) (not (is_named_among (relation_at bytes k) (take k (catalog_of bytes).relations))) (slot_kept k below) in
          let here : relation_at bytes k ≡ relation files k = sym (get_or-map-range_with_len (relation_at bytes) 0 8 k k None below (omega arith)) ∙ sym (relation_is k) in
          subst (λ b. IsSlot Nothing (mended_catalog files).version k (slice_range b (176 * k) (176 * k + 176)) (relation files k)) (sym whole_is)
          (subst (λ v. IsSlot Nothing v k slot (relation files k)) (sym version_is)
          (whole_slot (version_of bytes) k slot (relation files k) (subst (λ o. is_relation_slot (version_of bytes) slot o ≡ true) here p.0)));
      named_once = λ k below.
          let slot : List ℕ = slice_range bytes (176 * k) (176 * k + 176) in
          let p = both_parts (is_relation_slot (version_of bytes) slot (relation_at bytes k)) (not (is_named_among (relation_at bytes k) (take k (catalog_of bytes).relations))) (slot_kept k below) in
          let here : relation_at bytes k ≡ relation files k = sym (get_or-map-range_with_len (relation_at bytes) 0 8 k k None below (omega arith)) ∙ sym (relation_is k) in
          subst (λ xs. is_named_among (relation files k) (take k xs) ≡ false) (sym relations_are)
          (subst (λ o. is_named_among o (take k (catalog_of bytes).relations) ≡ false) here (untrue (is_named_among (relation_at bytes k) (take k (catalog_of bytes).relations)) p.1));
      indexes = λ i below. subst (λ b. breaks_index b i ≡ false) (sym whole_is) (kept bytes (breaks_index bytes) i below some slots_are.indexes);
      rows_there = λ k below. ⊎_elim
          (λ used. rows_there k below ∙ sym (ap is_some (relation_is k)) ∙ used)
          (λ half. absurd (let n : ⊥ = cc in n));
      rows_lone = λ k below there. inl (ap is_some (relation_is k) ∙ sym (rows_there k below) ∙ there);
      tree_there = λ i below used. inl (tree_there i below ∙ sym (ap is_tree (index_is i)) ∙ used);
      tree_lone = λ i below there. inl (ap is_tree (index_is i) ∙ sym (tree_there i below) ∙ there);
      grown = λ k half. absurd (let n : ⊥ = cc in n);
      rows = λ k schema e.
          let here : get_or (catalog_in files).relations k None ≡ Some schema = sym (relation_is k) ∙ e in
          let at = slot_below (relation_at bytes) 8 k schema here in
          subst (λ v. HoldsRowsOr Nothing v k schema.attributes (bytes_named (rows_file k) files)) (sym version_is) (inl (s.rows k at.below schema here));
      keys = λ i index e.
          let here : get_or (catalog_in files).indexes i None ≡ Some index = sym (ap (λ xs. get_or xs i None) indexes_are) ∙ e in
          let at = slot_below (index_at bytes) 8 i index here in
          subst (λ db. IsIndexWhile Nothing index (bytes_named (tree_file i) files) (keys index.attribute (rows_in db index.relation))) (sym (mended_of_sound files s))
          (inl (s.indexes i at.below index here));
    }

  -- ---- no catalog yet

  pub no_relation : bytes ≡ [] → (k : ℕ) → get_or (catalog_in files).relations k None ≡ None
  no_relation none k =
      ap (λ b. get_or (map (relation_at b) (range_with_len 0 8)) k None) none
      ∙ ap (λ (xs : List (Option Schema)). get_or xs k None) no_relations ∙ none_there 8 k

  pub no_index : bytes ≡ [] → (i : ℕ) → get_or (catalog_in files).indexes i None ≡ None
  no_index none i =
      ap (λ b. get_or (map (index_at b) (range_with_len 0 8)) i None) none
      ∙ ap (λ (xs : List (Option Index)). get_or xs i None) no_indexes ∙ none_there 8 i

  begun : bytes ≡ [] → ((id : ℕ) → is_stranger files id ≡ false) → IsBegun files
  begun none known = record {
    short = let e : length bytes ≡ 0 = ap (λ (b : List ℕ). length b) none in omega (arith, e);
    alone = λ id f e. ⊎_elim
        (λ (c : (f.name ≡ catalog_file) × (f.kind ≡ Fixed 6)). inl c.0)
        (λ (n : (IsNumbered 84 f.name ⊎ IsNumbered 88 f.name) × (f.kind ≡ Doubling)). ⊎_elim
        (λ (m : IsNumbered 84 f.name).
        let there : is_there (rows_file m.slot) files ≡ true = subst (λ name. is_there name files ≡ true) m.is (there_at files id f e) in
        let no : false ≡ true = sym (ap is_some (no_relation none m.slot)) ∙ sym (rows_there m.slot m.below) ∙ there in
        absurd (let n : ⊥ = cc in n))
        (λ (m : IsNumbered 88 f.name).
        let there : is_there (tree_file m.slot) files ≡ true = subst (λ name. is_there name files ≡ true) m.is (there_at files id f e) in
        let no : false ≡ true = sym (ap is_tree (no_index none m.slot)) ∙ sym (tree_there m.slot m.below) ∙ there in
        absurd (let n : ⊥ = cc in n))
        n.0)
        (by_kind f.name f.kind (no_stranger files id f e (known id)));
    catalog = inl none;
  }

  all_known : length files ≡ 32 → (id : ℕ) → is_stranger files id ≡ false
  all_known size id = by_place (place files id) refl
    where
      by_place : (o : Option File) → place files id ≡ o → is_stranger files id ≡ false
      by_place None e = ap (λ o. elim o [ None ↦ false | Some f ↦ not (is_of_database f.name f.kind) ]) e
      by_place (Some f) e = first_false (is_stranger files) 32 id (in_table files size id f e) parts.strangers

  -- where no file is a stranger's
  pub cut_of_sound : ((id : ℕ) → is_stranger files id ≡ false) → IsCutTable files
  cut_of_sound known = record {
    known = known;
    done = ⊎_elim
        (λ (long : 1472 ≤ length bytes). inr (Nothing, half_done long))
        (λ (none : bytes ≡ []). inl (begun none known))
        (long_or_none bytes (formed bytes parts.inner));
  }

  pub sound_table_is_cut : length files ≡ 32 → IsCutTable files
  sound_table_is_cut size = cut_of_sound (all_known size)
