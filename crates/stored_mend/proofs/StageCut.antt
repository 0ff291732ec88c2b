-- Files whose catalog is sound are ones that a cut can have left: of rows and trees one thing at most is half done.
use Rattle.std.proofs.Common.{◌≡◌, ◌⊎◌, inl, inr, ⊎_elim, ℕ, ◌+◌, ◌<◌, ◌≤◌, true, false, List, [], ◌∷◌, length, map, replicate, get_or, Option, None, refl, ap, sym, subst, ◌∙◌, arith}
use Rattle.std.specs.Prelude.{is_some, option_map}
use Rattle.std.specs.List.{range_with_len}
use Rattle.std.proofs.lemmas.Bool.{cases_eq}
use Rattle.afl_base.specs.declared.kind.Kind.TheVariants.{Doubling, Fixed}
use Rattle.afl_base.specs.Files.{File, Table}
use Rattle.catalog.specs.Rules.{breaks_files, catalog_bytes_in, catalog_in, is_tree}
use Rattle.catalog.proofs.Breaks.{big_enough}
use Rattle.db_model.specs.declared.schemas.Schema.{Schema}
use Rattle.db_model.specs.Catalog.{relation_at}
use Rattle.padded.proofs.Facts.{none_there}
use Rattle.space_model.specs.FileNames.{catalog_file, is_there, rows_file, tree_file}
use Rattle.stored.proofs.SoundSlots.{nothing}
use Rattle.stored.specs.CutTables.{IsBegun, IsCutTable, IsHalfDone, index_read, relation}
use Rattle.stored.specs.Mended.{mended_catalog}
use Rattle.stored.specs.declared.half.Half.{Half}
use Rattle.stored.specs.declared.half.Half.TheVariants.{Nothing, Emptying, Growing, LoneRows, Treeless, LoneTree, AddingRow, AddingKey}
use Rattle.stored.proofs.FilesOf.{IsNumbered, Unbroken, by_kind, first_false, rows_wanted, tree_wanted, unbroken}
use Rattle.stored.proofs.HasFiles.{formed, no_stranger}
use Rattle.stored.proofs.SoundCut.{named_there}
use Rattle.stored_mend.specs.Stages.{HasWholeRelations, IsCatalogSound}
use Rattle.stored_mend.proofs.SoundCatalog.{form_size, version_read}
use Rattle.stored_mend.proofs.WholeSlots.{has_mark, index_fine, index_is, named_alone, no_index, relation_is, same_used, slot_is}

-- ---- what is half done in a sound catalog: rows or trees, or nothing

-- no slot is emptied or grows
record IsPlain (half : Half) : Type 0 where
  emptying : (k : ℕ) → half ≡ Emptying k → ⊥
  growing : (k : ℕ) → half ≡ Growing k → ⊥

-- a catalog is sound with something that is no slot's
abbrev IsPlainly : Table → Type 0
IsPlainly files = (half : Half) × IsPlain half × IsCatalogSound files half

module _ (files : Table) where
  nothing_left : (half : Half) → ((k : ℕ) → half ≡ AddingRow k → ⊥) → ((k : ℕ) → half ≡ AddingKey k → ⊥) → IsCatalogSound files half → IsPlainly files
  nothing_left half no_row no_key s = (
    Nothing,
    record { emptying = λ k e. cc; growing = λ k e. cc },
    record {
      known = s.known;
      catalog = s.catalog;
      rows = λ k schema is. ⊎_elim (λ whole. inl whole) (λ part. absurd (no_row k part.0)) (s.rows k schema is);
      keys = λ i index is. ⊎_elim (λ complete. inl complete) (λ part. absurd (no_key index.relation part.1)) (s.keys i index is);
    },
  )

  plainly : (half : Half) → IsCatalogSound files half → IsPlainly files
  plainly Nothing s = nothing_left Nothing (λ k e. cc) (λ k e. cc) s
  plainly (Emptying j) s = nothing_left (Emptying j) (λ k e. cc) (λ k e. cc) s
  plainly (Growing j) s = nothing_left (Growing j) (λ k e. cc) (λ k e. cc) s
  plainly (LoneRows j) s = nothing_left (LoneRows j) (λ k e. cc) (λ k e. cc) s
  plainly (Treeless j) s = nothing_left (Treeless j) (λ k e. cc) (λ k e. cc) s
  plainly (LoneTree j) s = nothing_left (LoneTree j) (λ k e. cc) (λ k e. cc) s
  plainly (AddingRow j) s = (AddingRow j, record { emptying = λ k e. cc; growing = λ k e. cc }, s)
  plainly (AddingKey j) s = (AddingKey j, record { emptying = λ k e. cc; growing = λ k e. cc }, s)

no_relations : map (relation_at []) (range_with_len 0 8) ≡ replicate 8 None
no_relations = refl

module _ (files : Table) (half : Half) (plain : IsPlain half) (s : IsCatalogSound files half) where
  abbrev bytes : List ℕ
  bytes = catalog_bytes_in files

  parts : Unbroken files
  parts = unbroken files s.catalog

  rows_are_there : (k : ℕ) → k < 8 → is_there (rows_file k) files ≡ is_some (get_or (catalog_in files).relations k None)
  rows_are_there k below =
      same_used (is_there (rows_file k) files) (is_some (get_or (catalog_in files).relations k None))
      (rows_wanted files (catalog_in files).relations (catalog_in files).indexes k below (first_false (breaks_files files (catalog_in files).relations (catalog_in files).indexes) 16 k (omega (arith, below)) parts.files_there))

  tree_is_there : (i : ℕ) → i < 8 → is_there (tree_file i) files ≡ is_tree (get_or (catalog_in files).indexes i None)
  tree_is_there i below =
      same_used (is_there (tree_file i) files) (is_tree (get_or (catalog_in files).indexes i None))
      (tree_wanted files (catalog_in files).relations (catalog_in files).indexes i (first_false (breaks_files files (catalog_in files).relations (catalog_in files).indexes) 16 (8 + i) (omega (arith, below)) parts.files_there))

  -- ---- a catalog with all slots

  module _ (long : 1472 ≤ length (catalog_bytes_in files)) where
    version_is : (mended_catalog files).version ≡ (catalog_in files).version
    version_is = version_read files s.catalog

    relation_here : (k : ℕ) → relation files k ≡ get_or (catalog_in files).relations k None
    relation_here = relation_is files parts.inner long version_is

    index_here : (i : ℕ) → index_read files i ≡ get_or (catalog_in files).indexes i None
    index_here = index_is files parts.inner long version_is

    half_done : IsHalfDone files half
    half_done = record {
      whole = long;
      mark = has_mark files parts.inner long version_is half;
      slots = slot_is files parts.inner long version_is half;
      named_once = named_alone files parts.inner long version_is;
      indexes = index_fine files parts.inner long version_is;
      rows_there = λ k below. ⊎_elim
          (λ (used : is_some (relation files k) ≡ true). rows_are_there k below ∙ sym (ap is_some (relation_here k)) ∙ used)
          (λ (emptying : half ≡ Emptying k). absurd (plain.emptying k emptying));
      rows_lone = λ k below there. inl (ap is_some (relation_here k) ∙ sym (rows_are_there k below) ∙ there);
      tree_there = λ i below used. inl (tree_is_there i below ∙ sym (ap is_tree (index_here i)) ∙ used);
      tree_lone = λ i below there. inl (ap is_tree (index_here i) ∙ sym (tree_is_there i below) ∙ there);
      grown = λ k growing. absurd (plain.growing k growing);
      rows = s.rows;
      keys = s.keys;
    }

  -- ---- no catalog yet

  no_relation : bytes ≡ [] → (k : ℕ) → get_or (catalog_in files).relations k None ≡ None
  no_relation none k =
      ap (λ (b : List ℕ). get_or (map (relation_at b) (range_with_len 0 8)) k None) none
      ∙ ap (λ (xs : List (Option Schema)). get_or xs k None) no_relations ∙ none_there 8 k

  begun : bytes ≡ [] → IsBegun files
  begun none = record {
    short = let e : length bytes ≡ 0 = ap (λ (b : List ℕ). length b) none in omega (arith, e);
    alone = λ id f e.
        let there : is_there f.name files ≡ true = named_there files id f.name (ap (option_map (λ (x : File). x.name)) e) in
        ⊎_elim
        (λ (c : (f.name ≡ catalog_file) × (f.kind ≡ Fixed 6)). inl c.0)
        (λ (n : (IsNumbered 84 f.name ⊎ IsNumbered 88 f.name) × (f.kind ≡ Doubling)). ⊎_elim
        (λ (m : IsNumbered 84 f.name).
        let here : is_there (rows_file m.slot) files ≡ true = subst (λ (name : List ℕ). is_there name files ≡ true) m.is there in
        let no : false ≡ true = sym (ap is_some (no_relation none m.slot)) ∙ sym (rows_are_there m.slot m.below) ∙ here in
        absurd (let n : ⊥ = cc in n))
        (λ (m : IsNumbered 88 f.name).
        let here : is_there (tree_file m.slot) files ≡ true = subst (λ (name : List ℕ). is_there name files ≡ true) m.is there in
        let no : false ≡ true = sym (ap is_tree (no_index bytes none m.slot)) ∙ sym (tree_is_there m.slot m.below) ∙ here in
        absurd (let n : ⊥ = cc in n))
        n.0)
        (by_kind f.name f.kind (no_stranger files id f e (s.known id)));
    catalog = inl none;
  }

  plain_cut : IsCutTable files
  plain_cut = record {
    known = s.known;
    done = ⊎_elim
        (λ (none : length bytes ≡ 0). inl (begun (nothing bytes none)))
        (λ (some : length bytes ≡ 0 → ⊥). inr (half, half_done (big_enough (length bytes) (form_size bytes (formed bytes parts.inner)) some)))
        (cases_eq (length bytes) 0);
  }

-- ---- all of it

pub stage_cut : (files : Table) (half : Half) → IsCatalogSound files half → IsCutTable files
stage_cut files half s = let p = plainly files half s in plain_cut files p.0 p.1 p.2

pub whole_cut : (files : Table) (half : Half) → HasWholeRelations files half → IsCutTable files
whole_cut files half w = stage_cut files half w.stage
