-- What is asked of an index slot and its tree, case by case.
use Rattle.std.proofs.Common.{◌≡◌, ◌≢◌, ◌⊎◌, inl, inr, ⊎_elim, ℕ, ℤ, ◌<◌, Bool, true, false, List, get_or, Option, Some, None, refl, ap, sym, subst, ◌∙◌}
use Rattle.afl_base.specs.Files.{Table}
use Rattle.catalog.specs.Rules.{is_tree}
use Rattle.db_model.specs.declared.schemas.IndexKind.{IndexKind}
use Rattle.db_model.specs.declared.schemas.IndexKind.TheVariants.{MaxHeap}
use Rattle.db_model.specs.Catalog.{Index}
use Rattle.padded.proofs.Facts.{none_some, some_same}
use Rattle.space_model.specs.FileNames.{bytes_named, is_there, tree_file}
use Rattle.stored.specs.CutTables.{IsIndexWhile, index_read}
use Rattle.stored.specs.Mended.{mended_catalog}
use Rattle.stored.specs.Sound.{IsIndexComplete}
use Rattle.stored.specs.declared.half.Half.{Half}
use Rattle.stored.specs.declared.half.Half.TheVariants.{AddingKey, LoneTree, Treeless}
use Rattle.stored_survey.specs.Asked.{IsKeptBeside}
use Rattle.stored_survey.specs.Shown.{keys_mended}
use Rattle.stored_survey.proofs.Slots.{heap_of, read_stands, stands_as_read, tree_of}

module _ (files : Table) (half : Half) (i : ℕ) (below : i < 8) where
  abbrev tree_bytes : List ℕ
  tree_bytes = bytes_named (tree_file i) files

  -- ---- a slot without an index

  module _ (none : index_read files i ≡ None) where
    no_tree : is_tree (index_read files i) ≡ true → ⊥
    no_tree tree = let no : false ≡ true = sym (ap is_tree none) ∙ tree in cc

    pub free_kept : (is_there (tree_file i) files ≡ true → half ≡ LoneTree i) → IsKeptBeside files half i
    free_kept lone = record {
      tree_there = λ tree. absurd (no_tree tree);
      tree_lone = λ there. inr (lone there, none);
      keys = λ index is. absurd (none_some index (sym none ∙ (stands_as_read files i index is).read));
    }

    pub kept_free : IsKeptBeside files half i → is_there (tree_file i) files ≡ true → half ≡ LoneTree i
    kept_free k there = ⊎_elim (λ (tree : is_tree (index_read files i) ≡ true). absurd (no_tree tree)) (λ (part : (half ≡ LoneTree i) × (index_read files i ≡ None)). part.0) (k.tree_lone there)

  -- ---- an index

  module _ (index : Index) (is : index_read files i ≡ Some index) where
    abbrev all_keys : List ℤ
    all_keys = keys_mended files index

    same_index : (other : Index) → get_or (mended_catalog files).indexes i None ≡ Some other → index ≡ other
    same_index other at = some_same index other (sym is ∙ (stands_as_read files i other at).read)

    tree_read : index.kind ≡ MaxHeap → is_tree (index_read files i) ≡ true
    tree_read kind = ap is_tree is ∙ tree_of index kind

    -- a hash tree that is not there
    pub gone_kept : index.kind ≡ MaxHeap → is_there (tree_file i) files ≡ false → half ≡ Treeless i → IsKeptBeside files half i
    gone_kept kind gone e = record {
      tree_there = λ tree. inr e;
      tree_lone = λ there. absurd (let no : false ≡ true = sym gone ∙ there in let n : ⊥ = cc in n);
      keys = λ other at.
          let same = same_index other at in
          let there = (stands_as_read files i other at).tree (subst (λ (x : Index). is_tree (Some x) ≡ true) same (tree_of index kind)) in
          absurd (let no : false ≡ true = sym gone ∙ there in let n : ⊥ = cc in n);
    }

    pub kept_gone : index.kind ≡ MaxHeap → is_there (tree_file i) files ≡ false → IsKeptBeside files half i → half ≡ Treeless i
    kept_gone kind gone k = ⊎_elim
        (λ (there : is_there (tree_file i) files ≡ true). absurd (let no : false ≡ true = sym gone ∙ there in let n : ⊥ = cc in n))
        (λ (e : half ≡ Treeless i). e)
        (k.tree_there (tree_read kind))

    -- one that is
    pub tree_kept : index.kind ≡ MaxHeap → is_there (tree_file i) files ≡ true → IsIndexWhile half index tree_bytes all_keys → IsKeptBeside files half i
    tree_kept kind there while = record {
      tree_there = λ tree. inl there;
      tree_lone = λ e. inl (tree_read kind);
      keys = λ other at. subst (λ (x : Index). IsIndexWhile half x tree_bytes (keys_mended files x)) (same_index other at) while;
    }

    pub kept_tree : is_there (tree_file i) files ≡ true → IsKeptBeside files half i → IsIndexWhile half index tree_bytes all_keys
    kept_tree there k = k.keys index (read_stands files i index below is (λ tree. there))

    -- an index without a tree
    pub other_kept : (index.kind ≢ MaxHeap) → is_there (tree_file i) files ≡ false → IsIndexComplete index.kind tree_bytes all_keys → IsKeptBeside files half i
    other_kept other gone complete = record {
      tree_there = λ tree. absurd (other (heap_of index (sym (ap is_tree is) ∙ tree)));
      tree_lone = λ there. absurd (let no : false ≡ true = sym gone ∙ there in let n : ⊥ = cc in n);
      keys = λ found at. subst (λ (x : Index). IsIndexWhile half x tree_bytes (keys_mended files x)) (same_index found at) (inl complete);
    }

    pub kept_other : (index.kind ≢ MaxHeap) → IsKeptBeside files half i → IsIndexComplete index.kind tree_bytes all_keys
    kept_other other k = ⊎_elim
        (λ (complete : IsIndexComplete index.kind tree_bytes all_keys). complete)
        (λ part. absurd (other part.0))
        (k.keys index (read_stands files i index below is (λ tree. absurd (other (heap_of index tree)))))

    pub kept_bare : (index.kind ≢ MaxHeap) → IsKeptBeside files half i → is_there (tree_file i) files ≡ true → ⊥
    kept_bare other k there = ⊎_elim
        (λ (tree : is_tree (index_read files i) ≡ true). other (heap_of index (sym (ap is_tree is) ∙ tree)))
        (λ (part : (half ≡ LoneTree i) × (index_read files i ≡ None)). none_some index (sym part.1 ∙ is))
        (k.tree_lone there)
