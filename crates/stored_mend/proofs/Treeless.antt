-- Files in which the tree of an index is gone, and all else is sound, are half done.
use Rattle.std.proofs.Common.{◌≡◌, ◌≢◌, ◌⊎◌, inl, inr, ⊎_elim, ℕ, ◌<◌, ◌≤◌, true, false, List, [], ◌∷◌, length, get_or, Some, None, refl, ap, sym, subst, ◌∙◌, arith}
use Rattle.std.specs.Prelude.{is_some}
use Rattle.std.proofs.lemmas.Bool.{cases_eq}
use Rattle.afl_base.specs.Files.{Table}
use Rattle.catalog.specs.Rules.{broken_catalog, catalog_bytes_in, catalog_in, is_tree}
use Rattle.catalog.proofs.Breaks.{big_enough}
use Rattle.db_model.specs.declared.schemas.Schema.{Schema}
use Rattle.db_model.specs.Catalog.{Index}
use Rattle.db_model.specs.Step.{keys}
use Rattle.space_model.specs.Enough.{rows_in}
use Rattle.space_model.specs.FileNames.{bytes_named, is_there, rows_file, tree_file}
use Rattle.stored.specs.CutTables.{HoldsRowsOr, IsHalfDone, index_read, relation}
use Rattle.stored.specs.Mended.{mended_base, mended_catalog}
use Rattle.stored.specs.Sound.{IsIndexComplete}
use Rattle.stored.specs.declared.half.Half.TheVariants.{Emptying, Treeless}
use Rattle.stored.proofs.HasFiles.{formed}
use Rattle.stored_mend.proofs.SoundCatalog.{form_size}
use Rattle.stored_mend.proofs.WholeSlots.{has_mark, index_fine, index_is, named_alone, relation_is, slot_is}
use Rattle.tuple_file.specs.Tuples.{AreRows}

-- ---- a catalog with all slots, and what it asks for

-- a sound catalog of all slots, the files that it asks for but for one tree, their rows and their keys
pub record IsTreeless (files : Table) (gone : ℕ) : Type 0 where
  pub long : 1472 ≤ length (catalog_bytes_in files)
  pub inner : broken_catalog (catalog_bytes_in files) ≡ None
  pub version : (mended_catalog files).version ≡ (catalog_in files).version
  pub rows_there : (k : ℕ) → k < 8 → is_there (rows_file k) files ≡ is_some (get_or (catalog_in files).relations k None)
  pub tree_there : (i : ℕ) → i < 8 → (is_there (tree_file i) files ≡ is_tree (get_or (catalog_in files).indexes i None)) ⊎ ((i ≡ gone) × (is_there (tree_file i) files ≡ false))
  pub rows : (k : ℕ) (schema : Schema) → get_or (catalog_in files).relations k None ≡ Some schema
      → AreRows (catalog_in files).version schema.attributes (bytes_named (rows_file k) files)
  pub keys : (i : ℕ) (index : Index) → get_or (mended_catalog files).indexes i None ≡ Some index
      → IsIndexComplete index.kind (bytes_named (tree_file i) files) (keys index.attribute (rows_in (mended_base files) index.relation))

module _ (files : Table) (i : ℕ) (h : IsTreeless files i) where
  relation_here : (k : ℕ) → relation files k ≡ get_or (catalog_in files).relations k None
  relation_here = relation_is files h.inner h.long h.version

  index_here : (i : ℕ) → index_read files i ≡ get_or (catalog_in files).indexes i None
  index_here = index_is files h.inner h.long h.version

  pub half_done : IsHalfDone files (Treeless i)
  half_done = record {
    whole = h.long;
    mark = has_mark files h.inner h.long h.version (Treeless i);
    slots = slot_is files h.inner h.long h.version (Treeless i);
    named_once = named_alone files h.inner h.long h.version;
    indexes = index_fine files h.inner h.long h.version;
    rows_there = λ k below. ⊎_elim
        (λ used. h.rows_there k below ∙ sym (ap is_some (relation_here k)) ∙ used)
        (λ (emptied : Treeless i ≡ Emptying k). absurd (let n : ⊥ = cc in n));
    rows_lone = λ k below there. inl (ap is_some (relation_here k) ∙ sym (h.rows_there k below) ∙ there);
    tree_there = λ j below used. ⊎_elim
        (λ same. inl (same ∙ sym (ap is_tree (index_here j)) ∙ used))
        (λ none. inr (ap Treeless (sym none.0)))
        (h.tree_there j below);
    tree_lone = λ j below there. ⊎_elim
        (λ same. inl (ap is_tree (index_here j) ∙ sym same ∙ there))
        (λ none. let no : false ≡ true = sym none.1 ∙ there in absurd (cc))
        (h.tree_there j below);
    grown = λ k grows. absurd (let n : ⊥ = cc in n);
    rows = λ k schema e.
        subst (λ v. HoldsRowsOr (Treeless i) v k schema.attributes (bytes_named (rows_file k) files)) (sym h.version)
        (inl (h.rows k schema (sym (relation_here k) ∙ e)));
    keys = λ j index is. inl (h.keys j index is);
  }

-- ---- a catalog that breaks no rule

pub long_or_none : (catalog : List ℕ) → broken_catalog catalog ≡ None → (1472 ≤ length catalog) ⊎ (catalog ≡ [])
long_or_none catalog inner = ⊎_elim
    (λ (none : length catalog ≡ 0). inr (nothing catalog none))
    (λ (some : length catalog ≢ 0). inl (big_enough (length catalog) (form_size catalog (formed catalog inner)) some))
    (cases_eq (length catalog) 0)
  where
    nothing : (xs : List ℕ) → length xs ≡ 0 → xs ≡ []
    nothing [] e = refl
    nothing (b ∷ xs) e = absurd (omega (arith, e))
