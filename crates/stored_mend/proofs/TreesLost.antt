-- What files mend to where trees have changed, or are gone.
use Rattle.std.proofs.Common.{◌≡◌, ◌≢◌, inl, inr, ℕ, ◌<◌, Bool, true, false, List, length, get_or, Option, Some, None, IsTrue, refl, ap, sym, subst, ◌∙◌, arith}
use Rattle.std.specs.Prelude.{is_some}
use Rattle.std.proofs.Math.Logic.{⊎_elim}
use Rattle.std.proofs.lemmas.Bool.{cases_eq}
use Rattle.std.proofs.lemmas.List.FromFn.{length-map-range_with_len}
use Rattle.afl_base.specs.Files.{State, Table}
use Rattle.catalog.specs.Rules.{catalog_bytes_in, is_tree}
use Rattle.db_model.specs.Catalog.{Index, index_at, relation_at}
use Rattle.db_model.specs.Database.{Cursor, Database, Relation}
use Rattle.space_model.specs.FileNames.{bytes_in_file, bytes_named, catalog_file, is_there, rows_file, tree_file}
use Rattle.stored.specs.Mended.{mended_base, mended_catalog, mended_version, standing, whole_bytes, whole_catalog}
use Rattle.stored.proofs.MendedBase.{cursors_mended, index_mended, index_mended_at, index_stands, index_stays, index_waits, indexes_mended, relation_mended, relation_stays, relations_mended, slots_same, version_mended}
use Rattle.stored.proofs.MendedTables.{mended_by, relation_by}
use Rattle.stored_mend.specs.Mending.{KeepsBase, MendsAsBefore}
use Rattle.stored_mend.specs.Trees.{ChangesAtMost, KeepsButTrees, LosesTrees, LosesTreesFor, SparesButOne, StaysUnless}
use Rattle.stored_mend.proofs.OneFile.{catalog_no_tree, rows_no_tree, same_tree_slot}

-- ---- a tree counts for nothing where it is there as before

pub kept_by : (a b : State) (i : ℕ) → ChangesAtMost a b (tree_file i) → KeepsBase a b
kept_by a b i c =
    let catalog : catalog_bytes_in b.files ≡ catalog_bytes_in a.files = ap bytes_in_file (c.spares.spares.files catalog_file (catalog_no_tree i)) in
    let there : (j : ℕ) → is_there (tree_file j) b.files ≡ is_there (tree_file j) a.files = λ j. ⊎_elim
    (λ e. subst (λ (k : ℕ). is_there (tree_file k) b.files ≡ is_there (tree_file k) a.files) (sym e) c.there)
    (λ other. ap is_some (c.spares.spares.files (tree_file j) (λ e. other (same_tree_slot j i e))))
    (cases_eq j i) in
    record {
      catalog = catalog;
      base = λ told. mended_by a.files b.files catalog
          (λ k. relation_by a.files b.files (mended_catalog a.files).relations k (ap bytes_in_file (c.spares.spares.files (rows_file k) (rows_no_tree k i)))) there;
      draft = c.spares.spares.draft;
      tells = c.spares.spares.tells;
    }

pub kept_same : (a : State) → KeepsBase a a
kept_same a = record { catalog = refl; base = λ told. refl; draft = refl; tells = refl }

-- ---- indexes that are lost

stays_then : (P : Type 0) (a b c : Option Index) → StaysUnless P a b → StaysUnless P b c → StaysUnless P a c
stays_then P a b c f g = ⊎_elim
    (λ (e : c ≡ b). ⊎_elim
    (λ (d : b ≡ a). inl (e ∙ d))
    (λ gone. inr (gone.0, e ∙ gone.1, gone.2))
    f)
    (λ gone. ⊎_elim
    (λ (d : b ≡ a). inr (sym (ap is_tree d) ∙ gone.0, gone.1, gone.2))
    (λ before. inr (before.0, gone.1, gone.2))
    f)
    g

pub loses_same : (P : ℕ → Type 0) (a b : Database) → b ≡ a → LosesTreesFor P a b
loses_same P a b e = record {
  version = ap (λ (d : Database). d.version) e;
  relations = ap (λ (d : Database). d.relations) e;
  cursors = ap (λ (d : Database). d.cursors) e;
  slots = ap (λ (d : Database). length d.indexes) e;
  indexes = λ slot below. inl (ap (λ (d : Database). get_or d.indexes slot None) e);
}

pub loses_then : (P : ℕ → Type 0) (a b c : Database) → LosesTreesFor P a b → LosesTreesFor P b c → LosesTreesFor P a c
loses_then P a b c f g = record {
  version = g.version ∙ f.version;
  relations = g.relations ∙ f.relations;
  cursors = g.cursors ∙ f.cursors;
  slots = g.slots ∙ f.slots;
  indexes = λ slot below. stays_then (P slot) (get_or a.indexes slot None) (get_or b.indexes slot None) (get_or c.indexes slot None) (f.indexes slot below) (g.indexes slot below);
}

-- whatever the reason is
pub loses_any : (P : ℕ → Type 0) (a b : Database) → LosesTreesFor P a b → LosesTrees a b
loses_any P a b f = record {
  version = f.version;
  relations = f.relations;
  cursors = f.cursors;
  slots = f.slots;
  indexes = λ slot below. ⊎_elim (λ e. inl e) (λ gone. inr (gone.0, gone.1, tt)) (f.indexes slot below);
}

-- ---- steps

pub but_kept : (P : ℕ → Type 0) (a b : State) → KeepsBase a b → KeepsButTrees P a b
but_kept P a b k = record { base = λ told. loses_same P (mended_base a.files) (mended_base b.files) (k.base told); draft = k.draft; tells = k.tells }

pub but_mends : (P : ℕ → Type 0) (a b : State) → MendsAsBefore a b → KeepsButTrees P a b
but_mends P a b k = record { base = λ told. loses_same P (mended_base a.files) (mended_base b.files) (k.base told); draft = k.draft; tells = k.tells }

pub but_same : (P : ℕ → Type 0) (a : State) → KeepsButTrees P a a
but_same P a = but_kept P a a (kept_same a)

pub but_then : (P : ℕ → Type 0) (a b c : State) → KeepsButTrees P a b → KeepsButTrees P b c → KeepsButTrees P a c
but_then P a b c f g = record {
  base = λ told. loses_then P (mended_base a.files) (mended_base b.files) (mended_base c.files) (f.base told) (g.base (f.tells ∙ told));
  draft = g.draft ∙ f.draft;
  tells = g.tells ∙ f.tells;
}

-- ---- the tree of a slot is gone

module _ (a b : Table) (i : ℕ) (P : ℕ → Type 0) (others : (n : List ℕ) → n ≢ tree_file i → bytes_named n b ≡ bytes_named n a) (there : (j : ℕ) → j ≢ i → is_there (tree_file j) b ≡ is_there (tree_file j) a)
    (gone : is_there (tree_file i) b ≡ false) (reason : P i) where
  catalog : catalog_bytes_in b ≡ catalog_bytes_in a
  catalog = others catalog_file (catalog_no_tree i)

  index_same : (j : ℕ) → index_at (whole_catalog b) j ≡ index_at (whole_catalog a) j
  index_same j = ap (λ (bytes : List ℕ). index_at (whole_bytes bytes) j) catalog

  here : StaysUnless (P i) (index_mended a i) (index_mended b i)
  here = by_tree (is_tree (index_at (whole_catalog a) i)) refl (is_there (tree_file i) a) refl
    where
      by_tree : (t : Bool) → is_tree (index_at (whole_catalog a) i) ≡ t → (h : Bool) → is_there (tree_file i) a ≡ h → StaysUnless (P i) (index_mended a i) (index_mended b i)
      by_tree false none h was =
          inl (index_stays a b i (index_same i) (λ tree. let no : false ≡ true = sym none ∙ sym (ap is_tree (index_same i)) ∙ tree in absurd (cc)))
      by_tree true tree false was =
          inl (index_waits b i (index_at (whole_catalog b) i) (ap is_tree (index_same i) ∙ tree) gone ∙ sym (index_waits a i (index_at (whole_catalog a) i) tree was))
      by_tree true tree true was =
          inr (ap is_tree (index_stands a i (index_at (whole_catalog a) i) (λ t. was)) ∙ tree, index_waits b i (index_at (whole_catalog b) i) (ap is_tree (index_same i) ∙ tree) gone, reason)

  index_stays_unless : (j : ℕ) → StaysUnless (P j) (index_mended a j) (index_mended b j)
  index_stays_unless j = ⊎_elim
      (λ e. subst (λ (k : ℕ). StaysUnless (P k) (index_mended a k) (index_mended b k)) (sym e) here)
      (λ other. inl (index_stays a b j (index_same j) (λ tree. there j other)))
      (cases_eq j i)

  pub lost : LosesTreesFor P (mended_base a) (mended_base b)
  lost = record {
    version = version_mended b ∙ ap (λ (bytes : List ℕ). mended_version (whole_bytes bytes)) catalog ∙ sym (version_mended a);
    relations = relations_mended b
        ∙ slots_same (relation_mended b) (relation_mended a) 0 8 (λ k low below. relation_stays a b k (ap (λ (bytes : List ℕ). relation_at (whole_bytes bytes) k) catalog) (λ used. others (rows_file k) (rows_no_tree k i)))
        ∙ sym (relations_mended a);
    cursors = cursors_mended b ∙ sym (cursors_mended a);
    slots = ap (λ (is : List (Option Index)). length is) (indexes_mended b) ∙ length-map-range_with_len (index_mended b) 0 8
        ∙ sym (ap (λ (is : List (Option Index)). length is) (indexes_mended a) ∙ length-map-range_with_len (index_mended a) 0 8);
    indexes = λ j below.
        subst (λ (o : Option Index). StaysUnless (P j) o (get_or (mended_base b).indexes j None)) (sym (index_mended_at a j below))
        (subst (λ (o : Option Index). StaysUnless (P j) (index_mended a j) o) (sym (index_mended_at b j below)) (index_stays_unless j));
  }

pub lost_by : (P : ℕ → Type 0) (a b : State) (i : ℕ) → SparesButOne a b (tree_file i) → is_there (tree_file i) b.files ≡ false → P i → KeepsButTrees P a b
lost_by P a b i s gone reason = record {
  base = λ told. lost a.files b.files i P (λ n differs. ap bytes_in_file (s.files n differs)) (λ j other. ap is_some (s.files (tree_file j) (λ e. other (same_tree_slot j i e)))) gone reason;
  draft = s.draft;
  tells = s.tells;
}
