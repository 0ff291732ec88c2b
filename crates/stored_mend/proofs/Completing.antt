-- Files that are sound but for trees stay so where one tree changes.
use Rattle.std.proofs.Common.{◌≡◌, ◌≢◌, ◌⊎◌, inl, inr, ⊎_elim, ℕ, ◌+◌, ◌-◌, ◌<◌, ◌≤◌, Bool, true, false, not, List, get_or, Option, Some, None, IsTrue, if◌then◌else◌, refl, ap, sym, subst, ◌∙◌, arith}
use Rattle.std.specs.Prelude.{is_some, nat_le, nat_lt}
use Rattle.std.proofs.lemmas.Bool.{cases_eq, cases_lt}
use Rattle.afl_base.specs.declared.kind.Kind.TheVariants.{Doubling}
use Rattle.afl_base.specs.Files.{File, State, Table, place}
use Rattle.catalog.specs.declared.types.Catalog.{Catalog}
use Rattle.catalog.specs.CatalogFile.{indexes_in}
use Rattle.catalog.specs.Rules.{breaks_files, broken_catalog, catalog_bytes_in, catalog_in, differ, first, first_broken, is_of_database, is_stranger, is_tree}
use Rattle.catalog.proofs.Breaks.{breaks_nothing}
use Rattle.db_model.specs.declared.schemas.IndexKind.TheVariants.{MaxHeap}
use Rattle.db_model.specs.declared.schemas.Schema.{Schema}
use Rattle.db_model.specs.Catalog.{Catalog as Slots, Index, catalog_of}
use Rattle.padded.proofs.Facts.{both_true, le_true, lt_false, lt_true, none_some}
use Rattle.space_model.specs.FileNames.{bytes_in_file, bytes_named, catalog_file, is_there, rows_file, tree_file}
use Rattle.stored.proofs.FilesOf.{first_false, unbroken}
use Rattle.stored.proofs.HasFiles.{no_stranger}
use Rattle.stored.proofs.SameBase.{first_nothing}
use Rattle.stored_mend.specs.Complete.{HasCompleteIndexes, HasSlot, HasCompleteIndex, IsSoundButTrees, LosesIndex, LosesTree, SettlesIndex, SettlesSlot, SparesOtherIndexes}
use Rattle.stored_mend.specs.Listed.{LacksTree}
use Rattle.stored_mend.specs.Trees.{ChangesAtMost, IsDoublingOf, SparesButOne, SparesButTree}
use Rattle.stored_mend.proofs.OneFile.{catalog_no_rows, catalog_no_tree, rows_no_tree, same_tree_slot}
use Rattle.stored_mend.proofs.SameRows.{HaveSameRows, index_keeps, keys_same, rows_keep, same_rows_then, treeless_keeps}

-- ---- rule 14

tree_known : (i : ℕ) → i < 8 → is_of_database (tree_file i) Doubling ≡ true
tree_known i below = both_true (nat_le 48 (48 + i)) (nat_le (48 + i) 55) (le_true 48 (48 + i) (omega arith)) (le_true (48 + i) 55 (omega (arith, below)))

pub known_at : (old new : Table) (i k : ℕ) → i < 8 → ((f : File) → place new k ≡ Some f → (place old k ≡ Some f) ⊎ IsDoublingOf (tree_file i) f) → is_stranger old k ≡ false → is_stranger new k ≡ false
known_at old new i k below known was = by_place (place new k) refl
  where
    by_place : (o : Option File) → place new k ≡ o → elim o [ None ↦ false | Some f ↦ not (is_of_database f.name f.kind) ] ≡ false
    by_place None e = refl
    by_place (Some f) e =
        let own : is_of_database f.name f.kind ≡ true = ⊎_elim
        (λ (before : place old k ≡ Some f). no_stranger old k f before was)
        (λ (d : IsDoublingOf (tree_file i) f). ap (λ (n : List ℕ). is_of_database n f.kind) d.named ∙ ap (is_of_database (tree_file i)) d.doubles ∙ tree_known i below)
        (known f e) in
        ap not own

-- ---- rule 18

breaks_same : (old new : Table) (relations : List (Option Schema)) (indexes : List (Option Index)) (k : ℕ) → is_there (rows_file k) new ≡ is_there (rows_file k) old
    → (8 ≤ k → is_there (tree_file (k - 8)) new ≡ is_there (tree_file (k - 8)) old) → breaks_files new relations indexes k ≡ breaks_files old relations indexes k
unfolding breaks_files
breaks_same old new relations indexes k rows trees = ⊎_elim
    (λ (less : k < 8). rw (lt_true k 8 less) (ap (λ (b : Bool). differ b (is_some (get_or relations k None))) rows))
    (λ (more : 8 ≤ k). rw (lt_false k 8 more) (ap (λ (b : Bool). differ b (is_tree (get_or indexes (k - 8) None))) (trees more)))
    (cases_lt k 8)

-- ---- the tree of a slot changes, or is gone

module _ (a b : State) (i : ℕ) (c : SparesButTree a b (tree_file i)) where
  pub catalog_bytes_same : catalog_bytes_in b.files ≡ catalog_bytes_in a.files
  catalog_bytes_same = ap bytes_in_file (c.spares.files catalog_file (catalog_no_tree i))

  pub catalog_same : catalog_in b.files ≡ catalog_in a.files
  catalog_same = ap catalog_of catalog_bytes_same

  pub same_rows : HaveSameRows a.files b.files
  same_rows = record {
    version = ap (λ (slots : Slots). slots.version) catalog_same;
    relations = ap (λ (slots : Slots). slots.relations) catalog_same;
    rows = λ k. ap bytes_in_file (c.spares.files (rows_file k) (rows_no_tree k i));
  }

  pub index_same : (j : ℕ) → get_or (catalog_in b.files).indexes j None ≡ get_or (catalog_in a.files).indexes j None
  index_same j = ap (λ (slots : Slots). get_or slots.indexes j None) catalog_same

  pub tree_same : (j : ℕ) → j ≢ i → bytes_named (tree_file j) b.files ≡ bytes_named (tree_file j) a.files
  tree_same j other = ap bytes_in_file (c.spares.files (tree_file j) (λ e. other (same_tree_slot j i e)))

  there_same : (j : ℕ) → j ≢ i → is_there (tree_file j) b.files ≡ is_there (tree_file j) a.files
  there_same j other = ap is_some (c.spares.files (tree_file j) (λ e. other (same_tree_slot j i e)))

  pub slot_same : (catalog : Catalog) (j : ℕ) → HasSlot a.files catalog j → HasSlot b.files catalog j
  slot_same catalog j h = record {
    relations = h.relations ∙ sym (ap (λ (slots : Slots). slots.relations) catalog_same);
    index = h.index ∙ sym (index_same j);
  }

  strangers_none : i < 8 → first 32 (is_stranger a.files) ≡ None → first 32 (is_stranger b.files) ≡ None
  strangers_none below none = first_nothing (is_stranger b.files) 32 (λ k less. known_at a.files b.files i k below (c.known k) (first_false (is_stranger a.files) 32 k less none))

  breaks_as : (k : ℕ) → (8 ≤ k → is_there (tree_file (k - 8)) b.files ≡ is_there (tree_file (k - 8)) a.files)
      → breaks_files b.files (catalog_in b.files).relations (catalog_in b.files).indexes k ≡ breaks_files a.files (catalog_in a.files).relations (catalog_in a.files).indexes k
  breaks_as k trees =
      ap (λ (slots : Slots). breaks_files b.files slots.relations slots.indexes k) catalog_same
      ∙ breaks_same a.files b.files (catalog_in a.files).relations (catalog_in a.files).indexes k (ap is_some (c.spares.files (rows_file k) (rows_no_tree k i))) trees

  -- the rest of a sound catalog, where the tree is gone
  pub lacks_tree : i < 8 → IsSoundButTrees a.files → is_tree (get_or (catalog_in a.files).indexes i None) ≡ true → is_there (tree_file i) b.files ≡ false → LacksTree b.files i
  lacks_tree below s wanted gone =
      let u = unbroken a.files s.catalog in
      record {
        known = strangers_none below u.strangers;
        catalog = subst (λ (bytes : List ℕ). broken_catalog bytes ≡ None) (sym catalog_bytes_same) u.inner;
        others = λ k less differs.
            breaks_as k (λ more. there_same (k - 8) (λ e. differs (omega (arith, e, more))))
            ∙ first_false (breaks_files a.files (catalog_in a.files).relations (catalog_in a.files).indexes) 16 k less u.files_there;
        tree = ap is_tree (index_same i) ∙ wanted;
        gone = gone;
      }

  -- the tree is there as before
  module _ (below : i < 8) (there : is_there (tree_file i) b.files ≡ is_there (tree_file i) a.files) (s : IsSoundButTrees a.files) where
    tree_there : (j : ℕ) → is_there (tree_file j) b.files ≡ is_there (tree_file j) a.files
    tree_there j = ⊎_elim
        (λ (same : j ≡ i). subst (λ (k : ℕ). is_there (tree_file k) b.files ≡ is_there (tree_file k) a.files) (sym same) there)
        (λ (other : j ≢ i). there_same j other)
        (cases_eq j i)

    unbroken_still : first_broken b.files ≡ None
    unbroken_still =
        let u = unbroken a.files s.catalog in
        breaks_nothing b.files (sym (strangers_none below u.strangers)) (subst (λ (bytes : List ℕ). broken_catalog bytes ≡ None) (sym catalog_bytes_same) u.inner)
        (sym (first_nothing (breaks_files b.files (catalog_in b.files).relations (catalog_in b.files).indexes) 16
        (λ k less. breaks_as k (λ more. tree_there (k - 8)) ∙ first_false (breaks_files a.files (catalog_in a.files).relations (catalog_in a.files).indexes) 16 k less u.files_there)))

    pub sound_still : IsSoundButTrees b.files
    sound_still = record {
      catalog = unbroken_still;
      rows = λ slot less. rows_keep a.files b.files same_rows slot (s.rows slot less);
      treeless = λ slot index is other. treeless_keeps a.files b.files same_rows slot index other (s.treeless slot index (sym (index_same slot) ∙ is) other);
    }

    pub others_spared : SparesOtherIndexes a.files b.files i
    others_spared = record {
      sound = sound_still;
      relations = ap (λ (slots : Slots). slots.relations) catalog_same;
      indexes = λ j other. index_same j;
      complete = λ j other c. record { keeps = index_keeps a.files b.files same_rows j (index_same j) (tree_same j other) c.keeps };
    }

pub spared_by : (a b : State) (i : ℕ) → i < 8 → ChangesAtMost a b (tree_file i) → IsSoundButTrees a.files → SparesOtherIndexes a.files b.files i
spared_by a b i below c s = others_spared a b i c.spares below c.there s

-- ---- the index is taken back where its tree is gone

pub taken_settles : (a b d : State) (i : ℕ) → SparesButTree a b (tree_file i) → IsSoundButTrees a.files → SparesButOne b d catalog_file → LosesIndex b.files d.files i → SettlesIndex a.files d.files i
taken_settles a b d i c s o t =
    let new : Table = d.files in
    let from_b : HaveSameRows b.files new = record { version = t.version; relations = t.relations; rows = λ k. ap bytes_in_file (o.files (rows_file k) (λ e. catalog_no_rows k (sym e))) } in
    let rows : HaveSameRows a.files new = same_rows_then a.files b.files new (same_rows a b i c) from_b in
    let index_as : (j : ℕ) → j ≢ i → get_or (catalog_in new).indexes j None ≡ get_or (catalog_in a.files).indexes j None =
    λ j other. t.indexes j other ∙ ap (λ (slots : Slots). get_or slots.indexes j None) (catalog_same a b i c) in
    let tree_as : (j : ℕ) → j ≢ i → bytes_named (tree_file j) new ≡ bytes_named (tree_file j) a.files =
    λ j other. ap bytes_in_file (o.files (tree_file j) (λ e. catalog_no_tree j (sym e)) ∙ c.spares.files (tree_file j) (λ e. other (same_tree_slot j i e))) in
    record {
      spares = record {
        sound = record {
          catalog = t.sound;
          rows = λ slot less. rows_keep a.files new rows slot (s.rows slot less);
          treeless = λ slot index is kind. ⊎_elim
              (λ (same : slot ≡ i). absurd (none_some index (sym (subst (λ (j : ℕ). get_or (catalog_in new).indexes j None ≡ None) (sym same) t.gone) ∙ is)))
              (λ (other : slot ≢ i). treeless_keeps a.files new rows slot index kind (s.treeless slot index (sym (index_as slot other) ∙ is) kind))
              (cases_eq slot i);
        };
        relations = rows.relations;
        indexes = index_as;
        complete = λ j other c. record { keeps = index_keeps a.files new rows j (index_as j other) (tree_as j other) c.keeps };
      };
      here = record { keeps = λ index is. absurd (none_some index (sym t.gone ∙ is)) };
    }

-- ---- one step after another

pub spares_next : (a b c : Table) (i : ℕ) → SparesOtherIndexes a b i → SparesOtherIndexes b c i → SparesOtherIndexes a c i
spares_next a b c i f g = record {
  sound = g.sound;
  relations = g.relations ∙ f.relations;
  indexes = λ j other. g.indexes j other ∙ f.indexes j other;
  complete = λ j other keeps. g.complete j other (f.complete j other keeps);
}

pub settles_next : (a b c : Table) (i : ℕ) → SparesOtherIndexes a b i → SettlesIndex b c i → SettlesIndex a c i
settles_next a b c i f g = record { spares = spares_next a b c i f g.spares; here = g.here }

-- what a catalog in memory has of the slots behind stays
pub rest_spared : (a b : Table) (catalog : Catalog) (i : ℕ) → SparesOtherIndexes a b i → (j : ℕ) → j ≢ i → HasSlot a catalog j → HasSlot b catalog j
rest_spared a b catalog i s j other h = record { relations = h.relations ∙ sym s.relations; index = h.index ∙ sym (s.indexes j other) }

-- one slot more is complete
pub complete_next : (a b : Table) (catalog : Catalog) (i : ℕ) → HasCompleteIndexes a catalog i → SettlesIndex a b i → HasCompleteIndexes b catalog (i + 1)
complete_next a b catalog i c s = record {
  sound = s.spares.sound;
  first = λ j less. ⊎_elim
      (λ (same : j ≡ i). subst (HasCompleteIndex b) (sym same) s.here)
      (λ (other : j ≢ i). s.spares.complete j other (c.first j (omega (arith, less, other))))
      (cases_eq j i);
  rest = λ j more. let other : j ≢ i = (λ e. absurd (omega (arith, e, more))) in rest_spared a b catalog i s.spares j other (c.rest j (omega (arith, more)));
}

-- ---- a slot

-- a tree that was lost, and then its index is taken back
pub lost_settles : (a b d : State) (catalog : Catalog) (i : ℕ) → LosesTree a b catalog i → SparesButOne b d catalog_file → (IsTrue b.tells → LacksTree b.files i → LosesIndex b.files d.files i) → SettlesSlot a d catalog i
lost_settles a b d catalog i t others loses = record {
  settles = λ told h s.
      let there = t.spares.spares.tells ∙ told in
      let lacks = t.lacks told h s in
      taken_settles a b d i t.spares s others (loses there lacks);
}

-- a slot that waited and is settled then
pub settles_behind : (a b d : State) (catalog : Catalog) (i : ℕ) → i < 8 → ChangesAtMost a b (tree_file i) → SettlesSlot b d catalog i → SettlesSlot a d catalog i
settles_behind a b d catalog i below c f = record {
  settles = λ told h s.
      let spared = spared_by a b i below c s in
      settles_next a.files b.files d.files i spared (f.settles (c.spares.spares.tells ∙ told) (slot_same a b i c.spares catalog i h) spared.sound);
}
