-- A slot is settled where its tree is that of its keys.
use Rattle.std.proofs.Common.{◌≡◌, ◌≢◌, ⊎_elim, ℕ, zero, suc, ℤ, ◌+◌, ◌<◌, ◌≤◌, true, false, List, [], ◌∷◌, length, get_or, Option, Some, None, IsTrue, refl, ap, sym, subst, ◌∙◌, arith}
use Rattle.std.specs.Prelude.{IfNone, option_map}
use Rattle.afl_base.specs.declared.kind.Kind.TheVariants.{Doubling, Fixed}
use Rattle.afl_base.specs.Files.{File, IsNamed, IsUnnamed, State, Table, file_at, place}
use Rattle.afl_base.proofs.FileLaws.{named_live, place_live}
use Rattle.catalog.specs.declared.types.Catalog.{Catalog}
use Rattle.catalog.specs.declared.types.IndexEntry.{IndexEntry}
use Rattle.catalog.specs.CatalogFile.{index_in}
use Rattle.catalog.specs.Rules.{breaks_files, catalog_in, is_stranger, is_tree}
use Rattle.db_model.specs.declared.schemas.IndexKind.{IndexKind}
use Rattle.db_model.specs.declared.schemas.IndexKind.TheVariants.{MaxHeap}
use Rattle.db_model.specs.Catalog.{Catalog as Slots, Index}
use Rattle.index_tree.specs.Trees.{IsTreeOf}
use Rattle.padded.proofs.Facts.{none_some, seen_at, some_same}
use Rattle.space_model.specs.FileNames.{bytes_named, catalog_file, is_there, tree_file}
use Rattle.stored.specs.Sound.{IsIndexComplete, keys_stored}
use Rattle.stored.proofs.FilesOf.{by_kind, first_false, tree_wanted, unbroken}
use Rattle.stored.proofs.HasFiles.{no_stranger}
use Rattle.stored_mend.proofs.ReportSteps.{kind_tree as tree_of}
use Rattle.stored_mend.specs.Complete.{HasCompleteIndexes, AreKeysIn, CompletesFirst, CompletesSlot, HasSlot, HasCompleteIndex, IsSoundButTrees, LosesTree, SettlesIndex, SettlesSlot}
use Rattle.stored_mend.specs.Listed.{LacksTree}
use Rattle.stored_mend.specs.Trees.{ChangesAtMost, HasTreeNow, SparesButTree}
use Rattle.stored_mend.proofs.Completing.{catalog_same, complete_next, lacks_tree, same_rows, slot_same, spared_by}
use Rattle.stored_mend.proofs.HeapKeys.{found_as, wanted_there}
use Rattle.stored_mend.proofs.OneFile.{catalog_no_tree}
use Rattle.stored_mend.proofs.Replaced.{name_of}
use Rattle.stored_mend.proofs.SameRows.{keys_same}
use Rattle.stored_mend.proofs.TreeFiles.{changes_same}

-- the index has its tree, in a file that doubles
module _ (files : Table) (i : ℕ) (below : i < 8) (s : IsSoundButTrees files) (zs : List ℤ) (k : AreKeysIn files i zs) where
  pub tree_wants : is_tree (get_or (catalog_in files).indexes i None) ≡ true
  tree_wants = ap is_tree k.stands ∙ tree_of k.index k.kind

  pub tree_is_there : is_there (tree_file i) files ≡ true
  tree_is_there =
      wanted_there (is_there (tree_file i) files) (is_tree (get_or (catalog_in files).indexes i None))
      (tree_wanted files (catalog_in files).relations (catalog_in files).indexes i
      (first_false (breaks_files files (catalog_in files).relations (catalog_in files).indexes) 16 (8 + i) (omega (arith, below)) (unbroken files s.catalog).files_there))
      tree_wants

  pub tree_named : IsUnnamed files (tree_file i) → ⊥
  tree_named none = let found = found_as files (tree_file i) tree_is_there in none found.id found.named

  pub tree_doubles : (id : ℕ) → IsNamed files id (tree_file i) → id < 32 → (file_at files id).kind ≡ Doubling
  tree_doubles id named inside =
      let f : File = file_at files id in
      let at : place files id ≡ Some f = place_live files id (named_live files id (tree_file i) named) in
      ⊎_elim
      (λ (c : (f.name ≡ catalog_file) × (f.kind ≡ Fixed 6)). absurd (catalog_no_tree i (sym c.0 ∙ name_of files id (tree_file i) named)))
      (λ n. n.1)
      (by_kind f.name f.kind (no_stranger files id f at (first_false (is_stranger files) 32 id inside (unbroken files s.catalog).strangers)))

-- with its tree the index is complete
pub tree_keeps : (a b : State) (i : ℕ) (zs : List ℤ) → i < 8 → ChangesAtMost a b (tree_file i) → IsSoundButTrees a.files → AreKeysIn a.files i zs → HasTreeNow a.files b.files (tree_file i) zs → HasCompleteIndex b.files i
tree_keeps a b i zs below c s k now = record {
  keeps = λ index is.
      let bytes : List ℕ = bytes_named (tree_file i) b.files in
      let found = found_as a.files (tree_file i) (tree_is_there a.files i below s zs k) in
      let tree : IsTreeOf bytes zs = now found.id found.named (λ inside. tree_doubles a.files i below s zs k found.id found.named inside) in
      let same : k.index ≡ index = some_same k.index index (sym k.stands ∙ sym (ap (λ (slots : Slots). get_or slots.indexes i None) (catalog_same a b i c.spares)) ∙ is) in
      let are : zs ≡ keys_stored b.files k.index = k.same ∙ sym (keys_same a.files b.files (same_rows a b i c.spares) k.index) in
      subst (λ (x : Index). IsIndexComplete x.kind bytes (keys_stored b.files x)) same
      (subst (λ (kind : IndexKind). IsIndexComplete kind bytes (keys_stored b.files k.index)) (sym k.kind)
      (subst (λ (ks : List ℤ). IsTreeOf bytes ks) are tree));
}

pub tree_settles : (a b : State) (i : ℕ) → i < 8 → ChangesAtMost a b (tree_file i) → IsSoundButTrees a.files → HasCompleteIndex b.files i → SettlesIndex a.files b.files i
tree_settles a b i below c s here = record { spares = spared_by a b i below c s; here = here }

-- a tree that is gone is lacking
pub tree_lacks : (a b : State) (i : ℕ) (zs : List ℤ) → i < 8 → SparesButTree a b (tree_file i) → IsSoundButTrees a.files → AreKeysIn a.files i zs → is_there (tree_file i) b.files ≡ false → LacksTree b.files i
tree_lacks a b i zs below c s k gone = lacks_tree a b i c below s (tree_wants a.files i below s zs k) gone

-- ---- what a catalog in memory says of a slot

-- an element, whatever stands for one that is not there
pub default_same : {X : Type 0} (xs : List X) (k : ℕ) (d e : X) → k < length xs → get_or xs k d ≡ get_or xs k e
default_same [] k d e below = absurd (omega (arith, below))
default_same (x ∷ xs) zero d e below = refl
default_same (x ∷ xs) (suc k) d e below = default_same xs k d e (omega (arith, below))

pub entry_here : (entries : List (Option IndexEntry)) (n i : ℕ) (d o : Option IndexEntry) → length entries ≡ 8 → n ≡ i → n < 8 → get_or entries n d ≡ o → get_or entries i None ≡ o
entry_here entries n i d o eight same below is = ap (λ (k : ℕ). get_or entries k None) (sym same) ∙ default_same entries n None d (omega (arith, eight, below)) ∙ is

module _ (files : Table) (catalog : Catalog) (i : ℕ) (h : HasSlot files catalog i) where
  pub slot_of_entry : (o : Option IndexEntry) → get_or catalog.indexes i None ≡ o → get_or (catalog_in files).indexes i None ≡ option_map index_in o
  slot_of_entry o e = sym h.index ∙ seen_at index_in catalog.indexes i ∙ ap (option_map index_in) e

  pub none_keeps : get_or catalog.indexes i None ≡ None → HasCompleteIndex files i
  none_keeps e = record { keeps = λ index is. absurd (none_some index (sym (slot_of_entry None e) ∙ is)) }

  pub other_keeps : (entry : IndexEntry) → get_or catalog.indexes i None ≡ Some entry → entry.kind ≢ MaxHeap → IsSoundButTrees files → HasCompleteIndex files i
  other_keeps entry e other s = record {
    keeps = λ index is.
        let same : index_in entry ≡ index = some_same (index_in entry) index (sym (slot_of_entry (Some entry) e) ∙ is) in
        s.treeless i index is (λ kind. other (ap (λ (x : Index). x.kind) same ∙ kind));
  }

pub complete_settles : (a b : State) (catalog : Catalog) (i : ℕ) → i < 8 → ChangesAtMost a b (tree_file i) → CompletesSlot a b catalog i → SettlesSlot a b catalog i
complete_settles a b catalog i below c f = record { settles = λ told h s. tree_settles a b i below c s (f.complete told h s) }

-- a slot without an index that has a tree
pub slot_without : (a : State) (catalog : Catalog) (id slot : ℕ) → id ≡ slot → (HasSlot a.files catalog id → IsSoundButTrees a.files → HasCompleteIndex a.files id) → CompletesSlot a a catalog slot
slot_without a catalog id slot same none = record { complete = λ told h s. subst (HasCompleteIndex a.files) same (none (subst (HasSlot a.files catalog) (sym same) h) s) }

pub settles_without : (a : State) (catalog : Catalog) (id slot : ℕ) → id ≡ slot → slot < 8 → (HasSlot a.files catalog id → IsSoundButTrees a.files → HasCompleteIndex a.files id) → SettlesSlot a a catalog slot
settles_without a catalog id slot same below none = complete_settles a a catalog slot below (changes_same a (tree_file slot)) (slot_without a catalog id slot same none)

-- ---- a slot, by the number that was made of it

module _ (a b : State) (catalog : Catalog) (id slot : ℕ) (zs : List ℤ) (same : id ≡ slot) (below : slot < 8) (read : HasSlot a.files catalog id → IsSoundButTrees a.files → AreKeysIn a.files id zs) where
  below_here : id < 8
  below_here = subst (λ (k : ℕ). k < 8) (sym same) below

  keys_here : HasSlot a.files catalog slot → IsSoundButTrees a.files → AreKeysIn a.files id zs
  keys_here h s = read (subst (HasSlot a.files catalog) (sym same) h) s

  pub slot_complete : ChangesAtMost a b (tree_file id) → (IsTrue a.tells → HasTreeNow a.files b.files (tree_file id) zs) → CompletesSlot a b catalog slot
  slot_complete c now = record { complete = λ told h s. subst (HasCompleteIndex b.files) same (tree_keeps a b id zs below_here c s (keys_here h s) (now told)) }

  pub slot_settled : ChangesAtMost a b (tree_file id) → (IsTrue a.tells → HasTreeNow a.files b.files (tree_file id) zs) → SettlesSlot a b catalog slot
  slot_settled c now = complete_settles a b catalog slot below (subst (λ (k : ℕ). ChangesAtMost a b (tree_file k)) same c) (slot_complete c now)

  pub slot_lost : SparesButTree a b (tree_file id) → is_there (tree_file id) b.files ≡ false → LosesTree a b catalog slot
  slot_lost c gone = record {
    spares = subst (λ (k : ℕ). SparesButTree a b (tree_file k)) same c;
    lacks = λ told h s. subst (LacksTree b.files) same (tree_lacks a b id zs below_here c s (keys_here h s) gone);
  }

  -- the tree of the index is there
  pub slot_there : IsUnnamed a.files (tree_file id) → SettlesSlot a b catalog slot
  slot_there none = record { settles = λ told h s. absurd (tree_named a.files id below_here s zs (keys_here h s) none) }

-- ---- one slot after another

pub none_first : (a : State) (catalog : Catalog) → CompletesFirst a a catalog 0
none_first a catalog = record { complete = λ told begun. begun }

pub first_next : (a b c : State) (catalog : Catalog) (i : ℕ) → b.tells ≡ a.tells → CompletesFirst a b catalog i → SettlesSlot b c catalog i → CompletesFirst a c catalog (i + 1)
first_next a b c catalog i tells f s = record {
  complete = λ told begun.
      let before = f.complete told begun in
      complete_next b.files c.files catalog i before (s.settles (tells ∙ told) (before.rest i (omega arith)) before.sound);
}

-- whatever tree is put right, the catalog in memory is that of the files, and all but trees is sound
pub begun_next : (s a b : State) (catalog : Catalog) (i : ℕ) → i < 8 → ChangesAtMost a b (tree_file i) → CompletesFirst s a catalog 0 → CompletesFirst s b catalog 0
begun_next s a b catalog i below c f = record {
  complete = λ told start.
      let begun = f.complete told start in
      record {
        sound = (spared_by a b i below c begun.sound).sound;
        first = λ j less. absurd (omega (arith, less));
        rest = λ j more. slot_same a b i c.spares catalog j (begun.rest j more);
      };
}

-- where no tree waits, one slot more is complete
pub waiting_next : (s a b : State) (catalog : Catalog) (i n m : ℕ) (need : Option ℕ) → i < 8 → a.tells ≡ s.tells → ChangesAtMost a b (tree_file i) → (n ≡ 0 → CompletesFirst s a catalog i) → (m ≡ 0 → need ≡ None)
    → IfNone need (CompletesSlot a b catalog i) → n + m ≡ 0 → CompletesFirst s b catalog (i + 1)
waiting_next s a b catalog i n m need below tells c before none here zero_all =
    let complete = subst (λ (o : Option ℕ). IfNone o (CompletesSlot a b catalog i)) (none (omega (arith, zero_all))) here in
    first_next s a b catalog i tells (before (omega (arith, zero_all))) (complete_settles a b catalog i below c complete)

pub all_slots : (files : Table) (catalog : Catalog) (n : ℕ) → 8 ≤ n → n ≤ 8 → HasCompleteIndexes files catalog n → HasCompleteIndexes files catalog 8
all_slots files catalog n low high c = let e : n ≡ 8 = omega (arith, low, high) in subst (HasCompleteIndexes files catalog) e c
