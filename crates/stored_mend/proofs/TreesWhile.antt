-- All trees, where a cut leaves one of them in part, or gone.
use Rattle.std.proofs.Common.{◌≡◌, ◌≢◌, inl, inr, ⊎_elim, ℕ, ℤ, ◌<◌, false, not, List, length, get_or, Option, Some, None, IsTrue, refl, ap, sym, subst, ◌∙◌}
use Rattle.std.proofs.lemmas.Bool.{cases_eq}
use Rattle.afl_base.specs.CutFiles.{MendsToState}
use Rattle.afl_base.specs.Files.{File, State, Table, place}
use Rattle.catalog.specs.Rules.{catalog_bytes_in, catalog_in, first_broken, is_of_database, is_stranger}
use Rattle.db_model.specs.declared.schemas.IndexKind.{IndexKind}
use Rattle.db_model.specs.declared.schemas.IndexKind.TheVariants.{MaxHeap}
use Rattle.db_model.specs.declared.schemas.Schema.{Schema}
use Rattle.db_model.specs.Catalog.{Index, relation_at}
use Rattle.db_model.specs.Database.{Database}
use Rattle.db_model.specs.Step.{keys}
use Rattle.index_tree.specs.TreeFile.{NamesOnly}
use Rattle.index_tree.specs.Trees.{IsTreeOf}
use Rattle.padded.proofs.Facts.{some_same}
use Rattle.space_model.specs.Enough.{rows_in}
use Rattle.space_model.specs.FileNames.{bytes_named, rows_file, tree_file}
use Rattle.stored.specs.CutTables.{IsCutTable, IsIndexWhile}
use Rattle.stored.specs.Mended.{mended_base}
use Rattle.stored.specs.Mends.{MendsToDatabase}
use Rattle.stored.specs.Sound.{IsIndexComplete, keys_stored}
use Rattle.stored.specs.declared.half.Half.{Half}
use Rattle.stored.proofs.FilesOf.{first_false, in_table, unbroken}
use Rattle.stored.proofs.MendedSound.{mended_of_unbroken, own_catalog}
use Rattle.stored.proofs.SoundSlots.{slot_below}
use Rattle.stored_mend.specs.Complete.{AreKeysIn, HasCompleteIndex}
use Rattle.stored_mend.specs.CutTrees.{AreTreesWhile, IndexWaits, MayMendTree, StaysWithout}
use Rattle.stored_mend.specs.Stages.{HasWholeRelations}
use Rattle.stored_mend.specs.Trees.{ChangesAtMost}
use Rattle.stored_mend.proofs.Completing.{index_same, known_at, same_rows, spared_by, tree_same}
use Rattle.stored_mend.proofs.CutCalls.{IsLeft, left_after}
use Rattle.stored_mend.proofs.FromWhole.{whole_sound}
use Rattle.stored_mend.proofs.SameRows.{keys_same}
use Rattle.stored_mend.proofs.StageCut.{stage_cut}
use Rattle.stored_mend.proofs.TreesLost.{kept_by}
use Rattle.tuple_file.specs.Tuples.{AreRows}

-- ---- all trees, as a cut may leave them

pub trees_cut : (files : Table) (half : Half) → AreTreesWhile files half → IsCutTable files
trees_cut files half t = stage_cut files half (record {
  known = t.known;
  catalog = t.sound.catalog;
  rows = λ k schema is.
      let own = own_catalog files t.sound.catalog in
      let was : get_or (catalog_in files).relations k None ≡ Some schema = sym (ap (λ (xs : List (Option Schema)). get_or xs k None) own.relations) ∙ is in
      let at = slot_below (relation_at (catalog_bytes_in files)) 8 k schema was in
      inl (subst (λ (v : ℕ). AreRows v schema.attributes (bytes_named (rows_file k) files)) (sym own.version) (t.sound.rows k at.below schema was));
  keys = λ i index is.
      subst (λ (db : Database). IsIndexWhile half index (bytes_named (tree_file i) files) (keys index.attribute (rows_in db index.relation))) (sym (mended_of_unbroken files t.sound.catalog))
      (t.trees i index (sym (ap (λ (xs : List (Option Index)). get_or xs i None) (own_catalog files t.sound.catalog).indexes) ∙ is));
})

pub trees_left : (files : Table) (half : Half) (Is : Database → Type 0) → AreTreesWhile files half → Is (mended_base files) → IsLeft files Is
trees_left files half Is t is = record { cut = trees_cut files half t; is = is }

-- ---- one tree changes

module _ (half : Half) (a b : State) (i : ℕ) (below : i < 8) (c : ChangesAtMost a b (tree_file i)) (t : AreTreesWhile a.files half) where
  -- another index is as it was
  other_while : (j : ℕ) → j ≢ i → (index : Index) → get_or (catalog_in a.files).indexes j None ≡ Some index → IsIndexWhile half index (bytes_named (tree_file j) b.files) (keys_stored b.files index)
  other_while j other index is =
      subst (λ (zs : List ℤ). IsIndexWhile half index (bytes_named (tree_file j) b.files) zs) (sym (keys_same a.files b.files (same_rows a b i c.spares) index))
      (subst (λ (bytes : List ℕ). IsIndexWhile half index bytes (keys_stored a.files index)) (sym (tree_same a b i c.spares j other)) (t.trees j index is))

  pub while_by : ((index : Index) → get_or (catalog_in a.files).indexes i None ≡ Some index → IsIndexWhile half index (bytes_named (tree_file i) b.files) (keys_stored b.files index)) → AreTreesWhile b.files half
  while_by here = record {
    known = λ id. known_at a.files b.files i id below (c.spares.known id) (t.known id);
    sound = (spared_by a b i below c t.sound).sound;
    trees = λ j index is.
        let was : get_or (catalog_in a.files).indexes j None ≡ Some index = sym (index_same a b i c.spares j) ∙ is in
        ⊎_elim
        (λ (same : j ≡ i).
        subst (λ (k : ℕ). IsIndexWhile half index (bytes_named (tree_file k) b.files) (keys_stored b.files index)) (sym same)
        (here index (subst (λ (k : ℕ). get_or (catalog_in a.files).indexes k None ≡ Some index) same was)))
        (λ (other : j ≢ i). other_while j other index was)
        (cases_eq j i);
  }

  keys_here : (index : Index) → keys_stored b.files index ≡ keys_stored a.files index
  keys_here index = keys_same a.files b.files (same_rows a b i c.spares) index

  -- its bytes are the same
  same_here : bytes_named (tree_file i) b.files ≡ bytes_named (tree_file i) a.files → (index : Index) → get_or (catalog_in a.files).indexes i None ≡ Some index → IsIndexWhile half index (bytes_named (tree_file i) b.files) (keys_stored b.files index)
  same_here same index is =
      subst (λ (zs : List ℤ). IsIndexWhile half index (bytes_named (tree_file i) b.files) zs) (sym (keys_here index))
      (subst (λ (bytes : List ℕ). IsIndexWhile half index bytes (keys_stored a.files index)) (sym same) (t.trees i index is))

  pub while_same : bytes_named (tree_file i) b.files ≡ bytes_named (tree_file i) a.files → AreTreesWhile b.files half
  while_same same = while_by (same_here same)

  -- the index is complete
  pub while_complete : HasCompleteIndex b.files i → AreTreesWhile b.files half
  while_complete complete = while_by (λ index is. inl (complete.keeps index (index_same a b i c.spares i ∙ is)))

-- a cut leaves all trees in this form
module _ (half : Half) (a b : State) (i : ℕ) (zs : List ℤ) (below : i < 8) (t : AreTreesWhile a.files half) (k : AreKeysIn a.files i zs) (m : MayMendTree a b (tree_file i) zs) where
  abbrev bytes : List ℕ
  bytes = bytes_named (tree_file i) b.files

  mended_here : (index : Index) → get_or (catalog_in a.files).indexes i None ≡ Some index → IsIndexWhile half index bytes (keys_stored b.files index)
  mended_here index is =
      let own : k.index ≡ index = some_same k.index index (sym k.stands ∙ is) in
      let kind : index.kind ≡ MaxHeap = ap (λ (x : Index). x.kind) (sym own) ∙ k.kind in
      let were : zs ≡ keys_stored a.files index = k.same ∙ ap (keys_stored a.files) own in
      let are : zs ≡ keys_stored b.files index = were ∙ sym (keys_here half a b i below m.changes t index) in
      ⊎_elim
      (λ (same : bytes ≡ bytes_named (tree_file i) a.files). same_here half a b i below m.changes t same index is)
      (λ more. ⊎_elim
      (λ (tree : IsTreeOf bytes zs).
      inl (subst (λ (one : IndexKind). IsIndexComplete one bytes (keys_stored b.files index)) (sym kind) (subst (λ (ks : List ℤ). IsTreeOf bytes ks) are tree)))
      (λ n. ⊎_elim
      (λ (complete : IsIndexComplete index.kind (bytes_named (tree_file i) a.files) (keys_stored a.files index)).
      absurd (n.lacked (subst (λ (ks : List ℤ). IsTreeOf (bytes_named (tree_file i) a.files) ks) (sym were)
      (subst (λ (one : IndexKind). IsIndexComplete one (bytes_named (tree_file i) a.files) (keys_stored a.files index)) kind complete))))
      (λ part. inr (
        kind,
        part.1,
        subst (λ (ks : List ℤ). 0 < length ks) are n.some,
        subst (λ (ks : List ℤ). NamesOnly (length ks) bytes) are n.names,
      ))
      (t.trees i index is))
      more)
      m.tree

  pub while_mended : AreTreesWhile b.files half
  while_mended = while_by half a b i below m.changes t mended_here

-- and the database as it was
pub tree_mended : {mends : List ℕ → Table → Type 0} {store : List ℕ} (half : Half) (a : State) (i slot : ℕ) (zs : List ℤ) → i ≡ slot → slot < 8 → IsTrue a.tells → AreTreesWhile a.files half → AreKeysIn a.files i zs
    → MendsToState mends store (λ after. MayMendTree a after (tree_file i) zs) → MendsToDatabase mends store (λ db. db ≡ mended_base a.files)
tree_mended half a i slot zs same below told t k m =
    let here : i < 8 = subst (λ (n : ℕ). n < 8) (sym same) below in
    left_after m (λ s part. record { cut = trees_cut s.files half (while_mended half a s i zs here t k part); is = (kept_by a s i part.changes).base told })

-- an index that waits is not complete
pub slot_waits : (a b : Table) (i slot : ℕ) (zs : List ℤ) → i ≡ slot → AreKeysIn a i zs → StaysWithout a b (tree_file i) zs → IndexWaits a b slot
slot_waits a b i slot zs same k s = subst (IndexWaits a b) same (record {
  incomplete = λ complete. s.lacks (subst (λ (ks : List ℤ). IsTreeOf (bytes_named (tree_file i) a) ks) (sym k.same)
      (subst (λ (one : IndexKind). IsIndexComplete one (bytes_named (tree_file i) a) (keys_stored a k.index)) k.kind (complete.keeps k.index k.stands)));
  same = s.same;
})

-- ---- the files that there are

-- no file is a stranger's, as there are 32 places
pub no_strangers : (files : Table) → first_broken files ≡ None → length files ≡ 32 → (id : ℕ) → is_stranger files id ≡ false
no_strangers files sound places id = by_place (place files id) refl
  where
    by_place : (o : Option File) → place files id ≡ o → is_stranger files id ≡ false
    by_place None e = ap (λ (o : Option File). elim o [ None ↦ false | Some f ↦ not (is_of_database f.name f.kind) ]) e
    by_place (Some f) e = first_false (is_stranger files) 32 id (in_table files places id f e) (unbroken files sound).strangers

-- files with whole rows
pub trees_begun : (files : Table) (half : Half) → HasWholeRelations files half → AreTreesWhile files half
trees_begun files half w =
    let sound = w.stage.catalog in
    record {
      known = w.stage.known;
      sound = whole_sound files half w;
      trees = λ i index is.
          subst (λ (db : Database). IsIndexWhile half index (bytes_named (tree_file i) files) (keys index.attribute (rows_in db index.relation))) (mended_of_unbroken files sound)
          (w.stage.keys i index (ap (λ (xs : List (Option Index)). get_or xs i None) (own_catalog files sound).indexes ∙ is));
    }
