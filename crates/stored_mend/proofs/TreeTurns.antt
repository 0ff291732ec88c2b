-- Trees are put right one after another, and one that waits alone may be removed.
use Rattle.std.proofs.Common.{◌≡◌, ◌≢◌, ◌⊎◌, inl, inr, ⊎_elim, ℕ, ℤ, ◌+◌, ◌<◌, ◌≤◌, Bool, true, false, ◌==◌, List, [], get_or, length, map, Option, Some, None, IsTrue, refl, ap, sym, subst, ◌∙◌, arith}
use Rattle.std.specs.Prelude.{IfNone, IfSome, is_some, ⊤}
use Rattle.std.specs.List.{range_with_len}
use Rattle.std.specs.Option.{option_map_or}
use Rattle.std.proofs.lemmas.Bool.{cases_eq, cases_lt}
use Rattle.std.proofs.lemmas.List.{get_or_past}
use Rattle.std.proofs.lemmas.List.FromFn.{get_or-map-range_with_len, length-map-range_with_len}
use Rattle.afl_base.specs.CutFiles.{MendsToEither}
use Rattle.afl_base.specs.Files.{IsUnnamed, State, Table}
use Rattle.catalog.specs.declared.types.Catalog.{Catalog}
use Rattle.catalog.specs.Rules.{catalog_bytes_in, catalog_in, is_tree}
use Rattle.db_model.specs.Catalog.{Catalog as Slots, Index, index_at, relation_at}
use Rattle.db_model.specs.Database.{Database, Relation}
use Rattle.db_model.specs.Step.{keys}
use Rattle.padded.proofs.Facts.{none_some, true_eq}
use Rattle.space_model.specs.Enough.{rows_in}
use Rattle.space_model.specs.FileNames.{bytes_in_file, bytes_named, catalog_file, is_there, rows_file, tree_file}
use Rattle.stored.specs.Base.{base_of}
use Rattle.stored.specs.CutTables.{IsCutTable}
use Rattle.stored.specs.Mended.{mended_base, mended_catalog, mended_version, whole_bytes, whole_catalog}
use Rattle.stored.specs.Mends.{MendsToDatabase}
use Rattle.stored.specs.Sound.{IsIndexComplete, keys_stored}
use Rattle.stored.specs.declared.half.Half.{Half}
use Rattle.stored.specs.declared.half.Half.TheVariants.{Treeless}
use Rattle.stored.proofs.FilesOf.{rows_wanted, tree_wanted}
use Rattle.stored.proofs.MendedBase.{index_mended, index_mended_at, index_there, index_waits, indexes_mended, whole_long}
use Rattle.stored.proofs.MendedSound.{mended_of_unbroken, own_catalog}
use Rattle.stored.proofs.SoundSlots.{slot_below}
use Rattle.stored_mend.specs.Complete.{HasCompleteIndexes, AreKeysIn, CompletesFirst, CompletesSlot, HasSlot, HasCompleteIndex, IsSoundButTrees, SettlesIndex, SettlesSlot}
use Rattle.stored_mend.specs.CutTrees.{AreCompleteBut, AreTreesWhile, CompletesBut, IndexWaits, KeepsTrees, MayMakeRoom, MayRemoveTree, MayReplaceTree}
use Rattle.stored_mend.specs.Listed.{LacksTree}
use Rattle.stored_mend.specs.Trees.{BuildsTree, ChangesAtMost, LosesTrees, SparesButTree}
use Rattle.stored_mend.proofs.Completing.{catalog_same, index_same, known_at, same_rows, slot_same, spared_by, tree_same}
use Rattle.stored_mend.proofs.CutCalls.{left_either}
use Rattle.stored_mend.proofs.TreesWhile.{no_strangers, trees_cut, trees_left, while_complete, while_same}
use Rattle.stored_mend.proofs.HalfKept.{indexes_are}
use Rattle.stored_mend.proofs.HeapSettled.{tree_is_there, tree_keeps, tree_lacks}
use Rattle.stored_mend.proofs.OneFile.{catalog_no_tree, same_tree_slot}
use Rattle.stored_mend.proofs.SameRows.{rows_keep}
use Rattle.stored_mend.proofs.TreeFiles.{built_now, built_there, gone_there}
use Rattle.stored_mend.proofs.Treeless.{half_done, long_or_none}
use Rattle.stored_mend.proofs.WholeSlots.{no_index, same_used}
use Rattle.stored_mend.proofs.TreesLost.{kept_by, lost, loses_same}

-- ---- those for which there is room

-- a slot whose tree is put right, or waits
pub while_next : (half : Half) (a b : State) (i : ℕ) (need : Option ℕ) → i < 8 → ChangesAtMost a b (tree_file i) → AreTreesWhile a.files half → IfNone need (HasCompleteIndex b.files i) → IfSome need (λ n. IndexWaits a.files b.files i) → AreTreesWhile b.files half
while_next half a b i None below c t complete waits = while_complete half a b i below c t complete
while_next half a b i (Some n) below c t complete waits = while_same half a b i below c t waits.same

none_complete : (a b : State) (catalog : Catalog) (i : ℕ) (need : Option ℕ) → IsTrue a.tells → HasSlot a.files catalog i → IsSoundButTrees a.files → IfNone need (CompletesSlot a b catalog i) → IfNone need (HasCompleteIndex b.files i)
none_complete a b catalog i None told h s c = c.complete told h s
none_complete a b catalog i (Some n) told h s c = tt

pub keeps_same : (a : State) (catalog : Catalog) → KeepsTrees a a catalog
keeps_same a catalog = record { trees = λ told half begun t. t }

module _ (s a b : State) (catalog : Catalog) (i : ℕ) (need : Option ℕ) (below : i < 8) (tells : a.tells ≡ s.tells) (c : ChangesAtMost a b (tree_file i)) (begun : CompletesFirst s a catalog 0)
    (here : IfNone need (CompletesSlot a b catalog i)) where
  pub keeps_next : KeepsTrees s a catalog → (IsTrue a.tells → HasSlot a.files catalog i → IsSoundButTrees a.files → IfSome need (λ n. IndexWaits a.files b.files i)) → KeepsTrees s b catalog
  keeps_next k waits = record {
    trees = λ told half start t.
        let now = begun.complete told start in
        let has = now.rest i (omega arith) in
        let there = tells ∙ told in
        while_next half a b i need below c (k.trees told half start t) (none_complete a b catalog i need there has now.sound here) (waits there has now.sound);
  }

  -- those before are as complete as they were
  but_before : (w : ℕ) → CompletesBut s a catalog i w → IsTrue s.tells → HasCompleteIndexes s.files catalog 0 → (j : ℕ) → j < i → j ≢ w → HasCompleteIndex b.files j
  but_before w f told start j less other =
      let apart : j ≢ i = λ e. omega (arith, less, e) in
      (spared_by a b i below c (begun.complete told start).sound).complete j apart (f.complete told start j less other)

  -- at most one waits
  pub but_next : (waiting more : ℕ) → (more ≡ 0 → need ≡ None) → (waiting ≡ 0 → CompletesFirst s a catalog i) → (waiting ≤ 1 → (w : ℕ) × CompletesBut s a catalog i w) → waiting + more ≤ 1 → (w : ℕ) × CompletesBut s b catalog (i + 1) w
  but_next waiting more none first one few = ⊎_elim
      (λ (zero_more : more ≡ 0).
      let f = one (omega (arith, few)) in (
        f.0,
        record {
          complete = λ told start j less other. ⊎_elim
              (λ (same : j ≡ i).
              let now = begun.complete told start in
              let complete = none_complete a b catalog i need (tells ∙ told) (now.rest i (omega arith)) now.sound here in
              subst (HasCompleteIndex b.files) (sym same) (subst (λ (o : Option ℕ). IfNone o (HasCompleteIndex b.files i)) (none zero_more) complete))
              (λ (apart : j ≢ i). but_before f.0 f.1 told start j (omega (arith, less, apart)) other)
              (cases_eq j i);
        },
      ))
      (λ (some : more ≢ 0).
      let all = first (omega (arith, few, some)) in (
        i,
        record {
          complete = λ told start j less other.
              let earlier : j < i = omega (arith, less, other) in
              but_before i (record { complete = λ here_told begins k lower apart. (all.complete here_told begins).first k lower }) told start j earlier other;
        },
      ))
      (cases_eq more 0)

pub but_first : (a : State) (catalog : Catalog) → CompletesBut a a catalog 0 0
but_first a catalog = record { complete = λ told start j less other. absurd (omega (arith, less)) }

pub all_but : (a b : State) (catalog : Catalog) (n w : ℕ) → 8 ≤ n → n ≤ 8 → CompletesBut a b catalog n w → CompletesBut a b catalog 8 w
all_but a b catalog n w low high f = let e : n ≡ 8 = omega (arith, low, high) in subst (λ (k : ℕ). CompletesBut a b catalog k w) e f

-- no index stands behind the eight slots
past_slots : (f : ℕ → Option Index) (j : ℕ) → 8 ≤ j → get_or (map f (range_with_len 0 8)) j None ≡ None
past_slots f j more = let size = length-map-range_with_len f 0 8 in get_or_past (map f (range_with_len 0 8)) j None (omega (arith, size, more))

past_complete : (files : Table) (j : ℕ) → 8 ≤ j → HasCompleteIndex files j
past_complete files j more = record { keeps = λ index is. let at = slot_below (index_at (catalog_bytes_in files)) 8 j index is in let less = at.below in absurd (omega (arith, more, less)) }

pub complete_but : (a b : State) (catalog : Catalog) (w : ℕ) → CompletesBut a b catalog 8 w → IsTrue a.tells → HasCompleteIndexes a.files catalog 0 → AreCompleteBut b.files w
complete_but a b catalog w f told start j other = ⊎_elim (λ (less : j < 8). f.complete told start j less other) (λ (more : 8 ≤ j). past_complete b.files j more) (cases_lt j 8)

-- ---- one that waits alone

-- that of a slot that waits is the one
pub may_remove : (a b : State) (catalog : Catalog) (half : Half) (i : ℕ) (alone : Bool) → i < 8 → alone ≡ true → ChangesAtMost a b (tree_file i) → MayMakeRoom a.files catalog half i alone → IndexWaits a.files b.files i → MayRemoveTree b.files catalog half i
may_remove a b catalog half i alone below is c m waits =
    let others = m.others is in
    let one : i ≡ others.0 = ⊎_elim (λ e. e) (λ (other : i ≢ others.0). absurd (waits.incomplete (others.1 i other))) (cases_eq i others.0) in
    record {
      here = slot_same a b i c.spares catalog i m.here;
      trees = while_same half a b i below c m.trees waits.same;
      others = λ j other. (spared_by a b i below c m.trees.sound).complete j other (others.1 j (λ e. other (e ∙ sym one)));
    }

-- and others stay complete where one is settled
pub but_settled : (s a b : State) (catalog : Catalog) (i w : ℕ) → a.tells ≡ s.tells → CompletesFirst s a catalog i → SettlesSlot a b catalog i → CompletesBut s a catalog 8 w → CompletesBut s b catalog 8 w
but_settled s a b catalog i w tells first settles f = record {
  complete = λ told start j less other.
      let now = first.complete told start in
      let done = settles.settles (tells ∙ told) (now.rest i (omega arith)) now.sound in
      ⊎_elim
      (λ (same : j ≡ i). subst (HasCompleteIndex b.files) (sym same) done.here)
      (λ (apart : j ≢ i). done.spares.complete j apart (f.complete told start j less other))
      (cases_eq j i);
}

-- room may be made for a tree behind others
pub may_make_room : (s a : State) (catalog : Catalog) (half : Half) (i waiting : ℕ) → CompletesFirst s a catalog i → KeepsTrees s a catalog → (waiting ≡ 1 → (w : ℕ) × CompletesBut s a catalog 8 w)
    → IsTrue s.tells → HasCompleteIndexes s.files catalog 0 → AreTreesWhile s.files half → MayMakeRoom a.files catalog half i (waiting == 1)
may_make_room s a catalog half i waiting first keeps one told start t = record {
  here = (first.complete told start).rest i (omega arith);
  trees = keeps.trees told half start t;
  others = λ e. let f = one (true_eq waiting 1 e) in (f.0, complete_but s a catalog f.0 f.1 told start);
}

-- where all others are complete and its own index is too, or gone, nothing is half done
pub settled_while : (half : Half) (a b : Table) (i : ℕ) → SettlesIndex a b i → AreCompleteBut a i → length b ≡ 32 → AreTreesWhile b half
settled_while half a b i s others places = record {
  known = no_strangers b s.spares.sound.catalog places;
  sound = s.spares.sound;
  trees = λ j index is. inl (complete j index is);
}
  where
    complete : (j : ℕ) (index : Index) → get_or (catalog_in b).indexes j None ≡ Some index → IsIndexComplete index.kind (bytes_named (tree_file j) b) (keys_stored b index)
    complete j index is = ⊎_elim
        (λ (same : j ≡ i). (subst (HasCompleteIndex b) (sym same) s.here).keeps index is)
        (λ (other : j ≢ i). (s.spares.complete j other (others j other)).keeps index is)
        (cases_eq j i)

-- ---- its tree is gone

module _ (a b : State) (catalog : Catalog) (half : Half) (i : ℕ) (below : i < 8) (r : MayRemoveTree a.files catalog half i) (c : SparesButTree a b (tree_file i)) (l : LacksTree b.files i) where
  abbrev bytes : List ℕ
  bytes = catalog_bytes_in b.files

  catalog_bytes : catalog_bytes_in b.files ≡ catalog_bytes_in a.files
  catalog_bytes = ap bytes_in_file (c.spares.files catalog_file (catalog_no_tree i))

  pub base_lost : LosesTrees (mended_base a.files) (mended_base b.files)
  base_lost = lost a.files b.files i (λ slot. ⊤) (λ n differs. ap bytes_in_file (c.spares.files n differs))
      (λ j other. ap is_some (c.spares.files (tree_file j) (λ e. other (same_tree_slot j i e)))) l.gone tt

  version_is : (mended_catalog b.files).version ≡ (catalog_in b.files).version
  unfolding mended_catalog
  version_is =
      ap (λ (xs : List ℕ). mended_version (whole_bytes xs)) catalog_bytes
      ∙ (own_catalog a.files r.trees.sound.catalog).version
      ∙ sym (ap (λ (slots : Slots). slots.version) (catalog_same a b i c))

  wanted : is_tree (get_or (catalog_in b.files).indexes i None) ≡ true
  wanted = l.tree

  long : 1472 ≤ length bytes
  long = ⊎_elim
      (λ (much : 1472 ≤ length bytes). much)
      (λ (none : bytes ≡ []).
      let no : false ≡ true = sym (ap is_tree (no_index bytes none i)) ∙ l.tree in
      absurd (cc))
      (long_or_none bytes l.catalog)

  whole_is : whole_catalog b.files ≡ bytes
  whole_is = whole_long bytes long

  slot_read : (j : ℕ) → j < 8 → get_or (catalog_in b.files).indexes j None ≡ index_at (whole_catalog b.files) j
  slot_read j less = get_or-map-range_with_len (index_at bytes) 0 8 j j None less (omega arith) ∙ sym (ap (λ (xs : List ℕ). index_at xs j) whole_is)

  -- its index is gone
  index_gone : get_or (mended_catalog b.files).indexes i None ≡ None
  index_gone =
      ap (λ (xs : List (Option Index)). get_or xs i None) (indexes_are b.files)
      ∙ index_mended_at b.files i below
      ∙ index_waits b.files i (index_at (whole_catalog b.files) i) (sym (ap is_tree (slot_read i below)) ∙ l.tree) l.gone

  same_rows_in : (k : ℕ) → rows_in (mended_base b.files) k ≡ rows_in (base_of a.files) k
  same_rows_in k = ap (λ (rs : List (Option Relation)). option_map_or (λ (x : Relation). x.rows) (get_or rs k None) [])
      (base_lost.relations ∙ ap (λ (db : Database). db.relations) (mended_of_unbroken a.files r.trees.sound.catalog))

  -- another index is complete, with the keys that it had
  other_index : (j : ℕ) → j < 8 → (index : Index) → get_or (mended_catalog b.files).indexes j None ≡ Some index
      → IsIndexComplete index.kind (bytes_named (tree_file j) b.files) (keys index.attribute (rows_in (mended_base b.files) index.relation))
  other_index j less index is =
      let apart : j ≢ i = λ e. none_some index (sym (subst (λ (k : ℕ). get_or (mended_catalog b.files).indexes k None ≡ None) (sym e) index_gone) ∙ is) in
      let read : index_at (whole_catalog b.files) j ≡ Some index = index_there b.files j index less (sym (ap (λ (xs : List (Option Index)). get_or xs j None) (indexes_are b.files)) ∙ is) in
      let was : get_or (catalog_in a.files).indexes j None ≡ Some index = sym (index_same a b i c j) ∙ slot_read j less ∙ read in
      subst (λ (zs : List ℤ). IsIndexComplete index.kind (bytes_named (tree_file j) b.files) zs) (sym (ap (keys index.attribute) (same_rows_in index.relation)))
      (subst (λ (xs : List ℕ). IsIndexComplete index.kind xs (keys_stored a.files index)) (sym (tree_same a b i c j apart))
      ((r.others j apart).keeps index was))

  rows_used : (k : ℕ) → k < 8 → is_there (rows_file k) b.files ≡ is_some (get_or (catalog_in b.files).relations k None)
  rows_used k less =
      same_used (is_there (rows_file k) b.files) (is_some (get_or (catalog_in b.files).relations k None))
      (rows_wanted b.files (catalog_in b.files).relations (catalog_in b.files).indexes k less (l.others k (omega (arith, less)) (λ e. omega (arith, less, e))))

  tree_used : (j : ℕ) → j < 8 → (is_there (tree_file j) b.files ≡ is_tree (get_or (catalog_in b.files).indexes j None)) ⊎ ((j ≡ i) × (is_there (tree_file j) b.files ≡ false))
  tree_used j less = ⊎_elim
      (λ (same : j ≡ i). inr (same, subst (λ (k : ℕ). is_there (tree_file k) b.files ≡ false) (sym same) l.gone))
      (λ (other : j ≢ i). inl (same_used (is_there (tree_file j) b.files) (is_tree (get_or (catalog_in b.files).indexes j None))
      (tree_wanted b.files (catalog_in b.files).relations (catalog_in b.files).indexes j (l.others (8 + j) (omega (arith, less)) (λ e. other (omega (arith, e)))))))
      (cases_eq j i)

  -- what is left is that of a command that takes an index back, once its tree is gone
  pub treeless_cut : IsCutTable b.files
  treeless_cut = record {
    known = λ id. known_at a.files b.files i id below (c.known id) (r.trees.known id);
    done = inr (
      Treeless i,
      half_done b.files i (record {
        long = long;
        inner = l.catalog;
        version = version_is;
        rows_there = rows_used;
        tree_there = tree_used;
        rows = λ k schema is.
            let at = slot_below (relation_at bytes) 8 k schema is in
            rows_keep a.files b.files (same_rows a b i c) k (r.trees.sound.rows k at.below) schema is;
        keys = λ j index is. ⊎_elim
            (λ (less : j < 8). other_index j less index is)
            (λ (more : 8 ≤ j).
            let none = past_slots (index_mended b.files) j more in
            absurd (none_some index (sym (ap (λ (xs : List (Option Index)). get_or xs j None) (indexes_are b.files ∙ indexes_mended b.files) ∙ none) ∙ is)))
            (cases_lt j 8);
      }),
    );
  }

-- ---- a tree that is removed, and built again

module _ (half : Half) (a : State) (catalog : Catalog) (i slot : ℕ) (zs : List ℤ) (same : i ≡ slot) (below : slot < 8) (told : IsTrue a.tells) (r : MayRemoveTree a.files catalog half slot) (k : AreKeysIn a.files i zs) where
  below_here : i < 8
  below_here = subst (λ (n : ℕ). n < 8) (sym same) below

  removes_here : MayRemoveTree a.files catalog half i
  removes_here = subst (MayRemoveTree a.files catalog half) (sym same) r

  -- it is gone
  gone_lacks : (b : State) → SparesButTree a b (tree_file i) → IsUnnamed b.files (tree_file i) → LacksTree b.files i
  gone_lacks b c gone = tree_lacks a b i zs below_here c r.trees.sound k (gone_there b.files (tree_file i) gone)

  -- it is built, in a file as before
  built_changes : (b : State) → BuildsTree a b (tree_file i) zs → ChangesAtMost a b (tree_file i)
  built_changes b t = record { spares = t.spares; there = built_there a b (tree_file i) zs t ∙ sym (tree_is_there a.files i below_here r.trees.sound zs k) }

  replaced_cut : (b : State) → MayReplaceTree a b (tree_file i) zs → IsCutTable b.files
  replaced_cut b m = ⊎_elim
      (λ (g : IsUnnamed b.files (tree_file i) × SparesButTree a b (tree_file i)). treeless_cut a b catalog half i below_here removes_here g.1 (gone_lacks b g.1 g.0))
      (λ (t : BuildsTree a b (tree_file i) zs).
      let c = built_changes b t in
      trees_cut b.files half (while_complete half a b i below_here c r.trees (tree_keeps a b i zs below_here c r.trees.sound k (built_now a b (tree_file i) zs told t))))
      m

  replaced_base : (b : State) → MayReplaceTree a b (tree_file i) zs → LosesTrees (mended_base a.files) (mended_base b.files)
  replaced_base b m = ⊎_elim
      (λ (g : IsUnnamed b.files (tree_file i) × SparesButTree a b (tree_file i)). base_lost a b catalog half i below_here removes_here g.1 (gone_lacks b g.1 g.0))
      (λ (t : BuildsTree a b (tree_file i) zs). loses_same (λ n. ⊤) (mended_base a.files) (mended_base b.files) ((kept_by a b i (built_changes b t)).base told))
      m

  pub tree_replaced : {mends : List ℕ → Table → Type 0} {store : List ℕ} → MendsToEither mends a.files store (λ after. MayReplaceTree a after (tree_file i) zs) → MendsToDatabase mends store (λ db. LosesTrees (mended_base a.files) db)
  tree_replaced m = left_either a.files
      (trees_left a.files half (λ db. LosesTrees (mended_base a.files) db) r.trees (loses_same (λ n. ⊤) (mended_base a.files) (mended_base a.files) refl))
      (λ s part. record { cut = replaced_cut s part; is = replaced_base s part })
      m
