-- Steps that change one thing, and the line that tells it.
use Rattle.std.proofs.Common.{◌≡◌, ◌≢◌, ◌⊎◌, inl, inr, ⊎_elim, ℕ, ◌+◌, ◌*◌, ◌<◌, ◌≤◌, Bool, true, false, List, [], ◌∷◌, ◌++◌, length, Option, Some, None, if◌then◌else◌, refl, ap, sym, subst, ◌∙◌, arith}
use Rattle.std.specs.Prelude.{Contains, is_some, option_map, slice_range}
use Rattle.std.proofs.lemmas.Bool.{cases_eq}
use Rattle.std.proofs.lemmas.List.Elements.{Contains-push, Contains-push_cases}
use Rattle.afl_base.specs.Files.{File, IsNamed, IsUnnamed, Removes, State, Table}
use Rattle.catalog.specs.Rules.{is_tree}
use Rattle.catalog.proofs.Named.{named_none}
use Rattle.db_model.specs.declared.schemas.Schema.{Schema}
use Rattle.padded.proofs.Facts.{lt_true}
use Rattle.db_model.specs.declared.schemas.IndexKind.{IndexKind}
use Rattle.db_model.specs.declared.schemas.IndexKind.TheVariants.{MaxHeap, Inline, MemHash}
use Rattle.db_model.specs.Catalog.{Index, index_at, relation_at}
use Rattle.space_model.specs.FileNames.{bytes_in_file, catalog_file, file_named, rows_file, size_in, tree_file}
use Rattle.stored.specs.CutTables.{slot_bytes}
use Rattle.stored.specs.Mended.{whole_bytes, whole_catalog}
use Rattle.stored.proofs.SoundCut.{named_there}
use Rattle.stored_mend.specs.Reported.{AreRightRows, ChangesOnce, IsCatalogGone, IsCatalogLonger, IsDone, IsIndexGone, IsRightSlot, IsRightTree, IsSlotOf, IsTreeChanged, Reports, bytes_by_name, index_seen, most_lines, relation_seen, tree_seen, with_line}
use Rattle.stored_mend.specs.declared.report.Mended.{Mended as AnyMended}
use Rattle.stored_mend.specs.declared.report.Mended.TheVariants.{Catalog, Mark, Relation, Attribute as OneAttribute, Row, Tree, Index as OneIndex, Stray}
use Rattle.stored_mend.proofs.OneFile.{ChangesFile, catalog_no_rows, catalog_no_tree, others_found, rows_no_tree, same_rows_slot, same_tree_slot, tree_no_rows}
use Rattle.stored_mend.proofs.Replaced.{name_of}
use Rattle.stored_mend.proofs.ReportOnce.{apart_one, gone_not, longer_not}

-- MAXHEAP alone has a tree
pub kind_tree : (index : Index) → index.kind ≡ MaxHeap → is_tree (Some index) ≡ true
kind_tree index kind = ap (λ (k : IndexKind). elim k [ Inline ↦ false | MaxHeap ↦ true | MemHash ↦ false ]) kind

-- ---- a line

pub line_added : (before after : List AnyMended) (line : AnyMended) → after ≡ with_line before line → length before + 1 ≤ most_lines → after ≡ before ++ line ∷ []
line_added before after line is fits = is ∙ ap (λ (b : Bool). if b then before ++ line ∷ [] else before) (lt_true (length before) most_lines (omega (arith, fits)))

pub reports_line : (a b : State) (before after : List AnyMended) (line : AnyMended) → ChangesOnce a.files b.files → IsDone a.files b.files line → ((other : AnyMended) → IsDone a.files b.files other → other ≡ line)
    → after ≡ with_line before line → Reports 1 a b before after
reports_line a b before after line once done only is = record {
  added = line ∷ [];
  few = omega arith;
  behind = λ fits. line_added before after line is fits;
  once = once;
  lines = λ n. record {
    done = λ other there. ⊎_elim
        (λ (none : Contains [] other). let below = none.1 in absurd (omega (arith, below)))
        (λ (same : line ≡ other). subst (IsDone a.files b.files) same done)
        (Contains-push_cases [] line other there);
    told = λ other d. subst (Contains (line ∷ [])) (sym (only other d)) (Contains-push [] line);
    apart = apart_one line;
  };
}

-- ---- which lines there may be

module _ (old new : Table) where
  abbrev IsSameCatalog : Type 0
  IsSameCatalog = size_in new catalog_file ≡ size_in old catalog_file

  abbrev AreSlots : (ℕ → Type 0) → Type 0
  AreSlots Other = (k : ℕ) → k < 8 → Other k → slot_bytes new k ≡ slot_bytes old k

  abbrev AreRows : (ℕ → Type 0) → Type 0
  AreRows Other = (k : ℕ) → k < 8 → Other k → bytes_by_name (rows_file k) new ≡ bytes_by_name (rows_file k) old

  abbrev AreTrees : (ℕ → Type 0) → Type 0
  AreTrees Other = (i : ℕ) → i < 8 → Other i → tree_seen new i ≡ tree_seen old i

  catalog_stays : IsSameCatalog → IsCatalogGone (size_in old catalog_file) (size_in new catalog_file) → ⊥
  catalog_stays same d = gone_not (size_in old catalog_file) (subst (IsCatalogGone (size_in old catalog_file)) same d)

  mark_stays : IsSameCatalog → IsCatalogLonger (size_in old catalog_file) (size_in new catalog_file) → ⊥
  mark_stays same d = longer_not (size_in old catalog_file) (subst (IsCatalogLonger (size_in old catalog_file)) same d)

  index_stays : (name attribute : List ℕ) (d : IsIndexGone old new name attribute) → tree_seen new d.i ≡ tree_seen old d.i → ⊥
  index_stays name attribute d same = let no : Some d.index ≡ None = sym d.on.stands ∙ sym (ap (λ (t : Option Index × Option (List ℕ)). t.0) same) ∙ d.gone in cc

  -- of the catalog's size
  pub catalog_line : ((k : ℕ) → k < 8 → slot_bytes new k ≡ slot_bytes old k) → ((k : ℕ) → k < 8 → bytes_by_name (rows_file k) new ≡ bytes_by_name (rows_file k) old) → ((i : ℕ) → i < 8 → tree_seen new i ≡ tree_seen old i)
      → (line : AnyMended) → IsDone old new line
      → ((line ≡ Catalog) × IsCatalogGone (size_in old catalog_file) (size_in new catalog_file)) ⊎ ((line ≡ Mark) × IsCatalogLonger (size_in old catalog_file) (size_in new catalog_file))
  catalog_line slots rows trees Catalog d = inl (refl, d)
  catalog_line slots rows trees Mark d = inr (refl, d)
  catalog_line slots rows trees (Relation k) d = absurd (⊎_elim (λ slot. slot (slots k d.below)) (λ there. there (sym (rows k d.below) ∙ d.gone)) d.changed)
  catalog_line slots rows trees (OneAttribute name) d = absurd (d.changed (slots d.k d.slot.below))
  catalog_line slots rows trees (Row name) d = absurd (d.changed (rows d.k d.slot.below))
  catalog_line slots rows trees (Tree name attribute) d = absurd (d.changed (ap (λ (t : Option Index × Option (List ℕ)). t.1) (trees d.i d.on.below)))
  catalog_line slots rows trees (OneIndex name attribute) d = absurd (index_stays name attribute d (trees d.i d.on.below))
  catalog_line slots rows trees (Stray i) d = absurd (d.was (sym (ap (λ (t : Option Index × Option (List ℕ)). t.1) (trees i d.below)) ∙ d.gone))

  -- of a relation slot
  module _ (slot : ℕ) (same : IsSameCatalog) (slots : AreSlots (λ k. k ≢ slot)) (rows : AreRows (λ k. k ≡ k)) (trees : AreTrees (λ i. i ≡ i)) where
    pub slot_line : (line : AnyMended) → IsDone old new line → (line ≡ Relation slot) ⊎ ((name : List ℕ) × IsSlotOf old slot name × (line ≡ OneAttribute name))
    slot_line Catalog d = absurd (catalog_stays same d)
    slot_line Mark d = absurd (mark_stays same d)
    slot_line (Relation k) d = ⊎_elim
        (λ (here : k ≡ slot). inl (ap (λ (j : ℕ). Relation j) here))
        (λ (differs : k ≢ slot). absurd (⊎_elim (λ changed. changed (slots k d.below differs)) (λ there. there (sym (rows k d.below refl) ∙ d.gone)) d.changed))
        (cases_eq k slot)
    slot_line (OneAttribute name) d = ⊎_elim
        (λ (here : d.k ≡ slot). inr (name, subst (λ (j : ℕ). IsSlotOf old j name) here d.slot, refl))
        (λ (differs : d.k ≢ slot). absurd (d.changed (slots d.k d.slot.below differs)))
        (cases_eq d.k slot)
    slot_line (Row name) d = absurd (d.changed (rows d.k d.slot.below refl))
    slot_line (Tree name attribute) d = absurd (d.changed (ap (λ (t : Option Index × Option (List ℕ)). t.1) (trees d.i d.on.below refl)))
    slot_line (OneIndex name attribute) d = absurd (index_stays name attribute d (trees d.i d.on.below refl))
    slot_line (Stray i) d = absurd (d.was (sym (ap (λ (t : Option Index × Option (List ℕ)). t.1) (trees i d.below refl)) ∙ d.gone))

  -- of rows
  module _ (slot : ℕ) (same : IsSameCatalog) (slots : AreSlots (λ k. k ≡ k)) (rows : AreRows (λ k. k ≢ slot)) (trees : AreTrees (λ i. i ≡ i)) where
    pub rows_line : (line : AnyMended) → IsDone old new line → (line ≡ Relation slot) ⊎ ((name : List ℕ) × IsSlotOf old slot name × (line ≡ Row name))
    rows_line Catalog d = absurd (catalog_stays same d)
    rows_line Mark d = absurd (mark_stays same d)
    rows_line (Relation k) d = ⊎_elim
        (λ (here : k ≡ slot). inl (ap (λ (j : ℕ). Relation j) here))
        (λ (differs : k ≢ slot). absurd (⊎_elim (λ changed. changed (slots k d.below refl)) (λ there. there (sym (rows k d.below differs) ∙ d.gone)) d.changed))
        (cases_eq k slot)
    rows_line (OneAttribute name) d = absurd (d.changed (slots d.k d.slot.below refl))
    rows_line (Row name) d = ⊎_elim
        (λ (here : d.k ≡ slot). inr (name, subst (λ (j : ℕ). IsSlotOf old j name) here d.slot, refl))
        (λ (differs : d.k ≢ slot). absurd (d.changed (rows d.k d.slot.below differs)))
        (cases_eq d.k slot)
    rows_line (Tree name attribute) d = absurd (d.changed (ap (λ (t : Option Index × Option (List ℕ)). t.1) (trees d.i d.on.below refl)))
    rows_line (OneIndex name attribute) d = absurd (index_stays name attribute d (trees d.i d.on.below refl))
    rows_line (Stray i) d = absurd (d.was (sym (ap (λ (t : Option Index × Option (List ℕ)). t.1) (trees i d.below refl)) ∙ d.gone))

  -- of an index and its tree
  module _ (slot : ℕ) (same : IsSameCatalog) (slots : AreSlots (λ k. k ≡ k)) (rows : AreRows (λ k. k ≡ k)) (trees : AreTrees (λ i. i ≢ slot)) where
    abbrev pub IsTreeLine : AnyMended → Type 0
    IsTreeLine line = (line ≡ Stray slot)
        ⊎ (((name attribute : List ℕ) × (d : IsTreeChanged old new name attribute) × (d.i ≡ slot) × (line ≡ Tree name attribute))
        ⊎ ((name attribute : List ℕ) × (d : IsIndexGone old new name attribute) × (d.i ≡ slot) × (line ≡ OneIndex name attribute)))

    pub tree_line : (line : AnyMended) → IsDone old new line → IsTreeLine line
    tree_line Catalog d = absurd (catalog_stays same d)
    tree_line Mark d = absurd (mark_stays same d)
    tree_line (Relation k) d = absurd (⊎_elim (λ changed. changed (slots k d.below refl)) (λ there. there (sym (rows k d.below refl) ∙ d.gone)) d.changed)
    tree_line (OneAttribute name) d = absurd (d.changed (slots d.k d.slot.below refl))
    tree_line (Row name) d = absurd (d.changed (rows d.k d.slot.below refl))
    tree_line (Tree name attribute) d = ⊎_elim
        (λ (here : d.i ≡ slot). inr (inl (name, attribute, d, here, refl)))
        (λ (differs : d.i ≢ slot). absurd (d.changed (ap (λ (t : Option Index × Option (List ℕ)). t.1) (trees d.i d.on.below differs))))
        (cases_eq d.i slot)
    tree_line (OneIndex name attribute) d = ⊎_elim
        (λ (here : d.i ≡ slot). inr (inr (name, attribute, d, here, refl)))
        (λ (differs : d.i ≢ slot). absurd (index_stays name attribute d (trees d.i d.on.below differs)))
        (cases_eq d.i slot)
    tree_line (Stray i) d = ⊎_elim
        (λ (here : i ≡ slot). inl (ap (λ (j : ℕ). Stray j) here))
        (λ (differs : i ≢ slot). absurd (d.was (sym (ap (λ (t : Option Index × Option (List ℕ)). t.1) (trees i d.below differs)) ∙ d.gone)))
        (cases_eq i slot)

-- ---- one file has changed

module _ (old new : Table) (name : List ℕ) (c : ChangesFile old new name) where
  pub seen_same : (n : List ℕ) → n ≢ name → bytes_by_name n new ≡ bytes_by_name n old
  seen_same n differs = ap (option_map (λ (f : File). f.bytes)) (others_found old new name n c differs)

  module _ (other : catalog_file ≢ name) where
    catalog_is : file_named catalog_file new ≡ file_named catalog_file old
    catalog_is = others_found old new name catalog_file c other

    pub whole_same : whole_catalog new ≡ whole_catalog old
    whole_same = ap (λ (f : Option File). whole_bytes (bytes_in_file f)) catalog_is

    pub size_same : size_in new catalog_file ≡ size_in old catalog_file
    size_same = ap (option_map (λ (f : File). length f.bytes)) catalog_is

    pub slot_same : (k : ℕ) → slot_bytes new k ≡ slot_bytes old k
    slot_same k = ap (λ (xs : List ℕ). slice_range xs (176 * k) (176 * k + 176)) whole_same

    pub relation_same : (k : ℕ) → relation_seen new k ≡ relation_seen old k
    relation_same k = ap (λ (xs : List ℕ). relation_at xs k) whole_same

    pub index_same : (i : ℕ) → index_seen new i ≡ index_seen old i
    index_same i = ap (λ (xs : List ℕ). index_at xs i) whole_same

    pub tree_same : (i : ℕ) → tree_file i ≢ name → tree_seen new i ≡ tree_seen old i
    tree_same i differs = ap (λ (x : Option Index). (x, bytes_by_name (tree_file i) new)) (index_same i) ∙ ap (λ (y : Option (List ℕ)). (index_seen old i, y)) (seen_same (tree_file i) differs)

-- a file that is there, and one that is removed
pub seen_there : (files : Table) (id : ℕ) (name : List ℕ) → IsNamed files id name → bytes_by_name name files ≢ None
seen_there files id name named none = by_file (file_named name files) (named_there files id name named) none
  where
    by_file : (o : Option File) → is_some o ≡ true → option_map (λ (f : File). f.bytes) o ≡ None → ⊥
    by_file None there none = cc
    by_file (Some f) there none = cc

pub seen_gone : (old new : State) (id : ℕ) (name : List ℕ) → Removes old new id → IsNamed old.files id name → bytes_by_name name new.files ≡ None
seen_gone old new id name r named = ap (option_map (λ (f : File). f.bytes)) (named_none new.files name (subst (IsUnnamed new.files) (name_of old.files id name named) r.unnamed))

-- rows are removed
module _ (old new : State) (slot : ℕ) (below : slot < 8) (c : ChangesFile old.files new.files (rows_file slot)) (unused : relation_seen old.files slot ≡ None)
    (right : IsRightSlot None (slot_bytes old.files slot)) (was : bytes_by_name (rows_file slot) old.files ≢ None) (gone : bytes_by_name (rows_file slot) new.files ≡ None) where
  rows_other : (k : ℕ) → k < 8 → k ≢ slot → bytes_by_name (rows_file k) new.files ≡ bytes_by_name (rows_file k) old.files
  rows_other k inside differs = seen_same old.files new.files (rows_file slot) c (rows_file k) (λ e. differs (same_rows_slot k slot e))

  trees_all : (i : ℕ) → tree_seen new.files i ≡ tree_seen old.files i
  trees_all i = tree_same old.files new.files (rows_file slot) c (catalog_no_rows slot) i (tree_no_rows i slot)

  slots_all : (k : ℕ) → slot_bytes new.files k ≡ slot_bytes old.files k
  slots_all k = slot_same old.files new.files (rows_file slot) c (catalog_no_rows slot) k

  pub rows_removed_once : ChangesOnce old.files new.files
  rows_removed_once = record {
    relations = λ k inside. relation_same old.files new.files (rows_file slot) c (catalog_no_rows slot) k;
    catalog = inl (size_same old.files new.files (rows_file slot) c (catalog_no_rows slot));
    slots = λ k inside. inl (slots_all k);
    rows = λ k inside. ⊎_elim
        (λ (here : k ≡ slot). inr (by_unused k here))
        (λ (differs : k ≢ slot). inl (rows_other k inside differs))
        (cases_eq k slot);
    lone_rows = λ k inside none. ⊎_elim
        (λ (here : k ≡ slot). inr (subst (λ (j : ℕ). IsRightSlot None (slot_bytes new.files j)) (sym here) (subst (IsRightSlot None) (sym (slots_all slot)) right)))
        (λ (differs : k ≢ slot). inl (rows_other k inside differs))
        (cases_eq k slot);
    indexes = λ i inside. inl (index_same old.files new.files (rows_file slot) c (catalog_no_rows slot) i);
    trees = λ i inside. inl (trees_all i);
  }
    where
      by_unused : (k : ℕ) → k ≡ slot → (AreRightRows (relation_seen old.files k) (bytes_by_name (rows_file k) old.files) → ⊥) × AreRightRows (relation_seen old.files k) (bytes_by_name (rows_file k) new.files)
      by_unused k here =
          subst (λ (j : ℕ). (AreRightRows (relation_seen old.files j) (bytes_by_name (rows_file j) old.files) → ⊥) × AreRightRows (relation_seen old.files j) (bytes_by_name (rows_file j) new.files)) (sym here)
          (subst (λ (r : Option Schema). (AreRightRows r (bytes_by_name (rows_file slot) old.files) → ⊥) × AreRightRows r (bytes_by_name (rows_file slot) new.files)) (sym unused) (was, gone))

  pub rows_removed_reports : (before after : List AnyMended) → after ≡ with_line before (Relation slot) → Reports 1 old new before after
  rows_removed_reports before after is =
      reports_line old new before after (Relation slot) rows_removed_once
      (record { below = below; unused = unused; gone = gone; changed = inr was })
      (λ line d. ⊎_elim
      (λ (here : line ≡ Relation slot). here)
      (λ row. let s : IsSlotOf old.files slot row.0 = row.1 in let no : Some s.schema ≡ None = sym s.stands ∙ unused in absurd (cc))
      (rows_line old.files new.files slot (size_same old.files new.files (rows_file slot) c (catalog_no_rows slot)) (λ k inside here. slots_all k) rows_other (λ i inside here. trees_all i) line d))
      is

-- a tree is removed that no index has
module _ (old new : State) (slot : ℕ) (below : slot < 8) (c : ChangesFile old.files new.files (tree_file slot)) (treeless : is_tree (index_seen old.files slot) ≡ false)
    (was : bytes_by_name (tree_file slot) old.files ≢ None) (gone : bytes_by_name (tree_file slot) new.files ≡ None) where
  stray_rows : (k : ℕ) → bytes_by_name (rows_file k) new.files ≡ bytes_by_name (rows_file k) old.files
  stray_rows k = seen_same old.files new.files (tree_file slot) c (rows_file k) (rows_no_tree k slot)

  stray_other : (i : ℕ) → i < 8 → i ≢ slot → tree_seen new.files i ≡ tree_seen old.files i
  stray_other i inside differs = tree_same old.files new.files (tree_file slot) c (catalog_no_tree slot) i (λ e. differs (same_tree_slot i slot e))

  stray_slots : (k : ℕ) → slot_bytes new.files k ≡ slot_bytes old.files k
  stray_slots k = slot_same old.files new.files (tree_file slot) c (catalog_no_tree slot) k

  stray_index : index_seen new.files slot ≡ index_seen old.files slot
  stray_index = index_same old.files new.files (tree_file slot) c (catalog_no_tree slot) slot

  pub stray_once : ChangesOnce old.files new.files
  stray_once = record {
    relations = λ k inside. relation_same old.files new.files (tree_file slot) c (catalog_no_tree slot) k;
    catalog = inl (size_same old.files new.files (tree_file slot) c (catalog_no_tree slot));
    slots = λ k inside. inl (stray_slots k);
    rows = λ k inside. inl (stray_rows k);
    lone_rows = λ k inside none. inl (stray_rows k);
    indexes = λ i inside. inl (index_same old.files new.files (tree_file slot) c (catalog_no_tree slot) i);
    trees = λ i inside. ⊎_elim
        (λ (here : i ≡ slot). inr (subst (λ (j : ℕ). (IsRightTree (tree_seen old.files j) → ⊥) × IsRightTree (tree_seen new.files j)) (sym here)
        ((λ right. was right.1), (ap is_tree stray_index ∙ treeless, gone))))
        (λ (differs : i ≢ slot). inl (stray_other i inside differs))
        (cases_eq i slot);
  }

  pub stray_reports : (before after : List AnyMended) → after ≡ with_line before (Stray slot) → Reports 1 old new before after
  stray_reports before after is =
      reports_line old new before after (Stray slot) stray_once
      (record { below = below; treeless = treeless; was = was; gone = gone })
      (λ line d. ⊎_elim
      (λ (here : line ≡ Stray slot). here)
      (λ rest. ⊎_elim
      (λ (tree : (name attribute : List ℕ) × (d : IsTreeChanged old.files new.files name attribute) × (d.i ≡ slot) × (line ≡ Tree name attribute)).
      let t = tree.2 in
      let has : is_tree (index_seen old.files slot) ≡ true = ap (λ (i : ℕ). is_tree (index_seen old.files i)) (sym tree.3) ∙ ap is_tree t.on.stands ∙ kind_tree t.index t.kind in
      let no : false ≡ true = sym treeless ∙ has in absurd (cc))
      (λ (index : (name attribute : List ℕ) × (d : IsIndexGone old.files new.files name attribute) × (d.i ≡ slot) × (line ≡ OneIndex name attribute)).
      let g = index.2 in
      let no : Some g.index ≡ None = sym (ap (index_seen old.files) (sym index.3) ∙ g.on.stands) ∙ sym stray_index ∙ ap (index_seen new.files) (sym index.3) ∙ g.gone in absurd (cc))
      rest)
      (tree_line old.files new.files slot (size_same old.files new.files (tree_file slot) c (catalog_no_tree slot)) (λ k inside here. stray_slots k) (λ k inside here. stray_rows k) stray_other line d))
      is
