-- Trees that are put right, and the lines that tell them.
use Rattle.std.proofs.Common.{◌≡◌, ◌≢◌, ◌⊎◌, inl, inr, ⊎_elim, ℕ, ℤ, ◌+◌, ◌*◌, ◌<◌, ◌≤◌, true, false, List, [], ◌∷◌, ◌++◌, length, get_or, Option, Some, None, refl, ap, sym, subst, ◌∙◌, arith, append_assoc, length-append}
use Rattle.std.specs.Prelude.{Contains, is_some, option_map, slice_get, slice_range}
use Rattle.std.proofs.lemmas.Bool.{cases_eq}
use Rattle.std.proofs.lemmas.List.Elements.{Contains-push, Contains-push_cases}
use Rattle.afl_base.specs.Files.{File, IsNamed, State, Table, bytes_at}
use Rattle.catalog.specs.declared.types.Catalog.{Catalog as Loaded}
use Rattle.catalog.specs.declared.types.IndexEntry.{IndexEntry}
use Rattle.catalog.specs.CatalogFile.{index_in}
use Rattle.catalog.specs.Rules.{catalog_in, is_tree}
use Rattle.db_model.specs.declared.schemas.Attribute.{Attribute}
use Rattle.db_model.specs.declared.schemas.IndexKind.{IndexKind}
use Rattle.db_model.specs.declared.schemas.IndexKind.TheVariants.{MaxHeap}
use Rattle.db_model.specs.declared.schemas.Schema.{Schema}
use Rattle.db_model.specs.Catalog.{Catalog as Slots, Index, catalog_of, index_at, relation_at, relation_slot_of}
use Rattle.index_tree.specs.Trees.{IsTreeOf}
use Rattle.padded.proofs.Facts.{seen_at, some_same}
use Rattle.space_model.specs.FileNames.{bytes_in_file, bytes_named, catalog_file, file_named, is_there, rows_file, size_in, tree_file}
use Rattle.stored.specs.CutTables.{slot_bytes}
use Rattle.stored.specs.Mended.{whole_bytes, whole_catalog}
use Rattle.stored.specs.Sound.{IsIndexComplete, keys_stored}
use Rattle.stored.proofs.FilesOf.{unbroken}
use Rattle.stored_mend.specs.Complete.{AreKeysIn, HasSlot, HasCompleteIndex, IsSoundButTrees, SparesOtherIndexes}
use Rattle.stored_mend.specs.Listed.{LacksTree}
use Rattle.stored_mend.specs.Reported.{ChangesOnce, HasNamesApart, IsCatalogGone, IsCatalogLonger, IsDone, IsIndexGone, IsOtherTree, IsOn, IsReported, IsRightTree, IsTreeChanged, Reports, ReportsInTurn, ReportsTrees, SparesSlots, TreesChangeOnce, bytes_by_name, index_seen, most_lines, relation_seen, tree_seen, with_line}
use Rattle.stored_mend.specs.Trees.{SparesButOne, SparesButTree}
use Rattle.stored_mend.specs.declared.report.Mended.{Mended as AnyMended}
use Rattle.stored_mend.specs.declared.report.Mended.TheVariants.{Catalog, Mark, Tree, Index as OneIndex, Stray}
use Rattle.stored_mend.proofs.OneFile.{catalog_no_rows, catalog_no_tree, rows_no_tree, same_tree_slot}
use Rattle.stored_mend.proofs.ReportNames.{index_formed, relation_formed, unbroken_names}
use Rattle.stored_mend.proofs.ReportOnce.{Once, apart_none, apart_one, gone_not, kept_then, longer_not, names_later, on_earlier, on_later, reported_then, reports_then}
use Rattle.stored_mend.proofs.ReportSteps.{catalog_line, kind_tree, line_added, tree_line}
use Rattle.stored_mend.proofs.SameRows.{HaveSameRows, index_keeps}
use Rattle.stored_mend.proofs.TreeFiles.{named_bytes}

-- ---- steps, one after another

pub trees_same : (a : Table) → TreesChangeOnce a a
trees_same a = record {
  relations = λ k below. refl;
  catalog = refl;
  slots = λ k below. refl;
  rows = λ k below. refl;
  indexes = λ i below. inl refl;
  trees = λ i below. inl refl;
  complete = λ i below c. c;
}

module _ (a b c : Table) (f : TreesChangeOnce a b) (g : TreesChangeOnce b c) where
  pub trees_then : TreesChangeOnce a c
  trees_then = record {
    relations = λ k below. g.relations k below ∙ f.relations k below;
    catalog = g.catalog ∙ f.catalog;
    slots = λ k below. g.slots k below ∙ f.slots k below;
    rows = λ k below. g.rows k below ∙ f.rows k below;
    indexes = λ i below. kept_then _ _ _ (f.indexes i below) (g.indexes i below);
    trees = λ i below. ⊎_elim
        (λ (same : tree_seen b i ≡ tree_seen a i). ⊎_elim
        (λ (stays : tree_seen c i ≡ tree_seen b i). inl (stays ∙ same))
        (λ (moved : (HasCompleteIndex b i → ⊥) × HasCompleteIndex c i). inr ((λ whole. moved.0 (f.complete i below whole)), moved.1))
        (g.trees i below))
        (λ (moved : (HasCompleteIndex a i → ⊥) × HasCompleteIndex b i). inr (moved.0, g.complete i below moved.1))
        (f.trees i below);
    complete = λ i below whole. g.complete i below (f.complete i below whole);
  }

  pub trees_once : Once a b c
  trees_once = record {
    first = f.relations;
    second = g.relations;
    catalog = inl f.catalog;
    slots = λ k below. inl (f.slots k below);
    rows = λ k below. inl (f.rows k below);
    trees = λ i below. ⊎_elim
        (λ (same : tree_seen b i ≡ tree_seen a i). inl same)
        (λ (moved : (HasCompleteIndex a i → ⊥) × HasCompleteIndex b i). ⊎_elim
        (λ (stays : tree_seen c i ≡ tree_seen b i). inr stays)
        (λ (again : (HasCompleteIndex b i → ⊥) × HasCompleteIndex c i). absurd (again.0 moved.1))
        (g.trees i below))
        (f.trees i below);
    none = λ k below none. g.rows k below ∙ none;
    kept = f.indexes;
    lone_rows = λ k below unused. inr (g.slots k below);
  }

pub reports_trees_then : (n m all : ℕ) (a b c : State) (before mid after : List AnyMended) → ReportsTrees n a b before mid → ReportsTrees m b c mid after → n + m ≤ all → ReportsTrees all a c before after
reports_trees_then n m all a b c before mid after f g room =
    let long = length-append f.added g.added in
    let many = f.few in
    let more = g.few in
    record {
      added = f.added ++ g.added;
      few = omega (arith, long, many, more, room);
      behind = λ fits.
          let first : mid ≡ before ++ f.added = f.behind (omega (arith, fits, room)) in
          let size : length mid ≡ length before + length f.added = ap (λ (xs : List AnyMended). length xs) first ∙ length-append before f.added in
          g.behind (omega (arith, fits, room, size, many)) ∙ ap (λ (xs : List AnyMended). xs ++ g.added) first ∙ append_assoc before f.added g.added;
      once = trees_then a.files b.files c.files f.once g.once;
      lines = λ n.
          reported_then a.files b.files c.files (trees_once a.files b.files c.files f.once g.once) n f.added g.added
          (f.lines n) (g.lines (names_later a.files b.files f.once.relations f.once.indexes n));
    }

pub reports_trees_more : (n m : ℕ) (a b : State) (before after : List AnyMended) → ReportsTrees n a b before after → n ≤ m → ReportsTrees m a b before after
reports_trees_more n m a b before after r more =
    let few = r.few in
    record { added = r.added; few = omega (arith, few, more); behind = λ fits. r.behind (omega (arith, fits, more)); once = r.once; lines = r.lines }

append_none : (xs : List AnyMended) → xs ++ [] ≡ xs
append_none [] = refl
append_none (x ∷ xs) = ap (λ (ys : List AnyMended). x ∷ ys) (append_none xs)

pub reports_trees_quiet : (n : ℕ) (a b : State) (before after : List AnyMended) → TreesChangeOnce a.files b.files → ((line : AnyMended) → IsDone a.files b.files line → ⊥) → after ≡ before → ReportsTrees n a b before after
reports_trees_quiet n a b before after once none same = record {
  added = [];
  few = omega arith;
  behind = λ fits. same ∙ sym (append_none before);
  once = once;
  lines = λ n. record { done = λ line there. let below = there.1 in absurd (omega (arith, below)); told = λ line d. absurd (none line d); apart = apart_none };
}

-- where all is as it was nothing was done
pub nothing_changed : (old new : Table) → size_in new catalog_file ≡ size_in old catalog_file → ((k : ℕ) → k < 8 → slot_bytes new k ≡ slot_bytes old k)
    → ((k : ℕ) → k < 8 → bytes_by_name (rows_file k) new ≡ bytes_by_name (rows_file k) old) → ((i : ℕ) → i < 8 → tree_seen new i ≡ tree_seen old i) → (line : AnyMended) → IsDone old new line → ⊥
nothing_changed old new size slots rows trees line d = ⊎_elim
    (λ (gone : (line ≡ Catalog) × IsCatalogGone (size_in old catalog_file) (size_in new catalog_file)). gone_not (size_in old catalog_file) (subst (IsCatalogGone (size_in old catalog_file)) size gone.1))
    (λ (longer : (line ≡ Mark) × IsCatalogLonger (size_in old catalog_file) (size_in new catalog_file)). longer_not (size_in old catalog_file) (subst (IsCatalogLonger (size_in old catalog_file)) size longer.1))
    (catalog_line old new slots rows trees line d)

pub reports_trees_nothing : (n : ℕ) (a b : State) (before after : List AnyMended) → b ≡ a → after ≡ before → ReportsTrees n a b before after
reports_trees_nothing n a b before after same lines =
    subst (λ (s : State). ReportsTrees n a s before after) (sym same)
    (reports_trees_quiet n a a before after (trees_same a.files) (nothing_changed a.files a.files refl (λ k below. refl) (λ k below. refl) (λ i below. refl)) lines)

pub reports_trees_line : (a b : State) (before after : List AnyMended) (line : AnyMended) → TreesChangeOnce a.files b.files → IsDone a.files b.files line → ((other : AnyMended) → IsDone a.files b.files other → other ≡ line)
    → after ≡ with_line before line → ReportsTrees 1 a b before after
reports_trees_line a b before after line once done only is = record {
  added = line ∷ [];
  few = omega arith;
  behind = λ fits. line_added before after line is fits;
  once = once;
  lines = λ n. record {
    done = λ other there. ⊎_elim
        (λ (none : Contains [] other). let below = none.1 in absurd (omega (arith, below)))
        (λ (same : line ≡ other). subst (IsDone a.files b.files) same done)
        (Contains-push_cases [] line other there);
    told = λ other d. subst (Contains (line ∷ [])) (sym (only other d)) (Contains-push [] line);
    apart = apart_one line;
  };
}

-- ---- the file of a tree alone has changed

pub seen_bytes : (o p : Option File) → option_map (λ (f : File). f.bytes) o ≡ option_map (λ (f : File). f.bytes) p → bytes_in_file o ≡ bytes_in_file p
seen_bytes None None e = refl
seen_bytes (Some f) (Some g) e = cc
seen_bytes None (Some g) e = cc
seen_bytes (Some f) None e = cc

module _ (old new : Table) (slot : ℕ) (files : (n : List ℕ) → n ≢ tree_file slot → file_named n new ≡ file_named n old) where
  one_whole : whole_catalog new ≡ whole_catalog old
  one_whole = ap (λ (f : Option File). whole_bytes (bytes_in_file f)) (files catalog_file (catalog_no_tree slot))

  one_catalog : catalog_in new ≡ catalog_in old
  one_catalog = ap (λ (f : Option File). catalog_of (bytes_in_file f)) (files catalog_file (catalog_no_tree slot))

  pub one_size : size_in new catalog_file ≡ size_in old catalog_file
  one_size = ap (option_map (λ (f : File). length f.bytes)) (files catalog_file (catalog_no_tree slot))

  pub one_slots : (k : ℕ) → slot_bytes new k ≡ slot_bytes old k
  one_slots k = ap (λ (xs : List ℕ). slice_range xs (176 * k) (176 * k + 176)) one_whole

  pub one_relations : (k : ℕ) → relation_seen new k ≡ relation_seen old k
  one_relations k = ap (λ (xs : List ℕ). relation_at xs k) one_whole

  pub one_index : (i : ℕ) → index_seen new i ≡ index_seen old i
  one_index i = ap (λ (xs : List ℕ). index_at xs i) one_whole

  pub one_rows : (k : ℕ) → bytes_by_name (rows_file k) new ≡ bytes_by_name (rows_file k) old
  one_rows k = ap (option_map (λ (f : File). f.bytes)) (files (rows_file k) (rows_no_tree k slot))

  pub one_tree : (i : ℕ) → i ≢ slot → tree_seen new i ≡ tree_seen old i
  one_tree i differs =
      ap (λ (x : Option Index). (x, bytes_by_name (tree_file i) new)) (one_index i)
      ∙ ap (λ (y : Option (List ℕ)). (index_seen old i, y)) (ap (option_map (λ (f : File). f.bytes)) (files (tree_file i) (λ e. differs (same_tree_slot i slot e))))

  one_have : HaveSameRows old new
  one_have = record {
    version = ap (λ (slots : Slots). slots.version) one_catalog;
    relations = ap (λ (slots : Slots). slots.relations) one_catalog;
    rows = λ k. ap bytes_in_file (files (rows_file k) (rows_no_tree k slot));
  }

  one_back : HaveSameRows new old
  one_back = record { version = sym one_have.version; relations = sym one_have.relations; rows = λ k. sym (one_have.rows k) }

  -- with the bytes that it had the index is as complete as it was
  module _ (same : bytes_by_name (tree_file slot) new ≡ bytes_by_name (tree_file slot) old) where
    bytes_same : bytes_named (tree_file slot) new ≡ bytes_named (tree_file slot) old
    bytes_same = seen_bytes (file_named (tree_file slot) new) (file_named (tree_file slot) old) same

    index_as : get_or (catalog_in new).indexes slot None ≡ get_or (catalog_in old).indexes slot None
    index_as = ap (λ (slots : Slots). get_or slots.indexes slot None) one_catalog

    pub complete_as : HasCompleteIndex old slot → HasCompleteIndex new slot
    complete_as c = record { keeps = index_keeps old new one_have slot index_as bytes_same c.keeps }

    pub complete_back : HasCompleteIndex new slot → HasCompleteIndex old slot
    complete_back c = record { keeps = index_keeps new old one_back slot (sym index_as) (sym bytes_same) c.keeps }

    pub one_all : (i : ℕ) → tree_seen new i ≡ tree_seen old i
    one_all i = ⊎_elim
        (λ (here : i ≡ slot). subst (λ (j : ℕ). tree_seen new j ≡ tree_seen old j) (sym here)
        (ap (λ (x : Option Index). (x, bytes_by_name (tree_file slot) new)) (one_index slot) ∙ ap (λ (y : Option (List ℕ)). (index_seen old slot, y)) same))
        (λ (differs : i ≢ slot). one_tree i differs)
        (cases_eq i slot)

-- ---- a tree that waits, and one that is built

module _ (old new : State) (slot : ℕ) (below : slot < 8) (spares : SparesButTree old new (tree_file slot)) (others : SparesOtherIndexes old.files new.files slot) where
  abbrev files_same : (n : List ℕ) → n ≢ tree_file slot → file_named n new.files ≡ file_named n old.files
  files_same n differs = spares.spares.files n differs

  -- it has the same bytes
  pub waits_reports : bytes_by_name (tree_file slot) new.files ≡ bytes_by_name (tree_file slot) old.files → (n : ℕ) (before after : List AnyMended) → after ≡ before → ReportsTrees n old new before after
  waits_reports same n before after lines =
      reports_trees_quiet n old new before after
      (record {
        relations = λ k inside. one_relations old.files new.files slot files_same k;
        catalog = one_size old.files new.files slot files_same;
        slots = λ k inside. one_slots old.files new.files slot files_same k;
        rows = λ k inside. one_rows old.files new.files slot files_same k;
        indexes = λ i inside. inl (one_index old.files new.files slot files_same i);
        trees = λ i inside. inl (one_all old.files new.files slot files_same same i);
        complete = λ i inside whole. ⊎_elim
            (λ (here : i ≡ slot). subst (HasCompleteIndex new.files) (sym here) (complete_as old.files new.files slot files_same same (subst (HasCompleteIndex old.files) here whole)))
            (λ (differs : i ≢ slot). others.complete i differs whole)
            (cases_eq i slot);
      })
      (nothing_changed old.files new.files (one_size old.files new.files slot files_same) (λ k inside. one_slots old.files new.files slot files_same k)
      (λ k inside. one_rows old.files new.files slot files_same k) (λ i inside. one_all old.files new.files slot files_same same i))
      lines

  -- it has become complete
  module _ (wrong : HasCompleteIndex old.files slot → ⊥) (right : HasCompleteIndex new.files slot) where
    built_once : TreesChangeOnce old.files new.files
    built_once = record {
      relations = λ k inside. one_relations old.files new.files slot files_same k;
      catalog = one_size old.files new.files slot files_same;
      slots = λ k inside. one_slots old.files new.files slot files_same k;
      rows = λ k inside. one_rows old.files new.files slot files_same k;
      indexes = λ i inside. inl (one_index old.files new.files slot files_same i);
      trees = λ i inside. ⊎_elim
          (λ (here : i ≡ slot). inr (subst (λ (j : ℕ). (HasCompleteIndex old.files j → ⊥) × HasCompleteIndex new.files j) (sym here) (wrong, right)))
          (λ (differs : i ≢ slot). inl (one_tree old.files new.files slot files_same i differs))
          (cases_eq i slot);
      complete = λ i inside whole. ⊎_elim
          (λ (here : i ≡ slot). subst (HasCompleteIndex new.files) (sym here) right)
          (λ (differs : i ≢ slot). others.complete i differs whole)
          (cases_eq i slot);
    }

    pub built_reports : (index : Index) → index_seen old.files slot ≡ Some index → index.kind ≡ MaxHeap → (name attribute : List ℕ) → IsOn old.files index name attribute
        → (before after : List AnyMended) → after ≡ with_line before (Tree name attribute) → ReportsTrees 1 old new before after
    built_reports index stands kind name attribute on before after added =
        reports_trees_line old new before after (Tree name attribute) built_once
        (record {
          i = slot;
          index = index;
          on = record { below = below; stands = stands; on = on };
          kind = kind;
          stays = one_index old.files new.files slot files_same slot ∙ stands;
          changed = λ same. wrong (complete_back old.files new.files slot files_same same right);
        })
        (λ line d. ⊎_elim
        (λ (stray : line ≡ Stray slot).
        let g = subst (IsDone old.files new.files) stray d in
        let never : false ≡ true = sym g.treeless ∙ ap is_tree stands ∙ kind_tree index kind in absurd (cc))
        (λ rest. ⊎_elim
        (λ (tree : (n a : List ℕ) × (t : IsTreeChanged old.files new.files n a) × (t.i ≡ slot) × (line ≡ Tree n a)).
        let t = tree.2 in
        tree.4 ∙ tree_names old.files index t.index (some_same index t.index (sym stands ∙ ap (index_seen old.files) (sym tree.3) ∙ t.on.stands)) name attribute tree.0 tree.1 on t.on.on)
        (λ (gone : (n a : List ℕ) × (g : IsIndexGone old.files new.files n a) × (g.i ≡ slot) × (line ≡ OneIndex n a)).
        let g = gone.2 in
        let never : Some g.index ≡ None = sym g.on.stands ∙ sym (one_index old.files new.files slot files_same g.i) ∙ g.gone in absurd (cc))
        rest)
        (tree_line old.files new.files slot (one_size old.files new.files slot files_same) (λ k inside here. one_slots old.files new.files slot files_same k)
        (λ k inside here. one_rows old.files new.files slot files_same k) (λ i inside differs. one_tree old.files new.files slot files_same i differs) line d))
        added
      where
        tree_names : (files : Table) (i j : Index) → i ≡ j → (n a m b : List ℕ) → IsOn files i n a → IsOn files j m b → Tree m b ≡ Tree n a
        tree_names files i j same n a m b p q =
            let schema : p.schema ≡ q.schema = some_same p.schema q.schema (sym p.stands ∙ ap (λ (x : Index). relation_seen files x.relation) same ∙ q.stands) in
            let place : p.place ≡ q.place =
            some_same p.place q.place (sym p.placed ∙ ap (λ (x : Index). slice_get p.schema.attributes x.attribute) same ∙ ap (λ (s : Schema). slice_get s.attributes j.attribute) schema ∙ q.placed) in
            let first : n ≡ m = sym p.named ∙ ap (λ (s : Schema). s.name) schema ∙ q.named in
            let second : a ≡ b = sym p.called ∙ ap (λ (x : Attribute). x.name) place ∙ q.called in
            ap (λ (x : List ℕ). Tree x b) (sym first) ∙ ap (λ (y : List ℕ). Tree n y) (sym second)

-- ---- a tree that is lost, and whose index is taken back

module _ (old mid new : State) (slot : ℕ) (below : slot < 8) (spares : SparesButTree old mid (tree_file slot)) (gone : bytes_by_name (tree_file slot) mid.files ≡ None)
    (catalog : SparesButOne mid new catalog_file) (slots : SparesSlots mid.files new.files slot) (none : index_seen new.files slot ≡ None)
    (others : SparesOtherIndexes old.files new.files slot) (wrong : HasCompleteIndex old.files slot → ⊥) (right : HasCompleteIndex new.files slot) (tree : is_tree (index_seen old.files slot) ≡ true) where
  abbrev lost_files : (n : List ℕ) → n ≢ tree_file slot → file_named n mid.files ≡ file_named n old.files
  lost_files n differs = spares.spares.files n differs

  lost_slots : (k : ℕ) → k < 8 → slot_bytes new.files k ≡ slot_bytes old.files k
  lost_slots k inside = slots.slots k inside ∙ one_slots old.files mid.files slot lost_files k

  mid_rows : (k : ℕ) → bytes_by_name (rows_file k) new.files ≡ bytes_by_name (rows_file k) mid.files
  mid_rows k = ap (option_map (λ (f : File). f.bytes)) (catalog.files (rows_file k) (λ e. catalog_no_rows k (sym e)))

  lost_rows : (k : ℕ) → bytes_by_name (rows_file k) new.files ≡ bytes_by_name (rows_file k) old.files
  lost_rows k = mid_rows k ∙ one_rows old.files mid.files slot lost_files k

  mid_tree : (i : ℕ) → bytes_by_name (tree_file i) new.files ≡ bytes_by_name (tree_file i) mid.files
  mid_tree i = ap (option_map (λ (f : File). f.bytes)) (catalog.files (tree_file i) (λ e. catalog_no_tree i (sym e)))

  mid_trees : (i : ℕ) → i ≢ slot → tree_seen new.files i ≡ tree_seen mid.files i
  mid_trees i differs =
      ap (λ (x : Option Index). (x, bytes_by_name (tree_file i) new.files)) (slots.indexes i differs) ∙ ap (λ (y : Option (List ℕ)). (index_seen mid.files i, y)) (mid_tree i)

  lost_trees : (i : ℕ) → i ≢ slot → tree_seen new.files i ≡ tree_seen old.files i
  lost_trees i differs = mid_trees i differs ∙ one_tree old.files mid.files slot lost_files i differs

  lost_size : size_in new.files catalog_file ≡ size_in old.files catalog_file
  lost_size = slots.size ∙ one_size old.files mid.files slot lost_files

  lost_once : TreesChangeOnce old.files new.files
  lost_once = record {
    relations = λ k inside. ap relation_slot_of (lost_slots k inside);
    catalog = lost_size;
    slots = lost_slots;
    rows = λ k inside. lost_rows k;
    indexes = λ i inside. ⊎_elim
        (λ (here : i ≡ slot). inr (ap (index_seen new.files) here ∙ none))
        (λ (differs : i ≢ slot). inl (slots.indexes i differs ∙ one_index old.files mid.files slot lost_files i))
        (cases_eq i slot);
    trees = λ i inside. ⊎_elim
        (λ (here : i ≡ slot). inr (subst (λ (j : ℕ). (HasCompleteIndex old.files j → ⊥) × HasCompleteIndex new.files j) (sym here) (wrong, right)))
        (λ (differs : i ≢ slot). inl (lost_trees i differs))
        (cases_eq i slot);
    complete = λ i inside whole. ⊎_elim
        (λ (here : i ≡ slot). subst (HasCompleteIndex new.files) (sym here) right)
        (λ (differs : i ≢ slot). others.complete i differs whole)
        (cases_eq i slot);
  }

  relations_mid : (k : ℕ) → k < 8 → relation_seen mid.files k ≡ relation_seen old.files k
  relations_mid k inside = one_relations old.files mid.files slot lost_files k

  -- it is told as by the step that takes it back
  lost_later : (line : AnyMended) → IsDone old.files new.files line → IsDone mid.files new.files line
  lost_later line d = ⊎_elim
      (λ (stray : line ≡ Stray slot).
      let g = subst (IsDone old.files new.files) stray d in
      let never : false ≡ true = sym g.treeless ∙ tree in absurd (cc))
      (λ rest. ⊎_elim
      (λ (t : (n a : List ℕ) × (t : IsTreeChanged old.files new.files n a) × (t.i ≡ slot) × (line ≡ Tree n a)).
      let u = t.2 in
      let never : Some u.index ≡ None = sym u.stays ∙ ap (index_seen new.files) t.3 ∙ none in absurd (cc))
      (λ (t : (n a : List ℕ) × (g : IsIndexGone old.files new.files n a) × (g.i ≡ slot) × (line ≡ OneIndex n a)).
      let g = t.2 in
      subst (IsDone mid.files new.files) (sym t.4)
      (record {
        i = g.i;
        index = g.index;
        on = record { below = g.on.below; stands = one_index old.files mid.files slot lost_files g.i ∙ g.on.stands; on = on_later old.files mid.files relations_mid g.index t.0 t.1 g.on.on };
        gone = g.gone;
      }))
      rest)
      (tree_line old.files new.files slot lost_size (λ k inside here. lost_slots k inside) (λ k inside here. lost_rows k) (λ i inside differs. lost_trees i differs) line d)

  lost_earlier : (line : AnyMended) → IsDone mid.files new.files line → IsDone old.files new.files line
  lost_earlier line d = ⊎_elim
      (λ (stray : line ≡ Stray slot).
      let g = subst (IsDone mid.files new.files) stray d in absurd (g.was gone))
      (λ rest. ⊎_elim
      (λ (t : (n a : List ℕ) × (t : IsTreeChanged mid.files new.files n a) × (t.i ≡ slot) × (line ≡ Tree n a)).
      let u = t.2 in
      let never : Some u.index ≡ None = sym u.stays ∙ ap (index_seen new.files) t.3 ∙ none in absurd (cc))
      (λ (t : (n a : List ℕ) × (g : IsIndexGone mid.files new.files n a) × (g.i ≡ slot) × (line ≡ OneIndex n a)).
      let g = t.2 in
      subst (IsDone old.files new.files) (sym t.4)
      (record {
        i = g.i;
        index = g.index;
        on = record { below = g.on.below; stands = sym (one_index old.files mid.files slot lost_files g.i) ∙ g.on.stands; on = on_earlier old.files mid.files relations_mid g.index t.0 t.1 g.on.on };
        gone = g.gone;
      }))
      rest)
      (tree_line mid.files new.files slot slots.size (λ k inside here. slots.slots k inside) (λ k inside here. mid_rows k) (λ i inside differs. mid_trees i differs) line d)

  pub lost_reports : (before between after : List AnyMended) → between ≡ before → Reports 1 mid new between after → ReportsTrees 1 old new before after
  lost_reports before between after same r = record {
    added = r.added;
    few = r.few;
    behind = λ fits. r.behind (subst (λ (xs : List AnyMended). length xs + 1 ≤ most_lines) (sym same) fits) ∙ ap (λ (xs : List AnyMended). xs ++ r.added) same;
    once = lost_once;
    lines = λ n.
        let l = r.lines (names_later old.files mid.files relations_mid (λ i inside. inl (one_index old.files mid.files slot lost_files i)) n) in
        record {
          done = λ line there. lost_earlier line (l.done line there);
          told = λ line d. l.told line (lost_later line d);
          apart = l.apart;
        };
  }

-- ---- what a catalog in memory says of an index that has a tree

pub not_complete : (files : Table) (slot : ℕ) (zs : List ℤ) → AreKeysIn files slot zs → IsOtherTree files (tree_file slot) zs → HasCompleteIndex files slot → ⊥
not_complete files slot zs k no_tree c =
    let whole : IsIndexComplete k.index.kind (bytes_named (tree_file slot) files) (keys_stored files k.index) = c.keeps k.index k.stands in
    let tree : IsTreeOf (bytes_named (tree_file slot) files) (keys_stored files k.index) = subst (λ (kind : IndexKind). IsIndexComplete kind (bytes_named (tree_file slot) files) (keys_stored files k.index)) k.kind whole in
    no_tree (subst (IsTreeOf (bytes_named (tree_file slot) files)) (sym k.same) tree)

-- a slot that is read as an index is it
pub slot_index : (files : Table) (slot : ℕ) (index : Index) → slot < 8 → IsSoundButTrees files → get_or (catalog_in files).indexes slot None ≡ Some index → index_seen files slot ≡ Some index
slot_index files slot index below s is = sym (index_formed files slot below (unbroken files s.catalog).inner) ∙ is

-- the names that a report takes from it are those of the index
pub told_names : (files : Table) (catalog : Loaded) (slot : ℕ) (index : Index) → IsSoundButTrees files → HasSlot files catalog slot → get_or (catalog_in files).indexes slot None ≡ Some index
    → (name attribute : List ℕ) → IsOn files index name attribute → (before after : List AnyMended)
    → ((entry : IndexEntry) (schema : Schema) (place : Attribute) → get_or catalog.indexes slot None ≡ Some entry → get_or catalog.relations entry.relation None ≡ Some schema → slice_get schema.attributes entry.attribute ≡ Some place
    → after ≡ with_line before (Tree schema.name place.name))
    → after ≡ with_line before (Tree name attribute)
told_names files catalog slot index s h is name attribute on before after line = by_entry (get_or catalog.indexes slot None) refl
  where
    by_entry : (o : Option IndexEntry) → get_or catalog.indexes slot None ≡ o → after ≡ with_line before (Tree name attribute)
    by_entry None e =
        let never : Some index ≡ None = sym is ∙ sym h.index ∙ seen_at index_in catalog.indexes slot ∙ ap (option_map index_in) e in absurd (cc)
    by_entry (Some entry) e =
        let same : index_in entry ≡ index = some_same (index_in entry) index (sym (sym h.index ∙ seen_at index_in catalog.indexes slot ∙ ap (option_map index_in) e) ∙ is) in
        let relation : entry.relation ≡ index.relation = ap (λ (x : Index). x.relation) same in
        let place : entry.attribute ≡ index.attribute = ap (λ (x : Index). x.attribute) same in
        line entry on.schema on.place e
        (ap (λ (rs : List (Option Schema)). get_or rs entry.relation None) h.relations ∙ ap (λ (k : ℕ). get_or (catalog_in files).relations k None) relation
        ∙ relation_formed files index.relation on.below (unbroken files s.catalog).inner ∙ on.stands)
        (ap (slice_get on.schema.attributes) place ∙ on.placed)
        ∙ ap (λ (n : List ℕ). with_line before (Tree n on.place.name)) on.named
        ∙ ap (λ (n : List ℕ). with_line before (Tree name n)) on.called

-- a tree that was built is told by the names that the catalog in memory has
pub tree_told : (old new : State) (catalog : Loaded) (id slot : ℕ) (zs : List ℤ) → id ≡ slot → slot < 8 → HasSlot old.files catalog slot → IsSoundButTrees old.files
    → (HasSlot old.files catalog id → IsSoundButTrees old.files → AreKeysIn old.files id zs) → SparesButTree old new (tree_file slot) → SparesOtherIndexes old.files new.files slot
    → (HasCompleteIndex old.files slot → ⊥) → HasCompleteIndex new.files slot → (before after : List AnyMended)
    → ((entry : IndexEntry) (schema : Schema) (place : Attribute) → get_or catalog.indexes id None ≡ Some entry → get_or catalog.relations entry.relation None ≡ Some schema → slice_get schema.attributes entry.attribute ≡ Some place
    → after ≡ with_line before (Tree schema.name place.name))
    → ReportsTrees 1 old new before after
tree_told old new catalog id slot zs same below h s read spares others wrong right before after line =
    let k : AreKeysIn old.files slot zs = subst (λ (j : ℕ). AreKeysIn old.files j zs) same (read (subst (HasSlot old.files catalog) (sym same) h) s) in
    let stands : index_seen old.files slot ≡ Some k.index = slot_index old.files slot k.index below s k.stands in
    let names = unbroken_names old.files slot below (unbroken old.files s.catalog).inner in
    let n = names.names k.index stands k.kind in
    built_reports old new slot below spares others wrong right k.index stands k.kind n.0 n.1 n.2 before after
    (told_names old.files catalog slot k.index s h k.stands n.0 n.1 n.2 before after
    (λ entry schema place here there put. line entry schema place (ap (λ (j : ℕ). get_or catalog.indexes j None) same ∙ here) there put))

-- and one that waits is not complete
pub tree_waits : (old new : State) (catalog : Loaded) (id slot : ℕ) (zs : List ℤ) → id ≡ slot → HasSlot old.files catalog slot → IsSoundButTrees old.files
    → (HasSlot old.files catalog id → IsSoundButTrees old.files → AreKeysIn old.files id zs) → IsOtherTree old.files (tree_file id) zs → HasCompleteIndex old.files slot → ⊥
tree_waits old new catalog id slot zs same h s read none c =
    not_complete old.files id zs (read (subst (HasSlot old.files catalog) (sym same) h) s) none (subst (HasCompleteIndex old.files) (sym same) c)

pub still_waits : (old new : State) (slot : ℕ) → SparesButTree old new (tree_file slot) → bytes_by_name (tree_file slot) new.files ≡ bytes_by_name (tree_file slot) old.files → (HasCompleteIndex old.files slot → ⊥) → HasCompleteIndex new.files slot → ⊥
still_waits old new slot spares same wrong c = wrong (complete_back old.files new.files slot (λ n differs. spares.spares.files n differs) same c)

-- a file that is there as before, with its bytes
pub seen_as : (name : List ℕ) (old new : Table) → is_there name new ≡ is_there name old → bytes_named name new ≡ bytes_named name old → bytes_by_name name new ≡ bytes_by_name name old
seen_as name old new there bytes = by_files (file_named name new) (file_named name old) there bytes
  where
    by_files : (o p : Option File) → is_some o ≡ is_some p → bytes_in_file o ≡ bytes_in_file p → option_map (λ (f : File). f.bytes) o ≡ option_map (λ (f : File). f.bytes) p
    by_files None None e f = refl
    by_files (Some a) (Some b) e f = ap (λ (xs : List ℕ). Some xs) f
    by_files None (Some b) e f = cc
    by_files (Some a) None e f = cc

pub seen_none : (o : Option File) → is_some o ≡ false → option_map (λ (f : File). f.bytes) o ≡ None
seen_none None e = refl
seen_none (Some f) e = cc

-- not the tree of a file is not that of its name
pub no_tree_named : (files : Table) (id : ℕ) (name : List ℕ) (zs : List ℤ) → IsNamed files id name → ((k : ℕ) → IsNamed files k name → k ≡ id) → (IsTreeOf (bytes_at files id) zs → ⊥) → IsOtherTree files name zs
no_tree_named files id name zs named only none tree = none (subst (λ (bytes : List ℕ). IsTreeOf bytes zs) (named_bytes files id name named only) tree)

-- an index that has lost its tree had one
pub lost_tree : (old mid : State) (slot : ℕ) → slot < 8 → SparesButTree old mid (tree_file slot) → LacksTree mid.files slot → is_tree (index_seen old.files slot) ≡ true
lost_tree old mid slot below spares lacks =
    ap is_tree (sym (one_index old.files mid.files slot (λ n differs. spares.spares.files n differs) slot)) ∙ ap is_tree (sym (index_formed mid.files slot below lacks.catalog)) ∙ lacks.tree

-- ---- all but trees, and then these

-- a slot without an index that has a tree is complete
right_complete : (files : Table) (i : ℕ) → i < 8 → IsSoundButTrees files → IsRightTree (tree_seen files i) → HasCompleteIndex files i
right_complete files i below s right = record {
  keeps = λ index is. s.treeless i index is (λ kind.
      let never : false ≡ true = sym right.0 ∙ ap is_tree (slot_index files i index below s is) ∙ kind_tree index kind in absurd (cc));
}

module _ (old mid new : Table) (s : IsSoundButTrees mid) (f : ChangesOnce old mid) (g : TreesChangeOnce mid new) where
  turn_once : Once old mid new
  turn_once = record {
    first = f.relations;
    second = g.relations;
    catalog = inr g.catalog;
    slots = λ k below. inr (g.slots k below);
    rows = λ k below. inr (g.rows k below);
    trees = λ i below. ⊎_elim
        (λ (stays : tree_seen new i ≡ tree_seen mid i). inr stays)
        (λ (moved : (HasCompleteIndex mid i → ⊥) × HasCompleteIndex new i). ⊎_elim
        (λ (same : tree_seen mid i ≡ tree_seen old i). inl same)
        (λ (right : (IsRightTree (tree_seen old i) → ⊥) × IsRightTree (tree_seen mid i)). absurd (moved.0 (right_complete mid i below s right.1)))
        (f.trees i below))
        (g.trees i below);
    none = λ k below none. g.rows k below ∙ none;
    kept = f.indexes;
    lone_rows = λ k below unused. inr (g.slots k below);
  }

-- each thing that was done has its line
pub in_turn_reported : (old new : State) (before after : List AnyMended) → HasNamesApart old.files → ReportsInTurn 50 old new before after → before ≡ [] → IsReported old.files new.files after
in_turn_reported old new before after n r none =
    let f = r.first in
    let g = r.trees in
    let few = f.few in
    let empty : length before ≡ 0 = ap (λ (xs : List AnyMended). length xs) none in
    let first : r.between ≡ f.added = f.behind (omega (arith, empty)) ∙ ap (λ (xs : List AnyMended). xs ++ f.added) none in
    let size : length r.between ≡ length f.added = ap (λ (xs : List AnyMended). length xs) first in
    let all : after ≡ f.added ++ g.added = g.behind (omega (arith, size, few)) ∙ ap (λ (xs : List AnyMended). xs ++ g.added) first in
    subst (IsReported old.files new.files) (sym all)
    (reported_then old.files r.mid.files new.files (turn_once old.files r.mid.files new.files r.sound f.once g.once) n f.added g.added
    (f.lines n) (g.lines (names_later old.files r.mid.files f.once.relations f.once.indexes n)))

pub in_turn_then : (n m all : ℕ) (a b c : State) (before mid after : List AnyMended) → Reports n a b before mid → ReportsInTurn m b c mid after → n + m ≤ all → ReportsInTurn all a c before after
in_turn_then n m all a b c before mid after f r room = record {
  mid = r.mid;
  between = r.between;
  sound = r.sound;
  first = reports_then n m all a b r.mid before mid r.between f r.first room;
  trees = r.trees;
}
