-- What files mend to where an index slot was being changed: the database of a session that runs, or that with the slot changed.
use Rattle.std.proofs.Common.{◌≡◌, ◌⊎◌, inl, inr, ℕ, ◌+◌, ◌*◌, ◌%◌, ◌<◌, true, false, List, length, get_or, set, Option, Some, None, ap, sym, ◌∙◌, subst, arith, IsTrue}
use Rattle.std.specs.Prelude.{is_some, option_map}
use Rattle.std.proofs.Math.Logic.{⊎_elim}
use Rattle.std.proofs.lemmas.List.{get_or-set_other, get_or-set_same}
use Rattle.std.proofs.lemmas.List.FromFn.{get_or-map-range_with_len, length-map-range_with_len}
use Rattle.afl_base.specs.Files.{IsNamed, IsUnnamed, State, bytes_at}
use Rattle.catalog.specs.CatalogFile.{HasFrontOfSlot, IsCatalogSize, IsFrontOfCatalog, ReplacesFront}
use Rattle.catalog.specs.Rules.{catalog_bytes_in, is_tree}
use Rattle.catalog.proofs.Named.{named_none}
use Rattle.catalog.proofs.Replaced.{index_changed}
use Rattle.db_model.specs.declared.schemas.IndexKind.{IndexKind}
use Rattle.db_model.specs.declared.schemas.IndexKind.TheVariants.{Inline, MaxHeap, MemHash}
use Rattle.db_model.specs.Between.{AreAlike}
use Rattle.db_model.specs.Catalog.{Catalog, Index, catalog_of, index_at, index_slot_bytes, relation_at, with_index_slot}
use Rattle.db_model.specs.Database.{Database, bare, with_index}
use Rattle.db_model.proofs.Catalogs.{length-index_slot}
use Rattle.index_set.specs.Tables.{Tables}
use Rattle.padded.proofs.Facts.{by_truth, false_true, seen_at}
use Rattle.space_model.specs.FileNames.{catalog_file, is_there, tree_file}
use Rattle.space_model.proofs.NamedFiles.{named_found}
use Rattle.stored.specs.Mended.{mended_base, whole_bytes}
use Rattle.stored.proofs.CatalogParts.{appended_index, overwritten_index}
use Rattle.stored.proofs.MendedBase.{alike_then, whole_sized}
use Rattle.stored.proofs.MendedTables.{KeepsRowsOf, KeepsTreeOf, ReadsIndex, ReadsSame, mended_index_waits}
use Rattle.tuple_file.specs.declared.tuples.Tuples.{Tuples}
use Rattle.session_model.specs.declared.held.Held.{Held}
use Rattle.session_model.specs.declared.held.Open.{Open}
use Rattle.session_model.specs.Carried.{IsEither}
use Rattle.session_model.specs.Frames.{HasBytes, LeavesOthers}
use Rattle.session_model.specs.Indexed.{index_known}
use Rattle.session_model.specs.Running.{HasCatalogFile, IsRunning}
use Rattle.session_model.specs.View.{view}
use Rattle.session_model.proofs.Catalogs.{catalog_there}
use Rattle.session_model.proofs.CutCatalogs.{catalog_is, index_alike, leaves_spares, rows_kept, slots_alike, tree_kept}
use Rattle.session_model.proofs.ReadAs.{running_alike}
use Rattle.session_model.proofs.Running.{catalog_no_rows, catalog_no_tree, row_no_tree, trees_apart}
use Rattle.session_indexes.specs.declared.sites.Site.{Site}
use Rattle.session_indexes.specs.Made.{IsReadyFor, index_for}
use Rattle.session_indexes.specs.Parts.{MayMake, MayPut, MayTakeIndexSlot}

-- ---- a slot that was put

module _ (old : List ℕ) (slot : ℕ) (o : Option Index) (size : IsCatalogSize (length old)) (long : length (with_index_slot old slot o) ≡ 1480) (below : slot < 8) where
  each_index : (bytes : List ℕ) (i : ℕ) → i < 8 → get_or (catalog_of bytes).indexes i None ≡ index_at bytes i
  each_index bytes i inside = get_or-map-range_with_len (index_at bytes) 0 8 i i None inside (omega arith)

  each_relation : (bytes : List ℕ) (k : ℕ) → k < 8 → get_or (catalog_of bytes).relations k None ≡ relation_at bytes k
  each_relation bytes k inside = get_or-map-range_with_len (relation_at bytes) 0 8 k k None inside (omega arith)

  changed : (catalog_of (with_index_slot old slot o)).indexes ≡ set (catalog_of old).indexes slot o
  changed = ap (λ (c : Catalog). c.indexes) (index_changed old slot o size below)

  now_is : whole_bytes (with_index_slot old slot o) ≡ with_index_slot old slot o
  now_is = whole_sized (with_index_slot old slot o) (inr (inr long))

  old_is : whole_bytes old ≡ old
  old_is = whole_sized old size

  pub reads_put : ReadsIndex old (with_index_slot old slot o) slot o
  reads_put =
      let now : List ℕ = with_index_slot old slot o in
      let eight : length (catalog_of old).indexes ≡ 8 = length-map-range_with_len (index_at old) 0 8 in
      record {
        here = ap (λ (bytes : List ℕ). index_at bytes slot) now_is ∙ sym (each_index now slot below) ∙ ap (λ (xs : List (Option Index)). get_or xs slot None) changed
            ∙ get_or-set_same (catalog_of old).indexes slot o None (omega (arith, eight, below));
        relations = λ k inside. ap (λ (bytes : List ℕ). relation_at bytes k) now_is ∙ sym (each_relation now k inside)
            ∙ ap (λ (c : Catalog). get_or c.relations k None) (index_changed old slot o size below) ∙ each_relation old k inside
            ∙ ap (λ (bytes : List ℕ). relation_at bytes k) (sym old_is);
        indexes = λ i inside differs. ap (λ (bytes : List ℕ). index_at bytes i) now_is ∙ sym (each_index now i inside) ∙ ap (λ (xs : List (Option Index)). get_or xs i None) changed
            ∙ get_or-set_other (catalog_of old).indexes slot i o None differs ∙ each_index old i inside
            ∙ ap (λ (bytes : List ℕ). index_at bytes i) (sym old_is);
      }

-- ---- a slot that was being put

part_read : (old now : List ℕ) (slot : ℕ) (o : Option Index) → IsCatalogSize (length old) → slot < 8 → ReplacesFront old (1408 + 8 * slot) (index_slot_bytes o) now → ReadsSame old now ⊎ ReadsIndex old now slot o
part_read old now slot o size below p = ⊎_elim
    (λ (f : IsFrontOfCatalog old (1408 + 8 * slot) (index_slot_bytes o) now).
    subst (λ (bytes : List ℕ). ReadsSame old bytes ⊎ ReadsIndex old bytes slot o) (sym f.is) (appended_index old slot f.done o size f.first below))
    (λ (f : HasFrontOfSlot old (1408 + 8 * slot) (index_slot_bytes o) now).
    let n : length (index_slot_bytes o) ≡ 8 = length-index_slot o in
    let part = subst (λ (m : ℕ). (f.done ≡ 0) ⊎ ((f.done ≡ m) ⊎ ((1408 + 8 * slot + f.done) % 128 ≡ 0))) n f.whole in
    subst (λ (bytes : List ℕ). ReadsSame old bytes ⊎ ReadsIndex old bytes slot o) (sym f.is) (overwritten_index old slot f.done o f.some below (omega (arith, f.within, n)) part))
    p

-- ---- what the files of a session mend to

module _ (s0 : State) (tables : Tables) (held : Held) (opens : List (Option Open)) (r : IsRunning s0 tables held opens) (told : IsTrue s0.tells) (cat : ℕ) (has : held.cat ≡ Some cat)
    (slot : ℕ) (o : Option Index) (below : slot < 8) (after : State) where
  catalog : HasCatalogFile s0.files (Some cat)
  catalog = catalog_there s0 tables held opens cat r has

  -- the catalog was being changed
  module _ (p : MayPut s0 after cat slot o) where
    leaves : LeavesOthers s0 after catalog_file
    leaves = leaves_spares s0 after cat catalog_file catalog.0 p.0

    named : IsNamed after.files cat catalog_file
    named = p.0.named cat ∙ catalog.0

    rows_here : (k : ℕ) → k < 8 → KeepsRowsOf s0.files after.files k
    rows_here k inside = λ used. rows_kept s0 after tables held opens r catalog_file leaves k inside (λ e. catalog_no_rows k (sym e))

    trees_here : (i : ℕ) → i < 8 → KeepsTreeOf s0.files after.files i
    trees_here i inside = λ used. tree_kept s0 after tables held opens r catalog_file leaves i inside (λ e. catalog_no_tree i (sym e))

    -- an index whose tree is not there yet is none
    waits : ReadsIndex (bytes_at s0.files cat) (bytes_at after.files cat) slot o → IsUnnamed s0.files (tree_file slot) → get_or held.indexes slot None ≡ None → is_tree o ≡ true
        → AreAlike (mended_base after.files) (bare (view s0.files held opens))
    waits s missing none tree =
        let seen : AreAlike (mended_base s0.files) (bare (view s0.files held opens)) = running_alike s0 tables held opens r told in
        let was : catalog_bytes_in s0.files ≡ bytes_at s0.files cat = catalog_is s0.files cat r.distinct catalog.0 in
        let now : catalog_bytes_in after.files ≡ bytes_at after.files cat = catalog_is after.files cat (leaves.distinct r.distinct) named in
        let read : ReadsIndex (catalog_bytes_in s0.files) (catalog_bytes_in after.files) slot o =
        subst (λ (b : List ℕ). ReadsIndex b (catalog_bytes_in after.files) slot o) (sym was) (subst (λ (b : List ℕ). ReadsIndex (bytes_at s0.files cat) b slot o) (sym now) s) in
        let empty : get_or (mended_base s0.files).indexes slot None ≡ None =
        ap (λ (d : Database). get_or d.indexes slot None) seen ∙ seen_at index_known held.indexes slot ∙ ap (option_map index_known) none in
        let gone : is_there (tree_file slot) after.files ≡ false =
        ap is_some (named_none after.files (tree_file slot) (leaves.unnamed (tree_file slot) (λ e. catalog_no_tree slot (sym e)) (λ e. catalog_no_tree slot (sym e)) missing)) in
        alike_then (mended_base after.files) (mended_base s0.files) (bare (view s0.files held opens))
        (mended_index_waits s0.files after.files slot o below read rows_here (λ i inside differs. trees_here i inside) empty tree gone) seen

    put_between : (is_tree o ≡ true → IsUnnamed s0.files (tree_file slot) × (get_or held.indexes slot None ≡ None))
        → IsEither (view s0.files held opens) (with_index (view s0.files held opens) slot o) (mended_base after.files)
    put_between missing = ⊎_elim
        (λ (s : ReadsSame (bytes_at s0.files cat) (bytes_at after.files cat)). inl (slots_alike s0 after tables held opens r told cat has catalog_file leaves named s rows_here trees_here))
        (λ (s : ReadsIndex (bytes_at s0.files cat) (bytes_at after.files cat) slot o). by_truth (is_tree o)
        (λ (tree : is_tree o ≡ true). let m = missing tree in inl (waits s m.0 m.1 tree))
        (λ (none : is_tree o ≡ false).
        inr (index_alike s0 after tables held opens r told cat has catalog_file leaves named slot o below s rows_here (λ i inside differs. trees_here i inside) (λ tree. absurd (false_true (is_tree o) none tree)))))
        (part_read (bytes_at s0.files cat) (bytes_at after.files cat) slot o catalog.1 below p.1)

  -- the slot was put, and the file of its tree came or went
  module _ (l : LeavesOthers s0 after (tree_file slot)) (u : HasBytes s0 after cat (with_index_slot (bytes_at s0.files cat) slot o)) where
    whole_read : ReadsIndex (bytes_at s0.files cat) (bytes_at after.files cat) slot o
    whole_read =
        let long : length (with_index_slot (bytes_at s0.files cat) slot o) ≡ 1480 = ap length (sym (u.bytes told)) ∙ u.size in
        subst (λ (b : List ℕ). ReadsIndex (bytes_at s0.files cat) b slot o) (sym (u.bytes told)) (reads_put (bytes_at s0.files cat) slot o catalog.1 long below)

    whole_between : (is_tree o ≡ true → is_there (tree_file slot) after.files ≡ true) → AreAlike (mended_base after.files) (bare (with_index (view s0.files held opens) slot o))
    whole_between there =
        index_alike s0 after tables held opens r told cat has (tree_file slot) l u.named slot o below whole_read
        (λ k inside used. rows_kept s0 after tables held opens r (tree_file slot) l k inside (row_no_tree k slot))
        (λ i inside differs used. tree_kept s0 after tables held opens r (tree_file slot) l i inside (trees_apart i slot differs))
        there

-- ---- an index that was being made, or taken away

module _ (s0 : State) (tables : Tables) (held : Held) (opens : List (Option Open)) (r : IsRunning s0 tables held opens) (told : IsTrue s0.tells) (cat : ℕ) (has : held.cat ≡ Some cat) (after : State) where
  pub make_between : (t : Tuples) (site : Site) (kind : IndexKind) → IsReadyFor s0 cat t site → get_or held.indexes site.slot None ≡ None → MayMake s0 after cat t site kind
      → IsEither (view s0.files held opens) (with_index (view s0.files held opens) site.slot (Some (index_for site kind))) (mended_base after.files)
  make_between t site Inline ready none p = put_between s0 tables held opens r told cat has site.slot (Some (index_for site Inline)) ready.slot after p (λ tree. absurd (cc))
  make_between t site MaxHeap ready none (inl p) = put_between s0 tables held opens r told cat has site.slot (Some (index_for site MaxHeap)) ready.slot after p (λ tree. (ready.unnamed, none))
  make_between t site MaxHeap ready none (inr (file, p)) =
      inr (whole_between s0 tables held opens r told cat has site.slot (Some (index_for site MaxHeap)) ready.slot after p.leaves p.bytes
      (λ tree. ap is_some (named_found after.files file (tree_file site.slot) (p.leaves.distinct r.distinct) p.named)))
  make_between t site MemHash ready none p = put_between s0 tables held opens r told cat has site.slot (Some (index_for site MemHash)) ready.slot after p (λ tree. absurd (cc))

  pub take_between : (slot : ℕ) → slot < 8 → MayTakeIndexSlot s0 after cat slot
      → IsEither (view s0.files held opens) (with_index (view s0.files held opens) slot None) (mended_base after.files)
  take_between slot below (inl p) = put_between s0 tables held opens r told cat has slot None below after p (λ tree. absurd (cc))
  take_between slot below (inr k) = inr (whole_between s0 tables held opens r told cat has slot None below after k.leaves k.bytes (λ tree. absurd (cc)))
