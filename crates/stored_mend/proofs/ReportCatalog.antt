-- Steps that change the file of the catalog, and the lines that tell them.
use Rattle.std.proofs.Common.{◌≡◌, ◌≢◌, ◌⊎◌, inl, inr, ⊎_elim, ℕ, ◌+◌, ◌-◌, ◌*◌, ◌<◌, ◌≤◌, true, false, List, [], ◌++◌, length, replicate, Option, Some, None, IsTrue, refl, ap, sym, subst, ◌∙◌, arith, length-append}
use Rattle.std.specs.Prelude.{◌==◌, if◌then◌else◌, option_map, slice_get, slice_index, slice_range}
use Rattle.std.proofs.lemmas.Bool.{cases_eq}
use Rattle.std.proofs.lemmas.List.{length-replicate}
use Rattle.afl_base.specs.Fields.{put_at}
use Rattle.afl_base.specs.Files.{Appends, Becomes, File, IsNamed, IsUnnamed, Overwrites, Removes, State, Table, bytes_at, size_at}
use Rattle.afl_base.proofs.FileLaws.{named_live, names_stay, place_live}
use Rattle.catalog.specs.Rules.{is_tree}
use Rattle.catalog.proofs.Named.{named_found, named_none}
use Rattle.catalog.proofs.PutRanges.{here_put}
use Rattle.db_model.specs.declared.schemas.Attribute.{Attribute}
use Rattle.db_model.specs.declared.schemas.IndexKind.TheVariants.{MaxHeap}
use Rattle.db_model.specs.declared.schemas.Schema.{Schema}
use Rattle.db_model.specs.Catalog.{Index, index_at, index_slot_bytes, index_slot_of, kind_from, relation_at, relation_slot_bytes, relation_slot_of}
use Rattle.padded.proofs.Facts.{slice_of_front}
use Rattle.padded.specs.Zeros.{is_zeros}
use Rattle.space_model.specs.FileNames.{catalog_file, rows_file, size_in, tree_file}
use Rattle.stored.specs.CutTables.{slot_bytes}
use Rattle.stored.specs.Mended.{whole_bytes, whole_catalog}
use Rattle.stored.proofs.MendedBase.{whole_long}
use Rattle.stored_mend.specs.Mending.{IsStrangeSlot, IsWholeCatalog}
use Rattle.stored_mend.specs.Reported.{ChangesOnce, HasNames, IsCatalogGone, IsCatalogLonger, IsDone, IsIndexGone, IsOn, IsRightSlot, IsRightTree, IsSlotOf, IsTreeChanged, Reports, SparesSlots, bytes_by_name, index_seen, relation_seen, tree_seen, with_line}
use Rattle.stored_mend.specs.declared.report.Mended.{Mended as AnyMended}
use Rattle.stored_mend.specs.declared.report.Mended.TheVariants.{Catalog, Mark, Relation, Attribute as OneAttribute, Tree, Index as OneIndex, Stray}
use Rattle.stored_mend.proofs.CatalogKept.{after, catalog_none, catalog_short, whole_found}
use Rattle.stored_mend.proofs.IndexBlank.{blanked, blanked_here, blanked_other, blanked_size, blanked_slot}
use Rattle.stored_mend.proofs.ListedSlots.{range_range}
use Rattle.stored_mend.proofs.OneFile.{ChangesFile, becomes_changes, catalog_no_rows, catalog_no_tree, removed_changes}
use Rattle.stored_mend.proofs.PutOver.{length-range, are_zeros}
use Rattle.stored_mend.proofs.Replaced.{name_of}
use Rattle.stored_mend.proofs.ReportOnce.{reports_quiet}
use Rattle.stored_mend.proofs.ReportSteps.{catalog_line, kind_tree, reports_line, seen_same, slot_line, tree_line}
use Rattle.stored_mend.proofs.SlotEdits.{DifferIn, differ_put, range_put}

-- ---- the catalog's file is removed

not_marked : (size n : ℕ) → size < 1472 → Some size ≡ Some n → n ≡ 1480 → ⊥
not_marked size n short e marked =
    let same : size ≡ n = cc in
    omega (arith, same, short, marked)

module _ (old new : State) (cat : ℕ) (named : IsNamed old.files cat catalog_file) (only : (k : ℕ) → IsNamed old.files k catalog_file → k ≡ cat)
    (some : 0 < size_at old.files cat) (short : size_at old.files cat < 1472) (r : Removes old new cat) where
  gone_changes : ChangesFile old.files new.files catalog_file
  gone_changes = removed_changes old new cat catalog_file r named

  gone_unnamed : IsUnnamed new.files catalog_file
  gone_unnamed = subst (IsUnnamed new.files) (name_of old.files cat catalog_file named) r.unnamed

  gone_whole : whole_catalog new.files ≡ whole_catalog old.files
  gone_whole = catalog_none new.files gone_unnamed ∙ sym (catalog_short old.files cat named only short)

  gone_before : size_in old.files catalog_file ≡ Some (size_at old.files cat)
  gone_before = ap (option_map (λ (f : File). length f.bytes)) (named_found old.files cat catalog_file named only ∙ place_live old.files cat (named_live old.files cat catalog_file named))

  gone_after : size_in new.files catalog_file ≡ None
  gone_after = ap (option_map (λ (f : File). length f.bytes)) (named_none new.files catalog_file gone_unnamed)

  gone_trees : (i : ℕ) → tree_seen new.files i ≡ tree_seen old.files i
  gone_trees i =
      ap (λ (xs : List ℕ). (index_at xs i, bytes_by_name (tree_file i) new.files)) gone_whole
      ∙ ap (λ (y : Option (List ℕ)). (index_seen old.files i, y)) (seen_same old.files new.files catalog_file gone_changes (tree_file i) (λ e. catalog_no_tree i (sym e)))

  gone_rows : (k : ℕ) → bytes_by_name (rows_file k) new.files ≡ bytes_by_name (rows_file k) old.files
  gone_rows k = seen_same old.files new.files catalog_file gone_changes (rows_file k) (λ e. catalog_no_rows k (sym e))

  gone_slots : (k : ℕ) → slot_bytes new.files k ≡ slot_bytes old.files k
  gone_slots k = ap (λ (xs : List ℕ). slice_range xs (176 * k) (176 * k + 176)) gone_whole

  gone_once : ChangesOnce old.files new.files
  gone_once = record {
    relations = λ k below. ap (λ (xs : List ℕ). relation_at xs k) gone_whole;
    catalog = inr (
      (λ right. ⊎_elim
          (λ (none : size_in old.files catalog_file ≡ None). let never : Some (size_at old.files cat) ≡ None = sym gone_before ∙ none in absurd (cc))
          (λ (marked : size_in old.files catalog_file ≡ Some 1480). not_marked (size_at old.files cat) 1480 short (sym gone_before ∙ marked) refl)
          right),
      inl gone_after,
    );
    slots = λ k below. inl (gone_slots k);
    rows = λ k below. inl (gone_rows k);
    lone_rows = λ k below none. inl (gone_rows k);
    indexes = λ i below. inl (ap (λ (xs : List ℕ). index_at xs i) gone_whole);
    trees = λ i below. inl (gone_trees i);
  }

  pub gone_reports : (before after : List AnyMended) → after ≡ with_line before Catalog → Reports 1 old new before after
  gone_reports before after is =
      reports_line old new before after Catalog gone_once (record { size = size_at old.files cat; was = gone_before; some = some; short = short; gone = gone_after })
      (λ line d. ⊎_elim
      (λ (here : (line ≡ Catalog) × IsCatalogGone (size_in old.files catalog_file) (size_in new.files catalog_file)). here.0)
      (λ (longer : (line ≡ Mark) × IsCatalogLonger (size_in old.files catalog_file) (size_in new.files catalog_file)).
      let m = longer.1 in let never : Some m.after ≡ None = sym m.now ∙ gone_after in absurd (cc))
      (catalog_line old.files new.files (λ k below. gone_slots k) (λ k below. gone_rows k) (λ i below. gone_trees i) line d))
      is

-- ---- it is written

module _ (old new : State) (cat total : ℕ) (bytes : List ℕ) (w : IsWholeCatalog old.files cat) (b : Becomes old new cat total bytes) where
  written_changes : ChangesFile old.files new.files catalog_file
  written_changes = becomes_changes old new cat total bytes catalog_file b w.named

  pub size_before : size_in old.files catalog_file ≡ Some (size_at old.files cat)
  size_before = ap (option_map (λ (f : File). length f.bytes)) (named_found old.files cat catalog_file w.named w.only ∙ place_live old.files cat (named_live old.files cat catalog_file w.named))

  pub size_after : size_in new.files catalog_file ≡ Some total
  size_after =
      let names = names_stay old new cat total bytes (named_live old.files cat catalog_file w.named) b in
      ap (option_map (λ (f : File). length f.bytes)) (named_found new.files cat catalog_file (names cat ∙ w.named) (λ k h. w.only k (sym (names k) ∙ h)) ∙ place_live new.files cat b.live)
      ∙ ap (λ (n : ℕ). Some n) b.size

  pub written_rows : (k : ℕ) → bytes_by_name (rows_file k) new.files ≡ bytes_by_name (rows_file k) old.files
  written_rows k = seen_same old.files new.files catalog_file written_changes (rows_file k) (λ e. catalog_no_rows k (sym e))

  pub written_tree : (i : ℕ) → index_seen new.files i ≡ index_seen old.files i → tree_seen new.files i ≡ tree_seen old.files i
  written_tree i same =
      ap (λ (x : Option Index). (x, bytes_by_name (tree_file i) new.files)) same
      ∙ ap (λ (y : Option (List ℕ)). (index_seen old.files i, y)) (seen_same old.files new.files catalog_file written_changes (tree_file i) (λ e. catalog_no_tree i (sym e)))

-- what is missing of the mark
module _ (old new : State) (cat : ℕ) (more : List ℕ) (told : IsTrue old.tells) (w : IsWholeCatalog old.files cat) (a : Appends old new cat more)
    (some : 0 < length more) (all : size_at old.files cat + length more ≡ 1480) where
  abbrev mark_was : List ℕ
  mark_was = bytes_at old.files cat

  mark_long : 1472 ≤ length mark_was
  mark_long = w.long

  mark_before : whole_catalog old.files ≡ mark_was
  mark_before = whole_found old.files cat w

  mark_read : whole_catalog new.files ≡ whole_bytes (mark_was ++ more)
  mark_read = ap whole_bytes (after old new cat (size_at old.files cat + length more) (mark_was ++ more) w a told)

  mark_whole : whole_catalog new.files ≡ mark_was ++ more
  mark_whole = mark_read ∙ whole_long (mark_was ++ more) (let size = length-append mark_was more in let long = mark_long in omega (arith, size, long))

  mark_slots : (k : ℕ) → k < 8 → slot_bytes new.files k ≡ slot_bytes old.files k
  mark_slots k below =
      let long = mark_long in
      ap (λ (xs : List ℕ). slice_range xs (176 * k) (176 * k + 176)) mark_whole
      ∙ slice_of_front mark_was more (176 * k) (176 * k + 176) (omega arith) (omega (arith, below, long))
      ∙ ap (λ (xs : List ℕ). slice_range xs (176 * k) (176 * k + 176)) (sym mark_before)

  mark_trees : (i : ℕ) → i < 8 → tree_seen new.files i ≡ tree_seen old.files i
  mark_trees i below =
      let long = mark_long in
      written_tree old new cat (size_at old.files cat + length more) (mark_was ++ more) w a i
      (ap (λ (xs : List ℕ). index_at xs i) mark_whole
      ∙ ap index_slot_of (slice_of_front mark_was more (1408 + 8 * i) (1408 + 8 * i + 8) (omega arith) (omega (arith, below, long)))
      ∙ ap (λ (xs : List ℕ). index_at xs i) (sym mark_before))

  mark_now : size_in new.files catalog_file ≡ Some 1480
  mark_now = size_after old new cat (size_at old.files cat + length more) (mark_was ++ more) w a ∙ ap (λ (n : ℕ). Some n) all

  mark_size : size_in old.files catalog_file ≡ Some (size_at old.files cat)
  mark_size = size_before old new cat (size_at old.files cat + length more) (mark_was ++ more) w a

  mark_rows : (k : ℕ) → bytes_by_name (rows_file k) new.files ≡ bytes_by_name (rows_file k) old.files
  mark_rows k = written_rows old new cat (size_at old.files cat + length more) (mark_was ++ more) w a k

  mark_less : size_at old.files cat < 1480
  mark_less = omega (arith, some, all)

  mark_once : ChangesOnce old.files new.files
  mark_once = record {
    relations = λ k below. ap relation_slot_of (mark_slots k below);
    catalog = inr (
      (λ right. ⊎_elim
          (λ (none : size_in old.files catalog_file ≡ None). let never : Some (size_at old.files cat) ≡ None = sym mark_size ∙ none in absurd (cc))
          (λ (marked : size_in old.files catalog_file ≡ Some 1480).
          let both : Some (size_at old.files cat) ≡ Some 1480 = sym mark_size ∙ marked in
          let same : size_at old.files cat ≡ 1480 = cc in
          let less = mark_less in
          absurd (omega (arith, same, less)))
          right),
      inr mark_now,
    );
    slots = λ k below. inl (mark_slots k below);
    rows = λ k below. inl (mark_rows k);
    lone_rows = λ k below none. inl (mark_rows k);
    indexes = λ i below. inl (ap (λ (t : Option Index × Option (List ℕ)). t.0) (mark_trees i below));
    trees = λ i below. inl (mark_trees i below);
  }

  pub mark_reports : (before after : List AnyMended) → after ≡ with_line before Mark → Reports 1 old new before after
  mark_reports before after is =
      reports_line old new before after Mark mark_once (record { before = size_at old.files cat; after = 1480; was = mark_size; now = mark_now; more = mark_less })
      (λ line d. ⊎_elim
      (λ (gone : (line ≡ Catalog) × IsCatalogGone (size_in old.files catalog_file) (size_in new.files catalog_file)).
      let g = gone.1 in let never : Some 1480 ≡ None = sym mark_now ∙ g.gone in absurd (cc))
      (λ (here : (line ≡ Mark) × IsCatalogLonger (size_in old.files catalog_file) (size_in new.files catalog_file)). here.0)
      (catalog_line old.files new.files mark_slots (λ k below. mark_rows k) mark_trees line d))
      is

-- ---- a relation slot

module _ (old new : State) (cat slot at : ℕ) (part : List ℕ) (below : slot < 8) (told : IsTrue old.tells) (w : IsWholeCatalog old.files cat) (o : Overwrites old new cat at part)
    (low : 176 * slot ≤ at) (high : at + length part ≤ 176 * slot + 176) where
  abbrev slot_was : List ℕ
  slot_was = bytes_at old.files cat

  slot_long : 1472 ≤ length slot_was
  slot_long = w.long

  slot_before : whole_catalog old.files ≡ slot_was
  slot_before = whole_found old.files cat w

  slot_differs : DifferIn slot_was (put_at slot_was at part) slot
  slot_differs = differ_put slot_was part at slot slot_long below low high

  pub slot_whole : whole_catalog new.files ≡ put_at slot_was at part
  slot_whole =
      let d = slot_differs in
      let size = d.size in
      let long = slot_long in
      ap whole_bytes (after old new cat (size_at old.files cat) (put_at slot_was at part) w o told) ∙ whole_long (put_at slot_was at part) (omega (arith, size, long))

  pub slot_others : (k : ℕ) → k < 8 → k ≢ slot → slot_bytes new.files k ≡ slot_bytes old.files k
  slot_others k inside differs =
      let d = slot_differs in
      ap (λ (xs : List ℕ). slice_range xs (176 * k) (176 * k + 176)) slot_whole ∙ d.slots k inside differs ∙ ap (λ (xs : List ℕ). slice_range xs (176 * k) (176 * k + 176)) (sym slot_before)

  pub slot_trees : (i : ℕ) → i < 8 → tree_seen new.files i ≡ tree_seen old.files i
  slot_trees i inside =
      let d = slot_differs in
      written_tree old new cat (size_at old.files cat) (put_at slot_was at part) w o i
      (ap (λ (xs : List ℕ). index_at xs i) slot_whole ∙ ap index_slot_of (d.indexes i inside) ∙ ap (λ (xs : List ℕ). index_at xs i) (sym slot_before))

  pub slot_size : size_in new.files catalog_file ≡ size_in old.files catalog_file
  slot_size = size_after old new cat (size_at old.files cat) (put_at slot_was at part) w o ∙ sym (size_before old new cat (size_at old.files cat) (put_at slot_was at part) w o)

  pub slot_rows : (k : ℕ) → bytes_by_name (rows_file k) new.files ≡ bytes_by_name (rows_file k) old.files
  slot_rows k = written_rows old new cat (size_at old.files cat) (put_at slot_was at part) w o k

  module _ (same : relation_seen new.files slot ≡ relation_seen old.files slot) (wrong : IsRightSlot (relation_seen old.files slot) (slot_bytes old.files slot) → ⊥)
      (right : IsRightSlot (relation_seen old.files slot) (slot_bytes new.files slot)) where
    pub slot_once : ChangesOnce old.files new.files
    slot_once = record {
      relations = λ k inside. ⊎_elim
          (λ (here : k ≡ slot). subst (λ (j : ℕ). relation_seen new.files j ≡ relation_seen old.files j) (sym here) same)
          (λ (differs : k ≢ slot). ap relation_slot_of (slot_others k inside differs))
          (cases_eq k slot);
      catalog = inl slot_size;
      slots = λ k inside. ⊎_elim
          (λ (here : k ≡ slot). inr (subst (λ (j : ℕ). (IsRightSlot (relation_seen old.files j) (slot_bytes old.files j) → ⊥) × IsRightSlot (relation_seen old.files j) (slot_bytes new.files j)) (sym here) (wrong, right)))
          (λ (differs : k ≢ slot). inl (slot_others k inside differs))
          (cases_eq k slot);
      rows = λ k inside. inl (slot_rows k);
      lone_rows = λ k inside none. inl (slot_rows k);
      indexes = λ i inside. inl (ap (λ (t : Option Index × Option (List ℕ)). t.0) (slot_trees i inside));
      trees = λ i inside. inl (slot_trees i inside);
    }

    slot_changed : slot_bytes new.files slot ≢ slot_bytes old.files slot
    slot_changed e = wrong (subst (IsRightSlot (relation_seen old.files slot)) e right)

    slot_lines : (line : AnyMended) → IsDone old.files new.files line → (line ≡ Relation slot) ⊎ ((name : List ℕ) × IsSlotOf old.files slot name × (line ≡ OneAttribute name))
    slot_lines line d = slot_line old.files new.files slot slot_size slot_others (λ k inside here. slot_rows k) (λ i inside here. slot_trees i inside) line d

    -- of a relation: what stands behind its attributes
    pub attribute_reports : (schema : Schema) → relation_seen old.files slot ≡ Some schema → (before after : List AnyMended) → after ≡ with_line before (OneAttribute schema.name) → Reports 1 old new before after
    attribute_reports schema is before after added =
        reports_line old new before after (OneAttribute schema.name) slot_once
        (record { k = slot; slot = record { below = below; schema = schema; stands = is; named = refl }; changed = slot_changed })
        (λ line d. ⊎_elim
        (λ (relation : line ≡ Relation slot).
        let g = subst (IsDone old.files new.files) relation d in
        let never : Some schema ≡ None = sym is ∙ g.unused in absurd (cc))
        (λ here.
        let s : IsSlotOf old.files slot here.0 = here.1 in
        let both : Some schema ≡ Some s.schema = sym is ∙ s.stands in
        let one : schema ≡ s.schema = cc in
        here.2 ∙ ap (λ (name : List ℕ). OneAttribute name) (sym s.named ∙ ap (λ (x : Schema). x.name) (sym one)))
        (slot_lines line d))
        added

    -- without a relation: it is told here, or where its rows are removed
    pub emptied_reports : relation_seen old.files slot ≡ None → (before after : List AnyMended)
        → (bytes_by_name (rows_file slot) new.files ≡ None → after ≡ with_line before (Relation slot)) → (bytes_by_name (rows_file slot) new.files ≢ None → after ≡ before) → Reports 1 old new before after
    emptied_reports none before after line still = by_rows (bytes_by_name (rows_file slot) new.files) refl
      where
        by_rows : (rows : Option (List ℕ)) → bytes_by_name (rows_file slot) new.files ≡ rows → Reports 1 old new before after
        by_rows None gone =
            reports_line old new before after (Relation slot) slot_once (record { below = below; unused = none; gone = gone; changed = inl slot_changed })
            (λ line d. ⊎_elim
            (λ (here : line ≡ Relation slot). here)
            (λ attribute. let s : IsSlotOf old.files slot attribute.0 = attribute.1 in let never : Some s.schema ≡ None = sym s.stands ∙ none in absurd (cc))
            (slot_lines line d))
            (line gone)
        by_rows (Some bytes) there =
            reports_quiet 1 old new before after slot_once
            (λ line d. ⊎_elim
            (λ (here : line ≡ Relation slot).
            let g = subst (IsDone old.files new.files) here d in
            let never : Some bytes ≡ None = sym there ∙ g.gone in cc)
            (λ attribute. let s : IsSlotOf old.files slot attribute.0 = attribute.1 in let never : Some s.schema ≡ None = sym s.stands ∙ none in cc)
            (slot_lines line d))
            (still (λ gone. let never : Some bytes ≡ None = sym there ∙ gone in cc))

-- a slot without a name is emptied
pub emptied_reported : (old new : State) (cat slot : ℕ) (read : List ℕ) (below : slot < 8) (told : IsTrue old.tells) (w : IsWholeCatalog old.files cat) → relation_seen old.files slot ≡ None
    → read ≡ slice_range (bytes_at old.files cat) (176 * slot) (176 * slot + 176) → read ≢ relation_slot_bytes None → Overwrites old new cat (176 * slot) (relation_slot_bytes None) → (before after : List AnyMended)
    → (bytes_by_name (rows_file slot) new.files ≡ None → after ≡ with_line before (Relation slot)) → (bytes_by_name (rows_file slot) new.files ≢ None → after ≡ before) → Reports 1 old new before after
emptied_reported old new cat slot read below told w none is differs o before after line still =
    let was : List ℕ = bytes_at old.files cat in
    let long = w.long in
    let now : slot_bytes new.files slot ≡ relation_slot_bytes None =
    ap (λ (xs : List ℕ). slice_range xs (176 * slot) (176 * slot + 176)) (slot_whole old new cat slot (176 * slot) (relation_slot_bytes None) below told w o (omega arith) (omega arith))
    ∙ here_put was (relation_slot_bytes None) (176 * slot) 176 refl (omega (arith, below, long)) in
    let here : slot_bytes old.files slot ≡ read = ap (λ (xs : List ℕ). slice_range xs (176 * slot) (176 * slot + 176)) (whole_found old.files cat w) ∙ sym is in
    let gone : relation_seen new.files slot ≡ None = ap relation_slot_of now in
    emptied_reports old new cat slot (176 * slot) (relation_slot_bytes None) below told w o (omega arith) (omega arith) (gone ∙ sym none)
    (subst (λ (r : Option Schema). IsRightSlot r (slot_bytes old.files slot) → ⊥) (sym none)
    (λ right. ⊎_elim
    (λ (unused : slot_bytes old.files slot ≡ relation_slot_bytes None). differs (sym here ∙ unused))
    (λ (nothing : slot_bytes old.files slot ≡ []).
    let size : length read ≡ 176 = ap (λ (xs : List ℕ). length xs) is ∙ length-range was (176 * slot) 176 (omega (arith, long, below)) in
    let zero : length read ≡ 0 = ap (λ (xs : List ℕ). length xs) (sym here ∙ nothing) in
    omega (arith, size, zero))
    right))
    (subst (λ (r : Option Schema). IsRightSlot r (slot_bytes new.files slot)) (sym none) (inl now))
    none before after line still

-- bytes behind the attributes are taken back
pub attribute_reported : (old new : State) (cat slot at n : ℕ) (read part : List ℕ) (schema : Schema) (below : slot < 8) (told : IsTrue old.tells) (w : IsWholeCatalog old.files cat) → relation_seen old.files slot ≡ Some schema
    → relation_seen new.files slot ≡ Some schema → length schema.attributes ≤ 8 → at ≡ 176 * slot + (16 + 18 * length schema.attributes) → n ≡ 144 - 18 * length schema.attributes
    → read ≡ slice_range (bytes_at old.files cat) at (at + n) → is_zeros read ≡ false → part ≡ replicate (144 - 18 * length schema.attributes) 0 → Overwrites old new cat at part
    → (before after : List AnyMended) → after ≡ with_line before (OneAttribute schema.name) → Reports 1 old new before after
attribute_reported old new cat slot at n read part schema below told w was_is now_is few there many is wrong zeros o before after added =
    let was : List ℕ = bytes_at old.files cat in
    let long = w.long in
    let front : ℕ = 16 + 18 * length schema.attributes in
    let end : 160 ≡ front + n = omega (arith, many, few) in
    let size : length part ≡ n = ap (λ (xs : List ℕ). length xs) zeros ∙ length-replicate {A = ℕ} (144 - 18 * length schema.attributes) 0 ∙ sym many in
    let high : at + length part ≤ 176 * slot + 176 = omega (arith, size, there, many, few) in
    let low : 176 * slot ≤ at = omega (arith, there) in
    let now : slot_bytes new.files slot ≡ put_at (slice_range was (176 * slot) (176 * slot + 176)) front part =
    ap (λ (xs : List ℕ). slice_range xs (176 * slot) (176 * slot + 176)) (slot_whole old new cat slot at part below told w o low high)
    ∙ ap (λ (j : ℕ). slice_range (put_at was j part) (176 * slot) (176 * slot + 176)) there
    ∙ range_put was part (176 * slot) front 176 (omega (arith, size, many, few)) (omega (arith, long, below)) in
    let wide : length (slice_range was (176 * slot) (176 * slot + 176)) ≡ 176 = length-range was (176 * slot) 176 (omega (arith, long, below)) in
    let right : slice_range (slot_bytes new.files slot) front 160 ≡ replicate (144 - 18 * length schema.attributes) 0 =
    ap (λ (xs : List ℕ). slice_range xs front 160) now
    ∙ ap (slice_range (put_at (slice_range was (176 * slot) (176 * slot + 176)) front part) front) end
    ∙ here_put (slice_range was (176 * slot) (176 * slot + 176)) part front n size (omega (arith, wide, few))
    ∙ zeros in
    let read_is : slice_range (slot_bytes old.files slot) front 160 ≡ read =
    ap (λ (xs : List ℕ). slice_range (slice_range xs (176 * slot) (176 * slot + 176)) front 160) (whole_found old.files cat w)
    ∙ ap (slice_range (slice_range was (176 * slot) (176 * slot + 176)) front) end
    ∙ range_range was (176 * slot) 176 front n (omega (arith, many, few))
    ∙ ap (λ (j : ℕ). slice_range was j (j + n)) (sym there)
    ∙ sym is in
    attribute_reports old new cat slot at part below told w o low high (now_is ∙ sym was_is)
    (subst (λ (r : Option Schema). IsRightSlot r (slot_bytes old.files slot) → ⊥) (sym was_is)
    (λ clear. let never : false ≡ true = sym wrong ∙ are_zeros read (144 - 18 * length schema.attributes) (sym read_is ∙ clear) in cc))
    (subst (λ (r : Option Schema). IsRightSlot r (slot_bytes new.files slot)) (sym was_is) right)
    schema was_is before after added

-- ---- an index slot

pub spares_unchanged : (a b : State) (slot : ℕ) → b ≡ a → SparesSlots a.files b.files slot
spares_unchanged a b slot same = record {
  size = ap (λ (s : State). size_in s.files catalog_file) same;
  slots = λ k below. ap (λ (s : State). slot_bytes s.files k) same;
  indexes = λ i differs. ap (λ (s : State). index_seen s.files i) same;
}

module _ (old new : State) (cat slot : ℕ) (below : slot < 8) (told : IsTrue old.tells) (w : IsWholeCatalog old.files cat) (o : Overwrites old new cat (1408 + 8 * slot) (index_slot_bytes None)) where
  abbrev index_was : List ℕ
  index_was = bytes_at old.files cat

  index_before : whole_catalog old.files ≡ index_was
  index_before = whole_found old.files cat w

  index_whole : whole_catalog new.files ≡ blanked index_was slot w.long below
  index_whole =
      let size = blanked_size index_was slot w.long below in
      let long = w.long in
      ap whole_bytes (after old new cat (size_at old.files cat) (put_at index_was (1408 + 8 * slot) (index_slot_bytes None)) w o told)
      ∙ whole_long (blanked index_was slot w.long below) (omega (arith, size, long))

  pub blank_gone : index_seen new.files slot ≡ None
  blank_gone = ap (λ (xs : List ℕ). index_at xs slot) index_whole ∙ blanked_here index_was slot w.long below

  pub blank_slots : (k : ℕ) → k < 8 → slot_bytes new.files k ≡ slot_bytes old.files k
  blank_slots k inside =
      ap (λ (xs : List ℕ). slice_range xs (176 * k) (176 * k + 176)) index_whole ∙ blanked_slot index_was slot w.long below k inside
      ∙ ap (λ (xs : List ℕ). slice_range xs (176 * k) (176 * k + 176)) (sym index_before)

  pub blank_index : (i : ℕ) → i ≢ slot → index_seen new.files i ≡ index_seen old.files i
  blank_index i differs = ap (λ (xs : List ℕ). index_at xs i) index_whole ∙ blanked_other index_was slot w.long below i differs ∙ ap (λ (xs : List ℕ). index_at xs i) (sym index_before)

  pub blank_size : size_in new.files catalog_file ≡ size_in old.files catalog_file
  blank_size =
      size_after old new cat (size_at old.files cat) (put_at index_was (1408 + 8 * slot) (index_slot_bytes None)) w o
      ∙ sym (size_before old new cat (size_at old.files cat) (put_at index_was (1408 + 8 * slot) (index_slot_bytes None)) w o)

  pub blank_spares : SparesSlots old.files new.files slot
  blank_spares = record { size = blank_size; slots = blank_slots; indexes = blank_index }

  pub blank_rows : (k : ℕ) → bytes_by_name (rows_file k) new.files ≡ bytes_by_name (rows_file k) old.files
  blank_rows k = written_rows old new cat (size_at old.files cat) (put_at index_was (1408 + 8 * slot) (index_slot_bytes None)) w o k

  pub blank_trees : (i : ℕ) → i < 8 → i ≢ slot → tree_seen new.files i ≡ tree_seen old.files i
  blank_trees i inside differs = written_tree old new cat (size_at old.files cat) (put_at index_was (1408 + 8 * slot) (index_slot_bytes None)) w o i (blank_index i differs)

  pub blank_tree : bytes_by_name (tree_file slot) new.files ≡ bytes_by_name (tree_file slot) old.files
  blank_tree =
      seen_same old.files new.files catalog_file (becomes_changes old new cat (size_at old.files cat) (put_at index_was (1408 + 8 * slot) (index_slot_bytes None)) catalog_file o w.named) (tree_file slot) (λ e. catalog_no_tree slot (sym e))

  module _ (index : Index) (stands : index_seen old.files slot ≡ Some index) (kind : index.kind ≡ MaxHeap) (none : bytes_by_name (tree_file slot) old.files ≡ None) (name attribute : List ℕ) (on : IsOn old.files index name attribute) where
    blank_once : ChangesOnce old.files new.files
    blank_once = record {
      relations = λ k inside. ap relation_slot_of (blank_slots k inside);
      catalog = inl blank_size;
      slots = λ k inside. inl (blank_slots k inside);
      rows = λ k inside. inl (blank_rows k);
      lone_rows = λ k inside none. inl (blank_rows k);
      indexes = λ i inside. ⊎_elim
          (λ (here : i ≡ slot). inr (ap (index_seen new.files) here ∙ blank_gone))
          (λ (differs : i ≢ slot). inl (blank_index i differs))
          (cases_eq i slot);
      trees = λ i inside. ⊎_elim
          (λ (here : i ≡ slot). inr (subst (λ (j : ℕ). (IsRightTree (tree_seen old.files j) → ⊥) × IsRightTree (tree_seen new.files j)) (sym here)
          ((λ right. let never : true ≡ false = sym (ap is_tree stands ∙ kind_tree index kind) ∙ right.0 in cc), (ap is_tree blank_gone, blank_tree ∙ none))))
          (λ (differs : i ≢ slot). inl (blank_trees i inside differs))
          (cases_eq i slot);
    }

    pub index_reports : (before after : List AnyMended) → after ≡ with_line before (OneIndex name attribute) → Reports 1 old new before after
    index_reports before after added =
        reports_line old new before after (OneIndex name attribute) blank_once
        (record { i = slot; index = index; on = record { below = below; stands = stands; on = on }; gone = blank_gone })
        (λ line d. ⊎_elim
        (λ (stray : line ≡ Stray slot).
        let g = subst (IsDone old.files new.files) stray d in absurd (g.was none))
        (λ rest. ⊎_elim
        (λ (tree : (n a : List ℕ) × (t : IsTreeChanged old.files new.files n a) × (t.i ≡ slot) × (line ≡ Tree n a)).
        let t = tree.2 in
        let never : Some t.index ≡ None = sym (ap (index_seen new.files) (sym tree.3) ∙ t.stays) ∙ blank_gone in absurd (cc))
        (λ (gone : (n a : List ℕ) × (g : IsIndexGone old.files new.files n a) × (g.i ≡ slot) × (line ≡ OneIndex n a)).
        let g = gone.2 in
        let both : Some index ≡ Some g.index = sym stands ∙ ap (index_seen old.files) (sym gone.3) ∙ g.on.stands in
        let one : index ≡ g.index = cc in
        gone.4 ∙ on_same index g.index one gone.0 gone.1 on g.on.on)
        rest)
        (tree_line old.files new.files slot blank_size (λ k inside here. blank_slots k inside) (λ k inside here. blank_rows k) blank_trees line d))
        added
      where
        on_same : (i j : Index) → i ≡ j → (n a : List ℕ) → IsOn old.files i name attribute → IsOn old.files j n a → OneIndex n a ≡ OneIndex name attribute
        on_same i j same n a p q =
            let rel : Some p.schema ≡ Some q.schema = sym p.stands ∙ ap (λ (x : Index). relation_seen old.files x.relation) same ∙ q.stands in
            let schema : p.schema ≡ q.schema = cc in
            let placed : Some p.place ≡ Some q.place =
            sym p.placed ∙ ap (λ (x : Index). slice_get p.schema.attributes x.attribute) same ∙ ap (λ (s : Schema). slice_get s.attributes j.attribute) schema ∙ q.placed in
            let place : p.place ≡ q.place = cc in
            let first : name ≡ n = sym p.named ∙ ap (λ (s : Schema). s.name) schema ∙ q.named in
            let second : attribute ≡ a = sym p.called ∙ ap (λ (x : Attribute). x.name) place ∙ q.called in
            ap (λ (x : List ℕ). OneIndex x a) (sym first) ∙ ap (λ (y : List ℕ). OneIndex name y) (sym second)

-- ---- the names of an index

pub index_none : (files : Table) (relation : ℕ) (index : Index) (name of : List ℕ) → index.relation ≡ relation → IsOn files index name of → relation_seen files relation ≡ None → ⊥
index_none files relation index name of same on none = let never : Some on.schema ≡ None = sym on.stands ∙ ap (relation_seen files) same ∙ none in cc

pub index_told : (files : Table) (relation attribute : ℕ) (schema : Schema) → relation_seen files relation ≡ Some schema → (index : Index) (name of : List ℕ) → index.relation ≡ relation → index.attribute ≡ attribute → IsOn files index name of
    → (before after : List AnyMended) → ((place : Attribute) → slice_get schema.attributes attribute ≡ Some place → after ≡ with_line before (OneIndex schema.name place.name)) → after ≡ with_line before (OneIndex name of)
index_told files relation attribute schema is index name of same place on before after line =
    let both : Some on.schema ≡ Some schema = sym on.stands ∙ ap (relation_seen files) same ∙ is in
    let one : on.schema ≡ schema = cc in
    line on.place (ap (λ (s : Schema). slice_get s.attributes attribute) (sym one) ∙ ap (slice_get on.schema.attributes) (sym place) ∙ on.placed)
    ∙ ap (λ (n : List ℕ). with_line before (OneIndex n on.place.name)) (ap (λ (s : Schema). s.name) (sym one) ∙ on.named)
    ∙ ap (λ (n : List ℕ). with_line before (OneIndex name n)) on.called

-- an index that has a tree, by the bytes of its slot
abbrev pub tree_index : List ℕ → Index
tree_index bytes = record { kind = MaxHeap; relation = slice_index bytes 1; attribute = slice_index bytes 2 }

tree_index_is : (bytes : List ℕ) → slice_index bytes 0 ≡ 2 → index_slot_of bytes ≡ Some (tree_index bytes)
tree_index_is bytes two =
    ap (λ (n : ℕ). if n == 0 then None else Some (record { kind = kind_from n; relation = slice_index bytes 1; attribute = slice_index bytes 2 })) two

-- an index is taken back whose tree is not there
pub index_reported : (old new : State) (cat slot : ℕ) (read : List ℕ) (below : slot < 8) (told : IsTrue old.tells) (w : IsWholeCatalog old.files cat) → Overwrites old new cat (1408 + 8 * slot) (index_slot_bytes None)
    → IsUnnamed old.files (tree_file slot) → read ≡ slice_range (bytes_at old.files cat) (1408 + 8 * slot) (1408 + 8 * slot + 8) → slice_index read 0 ≡ 2 → HasNames old.files slot → (before after : List AnyMended)
    → ((IsStrangeSlot old.files (slice_index read 1) → ⊥) → (index : Index) (name of : List ℕ) → index.relation ≡ slice_index read 1 → index.attribute ≡ slice_index read 2 → IsOn old.files index name of
    → after ≡ with_line before (OneIndex name of))
    → Reports 1 old new before after
index_reported old new cat slot read below told w o unnamed is two names before after line =
    let stands : index_seen old.files slot ≡ Some (tree_index read) =
    ap (λ (xs : List ℕ). index_at xs slot) (whole_found old.files cat w) ∙ ap index_slot_of (sym is) ∙ tree_index_is read two in
    let n = names.names (tree_index read) stands refl in
    index_reports old new cat slot below told w o (tree_index read) stands refl (ap (option_map (λ (f : File). f.bytes)) (named_none old.files (tree_file slot) unnamed)) n.0 n.1 n.2
    before after (line n.3 (tree_index read) n.0 n.1 refl refl n.2)
