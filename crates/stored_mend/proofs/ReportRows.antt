-- Rows that are filled or taken back, and the line that tells them.
use Rattle.std.proofs.Common.{◌≡◌, ◌≢◌, ◌⊎◌, inl, inr, ⊎_elim, ℕ, suc, ◌*◌, ◌<◌, List, length, take, Option, Some, None, IsTrue, refl, ap, sym, subst, ◌∙◌, arith}
use Rattle.std.specs.Prelude.{option_map}
use Rattle.std.proofs.lemmas.Bool.{cases_eq}
use Rattle.afl_base.specs.Files.{Becomes, File, IsNamed, State, bytes_at}
use Rattle.afl_base.proofs.FileLaws.{named_live, names_stay, place_live}
use Rattle.catalog.proofs.Named.{named_found}
use Rattle.db_model.specs.declared.schemas.Attribute.{Attribute}
use Rattle.db_model.specs.declared.schemas.Schema.{Schema}
use Rattle.db_model.specs.Row.{row_length, slots_in_bytes}
use Rattle.space_model.specs.FileNames.{catalog_file, rows_file, size_in}
use Rattle.stored.specs.CutTables.{slot_bytes}
use Rattle.tuple_file.proofs.Slots.{slots_of_whole}
use Rattle.stored_mend.specs.Filled.{FillsRow}
use Rattle.stored_mend.specs.Reported.{AreRightRows, ChangesOnce, IsDone, IsSlotOf, Reports, bytes_by_name, relation_seen, tree_seen, with_line}
use Rattle.stored_mend.specs.Rows.{whole_length}
use Rattle.stored_mend.specs.declared.report.Mended.{Mended as AnyMended}
use Rattle.stored_mend.specs.declared.report.Mended.TheVariants.{Relation, Row}
use Rattle.stored_mend.proofs.FilledRows.{filled_long}
use Rattle.stored_mend.proofs.OneFile.{ChangesFile, becomes_changes, catalog_no_rows, same_rows_slot, tree_no_rows}
use Rattle.stored_mend.proofs.ReportSteps.{index_same, relation_same, reports_line, rows_line, seen_same, size_same, slot_same, tree_same}

-- so many slots and no more
rows_multiple : (attributes : List Attribute) (bytes : List ℕ) (n : ℕ) → length bytes ≡ row_length attributes * n → whole_length attributes bytes ≡ length bytes
rows_multiple attributes bytes n long = ap (λ (k : ℕ). row_length attributes * k) (slots_of_whole attributes bytes n long) ∙ sym long

module _ (old new : State) (slot file total : ℕ) (told : List ℕ) (schema : Schema) (below : slot < 8) (is : relation_seen old.files slot ≡ Some schema) (named : IsNamed old.files file (rows_file slot))
    (only : (k : ℕ) → IsNamed old.files k (rows_file slot) → k ≡ file) (b : Becomes old new file total told)
    (part : whole_length schema.attributes (bytes_at old.files file) < length (bytes_at old.files file)) (whole : whole_length schema.attributes (bytes_at new.files file) ≡ length (bytes_at new.files file)) where
  row_changes : ChangesFile old.files new.files (rows_file slot)
  row_changes = becomes_changes old new file total told (rows_file slot) b named

  row_before : bytes_by_name (rows_file slot) old.files ≡ Some (bytes_at old.files file)
  row_before = ap (option_map (λ (f : File). f.bytes)) (named_found old.files file (rows_file slot) named only ∙ place_live old.files file (named_live old.files file (rows_file slot) named))

  row_after : bytes_by_name (rows_file slot) new.files ≡ Some (bytes_at new.files file)
  row_after =
      let names = names_stay old new file total told (named_live old.files file (rows_file slot) named) b in
      ap (option_map (λ (f : File). f.bytes)) (named_found new.files file (rows_file slot) (names file ∙ named) (λ k h. only k (sym (names k) ∙ h)) ∙ place_live new.files file b.live)

  row_wrong : AreRightRows (Some schema) (bytes_by_name (rows_file slot) old.files) → ⊥
  row_wrong right = let same = right (bytes_at old.files file) row_before in omega (arith, same, part)

  row_right : AreRightRows (Some schema) (bytes_by_name (rows_file slot) new.files)
  row_right bytes seen =
      let both : Some (bytes_at new.files file) ≡ Some bytes = sym row_after ∙ seen in
      let same : bytes_at new.files file ≡ bytes = cc in
      subst (λ (xs : List ℕ). whole_length schema.attributes xs ≡ length xs) same whole

  row_size : size_in new.files catalog_file ≡ size_in old.files catalog_file
  row_size = size_same old.files new.files (rows_file slot) row_changes (catalog_no_rows slot)

  row_slots : (k : ℕ) → slot_bytes new.files k ≡ slot_bytes old.files k
  row_slots k = slot_same old.files new.files (rows_file slot) row_changes (catalog_no_rows slot) k

  row_others : (k : ℕ) → k < 8 → k ≢ slot → bytes_by_name (rows_file k) new.files ≡ bytes_by_name (rows_file k) old.files
  row_others k inside differs = seen_same old.files new.files (rows_file slot) row_changes (rows_file k) (λ e. differs (same_rows_slot k slot e))

  row_trees : (i : ℕ) → tree_seen new.files i ≡ tree_seen old.files i
  row_trees i = tree_same old.files new.files (rows_file slot) row_changes (catalog_no_rows slot) i (tree_no_rows i slot)

  row_once : ChangesOnce old.files new.files
  row_once = record {
    relations = λ k inside. relation_same old.files new.files (rows_file slot) row_changes (catalog_no_rows slot) k;
    catalog = inl row_size;
    slots = λ k inside. inl (row_slots k);
    rows = λ k inside. ⊎_elim
        (λ (here : k ≡ slot). inr (subst (λ (j : ℕ). (AreRightRows (relation_seen old.files j) (bytes_by_name (rows_file j) old.files) → ⊥) × AreRightRows (relation_seen old.files j) (bytes_by_name (rows_file j) new.files)) (sym here)
        (subst (λ (r : Option Schema). (AreRightRows r (bytes_by_name (rows_file slot) old.files) → ⊥) × AreRightRows r (bytes_by_name (rows_file slot) new.files)) (sym is) (row_wrong, row_right))))
        (λ (differs : k ≢ slot). inl (row_others k inside differs))
        (cases_eq k slot);
    lone_rows = λ k inside none. ⊎_elim
        (λ (here : k ≡ slot). let never : Some schema ≡ None = sym is ∙ ap (relation_seen old.files) (sym here) ∙ none in absurd (cc))
        (λ (differs : k ≢ slot). inl (row_others k inside differs))
        (cases_eq k slot);
    indexes = λ i inside. inl (index_same old.files new.files (rows_file slot) row_changes (catalog_no_rows slot) i);
    trees = λ i inside. inl (row_trees i);
  }

  pub row_reports : (before after : List AnyMended) → after ≡ with_line before (Row schema.name) → Reports 1 old new before after
  row_reports before after added =
      reports_line old new before after (Row schema.name) row_once
      (record {
        k = slot;
        slot = record { below = below; schema = schema; stands = is; named = refl };
        changed = λ same. row_wrong (subst (AreRightRows (Some schema)) same row_right);
      })
      (λ line d. ⊎_elim
      (λ (relation : line ≡ Relation slot).
      let g = subst (IsDone old.files new.files) relation d in
      let never : Some schema ≡ None = sym is ∙ g.unused in absurd (cc))
      (λ here.
      let s : IsSlotOf old.files slot here.0 = here.1 in
      let both : Some schema ≡ Some s.schema = sym is ∙ s.stands in
      let one : schema ≡ s.schema = cc in
      here.2 ∙ ap (λ (name : List ℕ). Row name) (sym s.named ∙ ap (λ (x : Schema). x.name) (sym one)))
      (rows_line old.files new.files slot row_size (λ k inside here. row_slots k) row_others (λ i inside here. row_trees i) line d))
      added

-- a row is filled
pub filled_reports : (old new : State) (slot file : ℕ) (name : List ℕ) (schema : Schema) → slot < 8 → IsTrue old.tells → relation_seen old.files slot ≡ Some schema → name ≡ rows_file slot → IsNamed old.files file name
    → ((k : ℕ) → IsNamed old.files k name → k ≡ file) → whole_length schema.attributes (bytes_at old.files file) < length (bytes_at old.files file) → FillsRow old new file schema.attributes
    → (before after : List AnyMended) → after ≡ with_line before (Row schema.name) → Reports 1 old new before after
filled_reports old new slot file name schema below told is called named only part f before after added =
    row_reports old new slot file _ _ schema below is (subst (IsNamed old.files file) called named) (λ k h. only k (subst (IsNamed old.files k) (sym called) h)) f.appended part
    (rows_multiple schema.attributes (bytes_at new.files file) (suc (slots_in_bytes schema.attributes (bytes_at old.files file))) (filled_long schema.attributes (bytes_at old.files file) (bytes_at new.files file) (f.filled told)))
    before after added

-- or is taken back
pub cut_reports : (old new : State) (slot file size : ℕ) (name : List ℕ) (schema : Schema) → slot < 8 → IsTrue old.tells → relation_seen old.files slot ≡ Some schema → name ≡ rows_file slot → IsNamed old.files file name
    → ((k : ℕ) → IsNamed old.files k name → k ≡ file) → whole_length schema.attributes (bytes_at old.files file) < length (bytes_at old.files file)
    → Becomes old new file size (take size (bytes_at old.files file)) → size ≡ whole_length schema.attributes (bytes_at old.files file)
    → (before after : List AnyMended) → after ≡ with_line before (Row schema.name) → Reports 1 old new before after
cut_reports old new slot file size name schema below told is called named only part b whole before after added =
    row_reports old new slot file _ _ schema below is (subst (IsNamed old.files file) called named) (λ k h. only k (subst (IsNamed old.files k) (sym called) h)) b part
    (rows_multiple schema.attributes (bytes_at new.files file) (slots_in_bytes schema.attributes (bytes_at old.files file)) (b.size ∙ whole))
    before after added
