-- Files that no slot of the catalog asks for.
use Rattle.std.proofs.Common.{◌≡◌, ◌≢◌, ℕ, ◌+◌, ◌*◌, true, false, IsTrue, sym, ◌∙◌}
use Rattle.std.specs.Prelude.{slice_index}
use Rattle.afl_base.specs.Files.{IsNamed, Removes, State}
use Rattle.space_model.specs.FileNames.{rows_file, tree_file}
use Rattle.stored.specs.Mended.{whole_catalog}
use Rattle.stored_mend.specs.Mending.{MendsAsBefore}
use Rattle.stored_mend.proofs.CatalogRead.{no_tree_at, unused_at}
use Rattle.stored_mend.proofs.OneFile.{removed_changes, tree_changed, unused_rows_changed}

-- rows of a slot without a relation
pub rows_gone : (old new : State) (id slot : ℕ) → Removes old new id → IsNamed old.files id (rows_file slot)
    → (IsTrue old.tells → slice_index (whole_catalog old.files) (176 * slot) ≡ 0) → MendsAsBefore old new
rows_gone old new id slot r named first = record {
  base = λ told. unused_rows_changed old.files new.files slot (removed_changes old new id (rows_file slot) r named) (unused_at (whole_catalog old.files) slot (first told));
  draft = r.draft;
  tells = r.tells;
}

-- the tree of a slot whose index has none
pub tree_gone : (old new : State) (id slot : ℕ) → Removes old new id → IsNamed old.files id (tree_file slot)
    → (IsTrue old.tells → slice_index (whole_catalog old.files) (1408 + 8 * slot) ≢ 2) → MendsAsBefore old new
tree_gone old new id slot r named first = record {
  base = λ told. tree_changed old.files new.files slot (removed_changes old new id (tree_file slot) r named)
      (λ tree. let no : true ≡ false = sym tree ∙ no_tree_at (whole_catalog old.files) slot (first told) in absurd (cc));
  draft = r.draft;
  tells = r.tells;
}
