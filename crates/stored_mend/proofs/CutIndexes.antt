-- An index slot of which a write was cut off.
use Rattle.std.proofs.Common.{◌≡◌, ⊎_elim, ℕ, ◌+◌, ◌*◌, ◌<◌, true, None, IsTrue, ap}
use Rattle.std.specs.Prelude.{is_some}
use Rattle.afl_base.specs.CutFiles.{OverwritesFront}
use Rattle.afl_base.specs.Files.{IsUnnamed, Overwrites, State, bytes_at}
use Rattle.afl_base.proofs.FileLaws.{named_live}
use Rattle.catalog.specs.Rules.{is_tree}
use Rattle.catalog.proofs.Named.{named_none}
use Rattle.db_model.specs.Catalog.{index_at, index_slot_bytes}
use Rattle.db_model.specs.Database.{Database}
use Rattle.space_model.specs.FileNames.{catalog_file, tree_file}
use Rattle.stored.specs.CutTables.{IsCutTable}
use Rattle.stored.specs.Mended.{mended_base}
use Rattle.stored.proofs.CatalogParts.{index_part}
use Rattle.stored_mend.specs.Mending.{IsWholeCatalog}
use Rattle.stored_mend.proofs.CatalogKept.{index_kept}
use Rattle.stored_mend.proofs.CutCalls.{IsLeft, room_base, room_cut}
use Rattle.stored_mend.proofs.CutFronts.{all_put, none_put}
use Rattle.stored_mend.proofs.ListedIndexes.{blanked_cut}
use Rattle.stored_mend.proofs.ListedSlots.{keeps_becomes}

-- it lies in one region: it is as it was, or unused
pub index_left : (old after : State) (cat slot : ℕ) → slot < 8 → IsTrue old.tells → IsWholeCatalog old.files cat → is_tree (index_at (bytes_at old.files cat) slot) ≡ true → IsUnnamed old.files (tree_file slot)
    → IsCutTable old.files → OverwritesFront old after cat (1408 + 8 * slot) (index_slot_bytes None) → IsLeft after.files (λ (db : Database). db ≡ mended_base old.files)
index_left old after cat slot below told w tree unnamed cut f = ⊎_elim
    (λ (none : f.done ≡ 0).
    let k = none_put old after cat (1408 + 8 * slot) (index_slot_bytes None) f none in
    let live = named_live old.files cat catalog_file w.named in
    record { cut = room_cut old after cat live told k cut; is = room_base old after cat live told k })
    (λ (all : f.done ≡ 8).
    let o : Overwrites old after cat (1408 + 8 * slot) (index_slot_bytes None) = all_put old after cat (1408 + 8 * slot) (index_slot_bytes None) f all in
    let kept = index_kept old after cat slot w below o (λ here. tree) unnamed in
    record {
      cut = blanked_cut old after cat slot below told w (keeps_becomes old after cat _ _ w o kept.base) o (ap is_some (named_none old.files (tree_file slot) unnamed)) cut;
      is = kept.base told;
    })
    (index_part slot f.done below f.within f.whole)
