use Rattle.std.proofs.Common.{ℕ, subst, ◌≡◌, arith, refl, sym}
use Rattle.space_model.specs.FileNames.{tree_file}
use Rattle.stored_mend.specs.Trees.{ChangesAtMost}
use Rattle.stored_mend.proofs.CatalogKept.{slot_is, slot_number}
use Rattle.stored_mend.proofs.HeapSettled.{slot_complete, slot_without}
use Rattle.stored_mend.proofs.TreesLost.{kept_by}
use Rattle.stored_mend.proofs.Completing.{spared_by}
use Rattle.stored_mend.proofs.ReportTrees.{reports_trees_more, reports_trees_nothing, seen_as, tree_told, tree_waits, waits_reports}
use Rattle.stored_mend.specs.Complete.{HasSlot}
use Rattle.stored_mend.proofs.TreesWhile.{slot_waits, tree_mended}
use Rattle.stored_mend.proofs.trees.mend_tree.Goals as goal

pub returns-in_default-clause-complete : goal.returns-in_default-clause-complete
returns-in_default-clause-complete g c = absurd (slot_number c.args.slot c.requires.slot c.new.result c.in_default.not-Some c.new.ensures)

pub returns-in_default-keys_of_tree-clause-complete : goal.returns-in_default-keys_of_tree-clause-complete
returns-in_default-keys_of_tree-clause-complete g c =
    slot_without (g.V.Files.state c.args.files.now) c.args.catalog.now c.in-Some.id c.args.slot (slot_is c.args.slot c.in-Some.id c.in-Some.ensures)
    (rw c.in_default-keys_of_tree.is at c.keys_of_tree.ensures.none)

pub returns-in-Ok-false-clause-kept : goal.returns-in-Ok-false-clause-kept
returns-in-Ok-false-clause-kept g c =
    kept_by (g.V.Files.state c.args.files.now) (g.V.Files.state c.mend_tree_of.new.files) c.in-Some.id (rw c.tree_file.ensures at c.in-Ok-false.ensures.others)

pub returns-in-Ok-false-clause-changes : goal.returns-in-Ok-false-clause-changes
returns-in-Ok-false-clause-changes g c =
    subst (λ (k : ℕ). ChangesAtMost (g.V.Files.state c.args.files.now) (g.V.Files.state c.mend_tree_of.new.files) (tree_file k)) (slot_is c.args.slot c.in-Some.id c.in-Some.ensures)
    (rw c.tree_file.ensures at c.in-Ok-false.ensures.others)

pub returns-in-Ok-false-clause-complete : goal.returns-in-Ok-false-clause-complete
returns-in-Ok-false-clause-complete g c =
    slot_complete (g.V.Files.state c.args.files.now) (g.V.Files.state c.mend_tree_of.new.files) c.args.catalog.now c.in-Some.id c.args.slot _ (slot_is c.args.slot c.in-Some.id c.in-Some.ensures) c.requires.slot
    (rw c.in-Some-keys_of_tree.is at c.keys_of_tree.ensures.read)
    (rw c.tree_file.ensures at c.in-Ok-false.ensures.others) (rw c.tree_file.ensures at c.in-Ok-false.ensures.tree)

pub returns-in-Ok-true-clause-kept : goal.returns-in-Ok-true-clause-kept
returns-in-Ok-true-clause-kept g c =
    kept_by (g.V.Files.state c.args.files.now) (g.V.Files.state c.mend_tree_of.new.files) c.in-Some.id (rw c.tree_file.ensures at c.in-Ok-true.ensures.others)

pub returns-in-Ok-true-clause-changes : goal.returns-in-Ok-true-clause-changes
returns-in-Ok-true-clause-changes g c =
    subst (λ (k : ℕ). ChangesAtMost (g.V.Files.state c.args.files.now) (g.V.Files.state c.mend_tree_of.new.files) (tree_file k)) (slot_is c.args.slot c.in-Some.id c.in-Some.ensures)
    (rw c.tree_file.ensures at c.in-Ok-true.ensures.others)

pub returns-in-Ok-true-clause-complete : goal.returns-in-Ok-true-clause-complete
returns-in-Ok-true-clause-complete g c =
    slot_complete (g.V.Files.state c.args.files.now) (g.V.Files.state c.mend_tree_of.new.files) c.args.catalog.now c.in-Some.id c.args.slot _ (slot_is c.args.slot c.in-Some.id c.in-Some.ensures) c.requires.slot
    (rw c.in-Some-keys_of_tree.is at c.keys_of_tree.ensures.read)
    (rw c.tree_file.ensures at c.in-Ok-true.ensures.others) (rw c.tree_file.ensures at c.in-Ok-true.ensures.tree)

pub returns-in-Err-Space-clause-kept : goal.returns-in-Err-Space-clause-kept
returns-in-Err-Space-clause-kept g c =
    kept_by (g.V.Files.state c.args.files.now) (g.V.Files.state c.mend_tree_of.new.files) c.in-Some.id
    (rw (c.in-Err-Space.field-0-is, c.tree_file.ensures) at c.in-Err-Space.ensures.others)

pub returns-in-Err-Space-clause-changes : goal.returns-in-Err-Space-clause-changes
returns-in-Err-Space-clause-changes g c =
    subst (λ (k : ℕ). ChangesAtMost (g.V.Files.state c.args.files.now) (g.V.Files.state c.mend_tree_of.new.files) (tree_file k)) (slot_is c.args.slot c.in-Some.id c.in-Some.ensures)
    (rw (c.in-Err-Space.field-0-is, c.tree_file.ensures) at c.in-Err-Space.ensures.others)

pub returns-in-Err-Space-clause-waits : goal.returns-in-Err-Space-clause-waits
returns-in-Err-Space-clause-waits g c = λ told has sound.
    let old = g.V.Files.state c.args.files.now in
    let id = c.in-Some.id in
    let same = slot_is c.args.slot id c.in-Some.ensures in
    let here = subst (HasSlot old.files c.args.catalog.now) (sym same) has in
    slot_waits old.files (g.V.Files.state c.mend_tree_of.new.files).files id c.args.slot _ same
    ((rw c.in-Some-keys_of_tree.is at c.keys_of_tree.ensures.read) here sound)
    ((rw (c.in-Err-Space.field-0-is, c.tree_file.ensures) at c.in-Err-Space.ensures.waits) told)

pub returns-in-Err-Failed-clause-cut : goal.returns-in-Err-Failed-clause-cut
returns-in-Err-Failed-clause-cut g c = λ told half has trees cuts.
    let old = g.V.Files.state c.args.files.now in
    let id = c.in-Some.id in
    let same = slot_is c.args.slot id c.in-Some.ensures in
    let here = subst (HasSlot old.files c.args.catalog.now) (sym same) has in
    tree_mended half old id c.args.slot _ same c.requires.slot told trees
    ((rw c.in-Some-keys_of_tree.is at c.keys_of_tree.ensures.read) here trees.sound)
    ((rw (c.in-Err-Failed.field-0-is, c.tree_file.ensures) at c.in-Err-Failed.ensures.cut) cuts told refl)

-- what is told

pub returns-in_default-clause-reported : goal.returns-in_default-clause-reported
returns-in_default-clause-reported g c = λ told h s. reports_trees_nothing 1 _ _ _ _ refl refl

pub returns-in_default-keys_of_tree-clause-reported : goal.returns-in_default-keys_of_tree-clause-reported
returns-in_default-keys_of_tree-clause-reported g c = λ told h s. reports_trees_nothing 1 _ _ _ _ refl refl

pub returns-in-Ok-false-clause-reported : goal.returns-in-Ok-false-clause-reported
returns-in-Ok-false-clause-reported g c = λ told h s. reports_trees_nothing 1 _ _ _ _ (c.in-Ok-false.ensures.same c.in-Ok-false.field-0-test) refl

pub returns-in-Ok-true-clause-reported : goal.returns-in-Ok-true-clause-reported
returns-in-Ok-true-clause-reported g c = λ told h s.
    let old = g.V.Files.state c.args.files.now in
    let new = g.V.Files.state c.mend_tree_of.new.files in
    let changes = returns-in-Ok-true-clause-changes g c in
    let same = slot_is c.args.slot c.in-Some.id c.in-Some.ensures in
    let read = rw c.in-Some-keys_of_tree.is at c.keys_of_tree.ensures.read in
    let wrong = (rw c.tree_file.ensures at c.in-Ok-true.ensures.wrong) told c.in-Ok-true.field-0-test in
    tree_told old new c.args.catalog.now c.in-Some.id c.args.slot _ same c.requires.slot h s read changes.spares (spared_by old new c.args.slot c.requires.slot changes s)
    (tree_waits old new c.args.catalog.now c.in-Some.id c.args.slot _ same h s read wrong)
    ((returns-in-Ok-true-clause-complete g c).complete told h s) _ _ c.report_slot.ensures.told

pub returns-in-Err-Space-clause-quiet : goal.returns-in-Err-Space-clause-quiet
returns-in-Err-Space-clause-quiet g c = λ told h s.
    let old = g.V.Files.state c.args.files.now in
    let new = g.V.Files.state c.mend_tree_of.new.files in
    let changes = returns-in-Err-Space-clause-changes g c in
    let waits = returns-in-Err-Space-clause-waits g c told h s in
    waits_reports old new c.args.slot c.requires.slot changes.spares (spared_by old new c.args.slot c.requires.slot changes s)
    (seen_as (tree_file c.args.slot) old.files new.files changes.there waits.same) 0 _ _ refl

pub returns-in-Err-Space-clause-reported : goal.returns-in-Err-Space-clause-reported
returns-in-Err-Space-clause-reported g c = λ told h s. reports_trees_more 0 1 _ _ _ _ (returns-in-Err-Space-clause-quiet g c told h s) (omega arith)
