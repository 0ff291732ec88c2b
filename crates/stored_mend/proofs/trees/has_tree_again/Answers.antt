use Rattle.std.proofs.Common.{◌≡◌, false, true, ℕ, refl, subst, sym}
use Rattle.stored_mend.specs.Trees.{LacksRoom, ChangesAtMost}
use Rattle.stored_mend.proofs.CatalogKept.{slot_is, slot_number}
use Rattle.stored_mend.proofs.HeapSettled.{settles_without, slot_lost, slot_settled, slot_there}
use Rattle.stored_mend.proofs.TreeFiles.{built_at_most, built_now, gone_there}
use Rattle.stored_mend.proofs.TreesLost.{but_kept, kept_by, lost_by}
use Rattle.space_model.specs.FileNames.{tree_file}
use Rattle.stored_mend.proofs.ReportTrees.{reports_trees_nothing, tree_told}
use Rattle.stored_mend.specs.Complete.{HasSlot}
use Rattle.stored_mend.proofs.TreeTurns.{tree_replaced}
use Rattle.stored_mend.proofs.trees.has_tree_again.Goals as goal

pub returns-in_default-clause-settles : goal.returns-in_default-clause-settles
returns-in_default-clause-settles g c = absurd (slot_number c.args.slot c.requires.slot c.new.result c.in_default.not-Some c.new.ensures)

pub returns-in_default-clause-gone : goal.returns-in_default-clause-gone
returns-in_default-clause-gone g c = λ is. let no : true ≡ false = is in absurd (cc)

pub returns-in_default-keys_of_tree-clause-settles : goal.returns-in_default-keys_of_tree-clause-settles
returns-in_default-keys_of_tree-clause-settles g c = λ is.
    settles_without (g.V.Files.state c.args.files.now) c.args.catalog.now c.in-Some.id c.args.slot (slot_is c.args.slot c.in-Some.id c.in-Some.ensures) c.requires.slot
    (rw c.in_default-keys_of_tree.is at c.keys_of_tree.ensures.none)

pub returns-in_default-keys_of_tree-clause-gone : goal.returns-in_default-keys_of_tree-clause-gone
returns-in_default-keys_of_tree-clause-gone g c = λ is. let no : true ≡ false = is in absurd (cc)

pub returns-in_default-find-clause-settles : goal.returns-in_default-find-clause-settles
returns-in_default-find-clause-settles g c = λ is.
    slot_there (g.V.Files.state c.args.files.now) (g.V.Files.state c.args.files.now) c.args.catalog.now c.in-Some.id c.args.slot _ (slot_is c.args.slot c.in-Some.id c.in-Some.ensures) c.requires.slot
    (rw c.in-Some-keys_of_tree.is at c.keys_of_tree.ensures.read) (rw c.tree_file-name.ensures at c.in_default-find.ensures.none)

pub returns-in_default-find-clause-gone : goal.returns-in_default-find-clause-gone
returns-in_default-find-clause-gone g c = λ is. let no : true ≡ false = is in absurd (cc)

pub returns-in-Ok-clause-kept : goal.returns-in-Ok-clause-kept
returns-in-Ok-clause-kept g c =
    let old = g.V.Files.state c.args.files.now in
    let new = g.V.Files.state c.replace_tree_of.new.files in
    let changes = built_at_most old new c.in-Some-find.tree _ _ c.in-Some-find.ensures.found c.in-Some-find.ensures.only c.in-Ok.ensures.built in
    but_kept (LacksRoom g.V.Files.state g.V.Files.lacks) old new (kept_by old new c.in-Some.id (rw c.tree_file-name.ensures at changes))

pub returns-in-Ok-clause-settles : goal.returns-in-Ok-clause-settles
returns-in-Ok-clause-settles g c = λ is.
    let old = g.V.Files.state c.args.files.now in
    let new = g.V.Files.state c.replace_tree_of.new.files in
    let changes = built_at_most old new c.in-Some-find.tree _ _ c.in-Some-find.ensures.found c.in-Some-find.ensures.only c.in-Ok.ensures.built in
    let built = rw c.tree_file-name.ensures at c.in-Ok.ensures.built in
    slot_settled old new c.args.catalog.now c.in-Some.id c.args.slot _ (slot_is c.args.slot c.in-Some.id c.in-Some.ensures) c.requires.slot
    (rw c.in-Some-keys_of_tree.is at c.keys_of_tree.ensures.read)
    (rw c.tree_file-name.ensures at changes) (λ told. built_now old new (tree_file c.in-Some.id) _ told built)

pub returns-in-Ok-clause-gone : goal.returns-in-Ok-clause-gone
returns-in-Ok-clause-gone g c = λ is. let no : true ≡ false = is in absurd (cc)

pub returns-in-Err-Space-clause-kept : goal.returns-in-Err-Space-clause-kept
returns-in-Err-Space-clause-kept g c =
    let old = g.V.Files.state c.args.files.now in
    let new = g.V.Files.state c.replace_tree_of.new.files in
    let spares = rw (c.in-Err-Space.field-0-is, c.tree_file-name.ensures) at c.in-Err-Space.ensures.spares in
    let gone = rw (c.in-Err-Space.field-0-is, c.tree_file-name.ensures) at c.in-Err-Space.ensures.gone in
    let lacks = rw c.in-Err-Space.field-0-is at c.in-Err-Space.ensures.frame.lacks in
    lost_by (LacksRoom g.V.Files.state g.V.Files.lacks) old new c.in-Some.id spares.spares (gone_there new.files (tree_file c.in-Some.id) gone)
    (record { at = c.replace_tree_of.new.files; need = _; gone = gone; lacks = lacks })

pub returns-in-Err-Space-clause-settles : goal.returns-in-Err-Space-clause-settles
returns-in-Err-Space-clause-settles g c = λ is. let no : false ≡ true = is in absurd (cc)

pub returns-in-Err-Space-clause-gone : goal.returns-in-Err-Space-clause-gone
returns-in-Err-Space-clause-gone g c = λ is.
    let old = g.V.Files.state c.args.files.now in
    let new = g.V.Files.state c.replace_tree_of.new.files in
    let spares = rw (c.in-Err-Space.field-0-is, c.tree_file-name.ensures) at c.in-Err-Space.ensures.spares in
    let gone = rw (c.in-Err-Space.field-0-is, c.tree_file-name.ensures) at c.in-Err-Space.ensures.gone in
    slot_lost old new c.args.catalog.now c.in-Some.id c.args.slot _ (slot_is c.args.slot c.in-Some.id c.in-Some.ensures) c.requires.slot
    (rw c.in-Some-keys_of_tree.is at c.keys_of_tree.ensures.read) spares (gone_there new.files (tree_file c.in-Some.id) gone)

pub returns-in-Err-Failed-clause-cut : goal.returns-in-Err-Failed-clause-cut
returns-in-Err-Failed-clause-cut g c = λ told half may cuts.
    let old = g.V.Files.state c.args.files.now in
    let id = c.in-Some.id in
    let same = slot_is c.args.slot id c.in-Some.ensures in
    let here = subst (HasSlot old.files c.args.catalog.now) (sym same) may.here in
    tree_replaced half old c.args.catalog.now id c.args.slot _ same c.requires.slot told may
    ((rw c.in-Some-keys_of_tree.is at c.keys_of_tree.ensures.read) here may.trees.sound)
    ((rw (c.in-Err-Failed.field-0-is, c.tree_file-name.ensures) at c.in-Err-Failed.ensures.cut) cuts told refl)

-- what is told

pub returns-in_default-clause-reported : goal.returns-in_default-clause-reported
returns-in_default-clause-reported g c = λ told h s wrong is. reports_trees_nothing 1 _ _ _ _ refl refl

pub returns-in_default-keys_of_tree-clause-reported : goal.returns-in_default-keys_of_tree-clause-reported
returns-in_default-keys_of_tree-clause-reported g c = λ told h s wrong is. reports_trees_nothing 1 _ _ _ _ refl refl

pub returns-in_default-find-clause-reported : goal.returns-in_default-find-clause-reported
returns-in_default-find-clause-reported g c = λ told h s wrong is. reports_trees_nothing 1 _ _ _ _ refl refl

pub returns-in-Ok-clause-reported : goal.returns-in-Ok-clause-reported
returns-in-Ok-clause-reported g c = λ told h s wrong is.
    let old = g.V.Files.state c.args.files.now in
    let new = g.V.Files.state c.replace_tree_of.new.files in
    let same = slot_is c.args.slot c.in-Some.id c.in-Some.ensures in
    let changes = built_at_most old new c.in-Some-find.tree _ _ c.in-Some-find.ensures.found c.in-Some-find.ensures.only c.in-Ok.ensures.built in
    let here = subst (λ (k : ℕ). ChangesAtMost old new (tree_file k)) same (rw c.tree_file-name.ensures at changes) in
    let settled = (returns-in-Ok-clause-settles g c is).settles told h s in
    tree_told old new c.args.catalog.now c.in-Some.id c.args.slot _ same c.requires.slot h s (rw c.in-Some-keys_of_tree.is at c.keys_of_tree.ensures.read) here.spares settled.spares wrong settled.here
    _ _ c.report_slot.ensures.told

pub returns-in-Err-Space-clause-reported : goal.returns-in-Err-Space-clause-reported
returns-in-Err-Space-clause-reported g c = λ told h s wrong is. let never : false ≡ true = is in absurd (cc)

pub returns-in_default-clause-still : goal.returns-in_default-clause-still
returns-in_default-clause-still g c = λ is. refl

pub returns-in_default-keys_of_tree-clause-still : goal.returns-in_default-keys_of_tree-clause-still
returns-in_default-keys_of_tree-clause-still g c = λ is. refl

pub returns-in_default-find-clause-still : goal.returns-in_default-find-clause-still
returns-in_default-find-clause-still g c = λ is. refl

pub returns-in-Ok-clause-still : goal.returns-in-Ok-clause-still
returns-in-Ok-clause-still g c = λ is. let never : true ≡ false = is in absurd (cc)
