use Rattle.std.proofs.Common.{◌+◌, ◌*◌, ℕ, List, ap, subst}
use Rattle.db_model.specs.Step.{keys}
use Rattle.tuple_file.specs.Tuples.{rows}
use Rattle.session_indexes.specs.Trees.{DraftsTree}
use Rattle.session_indexes.proofs.Keyed.{drafted, keys_by, tree_sized}
use Rattle.session_indexes.proofs.trees.draft_tree.Goals as goal

pub returns-in-Err-Space-clause-need : goal.returns-in-Err-Space-clause-need
returns-in-Err-Space-clause-need g c = λ told.
    let s0 = g.V.Files.state c.args.files.now in
    let same = keys_by s0 c.args.tuples.now c.args.attribute c.requires.number c.requires.holds told c.column.result c.count-slots.result c.column.ensures.column c.count-slots.ensures.slots in
    let size : ℕ = 683 + 195 * c.from.result in
    tree_sized _ _ c.in-Ok.buckets size c.in-Err-Space.need same (c.in-Ok.ensures.buckets told) (ap (λ (n : ℕ). 683 + 195 * n) c.from.ensures)
    (rw c.in-Err-Space.field-0-is at c.in-Err-Space.ensures.need)

pub returns-clause-drafted : goal.returns-clause-drafted
returns-clause-drafted g c =
    let s0 = g.V.Files.state c.args.files.now in
    let s1 = g.V.Files.state c.buckets_for.new.files in
    let s2 = g.V.Files.state c.draft.new.self in
    let s3 = g.V.Files.state c.build.new.files in
    let ks = keys c.args.attribute (rows s0.files c.args.tuples.now) in
    subst (λ (name : List ℕ). DraftsTree s0 s3 name ks) c.tree_file.ensures
    (drafted s0 s1 s2 s3 _ _ _ c.column-2.result c.count-slots.result ks c.in-Ok.ensures.frame.same c.in-Ok-draft.ensures.begun c.in-Ok-build.ensures.only c.in-Ok-build.ensures.tree
    (λ told. keys_by s0 c.args.tuples.now c.args.attribute c.requires.number c.requires.holds told c.column-2.result c.count-slots.result c.column-2.ensures.column c.count-slots.ensures.slots))
