use Rattle.std.proofs.Common.{ℤ, List, subst}
use Rattle.std.specs.Bool.{Decides}
use Rattle.afl_base.specs.Files.{bytes_at}
use Rattle.index_tree.specs.Trees.{IsTreeOf}
use Rattle.stored_survey.proofs.IndexKeys.{decides_by, narrow_column, no_tree_of, tree_keys}
use Rattle.stored_survey.proofs.Seen.{refused}
use Rattle.stored_survey.proofs.indexes.has_whole_tree.Goals as goal

pub returns-in-None-clause-whole : goal.returns-in-None-clause-whole
returns-in-None-clause-whole g c = λ told read i at kind there.
    let state = g.V.Files.state c.args.files.now in
    refused (no_tree_of state c.args.catalog.now read c.args.entry.now i at (rw c.in-None.is at c.keys_of.ensures.none) there (bytes_at state.files c.args.tree))

pub returns-then-keys-eq8-clause-whole : goal.returns-then-keys-eq8-clause-whole
returns-then-keys-eq8-clause-whole g c = λ told read i at kind there.
    let keys = c.in-Some.keys in
    absurd (narrow_column (g.V.Files.state c.args.files.now) c.args.catalog.now read c.args.entry.now i at keys.column keys.slots (rw c.in-Some.is at c.keys_of.ensures.read) kind c.if-keys-eq8.true)

pub returns-in-Ok-clause-whole : goal.returns-in-Ok-clause-whole
returns-in-Ok-clause-whole g c = λ told read i at kind there.
    let state = g.V.Files.state c.args.files.now in
    let keys = c.in-Some.keys in
    let whole = c.in-Ok.whole in
    let bytes = bytes_at state.files c.args.tree in
    subst (λ (zs : List ℤ). Decides whole (IsTreeOf bytes zs))
    (tree_keys state c.args.catalog.now read c.args.entry.now i at keys.column keys.slots (rw c.in-Some.is at c.keys_of.ensures.read) kind)
    (decides_by whole ((rw c.in-Ok.is at c.verify.ensures.tree) told) ((rw c.in-Ok.is at c.verify.ensures.no_tree) told))
