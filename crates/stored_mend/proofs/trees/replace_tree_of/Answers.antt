use Rattle.std.proofs.Common.{◌∙◌, inr}
use Rattle.afl_base.specs.KeyColumn.{key_of}
use Rattle.afl_base.specs.Keys.{first_keys}
use Rattle.afl_base.proofs.CutLaws.{either_as}
use Rattle.stored_mend.proofs.CutTrees.{built_replaces, gone_replaces}
use Rattle.stored_mend.proofs.TreeFiles.{built_behind, keys_removed}
use Rattle.stored_mend.proofs.trees.replace_tree_of.Goals as goal

pub returns-in-Ok-clause-built : goal.returns-in-Ok-clause-built
returns-in-Ok-clause-built g c =
    let old = g.V.Files.state c.args.files.now in
    let mid = g.V.Files.state c.remove_tree.new.files in
    built_behind old mid (g.V.Files.state c.build_tree.new.files) c.args.name _ _ c.in_ok-remove_tree.ensures.spares
    (λ told. keys_removed old mid c.args.tree c.args.keys.now.column c.args.keys.now.slots c.in_ok-remove_tree.ensures.removed c.requires.apart) c.in-Ok.ensures.built

pub returns-in-Err-clause-cut : goal.returns-in-Err-clause-cut
returns-in-Err-clause-cut g c = λ cuts told failed.
    let old = g.V.Files.state c.args.files.now in
    let mid = g.V.Files.state c.remove_tree.new.files in
    let name = c.args.name in
    let column = c.args.keys.now.column in
    let slots = c.args.keys.now.slots in
    let keys = first_keys (key_of old column) slots in
    let spares = c.in_ok-remove_tree.ensures.spares in
    inr (either_as mid (c.in-Err.ensures.cut cuts (spares.spares.tells ∙ told) failed)
    (gone_replaces old mid name keys c.in_ok-remove_tree.ensures.gone spares)
    (λ after built. built_replaces old mid after name (first_keys (key_of mid column) slots) keys spares
    (λ was. keys_removed old mid c.args.tree column slots c.in_ok-remove_tree.ensures.removed c.requires.apart) built))
