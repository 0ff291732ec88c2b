use Rattle.std.proofs.Common.{arith}
use Rattle.afl_base.proofs.UsedLaws.{used_most}
use Rattle.padded.proofs.Facts.{on_err}
use Rattle.stored_mend.proofs.CutTrees.{either_still}
use Rattle.stored_mend.proofs.TreeFiles.{removed_spares, removed_unnamed}
use Rattle.stored_mend.proofs.trees.remove_tree.Goals as goal

pub returns-clause-spares : goal.returns-clause-spares
returns-clause-spares g c = removed_spares (g.V.Files.state c.args.files.now) (g.V.Files.state c.remove.new.self) c.args.tree c.args.name c.requires.named c.in_ok-remove.ensures.removed

pub returns-clause-place : goal.returns-clause-place
returns-clause-place g c =
    let most = used_most (g.V.Files.state c.args.files.now).files in
    omega (arith, most, c.live.ensures.places, c.in_ok-remove.ensures.removed.used)

pub returns-in_err-remove-clause-cut : goal.returns-in_err-remove-clause-cut
returns-in_err-remove-clause-cut g c = λ cuts told.
    let old = g.V.Files.state c.args.files.now in
    let named = c.requires.named in
    on_err c.from_residual.result (either_still (c.in_err-remove.ensures.cut cuts told)
    (λ after gone. (removed_unnamed old after c.args.tree c.args.name named gone, removed_spares old after c.args.tree c.args.name named gone)))
