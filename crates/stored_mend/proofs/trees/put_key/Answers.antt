use Rattle.std.proofs.Common.{◌∙◌}
use Rattle.afl_base.proofs.CutLaws.{mends_as}
use Rattle.padded.proofs.Facts.{on_err}
use Rattle.stored_mend.proofs.CutTrees.{key_inserted}
use Rattle.stored_mend.proofs.trees.put_key.Goals as goal

pub returns-in_err-insert-clause-cut : goal.returns-in_err-insert-clause-cut
returns-in_err-insert-clause-cut g c = λ keys tree many cuts told.
    let old = g.V.Files.state c.args.files.now in
    let mid = g.V.Files.state c.prepare.new.self in
    let kept = rw c.in_ok-room.ensures.frame.same at c.in-Ok.ensures.contents in
    on_err c.from_residual-in_err-insert.result
    (mends_as (c.in_err-insert.ensures.cut cuts (kept.tells ∙ told))
    (λ after part. key_inserted old mid c.args.tree c.requires.live told kept after c.in_ok-room.room c.args.key.now c.args.slot keys tree many (c.in_ok-room.ensures.room told keys tree) part))
