use Rattle.std.proofs.Common.{arith}
use Rattle.padded.proofs.Facts.{on_err}
use Rattle.afl_base.proofs.CutLaws.{mends_as}
use Rattle.tuple_file.proofs.Cuts.{may_mark}
use Rattle.tuple_file.proofs.Marks.{rows-mark, written-mark}
use Rattle.tuple_file.proofs.Slots.{holds_after, slots_of_whole}
use Rattle.tuple_file.proofs.tuples.Tuples.mark.Goals as goal
use Rattle.std.proofs.lemmas.Grind.{common_steps}

pub returns-clause-marked : goal.returns-clause-marked
returns-clause-marked g c = grind (arith, common_steps)

pub returns-clause-rows : goal.returns-clause-rows
returns-clause-rows g c told = grind (arith, common_steps, returns-clause-marked, rows-mark)

pub returns-clause-slots : goal.returns-clause-slots
returns-clause-slots g c = grind (arith, common_steps, slots_of_whole)

pub returns-clause-holds : goal.returns-clause-holds
returns-clause-holds g c = grind (arith, common_steps, holds_after, returns-clause-marked, written-mark)

pub returns-in_err-overwrite-clause-cut : goal.returns-in_err-overwrite-clause-cut
returns-in_err-overwrite-clause-cut g c = λ cuts told. on_err c.from_residual.result (mends_as (c.in_err-overwrite.ensures.cut cuts told)
    (λ after front. may_mark (g.V.Files.state c.args.files.now) after c.args.self.now c.args.slot _ c.requires.holds c.requires.slot told (grind (arith, common_steps)) front))
