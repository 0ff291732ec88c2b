use Rattle.afl_base.proofs.CutLaws.{mends_now}
use Rattle.stored_mend.proofs.CutCalls.{failed_handed}
use Rattle.stored_mend.proofs.CutFronts.{nothing_put}
use Rattle.stored_mend.proofs.catalogs.overwrite.Goals as goal

pub returns-in_err-prepare-clause-cut : goal.returns-in_err-prepare-clause-cut
returns-in_err-prepare-clause-cut g c = λ cuts told failed.
    let old = g.V.Files.state c.args.files.now in
    mends_now old
    (c.prepare.ensures.cut cuts told
    (failed_handed c.prepare.result c.from_residual.result c.in_err-prepare.field-0.0 c.in_err-prepare.was c.from_residual.ensures.1 failed))
    (nothing_put old c.args.cat c.args.at c.args.bytes.now c.requires.catalog.live)
