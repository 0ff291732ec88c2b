use Rattle.std.proofs.Common.{◌∙◌, subst, sym, arith}
use Rattle.coffee_mend.proofs.Joins.{HasLogOf, log_found, log_listed}
use Rattle.coffee_mend.proofs.owner.owner.Goals as goal

pub returns-in-None-clause-known : goal.returns-in-None-clause-known
returns-in-None-clause-known g c = λ told sound active none.
    let judged = rw c.in-Ok.is at (c.in_ok-check.ensures.judged told) in
    let there : HasLogOf c.deref.result.now c.args.log =
    subst (λ files. HasLogOf files c.args.log) (sym (c.deref.ensures.0 ∙ judged.1)) (log_listed (g.F.Flash.image c.args.flash.now) c.args.log sound (omega (arith, c.sectors.ensures.size)) active) in
    log_found c.deref.result.now c.args.log there (c.file_of_log.ensures.none c.in-None.is)
