use Rattle.std.proofs.Common.{subst}
use Rattle.std.proofs.lemmas.Result.{on_ok_weaker}
use Rattle.coffee_find.specs.Found.{meant}
use Rattle.coffee_cuts.specs.Cuts.{settled}
use Rattle.coffee_mend.specs.Completed.{AwaitsCopy, WantsCopy}
use Rattle.coffee_mend.specs.Mended.{IsCrowded, IsTornAs}
use Rattle.coffee_mend.proofs.Mends.{cut_settles, failed_more, mended_crowded, mended_cut, mended_torn, mended_whole, space_both, space_more, torn_found}
use Rattle.coffee_mend.proofs.Settlings.{settling_mends}
use Rattle.coffee_mend.proofs.mending.mend.Goals as goal

pub returns-in-None-clause-mended : goal.returns-in-None-clause-mended
returns-in-None-clause-mended g c = λ told cut.
    mended_whole (g.F.Flash.image c.args.flash.now) (g.F.Flash.image c.settle.new.flash) c.args.trouble.now cut c.in-None.is (c.in-Ok.ensures.settled told)

pub returns-in-Some-clause-mended : goal.returns-in-Some-clause-mended
returns-in-Some-clause-mended g c = λ told cut.
    let old = g.F.Flash.image c.args.flash.now in
    let mid = g.F.Flash.image c.settle.new.flash in
    let r = c.in-Some.torn in
    let new = g.F.Flash.image c.mend_torn.new.flash in
    on_ok_weaker c.mend_torn.result (λ joined. mended_torn old mid new c.args.trouble.now r cut c.in-Some.is (c.in-Ok.ensures.settled told) joined)
    (c.mend_torn.ensures.mended told (torn_found old mid c.args.trouble.now r cut c.in-Some.is (c.in-Ok.ensures.settled told)))

pub returns-in-Some-clause-space : goal.returns-in-Some-clause-space
returns-in-Some-clause-space g c = λ told cut.
    let old = g.F.Flash.image c.args.flash.now in
    let mid = g.F.Flash.image c.settle.new.flash in
    let r = c.in-Some.torn in
    let new = g.F.Flash.image c.mend_torn.new.flash in
    space_more (λ need. IsTornAs mid new r.log.0 r.place need) (λ need. IsCrowded old new need) c.mend_torn.result
    (λ need t. mended_crowded old mid new c.args.trouble.now r cut c.in-Some.is (c.in-Ok.ensures.settled told) need t)
    (c.mend_torn.ensures.space told (torn_found old mid c.args.trouble.now r cut c.in-Some.is (c.in-Ok.ensures.settled told)))

pub returns-in-Some-clause-wanted : goal.returns-in-Some-clause-wanted
returns-in-Some-clause-wanted g c = λ told cut.
    let old = g.F.Flash.image c.args.flash.now in
    let mid = g.F.Flash.image c.settle.new.flash in
    let r = c.in-Some.torn in
    let new = g.F.Flash.image c.mend_torn.new.flash in
    let is = c.in-Ok.ensures.settled told in
    let sound = torn_found old mid c.args.trouble.now r cut c.in-Some.is is in
    space_both (λ need. IsTornAs mid new r.log.0 r.place need) (λ need. WantsCopy mid r) (λ need. AwaitsCopy old new c.args.trouble.now) c.mend_torn.result
    (λ need t wants. record { torn = r; found = c.in-Some.is; wants = subst (λ x. WantsCopy x r) is wants; still = t.torn })
    (c.mend_torn.ensures.space told sound) (c.mend_torn.ensures.wanted told sound)

pub returns-in_default-clause-cut : goal.returns-in_default-clause-cut
returns-in_default-clause-cut g c = λ t u cut.
    settling_mends (g.F.Flash.image c.args.flash.now) (g.F.Flash.image c.settle.new.flash) (meant c.args.trouble.now.under_way) cut.found (cut_settles (settled (g.F.Flash.image c.args.flash.now) (meant c.args.trouble.now.under_way)) c.args.trouble.now.torn cut.settles)
    (c.in_default.ensures.cut t u)

pub returns-in-Some-clause-cut : goal.returns-in-Some-clause-cut
returns-in-Some-clause-cut g c = λ t u cut.
    let old = g.F.Flash.image c.args.flash.now in
    let mid = g.F.Flash.image c.settle.new.flash in
    let r = c.in-Some.torn in
    failed_more _ _ c.mend_torn.result (λ m. mended_cut old mid (g.F.Flash.image c.mend_torn.new.flash) c.args.trouble.now r cut c.in-Some.is (c.in-Ok.ensures.settled t) m)
    (c.mend_torn.ensures.cut t u (torn_found old mid c.args.trouble.now r cut c.in-Some.is (c.in-Ok.ensures.settled t)))
