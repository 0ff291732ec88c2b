use Rattle.std.proofs.Common.{◌≡◌, Some, subst}
use Rattle.std.specs.Prelude.{IfOk}
use Rattle.coffee_layout.specs.Rules.{broken_image}
use Rattle.coffee_find.specs.Search.{IsTornAtMost, MissesNone}
use Rattle.coffee_find.proofs.Missed.{at_most, other_rule}
use Rattle.coffee_find.proofs.settling.judged.Goals as goal

pub returns-then-is_of_record-clause-misses : goal.returns-then-is_of_record-clause-misses
returns-then-is_of_record-clause-misses g c = λ t.
    let image = g.F.Flash.image c.args.flash.now in
    let broken : broken_image image ≡ Some c.in-Err.bad = rw c.in-Err.is at (c.in_ok-check.ensures.judged t) in
    subst (λ x. IsTornAtMost x c.in-Err.bad.place → IfOk c.torn_record.result (λ v. MissesNone x v)) c.in_ok-check.ensures.frame.same (c.torn_record.ensures.misses t)
    (at_most image c.sectors.result c.sectors.ensures.size c.in-Err.bad broken)

pub returns-else-is_of_record-clause-misses : goal.returns-else-is_of_record-clause-misses
returns-else-is_of_record-clause-misses g c = λ t s.
    let image = g.F.Flash.image c.args.flash.now in
    let broken : broken_image image ≡ Some c.in-Err.bad = rw c.in-Err.is at (c.in_ok-check.ensures.judged t) in
    let no = c.is_of_record.ensures.no c.if-is_of_record.false in
    other_rule image c.sectors.result c.sectors.ensures.size c.in-Err.bad broken no.0 no.1 s
