use Rattle.std.proofs.Common.{Some, IfErr, OnOk, subst, sym}
use Rattle.coffee_mend.proofs.Mends.{cut_like, space_more}
use Rattle.coffee_mend.proofs.Supersedings.{sound_without, torn_of}
use Rattle.coffee_mend.specs.Completed.{LackBits, WantsCopy, regions_below}
use Rattle.coffee_mend.specs.Mended.{IsSoundAs, IsTornAs, MendsLike, OnFlashFailed, OnLacking}
use Rattle.coffee_mend.specs.Superseding.{IsTornOf}
use Rattle.coffee_mend.proofs.mending.mend_torn.Goals as goal

pub returns-in-Err-clause-cut : goal.returns-in-Err-clause-cut
returns-in-Err-clause-cut g c = λ t u but.
    subst (MendsLike (g.F.Flash.image c.args.flash.now)) (sym c.owner_beside.ensures.frame.same) (cut_like (g.F.Flash.image c.args.flash.now) (Some c.args.torn.now) but)

pub returns-in-Ok-None-clause-settles : goal.returns-in-Ok-None-clause-settles
returns-in-Ok-None-clause-settles g c = λ told but strange.
    let is = sound_without (g.F.Flash.image c.args.flash.now) c.sectors.result c.sectors.ensures.size c.args.torn.now c.requires.torn but in
    c.in-Ok-None.ensures.known told is.0 is.1 c.in-Ok-None.field-0-is

pub returns-else-can_be_superseded-clause-mended : goal.returns-else-can_be_superseded-clause-mended
returns-else-can_be_superseded-clause-mended g c = λ told but.
    let old = g.F.Flash.image c.args.flash.now in
    let r = c.args.torn.now in
    let file = c.in-Ok-Some.file in
    let f = rw c.in-Ok-Some.field-0-is at (c.in-Ok-Some.ensures.owner told) in
    let last = c.can_be_superseded.ensures.neither c.if-can_be_superseded.false in
    let of : IsTornOf old r file = torn_of old c.sectors.result c.sectors.ensures.size r c.requires.torn file c.owner_beside.new.into f last but in
    subst (λ x. OnOk c.complete_or_join.result (IsSoundAs x (g.F.Flash.image c.complete_or_join.new.flash))) c.owner_beside.ensures.frame.same
    (c.complete_or_join.ensures.joined told (subst (λ x. IsTornOf x r file) (sym c.owner_beside.ensures.frame.same) of))

pub returns-else-can_be_superseded-clause-space : goal.returns-else-can_be_superseded-clause-space
returns-else-can_be_superseded-clause-space g c = λ told but.
    let old = g.F.Flash.image c.args.flash.now in
    let r = c.args.torn.now in
    let file = c.in-Ok-Some.file in
    let f = rw c.in-Ok-Some.field-0-is at (c.in-Ok-Some.ensures.owner told) in
    let last = c.can_be_superseded.ensures.neither c.if-can_be_superseded.false in
    let of : IsTornOf old r file = torn_of old c.sectors.result c.sectors.ensures.size r c.requires.torn file c.owner_beside.new.into f last but in
    subst (λ x. IfErr c.complete_or_join.result (λ e. OnLacking e (λ need. IsTornAs x (g.F.Flash.image c.complete_or_join.new.flash) r.log.0 r.place need))) c.owner_beside.ensures.frame.same
    (c.complete_or_join.ensures.space told (subst (λ x. IsTornOf x r file) (sym c.owner_beside.ensures.frame.same) of))

pub returns-else-can_be_superseded-clause-wanted : goal.returns-else-can_be_superseded-clause-wanted
returns-else-can_be_superseded-clause-wanted g c = λ told but.
    let old = g.F.Flash.image c.args.flash.now in
    let r = c.args.torn.now in
    let file = c.in-Ok-Some.file in
    let f = rw c.in-Ok-Some.field-0-is at (c.in-Ok-Some.ensures.owner told) in
    let last = c.can_be_superseded.ensures.neither c.if-can_be_superseded.false in
    let of : IsTornOf old r file = torn_of old c.sectors.result c.sectors.ensures.size r c.requires.torn file c.owner_beside.new.into f last but in
    space_more _ (λ need. WantsCopy old r) c.complete_or_join.result
    (λ need lacks. record { file = file; of = of; last = last; lacks = subst (λ x. LackBits x r.place file (regions_below file.size)) c.owner_beside.ensures.frame.same lacks })
    (c.complete_or_join.ensures.tried told)

pub returns-else-can_be_superseded-clause-cut : goal.returns-else-can_be_superseded-clause-cut
returns-else-can_be_superseded-clause-cut g c = λ t u but.
    let old = g.F.Flash.image c.args.flash.now in
    let r = c.args.torn.now in
    let file = c.in-Ok-Some.file in
    let f = rw c.in-Ok-Some.field-0-is at (c.in-Ok-Some.ensures.owner t) in
    let last = c.can_be_superseded.ensures.neither c.if-can_be_superseded.false in
    let of : IsTornOf old r file = torn_of old c.sectors.result c.sectors.ensures.size r c.requires.torn file c.owner_beside.new.into f last but in
    subst (λ x. IfErr c.complete_or_join.result (λ e. OnFlashFailed e (MendsLike x (g.F.Flash.image c.complete_or_join.new.flash)))) c.owner_beside.ensures.frame.same
    (c.complete_or_join.ensures.cut t u (subst (λ x. IsTornOf x r file) (sym c.owner_beside.ensures.frame.same) of))
