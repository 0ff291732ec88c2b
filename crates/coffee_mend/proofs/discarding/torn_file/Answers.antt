use Rattle.std.proofs.Common.{inl, length}
use Rattle.coffee_mend.proofs.Discards.{found_one, pages_inside}
use Rattle.coffee_mend.proofs.Supersedings.{sound_without, torn_of}
use Rattle.coffee_mend.proofs.discarding.torn_file.Goals as goal

pub returns-clause-owner : goal.returns-clause-owner
returns-clause-owner g c = λ told but last.
    let old = g.F.Flash.image c.args.flash.now in
    let r = c.args.torn.now in
    let is = sound_without old c.sectors.result c.sectors.ensures.size r c.requires.inside but in
    found_one c.owner_beside.result
    (λ file first. torn_of old c.sectors.result c.sectors.ensures.size r c.requires.inside file c.owner_beside.new.into first (inl last) but)
    (c.owner_beside.ensures.known told is.0 is.1) (c.owner_beside.ensures.owner told)

pub returns-clause-page : goal.returns-clause-page
returns-clause-page g c = pages_inside (length (g.F.Flash.image c.args.flash.now)) c.owner_beside.result c.owner_beside.ensures.fits
