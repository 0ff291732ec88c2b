use Rattle.std.proofs.Common.{◌*◌, ◌/◌, ℕ}
use Rattle.afl_base.specs.Image.{zeros_at}
use Rattle.coffee_find.specs.Search.{HasNoFront, IsBlankFrom, LiesInSector, NoneFree}
use Rattle.coffee_find.proofs.Erasings.{blank_front, has_front}
use Rattle.coffee_find.proofs.Results.{none_then}
use Rattle.coffee_find.proofs.erased.find_erased.Goals as goal

pub returns-in-Some-clause-none : goal.returns-in-Some-clause-none
returns-in-Some-clause-none g c = λ t.
    let image = g.F.Flash.image c.args.flash.now in
    let sector : ℕ = c.args.page.0 / 16 in
    let lies : LiesInSector sector c.in-Some.page.0 = rw c.in-Some.is at c.in_ok-page.ensures.inside in
    let lowest : NoneFree (zeros_at image (4096 * sector) 4096) (16 * sector) c.in-Some.page.0 = rw c.in-Some.is at (c.in_ok-page.ensures.lowest t) in
    none_then (IsBlankFrom image sector c.in-Some.page.0 → ⊥) _ c.find_blank.result
    (λ blank p e s. blank (blank_front image c.sectors.result c.sectors.ensures.size sector p e s c.in-Some.page.0 lies lowest))
    (rw c.erased_front.ensures.frame.same at (c.find_blank.ensures.none t))

pub returns-in-None-clause-none : goal.returns-in-None-clause-none
returns-in-None-clause-none g c = λ t p e s.
    let image = g.F.Flash.image c.args.flash.now in
    let sector : ℕ = c.args.page.0 / 16 in
    let none : HasNoFront (zeros_at image (4096 * sector) 4096) sector = rw c.in-None.is at (c.in_ok-page.ensures.none t) in
    has_front image c.sectors.result c.sectors.ensures.size sector p e s none
