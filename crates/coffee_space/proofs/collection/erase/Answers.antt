use Rattle.std.proofs.Common.{rules, ◌≡◌, ◌+◌, ◌-◌, ◌/◌, length, if◌then◌else◌, arith, ap, ◌∙◌}
use Rattle.coffee_space.specs.Collection.{number_taken}
use Rattle.coffee_space.specs.Sectors.{taken_in}
use Rattle.coffee_space.proofs.Erasing.{at_most_one, erases_all, erases_more, one_fewer}
use Rattle.coffee_space.proofs.collection.erase.Goals as goal

pub loop-sector-preserved : goal.loop-sector-preserved
loop-sector-preserved g c =
    let one = at_most_one c.takes.result in
    let is = c.in_ok-number.ensures.number ∙ ap (λ b. if b then 1 else 0) c.takes.ensures in
    let next : c.loop-sector.sector ≡ c.loop-sector.sector - 1 + 1 = omega (arith, c.loop-sector-test.true) in
    record {
      within = omega arith;
      size = search rules;
      lent = search rules;
      reads = search rules;
      faults = search rules;
      few = rw c.in_ok-number.ensures.number (omega (arith, one));
      number = one_fewer (taken_in c.args.sectors.now.used.bits c.args.sectors.now.active.bits) c.loop-sector.sector c.loop-sector.number c.in_ok-number.field-0 (number_taken (taken_in c.args.sectors.now.used.bits c.args.sectors.now.active.bits) (length (g.F.Flash.image c.args.flash.now) / 4096)) c.loop-sector-test.true is c.loop-sector.invariant.number;
      erased = λ t. erases_more (taken_in c.args.sectors.now.used.bits c.args.sectors.now.active.bits) c.takes.result (g.F.Flash.image c.args.flash.now) (g.F.Flash.image c.loop-sector.flash) (g.F.Flash.image c.erase_sector.new.flash) (c.loop-sector.sector - 1) c.loop-sector.sector
          next c.takes.ensures (c.loop-sector.invariant.erased t)
          (record { erased = c.in_ok-number.ensures.erased t; unwanted = c.in_ok-number.ensures.unwanted t; others = c.in_ok-number.ensures.others t });
    }

pub returns-clause-erased : goal.returns-clause-erased
returns-clause-erased g c = λ t. erases_all (taken_in c.args.sectors.now.used.bits c.args.sectors.now.active.bits) (g.F.Flash.image c.args.flash.now) (g.F.Flash.image c.loop-sector.flash) c.loop-sector.sector (omega arith) (c.loop-sector.invariant.erased t)
