use Rattle.std.proofs.Common.{subst}
use Rattle.std.specs.Prelude.{IfNone, IfOk}
use Rattle.coffee_find.specs.Search.{NamesNone}
use Rattle.coffee_find.proofs.behind.region_of.Goals as goal

pub returns-clause-none : goal.returns-clause-none
returns-clause-none g c = λ t.
    subst (λ x. IfOk c.region_through-handed.new.found (λ o. IfNone o (NamesNone x c.args.torn.now.log))) (c.overlay_of-overlay.ensures.settled (g.F.Flash.image c.args.flash.now)) (c.region_through-handed.ensures.none t)
