use Rattle.std.proofs.Common.{List, Some, ℕ, refl, sym, subst}
use Rattle.std.specs.Prelude.{IfOk}
use Rattle.coffee_find.specs.Guesses.{MissesNoWay}
use Rattle.coffee_find.specs.declared.finding.Guess.{Guess}
use Rattle.coffee_find.specs.declared.trouble.UnderWay.TheVariants.{Nothing}
use Rattle.coffee_find.proofs.Guessed.{misses_no_header, misses_no_sector, misses_no_torn_header, misses_no_twins, misses_nothing}
use Rattle.coffee_find.proofs.finding.find.Goals as goal

pub returns-in-Nothing-clause-all : goal.returns-in-Nothing-clause-all
returns-in-Nothing-clause-all g c = λ t.
    let image : List ℕ = g.F.Flash.image c.args.flash.now in
    subst (λ (guess : Guess). MissesNoWay image guess c.args.page.0 (Some Nothing)) (sym c.in-Nothing.is) (misses_nothing image c.args.page.0 Nothing refl)

pub returns-in-Header-clause-all : goal.returns-in-Header-clause-all
returns-in-Header-clause-all g c = λ t.
    let image : List ℕ = g.F.Flash.image c.args.flash.now in
    subst (λ (guess : Guess). IfOk c.find_header.result (MissesNoWay image guess c.args.page.0)) (sym c.in-Header.is)
    (misses_no_header image c.args.page.0 c.find_header.result (c.find_header.ensures.found t) c.find_header.ensures.guess (c.find_header.ensures.none t))

pub returns-in-TornHeader-clause-all : goal.returns-in-TornHeader-clause-all
returns-in-TornHeader-clause-all g c = λ t.
    let image : List ℕ = g.F.Flash.image c.args.flash.now in
    subst (λ (guess : Guess). IfOk c.find_torn_header.result (MissesNoWay image guess c.args.page.0)) (sym c.in-TornHeader.is)
    (misses_no_torn_header image c.args.page c.find_torn_header.result c.find_torn_header.ensures.is (c.find_torn_header.ensures.none t))

pub returns-in-Erased-clause-all : goal.returns-in-Erased-clause-all
returns-in-Erased-clause-all g c = λ t.
    let image : List ℕ = g.F.Flash.image c.args.flash.now in
    subst (λ (guess : Guess). IfOk c.find_erased.result (MissesNoWay image guess c.args.page.0)) (sym c.in-Erased.is)
    (misses_no_sector image c.args.page.0 c.find_erased.result c.find_erased.ensures.guess (c.find_erased.ensures.none t))

pub returns-in-Replaced-clause-all : goal.returns-in-Replaced-clause-all
returns-in-Replaced-clause-all g c = λ t.
    let image : List ℕ = g.F.Flash.image c.args.flash.now in
    subst (λ (guess : Guess). IfOk c.find_replaced.result (MissesNoWay image guess c.args.page.0)) (sym c.in-Replaced.is)
    (misses_no_twins image c.args.page.0 c.find_replaced.result (c.find_replaced.ensures.all t))
