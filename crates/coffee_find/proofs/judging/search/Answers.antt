use Rattle.std.proofs.Common.{List, ℕ, inl, inr, arith}
use Rattle.coffee_layout.specs.declared.unit.BadImage.{BadImage}
use Rattle.coffee_find.specs.Found.{MendsToNone}
use Rattle.coffee_find.specs.Guesses.{IsHeadWrong, IsWrong}
use Rattle.coffee_find.specs.declared.finding.Guess.TheVariants.{Nothing, Header, Erased, Replaced}
use Rattle.coffee_find.proofs.Results.{none_then}
use Rattle.coffee_find.proofs.Searched.{erased_wrong, head_wrong, mends_to_none, named_wrong, none_wrong, nothing_wrong, replaced_wrong}
use Rattle.coffee_find.proofs.judging.search.Goals as goal
use Rattle.coffee_find.proofs.judging.search.Goals.{in_default-via-then-bad-lt1, in_default-via-else-bad-lt1+else-bad-lt5+else-bad-lt7+else-bad-lt10}

pub returns-in-1-clause-none : goal.returns-in-1-clause-none
returns-in-1-clause-none g c = λ t broken.
    let image : List ℕ = g.F.Flash.image c.args.flash.now in
    let bad : BadImage = c.args.bad.now in
    none_then (IsHeadWrong image bad.place) (MendsToNone image) c.search_head.result
    (λ wrong. mends_to_none image c.sectors.result c.sectors.ensures.size bad broken (head_wrong image bad c.in-1.is wrong)) (c.search_head.ensures.none t)

pub returns-in-10-clause-none : goal.returns-in-10-clause-none
returns-in-10-clause-none g c = λ t broken.
    let image : List ℕ = g.F.Flash.image c.args.flash.now in
    let bad : BadImage = c.args.bad.now in
    none_then (IsWrong image bad.place Nothing) (MendsToNone image) c.search_for.result
    (λ wrong. mends_to_none image c.sectors.result c.sectors.ensures.size bad broken (nothing_wrong image bad (omega arith) wrong)) (c.search_for.ensures.none t)

pub returns-in-12-clause-none : goal.returns-in-12-clause-none
returns-in-12-clause-none g c = λ t broken.
    let image : List ℕ = g.F.Flash.image c.args.flash.now in
    let bad : BadImage = c.args.bad.now in
    none_then (IsWrong image bad.place Nothing) (MendsToNone image) c.search_for-in-12.result
    (λ wrong. mends_to_none image c.sectors.result c.sectors.ensures.size bad broken (nothing_wrong image bad (omega arith) wrong)) (c.search_for-in-12.ensures.none t)

pub returns-in-2-clause-none : goal.returns-in-2-clause-none
returns-in-2-clause-none g c = λ t broken.
    let image : List ℕ = g.F.Flash.image c.args.flash.now in
    let bad : BadImage = c.args.bad.now in
    none_then (IsWrong image bad.place Erased) (MendsToNone image) c.search_for-in-2.result
    (λ wrong. mends_to_none image c.sectors.result c.sectors.ensures.size bad broken (erased_wrong image bad (omega arith) (omega arith) wrong)) (c.search_for-in-2.ensures.none t)

pub returns-in-5-clause-none : goal.returns-in-5-clause-none
returns-in-5-clause-none g c = λ t broken.
    let image : List ℕ = g.F.Flash.image c.args.flash.now in
    let bad : BadImage = c.args.bad.now in
    none_then (IsWrong image bad.place Replaced) (MendsToNone image) c.search_for-in-5.result
    (λ wrong. mends_to_none image c.sectors.result c.sectors.ensures.size bad broken (replaced_wrong image bad (omega arith) (omega arith) wrong)) (c.search_for-in-5.ensures.none t)

pub returns-in-7-clause-none : goal.returns-in-7-clause-none
returns-in-7-clause-none g c = λ t broken.
    let image : List ℕ = g.F.Flash.image c.args.flash.now in
    let bad : BadImage = c.args.bad.now in
    none_then (IsWrong image bad.place Header) (MendsToNone image) c.search_for-in-7.result
    (λ wrong. mends_to_none image c.sectors.result c.sectors.ensures.size bad broken (named_wrong image bad (omega arith) (omega arith) wrong)) (c.search_for-in-7.ensures.none t)

pub returns-in_default-clause-none : goal.returns-in_default-clause-none
returns-in_default-clause-none g c = λ t broken.
    let image : List ℕ = g.F.Flash.image c.args.flash.now in
    let bad : BadImage = c.args.bad.now in
    mends_to_none image c.sectors.result c.sectors.ensures.size bad broken (none_wrong image bad (elim c.in_default.branch [
      | in_default-via-then-bad-lt1 w ↦ inl (omega arith)
      | in_default-via-else-bad-lt1+else-bad-lt5+else-bad-lt7+else-bad-lt10 w ↦ inr (omega arith, (λ e. omega (arith, e)), (λ e. omega (arith, e)))
    ]))
