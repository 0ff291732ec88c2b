use Rattle.std.proofs.lemmas.Option.{IfSome_then}
use Rattle.coffee_find.proofs.Pairs.{first_kept, second_kept, twins_found, twins_found_back}
use Rattle.coffee_find.proofs.twins.in_order.Goals as goal

pub returns-then-is_first_kept-clause-found : goal.returns-then-is_first_kept-clause-found
returns-then-is_first_kept-clause-found c =
    let more = c.is_first_kept.ensures.yes c.if-is_first_kept.true in
    IfSome_then c.replacing.result c.replacing.ensures.found
    (λ u f image twins. twins_found_back image c.args.first.now c.args.second.now u twins f.0 (f.1, f.2) more.1)

pub returns-then-is_first_kept-clause-all : goal.returns-then-is_first_kept-clause-all
returns-then-is_first_kept-clause-all c = λ image pages dropped kept size twins m.
    first_kept image pages size dropped kept m c.args.first.now c.args.second.now c.replacing.result twins (c.is_first_kept.ensures.yes c.if-is_first_kept.true)
    (IfSome_then c.replacing.result c.replacing.ensures.found (λ u f. f.0)) c.replacing.ensures.none

pub returns-else-is_first_kept-clause-found : goal.returns-else-is_first_kept-clause-found
returns-else-is_first_kept-clause-found c =
    IfSome_then c.replacing-else-is_first_kept.result c.replacing-else-is_first_kept.ensures.found
    (λ u f image twins. twins_found image c.args.first.now c.args.second.now u twins f.0 (f.1, f.2) (c.is_first_kept.ensures.no c.if-is_first_kept.false))

pub returns-else-is_first_kept-clause-all : goal.returns-else-is_first_kept-clause-all
returns-else-is_first_kept-clause-all c = λ image pages dropped kept size twins m.
    second_kept image pages size dropped kept m c.args.first.now c.args.second.now c.replacing-else-is_first_kept.result twins (c.is_first_kept.ensures.no c.if-is_first_kept.false)
    (IfSome_then c.replacing-else-is_first_kept.result c.replacing-else-is_first_kept.ensures.found (λ u f. f.0)) c.replacing-else-is_first_kept.ensures.none
