use Rattle.std.proofs.Common.{◌+◌, ◌*◌, rules, arith, sym}
use Rattle.std.proofs.lemmas.Option.{IfSome_then}
use Rattle.coffee_find.specs.Found.{placed_of}
use Rattle.coffee_find.specs.Search.{AreTwins, IsFileIn}
use Rattle.coffee_find.proofs.Pairs.{ahead_end, ahead_start, ahead_step}
use Rattle.coffee_find.proofs.twins.find_replaced.Goals as goal

pub returns-in-Some-2-clause-found : goal.returns-in-Some-2-clause-found
returns-in-Some-2-clause-found g c = λ t.
    let image = g.F.Flash.image c.args.flash.now in
    let first : IsFileIn image c.in-Some.file = (rw (c.loop-turn.invariant.same, c.in-Some.is) at (c.in_ok-file.ensures.file t)) in
    let second : IsFileIn image c.in-Some-2.twin = (rw (c.file_from.ensures.frame.same, c.loop-turn.invariant.same, c.in-Some-2.is) at (c.in_ok-twin.ensures.file t)) in
    let behind = (rw c.in-Some-2.is at c.in_ok-twin.ensures.behind) in
    let named = (rw c.in-Some-2.is at c.in_ok-twin.ensures.named) in
    let twins : AreTwins image c.in-Some.file c.in-Some-2.twin = record { first_there = first; second_there = second; order = behind; one_name = sym named } in
    IfSome_then c.in_order.result c.in_order.ensures.found (λ u f. f image twins)

pub loop-turn-init : goal.loop-turn-init
loop-turn-init g c = record {
  size = omega arith;
  small = omega arith;
  same = search rules;
  lent = search rules;
  reads = search rules;
  later = search rules;
  faults = search rules;
  ahead = λ t. ahead_start (g.F.Flash.image c.args.flash.now);
}

pub loop-turn-preserved : goal.loop-turn-preserved
loop-turn-preserved g c = record {
  size = search rules;
  small = search rules;
  same = search rules;
  lent = search rules;
  reads = search rules;
  later = search rules;
  faults = search rules;
  ahead = λ t.
      let image = g.F.Flash.image c.args.flash.now in
      let same = c.loop-turn.invariant.same in
      let size = c.loop-turn.invariant.size in
      let there : IsFileIn image c.in-Some.file = rw (same, c.in-Some.is) at (c.in_ok-file.ensures.file t) in
      ahead_step image (16 * c.sectors-pages.result) c.loop-turn.from c.loop-turn._turn (placed_of c.in-Some.file) (omega (arith, size)) there
      (rw c.in-Some.is at c.in_ok-file.ensures.from)
      (rw (same, c.in-Some.is) at (c.in_ok-file.ensures.first t))
      (rw (c.file_from.ensures.frame.same, same, c.in_default-2.is) at (c.in_ok-twin.ensures.none t))
      (c.loop-turn.invariant.ahead t);
}

pub returns-in_default-clause-all : goal.returns-in_default-clause-all
returns-in_default-clause-all g c = λ t dropped kept m.
    let ahead = c.loop-turn.invariant.ahead t dropped kept m in
    (rw (c.loop-turn.invariant.same, c.in_default.is) at (c.in_ok-file.ensures.none t)) (dropped.page + 1) dropped m.found.dropped_there ahead.first (omega arith) tt

pub returns-in-Some-2-clause-all : goal.returns-in-Some-2-clause-all
returns-in-Some-2-clause-all g c = λ t.
    let image = g.F.Flash.image c.args.flash.now in
    let size = c.loop-turn.invariant.size in
    let first : IsFileIn image c.in-Some.file = (rw (c.loop-turn.invariant.same, c.in-Some.is) at (c.in_ok-file.ensures.file t)) in
    let second : IsFileIn image c.in-Some-2.twin = (rw (c.file_from.ensures.frame.same, c.loop-turn.invariant.same, c.in-Some-2.is) at (c.in_ok-twin.ensures.file t)) in
    let behind = (rw c.in-Some-2.is at c.in_ok-twin.ensures.behind) in
    let named = (rw c.in-Some-2.is at c.in_ok-twin.ensures.named) in
    let twins : AreTwins image c.in-Some.file c.in-Some-2.twin = record { first_there = first; second_there = second; order = behind; one_name = sym named } in
    λ dropped kept m. c.in_order.ensures.all image (16 * c.sectors-pages.result) dropped kept (omega (arith, size)) twins m

pub returns-clause-all : goal.returns-clause-all
returns-clause-all g c = λ t dropped kept m.
    let size = c.loop-turn.invariant.size in
    ahead_end (g.F.Flash.image c.args.flash.now) (16 * c.sectors-pages.result) c.loop-turn.from c.loop-turn._turn dropped kept (omega (arith, size)) (omega (arith, c.loop-turn-test.false)) (c.loop-turn.invariant.ahead t) m
