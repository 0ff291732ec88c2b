use Rattle.std.proofs.Common.{◌≡◌, ◌∙◌, inl, true, false, ap, arith, length, rules, sym}
use Rattle.run_repair.proofs.GivenUp.{being_given_up, found_lacking, found_needed, given_up, needed_each}
use Rattle.run_repair.proofs.giving_up.give_up_tree.Goals as goal

pub torn_file-requires : goal.torn_file-requires
torn_file-requires g c = record { inside = rw c.in-Some.ensures.torn at c.requires.inside }

pub discard-requires-clause-log : goal.discard-requires-clause-log
discard-requires-clause-log g c =
    let inside = rw c.in-Some.ensures.torn at c.requires.inside in
    let log = inside.log in
    let same = ap length (c.may_lack.ensures.same ∙ c.torn_file.ensures.frame.same) in
    omega (arith, log, same)

pub returns-in_err-discard-clause-cut : goal.returns-in_err-discard-clause-cut
returns-in_err-discard-clause-cut g c = λ told cuts still.
    let old = g.F.Flash.image c.args.flash.now in
    let torn = c.in-Some.torn in
    let found = c.in-Some.ensures.torn in
    let inside = rw found at c.requires.inside in
    let of = c.in_ok-file.ensures.owner told (inl (c.in-Some.ensures.last, still torn found)) c.in-Some.ensures.last in
    let may = found_lacking old (g.F.Flash.image c.torn_file.new.flash) c.sectors.result c.sectors.ensures.size (omega (arith, c.sectors.ensures.most)) torn inside c.in-Some-2.file c.torn_file.ensures.frame.same
    c.in_ok-file.field-0 of c.in-Some-2.is (λ s. (c.in_ok-may_lack.ensures.lacks told s).0 c.if-not-branch.false) in
    let left = being_given_up old (g.F.Flash.image c.may_lack.new.flash) (g.F.Flash.image c.discard.new.flash) c.sectors.result c.sectors.ensures.size torn c.in-Some-2.file may
    (c.may_lack.ensures.same ∙ c.torn_file.ensures.frame.same) (c.in_err-discard.ensures.cut told cuts) in
    search (rules, left)

pub returns-clause-given : goal.returns-clause-given
returns-clause-given g c = λ told still yet.
    let old = g.F.Flash.image c.args.flash.now in
    let torn = c.in-Some.torn in
    let found = c.in-Some.ensures.torn in
    let inside = rw found at c.requires.inside in
    let of = c.in_ok-file.ensures.owner told (inl (c.in-Some.ensures.last, still torn found)) c.in-Some.ensures.last in
    let may = found_lacking old (g.F.Flash.image c.torn_file.new.flash) c.sectors.result c.sectors.ensures.size (omega (arith, c.sectors.ensures.most)) torn inside c.in-Some-2.file c.torn_file.ensures.frame.same
    c.in_ok-file.field-0 of c.in-Some-2.is (λ s. (c.in_ok-may_lack.ensures.lacks told s).0 c.if-not-branch.false) in
    given_up old (g.F.Flash.image c.may_lack.new.flash) (g.F.Flash.image c.discard.new.flash) c.sectors.result c.sectors.ensures.size torn c.in-Some-2.file may
    (c.may_lack.ensures.same ∙ c.torn_file.ensures.frame.same) (c.in_ok-discard.ensures.discarded told)

-- where none is given up

pub returns-then-not-branch-clause-needed : goal.returns-then-not-branch-clause-needed
returns-then-not-branch-clause-needed g c = λ told still no.
    let old = g.F.Flash.image c.args.flash.now in
    let torn = c.in-Some.torn in
    let found = c.in-Some.ensures.torn in
    let inside = rw found at c.requires.inside in
    let of = c.in_ok-file.ensures.owner told (inl (c.in-Some.ensures.last, still torn found)) c.in-Some.ensures.last in
    needed_each old c.args.trouble.now torn found
    (found_needed old (g.F.Flash.image c.torn_file.new.flash) c.sectors.result c.sectors.ensures.size (omega (arith, c.sectors.ensures.most)) torn inside c.in-Some-2.file c.torn_file.ensures.frame.same
    c.in_ok-file.field-0 of c.in-Some-2.is (λ s may. let no : false ≡ true = sym c.if-not-branch.true ∙ (c.in_ok-may_lack.ensures.lacks told s).1 may in absurd (cc)))
