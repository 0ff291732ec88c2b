use Rattle.std.proofs.Common.{ap, length, subst, sym}
use Rattle.coffee_find.specs.Found.{IsCutBy, IsTroubleInside}
use Rattle.run_repair.proofs.Settled.{cut_found, cut_refused, of_no_files, strange_found}
use Rattle.run_repair.proofs.finding.find_out.Goals as goal

pub survey_image-requires : goal.survey_image-requires
survey_image-requires g c = record {
  inside = subst (λ n. IsTroubleInside n c.in-Some.trouble) (sym (ap length c.judge.ensures.frame.same))
      (c.in-Some.ensures.inside (length (g.F.Flash.image c.judge_image.new.flash)) c.in_ok-judge.ensures.inside);
}

pub returns-in_default-trouble_of-clause-found : goal.returns-in_default-trouble_of-clause-found
returns-in_default-trouble_of-clause-found g c = λ told.
    let first = g.F.Flash.image c.judge_image.new.flash in
    strange_found (g.F.Flash.image c.args.flash.now) first c.in_ok-bad.field-0 c.in-Err.bad c.judge_image.ensures.same (c.in_ok-bad.ensures.bad told) c.in-Err.is
    (of_no_files first (c.in_default-trouble_of.ensures.none first (c.in_ok-judge.ensures.judged told)))

pub returns-clause-inside : goal.returns-clause-inside
returns-clause-inside g c =
    subst (λ n. IsTroubleInside n c.in-Some.trouble) (ap length c.judge_image.ensures.same)
    (c.in-Some.ensures.inside (length (g.F.Flash.image c.judge_image.new.flash)) c.in_ok-judge.ensures.inside)

pub returns-then-not-branch-clause-found : goal.returns-then-not-branch-clause-found
returns-then-not-branch-clause-found g c = λ told.
    let old = g.F.Flash.image c.args.flash.now in
    let first = g.F.Flash.image c.judge_image.new.flash in
    let second = g.F.Flash.image c.judge.new.flash in
    let cut = c.in-Some.ensures.cut first (c.in_ok-judge.ensures.judged told) in
    cut_refused old first second c.in_ok-bad.field-0 c.in-Err.bad c.in-Some.trouble c.in_ok-survey_image.field-0 c.sectors.result c.sectors.ensures.size
    (subst (λ n. IsTroubleInside n c.in-Some.trouble) (ap length c.judge_image.ensures.same) (c.in-Some.ensures.inside (length first) c.in_ok-judge.ensures.inside))
    c.judge_image.ensures.same c.judge.ensures.frame.same (c.in_ok-bad.ensures.bad told) c.in-Err.is cut
    (c.in_ok-survey_image.ensures.surveyed told (subst (λ i. IsCutBy i c.in-Some.trouble) (sym c.judge.ensures.frame.same) cut)) c.if-not-branch.true

pub returns-clause-found : goal.returns-clause-found
returns-clause-found g c = λ told.
    let old = g.F.Flash.image c.args.flash.now in
    let first = g.F.Flash.image c.judge_image.new.flash in
    let second = g.F.Flash.image c.judge.new.flash in
    let cut = c.in-Some.ensures.cut first (c.in_ok-judge.ensures.judged told) in
    cut_found old first second c.in_ok-bad.field-0 c.in-Err.bad c.in-Some.trouble c.in_ok-survey_image.field-0 c.sound_image_breaks_no_rule.ensures
    c.judge_image.ensures.same c.judge.ensures.frame.same (c.in_ok-bad.ensures.bad told) c.in-Err.is cut
    (c.in_ok-survey_image.ensures.surveyed told (subst (λ i. IsCutBy i c.in-Some.trouble) (sym c.judge.ensures.frame.same) cut)) c.if-not-branch.false
