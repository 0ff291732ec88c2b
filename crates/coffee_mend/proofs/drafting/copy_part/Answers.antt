use Rattle.std.proofs.Common.{◌≡◌, ◌+◌, ◌*◌, ◌∙◌, None, ap, arith, length, rules, subst}
use Rattle.std.proofs.lemmas.Result.{on_ok_weaker}
use Rattle.coffee_merge.proofs.CutMarkLaws.{head_stays}
use Rattle.coffee_merge.proofs.Lowest.{range_inside}
use Rattle.coffee_merge.specs.CutMarks.{KeepsHead}
use Rattle.coffee_merge.specs.Takes.{KeepsPagesBut}
use Rattle.afl_base.specs.Image.{or_at}
use Rattle.coffee_mend.proofs.drafting.copy_part.Goals as goal

pub returns-clause-copied : goal.returns-clause-copied
returns-clause-copied g c = λ told.
    on_ok_weaker c.program_range.result
    (λ is. record {
      bytes = c.read_file.new.into;
      long = search rules;
      read = λ k less. c.in_ok-read_file.ensures.bytes told k (search rules);
      is = is ∙ ap (λ image. or_at image (256 * c.from.result + 32 + c.args.at) c.read_file.new.into) c.in_ok-read_file.ensures.frame.same ∙ ap (λ q. or_at (g.F.Flash.image c.args.flash.now) (256 * q + 32 + c.args.at) c.read_file.new.into) c.from.ensures;
    })
    (c.program_range.ensures.programmed told)

pub returns-clause-other_pages : goal.returns-clause-other_pages
returns-clause-other_pages g c = λ told.
    subst (λ image. KeepsPagesBut image (g.F.Flash.image c.program_range.new.flash) c.args.page.0 c.args.from.now.pages None) c.in_ok-read_file.ensures.frame.same
    (λ p out apart. c.program_range.ensures.other_pages told p
    (range_inside c.args.page.0 c.args.from.now.pages (256 * c.from.result + 32 + c.args.at) c.args.at (length c.read_file.new.into) p (ap (λ q. 256 * q + 32 + c.args.at) c.from.ensures) (search rules) out))

pub returns-clause-head : goal.returns-clause-head
returns-clause-head g c = λ t u.
    let here : 256 * c.from.result + 32 + c.args.at ≡ 256 * c.args.page.0 + 32 + c.args.at = omega (arith, c.from.ensures) in
    subst (λ image. KeepsHead image (g.F.Flash.image c.program_range.new.flash) c.args.page.0) c.in_ok-read_file.ensures.frame.same
    (head_stays c.program_range.result _ (g.F.Flash.image c.program_range.new.flash) c.args.page.0 _ c.args.at c.read_file.new.into (c.program_range.ensures.programmed t) (c.program_range.ensures.cut t u) here)
