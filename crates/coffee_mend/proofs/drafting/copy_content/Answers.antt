use Rattle.std.proofs.Common.{arith, rules, ◌≡◌, ◌∙◌, refl, subst}
use Rattle.coffee_mend.proofs.HiddenDrafts.{CopiesHidden, more_copied, none_copied}
use Rattle.coffee_mend.proofs.drafting.copy_content.Goals as goal

pub loop-done-init : goal.loop-done-init
loop-done-init g c = record {
  within = search rules;
  size = search rules;
  lent = search rules;
  copied = λ told. none_copied (g.F.Flash.image c.args.flash.now) c.args.page c.args.from.now;
  others = λ told p out apart. refl;
  head = λ t u k low. refl;
  reads = search rules;
  faults = search rules;
}

pub loop-done-preserved : goal.loop-done-preserved
loop-done-preserved g c = record {
  within = search rules;
  size = search rules;
  lent = search rules;
  copied = λ told.
      more_copied (g.F.Flash.image c.args.flash.now) (g.F.Flash.image c.loop-done.flash) (g.F.Flash.image c.copy_part.new.flash) c.args.page c.args.from.now c.loop-done.done c.min-n.result
      c.loop-done.invariant.size c.in_ok-copy_part.ensures.frame.size (omega arith)
      (c.loop-done.invariant.copied told) (c.in_ok-copy_part.ensures.copied told);
  others = λ told p out apart. c.copy_part.ensures.other_pages told p out apart ∙ c.loop-done.invariant.others told p out apart;
  head = λ t u k low. c.copy_part.ensures.head t u k low ∙ c.loop-done.invariant.head t u k low;
  reads = search rules;
  faults = search rules;
}

pub returns-clause-copied : goal.returns-clause-copied
returns-clause-copied g c = λ told.
    let all : c.loop-done.done ≡ c.args.from.now.size = omega arith in
    subst (CopiesHidden (g.F.Flash.image c.args.flash.now) (g.F.Flash.image c.loop-done.flash) c.args.page c.args.from.now) all (c.loop-done.invariant.copied told)
