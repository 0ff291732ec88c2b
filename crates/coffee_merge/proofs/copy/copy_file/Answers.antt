use Rattle.std.proofs.Common.{arith, rules, ◌≡◌, ◌∙◌, refl, subst}
use Rattle.coffee_merge.specs.Holding.{Copies}
use Rattle.coffee_merge.proofs.Contents.{copies_more, copies_none}
use Rattle.coffee_merge.proofs.Lowest.{copy_free}
use Rattle.coffee_merge.proofs.copy.copy_file.Goals as goal

pub loop-done-init : goal.loop-done-init
loop-done-init g c = record {
  within = search rules;
  size = search rules;
  lent = search rules;
  copied = λ told. copies_none (g.F.Flash.image c.args.flash.now) c.args.page c.args.pages c.args.from.now;
  free = λ told table d i h same_page same_pages same_size is zeros p. refl;
  others = λ told p out apart. refl;
  head = λ t u k low. refl;
  reads = search rules;
  faults = search rules;
}

pub loop-done-preserved : goal.loop-done-preserved
loop-done-preserved g c = record {
  within = search rules;
  size = search rules;
  lent = search rules;
  copied = λ told.
      copies_more (g.F.Flash.image c.args.flash.now) (g.F.Flash.image c.loop-done.flash) (g.F.Flash.image c.copy_part.new.flash) c.args.page c.args.pages c.args.from.now c.loop-done.done c.min-n.result (omega arith)
      (c.loop-done.invariant.copied told) (c.in_ok-copy_part.ensures.copied told);
  free = λ told.
      copy_free (g.F.Flash.image c.args.flash.now) (g.F.Flash.image c.loop-done.flash) (g.F.Flash.image c.copy_part.new.flash) c.args.page c.args.pages c.args.from.now c.loop-done.done
      (c.loop-done.invariant.copied told) (c.loop-done.invariant.free told) (c.in_ok-copy_part.ensures.free told);
  head = λ t u k low. c.copy_part.ensures.head t u k low ∙ c.loop-done.invariant.head t u k low;
  others = λ told p out apart. c.copy_part.ensures.other_pages told p out apart ∙ c.loop-done.invariant.others told p out apart;
  reads = search rules;
  faults = search rules;
}

pub returns-clause-copied : goal.returns-clause-copied
returns-clause-copied g c = λ told table d i h same_page same_pages same_size is zeros.
    let all : c.loop-done.done ≡ c.args.from.now.size = omega arith in
    record {
      copies = subst (λ n. Copies (g.F.Flash.image c.args.flash.now) (g.F.Flash.image c.loop-done.flash) table d c.args.from.now n) all (c.loop-done.invariant.copied told table d i h same_page same_pages same_size is zeros);
      free = c.loop-done.invariant.free told table d i h same_page same_pages same_size is zeros;
    }
