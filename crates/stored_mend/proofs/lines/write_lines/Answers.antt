use Rattle.std.proofs.Common.{rules, ◌∙◌}
use Rattle.stored_mend.specs.Report.{mended_text}
use Rattle.stored_mend.proofs.LineTexts.{held_item, less_item}
use Rattle.stored_mend.proofs.lines.write_lines.Goals as goal

pub loop-at-preserved : goal.loop-at-preserved
loop-at-preserved g c =
    let item = c.index-mended-at in
    record {
      held = held_item mended_text c.args.mended.now c.loop-at.at item.result c.loop-at-test.true (g.K.Sink.held c.args.out.now) c.loop-at.invariant.held (rw item.is at c.in_ok-write_mended.ensures.written);
      lent = c.in_ok-write_mended.ensures.frame.lent ∙ c.loop-at.invariant.lent;
      faults = search rules;
    }

pub returns-in_err-write_mended-clause-failed : goal.returns-in_err-write_mended-clause-failed
returns-in_err-write_mended-clause-failed g c =
    let item = c.index-mended-at in
    let less = less_item mended_text c.args.mended.now c.loop-at.at item.result c.loop-at-test.true (g.K.Sink.held c.args.out.now) (g.K.Sink.held c.loop-at.out) _ c.loop-at.invariant.held (rw item.is at c.in_err-write_mended.ensures.failed) in
    search (rules, less)
