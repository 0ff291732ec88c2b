use Rattle.std.proofs.Common.{arith, ◌≡◌, ◌∙◌, ap, sym, false, true}
use Rattle.index_inline.specs.Span.{passes_end}
use Rattle.index_inline.proofs.Falls.{behind_lowered, high_lowered, low_raised}
use Rattle.index_inline.proofs.halving.halved.Goals as goal

pub returns-then-passes_end-clause-around : goal.returns-then-passes_end-clause-around
returns-then-passes_end-clause-around c keys slots rises is around =
    let most = c.args.around.within in
    low_raised c.args.within.now keys slots c.args.around.low c.args.around.high c.args.around.behind c.args.middle rises (omega arith) most
    (sym (ap (passes_end false c.args.within.now) is) ∙ sym c.passes_end.ensures ∙ c.if-passes_end.true) around

pub returns-then-passes_end-2-clause-around : goal.returns-then-passes_end-2-clause-around
returns-then-passes_end-2-clause-around c keys slots rises is around =
    high_lowered c.args.within.now keys slots c.args.around.low c.args.around.high c.args.around.behind c.args.middle rises
    (sym (ap (passes_end false c.args.within.now) is) ∙ sym c.passes_end.ensures ∙ c.if-passes_end.false) around

pub returns-clause-around : goal.returns-clause-around
returns-clause-around c keys slots rises is around =
    let most = c.args.around.within in
    behind_lowered c.args.within.now keys slots c.args.around.low c.args.middle c.args.around.behind c.args.middle rises (omega arith)
    (sym (ap (passes_end true c.args.within.now) is) ∙ sym c.passes_end-2.ensures ∙ c.if-passes_end-2.false)
    (high_lowered c.args.within.now keys slots c.args.around.low c.args.around.high c.args.around.behind c.args.middle rises
    (sym (ap (passes_end false c.args.within.now) is) ∙ sym c.passes_end.ensures ∙ c.if-passes_end.false) around)
