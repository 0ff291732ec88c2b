use Rattle.std.proofs.Common.{◌≡◌, ◌+◌, ◌-◌, ◌%◌, slice_range, arith, rules, sym, ap, ◌∙◌, true, false}
use Rattle.flash_range.specs.Range.{pages_touched}
use Rattle.flash_range.proofs.Ranges.{touched_more}
use Rattle.padded.specs.Zeros.{is_zeros}
use Rattle.coffee_layout.proofs.Zeros.{zeros_more, zeros_stop}
use Rattle.coffee_layout.proofs.logs.range_is_zeros.Goals as goal

pub returns-then-not-branch-clause-zeros : goal.returns-then-not-branch-clause-zeros
returns-then-not-branch-clause-zeros g c = λ t.
    let image = g.F.Flash.image c.args.flash.now in
    let piece : is_zeros (slice_range image c.loop-at.at (c.loop-at.at + c.min-n.result)) ≡ false =
    sym (rw (c.loop-at.invariant.same) at (c.in_ok-piece_is_zeros.ensures.zeros t)) ∙ c.if-not-branch.true in
    sym (sym (c.loop-at.invariant.zeros t) ∙ zeros_stop image c.loop-at.at (c.loop-at.at + c.min-n.result) c.args.to (omega arith) (omega arith) piece)

pub loop-at-preserved : goal.loop-at-preserved
loop-at-preserved g c = record {
  end = c.loop-at.invariant.end;
  behind = omega arith;
  within = omega arith;
  turn = λ a b. omega arith;
  same = search rules;
  lent = search rules;
  zeros = λ t.
      let image = g.F.Flash.image c.args.flash.now in
      let piece : is_zeros (slice_range image c.loop-at.at (c.loop-at.at + c.min-n.result)) ≡ true =
      sym (rw (c.loop-at.invariant.same) at (c.in_ok-piece_is_zeros.ensures.zeros t)) ∙ c.if-not-branch.false in
      zeros_more image c.loop-at.at (c.loop-at.at + c.min-n.result) c.args.to (omega arith) (omega arith) piece ∙ c.loop-at.invariant.zeros t;
  reads =
      let place : c.args.from + (c.loop-at.at - c.args.from) ≡ c.loop-at.at = omega arith in
      let further : c.loop-at.at - c.args.from + c.min-n.result ≡ c.loop-at.at + c.min-n.result - c.args.from = omega arith in
      let more : pages_touched c.args.from (c.loop-at.at - c.args.from + c.min-n.result) ≡ pages_touched c.args.from (c.loop-at.at - c.args.from) + 1 =
      touched_more c.args.from (c.loop-at.at - c.args.from) c.min-n.result (c.min-end.result - c.args.from) (omega arith) (omega arith)
      (λ a b. let turn : c.loop-at.at % 256 ≡ 0 = c.loop-at.invariant.turn (omega arith) (omega arith) in omega arith) in
      let same : pages_touched c.args.from (c.loop-at.at - c.args.from + c.min-n.result) ≡ pages_touched c.args.from (c.loop-at.at + c.min-n.result - c.args.from) = ap (pages_touched c.args.from) further in
      omega arith;
  later = search rules;
  faults = search rules;
}
