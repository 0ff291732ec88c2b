use Rattle.std.proofs.Common.{◌+◌, ℕ, arith, rules, take, sym, ap, ◌∙◌, refl}
use Rattle.std.proofs.lemmas.List.{length-take, length-drop, take_rest}
use Rattle.flash_range.proofs.program.program_range.Goals as goal
use Rattle.afl_base.specs.Image.{or_at}
use Rattle.padded.proofs.Facts.{on_err}
use Rattle.flash_range.proofs.Ranges.{cut_more, program_more}
use Rattle.afl_base.proofs.Bits.{or_at_nothing}

pub loop-done-init : goal.loop-done-init
loop-done-init g c = record {
  within = search rules;
  small = search rules;
  size = search rules;
  lent = search rules;
  turn = λ a b. absurd (omega arith);
  programmed = λ t. sym (or_at_nothing _ _);
  other_pages = search rules;
  reads = search rules;
  faults = search rules;
}

pub loop-done-preserved : goal.loop-done-preserved
loop-done-preserved g c = record {
  within = search rules;
  small = c.loop-done.invariant.small;
  size = search rules;
  lent = search rules;
  turn = λ a b. omega (arith, c.in_ok-done.ensures.piece, length-take {A = ℕ}, length-drop {A = ℕ});
  programmed = λ t. (rw (c.loop-done.invariant.programmed t) at c.in_ok-done.ensures.programmed t) ∙ ap (λ xs. or_at (or_at (g.F.Flash.image c.args.flash.now) c.args.place (take c.loop-done.done c.args.bytes.now)) (c.args.place + c.loop-done.done) (take c.in_ok-done.field-0 xs)) (take_rest c.args.bytes.now c.loop-done.done) ∙ program_more (g.F.Flash.image c.args.flash.now) c.args.bytes.now c.args.place c.loop-done.done c.in_ok-done.field-0 (omega arith) (omega (arith, c.in_ok-done.ensures.piece, length-take {A = ℕ}, length-drop {A = ℕ}));
  other_pages = λ t p o. c.program_piece.ensures.other_pages t p (λ a b. o (omega arith) (omega (arith, length-take {A = ℕ}, length-drop {A = ℕ}))) ∙ c.loop-done.invariant.other_pages t p o;
  reads = search rules;
  faults = search rules;
}

pub returns-in_err-done-clause-cut : goal.returns-in_err-done-clause-cut
returns-in_err-done-clause-cut g c = λ t u. on_err c.from_residual.result
    (cut_more (g.F.Flash.image c.args.flash.now) (g.F.Flash.image c.loop-done.flash) (g.F.Flash.image c.program_piece.new.flash) c.args.bytes.now _ c.args.place _ c.loop-done.done
    (c.loop-done.invariant.programmed t) (c.in_err-done.ensures.cut t u) refl (take_rest c.args.bytes.now c.loop-done.done) (omega arith) (omega arith) (λ a. c.loop-done.invariant.turn a (omega arith)))
