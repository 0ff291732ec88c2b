use Rattle.std.proofs.Common.{◌≡◌, ◌-◌, ◌+◌, ◌%◌, min, ℕ, arith, rules, length}
use Rattle.std.proofs.lemmas.List.{length-take, length-drop}
use Rattle.flash_range.proofs.read.read_range.Given.{Over}
use Rattle.flash_range.proofs.read.read_range.Goals as goal
use Rattle.flash_range.specs.Range.{pages_touched}
use Rattle.flash_range.proofs.Ranges.{touched_more, turn_more, read_more}

piece : (g : Over) (c : goal.In_ok-done g) → c.in_ok-done.field-0 ≡ min (length c.args.into.now - c.loop-done.done) (256 - (c.args.place + c.loop-done.done) % 256)
piece g c = omega (arith, c.in_ok-done.ensures.piece, length-take {A = ℕ}, length-drop {A = ℕ}, c.loop-done.auto.into)

touched : (g : Over) (c : goal.In_ok-done g) → pages_touched c.args.place (c.loop-done.done + c.in_ok-done.field-0) ≡ pages_touched c.args.place c.loop-done.done + 1
touched g c = touched_more c.args.place c.loop-done.done c.in_ok-done.field-0 (length c.args.into.now) (piece g c) (omega (arith, c.loop-done.auto.into)) c.loop-done.invariant.turn

pub loop-done-preserved : goal.loop-done-preserved
loop-done-preserved g c = record {
  within = search rules;
  size = c.loop-done.invariant.size;
  turn = λ a b. turn_more c.args.place c.loop-done.done c.in_ok-done.field-0 (length c.args.into.now) (piece g c) b;
  same = search rules;
  lent = search rules;
  bytes = λ t. read_more c.loop-done.into c.read_piece.new.into (g.F.Flash.image c.args.flash.now) c.args.place c.loop-done.done c.in_ok-done.field-0 _ (c.loop-done.invariant.bytes t) (rw c.loop-done.invariant.same at c.in_ok-done.ensures.bytes t) (omega (arith, c.loop-done.auto.into)) (omega (arith, c.in_ok-done.ensures.piece, c.read_piece.auto.into));
  reads = omega (arith, touched g c);
  counted = omega (arith, touched g c);
  later = search rules;
  faults = search rules;
}
