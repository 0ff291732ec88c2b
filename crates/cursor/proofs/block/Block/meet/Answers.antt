use Rattle.std.proofs.Common.{◌≡◌, ◌∙◌, ℕ, Some, ap}
use Rattle.cursor.specs.declared.block.Block.{Block}
use Rattle.cursor.specs.Blocks.{LiesBetween, number_held}
use Rattle.cursor.proofs.Blocks.{up_to}
use Rattle.cursor.proofs.block.Block.meet.Goals as goal

pub loop-nth-preserved : goal.loop-nth-preserved
loop-nth-preserved c =
    let inv = c.loop-nth.invariant in
    let new = c.note.new.self in
    record {
      kept = c.note.ensures.kept ∙ ap (λ (b : Block). record b { firsts = new.firsts; ends = new.ends }) inv.kept;
      widens = λ k s old. c.note.ensures.widens k s (inv.widens k s old);
      meets = λ k more less is.
          up_to (λ (n : ℕ). number_held c.args.self.now n ≡ Some c.args.number.now → LiesBetween new n c.args.slot) c.loop-nth.nth k
          (λ before held. c.note.ensures.widens k c.args.slot (inv.meets k more before held))
          (λ held. rw c.from.ensures at (c.note.ensures.notes (rw c.from.ensures (ap (λ (b : Block). number_held b c.loop-nth.nth) inv.kept ∙ held))))
          less is;
    }
