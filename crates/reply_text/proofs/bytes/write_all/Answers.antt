use Rattle.std.proofs.Common.{◌∙◌, ◌-◌, arith, drop, length, rules, sym, take, ℕ}
use Rattle.std.proofs.lemmas.List.{length-take, length-drop}
use Rattle.reply_text.proofs.Pieces.{held_more, take_piece}
use Rattle.reply_text.proofs.bytes.write_all.Goals as goal

pub loop-done-preserved : goal.loop-done-preserved
loop-done-preserved g c =
    let bytes = c.args.bytes.now in
    let done = c.loop-done.done in
    let n = c.in_ok-done.field-0 in
    record {
      within = omega (arith, c.in_ok-done.ensures.most, length-take {A = ℕ}, length-drop {A = ℕ});
      held = held_more (g.K.Sink.held c.args.out.now) _ _ (take done bytes) (take n (take (length bytes - done) (drop done bytes))) _ c.loop-done.invariant.held c.in_ok-done.ensures.bytes (sym (take_piece bytes done n c.loop-done.invariant.within));
      lent = c.in_ok-done.ensures.frame.lent ∙ c.loop-done.invariant.lent;
      faults = search rules;
    }
