use Rattle.std.proofs.Common.{◌≡◌, ℕ, ◌+◌, ◌∙◌, sym, ap, arith}
use Rattle.volume_tests.proofs.Lives.{used_all, used_next}
use Rattle.volume_tests.proofs.calls.live_files.Goals as goal
use Rattle.padded.proofs.Facts.{bool_below}

pub loop-number-preserved : goal.loop-number-preserved
loop-number-preserved g c =
    let files = (g.V.Files.state c.args.files.now).files in
    let inv = c.loop-number.invariant in
    record {
      few = omega (arith, inv.few, bool_below c.is_live.result, c.from-live.ensures);
      live = ap (λ (n : ℕ). c.loop-number.live + n) c.from-live.ensures
          ∙ used_next files c.loop-number.number c.loop-number.live c.is_live.result (omega (arith, c.requires)) inv.live c.is_live.ensures;
    }

pub returns : goal.returns
returns g c =
    let files = (g.V.Files.state c.args.files.now).files in
    let end : c.loop-number.number ≡ 32 = omega (arith, c.loop-number-test.false, c.loop-number.auto.number-end) in
    c.loop-number.invariant.live ∙ used_all files c.loop-number.number (c.requires ∙ sym end)
