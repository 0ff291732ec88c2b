use Rattle.std.proofs.Common.{rules, arith, ◌∙◌, ◌+◌, ◌≤◌}
use Rattle.afl_base.specs.Files.{bytes_at}
use Rattle.stored_mend.proofs.Copies.{front_more, front_none, front_zeros}
use Rattle.stored_mend.proofs.contents.copy_bytes.Goals as goal

pub loop-at-init : goal.loop-at-init
loop-at-init g c = record {
  within = omega arith;
  front = front_none (g.V.Files.state c.args.files.now) c.args.size (bytes_at (g.V.Files.state c.args.files.now).files c.args.file) c.requires.begun c.requires.size c.requires.erased;
  store = search rules;
  lent = search rules;
  later = omega arith;
  faults = omega arith;
}

pub copy_piece-requires-clause-zeros : goal.copy_piece-requires-clause-zeros
copy_piece-requires-clause-zeros g c = λ told.
    let old = g.V.Files.state c.args.files.now in
    let inv = c.loop-at.invariant in
    front_zeros old (g.V.Files.state c.loop-at.files) c.args.size c.loop-at.at c.min-count.result (bytes_at old.files c.args.file) inv.front
    (omega (arith, inv.within, c.requires.inside)) (omega (arith, c.min-count.ensures, c.loop-at-test.true)) told

pub loop-at-preserved : goal.loop-at-preserved
loop-at-preserved g c =
    let old = g.V.Files.state c.args.files.now in
    let inv = c.loop-at.invariant in
    let within : c.loop-at.at + c.min-count.result ≤ c.args.size = omega (arith, c.min-count.ensures, c.loop-at-test.true) in
    record {
      within = within;
      front = front_more old (g.V.Files.state c.loop-at.files) (g.V.Files.state c.copy_piece.new.files) c.args.size c.loop-at.at c.min-count.result (bytes_at old.files c.args.file) inv.front
          (omega (arith, within, c.requires.inside)) within (rw inv.front.files at c.in_ok-copy_piece.ensures.copied);
      store = c.in_ok-copy_piece.ensures.frame.store ∙ inv.store;
      lent = c.in_ok-copy_piece.ensures.frame.lent ∙ inv.lent;
      later = omega (arith, c.in_ok-copy_piece.ensures.frame.later, inv.later);
      faults = omega (arith, c.in_ok-copy_piece.ensures.frame.cause.later, inv.faults);
    }
