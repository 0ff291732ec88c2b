use Rattle.std.proofs.Common.{arith, ap, ◌∙◌, ◌≡◌, ◌*◌, ℕ}
use Rattle.afl_base.specs.Fields.{u16_at}
use Rattle.afl_base.specs.Files.{bytes_at}
use Rattle.db_model.specs.HashTree.{node}
use Rattle.index_maxheap.proofs.Hinted.{hop_here, past_more}
use Rattle.index_maxheap.proofs.hints.hop_of.Goals as goal

pub returns-then-number-bucket-clause-hop : goal.returns-then-number-bucket-clause-hop
returns-then-number-bucket-clause-hop g c = λ told hop there.
    let bytes = bytes_at (g.V.Files.state c.args.files.now).files c.args.index in
    let inv = c.loop-level.invariant in
    let spot : 2 * c.from-at.result ≡ 2 * node c.args.key.now c.loop-level.level = ap (λ (n : ℕ). 2 * n) (c.from-at.ensures ∙ c.node.ensures.value) in
    let number : c.in_ok-number.number ≡ u16_at bytes (2 * node c.args.key.now c.loop-level.level) = (rw inv.same at c.in_ok-number.ensures.number) told ∙ ap (u16_at bytes) spot in
    rw c.from.ensures (hop_here bytes c.args.key.now c.args.bucket c.in_ok-number.number c.loop-level.level c.loop-level-test.true number c.if-number-bucket.true)

pub loop-level-preserved : goal.loop-level-preserved
loop-level-preserved g c =
    let bytes = bytes_at (g.V.Files.state c.args.files.now).files c.args.index in
    let inv = c.loop-level.invariant in
    let spot : 2 * c.from-at.result ≡ 2 * node c.args.key.now c.loop-level.level = ap (λ (n : ℕ). 2 * n) (c.from-at.ensures ∙ c.node.ensures.value) in
    record {
      same = c.in_ok-number.ensures.frame.same ∙ inv.same;
      lent = c.in_ok-number.ensures.frame.lent ∙ inv.lent;
      later = omega (arith, c.in_ok-number.ensures.frame.later, inv.later);
      faults = omega (arith, c.in_ok-number.ensures.frame.faultless, inv.faults);
      reads = omega (arith, c.in_ok-number.ensures.reads, inv.reads);
      past = λ told.
          let number : c.in_ok-number.number ≡ u16_at bytes (2 * node c.args.key.now c.loop-level.level) = (rw inv.same at c.in_ok-number.ensures.number) told ∙ ap (u16_at bytes) spot in
          past_more bytes c.args.key.now c.args.bucket c.in_ok-number.number c.loop-level.level c.loop-level-test.true number c.if-number-bucket.false (inv.past told);
    }
