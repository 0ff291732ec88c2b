use Rattle.std.proofs.Common.{arith, ◌∙◌}
use Rattle.afl_base.specs.Files.{bytes_at}
use Rattle.index_tree.specs.TreeFile.{numbered_place}
use Rattle.index_maxheap.proofs.Opening.{next_part}
use Rattle.index_maxheap.proofs.Walked.{looked}
use Rattle.index_maxheap.proofs.ends.look_at.Goals as goal

pub returns-then-pair-lt32-clause-looks : goal.returns-then-pair-lt32-clause-looks
returns-then-pair-lt32-clause-looks g c = λ told rest bucket.
    let bytes = bytes_at (g.V.Files.state c.args.files.now).files c.args.index in
    let seen = looked bytes c.read_bucket.new.into c.args.number c.filled-pair.result rest c.if-number-eq0.false (c.in_ok-read_bucket.ensures.bytes told) bucket c.filled-pair.ensures in
    (c.if-number-eq0.false, omega (arith, seen, c.if-pair-lt32.true), c.if-pair-lt32.true)

pub returns-clause-looks : goal.returns-clause-looks
returns-clause-looks g c = λ told rest bucket.
    let bytes = bytes_at (g.V.Files.state c.args.files.now).files c.args.index in
    let seen = looked bytes c.read_bucket.new.into c.args.number c.filled-pair.result rest c.if-number-eq0.false (c.in_ok-read_bucket.ensures.bytes told) bucket c.filled-pair.ensures in
    (c.if-number-eq0.false, omega (arith, seen, c.if-pair-lt32.false, c.filled-pair.ensures.most))

pub returns-clause-onward : goal.returns-clause-onward
returns-clause-onward g c = λ told.
    let bytes = bytes_at (g.V.Files.state c.args.files.now).files c.args.index in
    c.get_u16-next.ensures ∙ next_part bytes c.read_bucket.new.into (numbered_place c.args.number) (c.in_ok-read_bucket.ensures.bytes told)
