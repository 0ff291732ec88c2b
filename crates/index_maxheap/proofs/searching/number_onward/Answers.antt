use Rattle.std.proofs.Common.{arith, ◌∙◌}
use Rattle.afl_base.specs.Files.{bytes_at}
use Rattle.index_maxheap.proofs.Onward.{onward_chain, onward_node}
use Rattle.index_maxheap.proofs.searching.number_onward.Goals as goal

pub returns-then-place-lt4-clause-number : goal.returns-then-place-lt4-clause-number
returns-then-place-lt4-clause-number g c = λ told hop tells there.
    let bytes = bytes_at (g.V.Files.state c.args.files.now).files c.args.index in
    let is = onward_node bytes c.args.key.now c.args.place.hop c.if-place-lt4.true in
    let same = tells.exact c.if-place-lt4.true in
    rw (same, is) (rw (c.from.ensures, c.node.ensures.value) at (c.read_number.ensures.number told))

pub returns-else-place-lt4-clause-number : goal.returns-else-place-lt4-clause-number
returns-else-place-lt4-clause-number g c = λ told hop tells there.
    let bytes = bytes_at (g.V.Files.state c.args.files.now).files c.args.index in
    let up = tells.least in
    c.get_u16.ensures ∙ onward_chain bytes c.args.bytes.now c.args.key.now c.args.place.bucket hop there c.requires.safe.0 (omega (arith, c.if-place-lt4.false, up)) (c.requires.bytes told)
