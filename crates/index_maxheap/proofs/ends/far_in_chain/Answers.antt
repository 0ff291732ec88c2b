use Rattle.afl_base.specs.Files.{bytes_at}
use Rattle.index_maxheap.proofs.Chained.{last_in_chain}
use Rattle.index_maxheap.proofs.ends.far_in_chain.Goals as goal

pub returns-then-branch-clause-chain : goal.returns-then-branch-clause-chain
returns-then-branch-clause-chain g c = λ told keys tree first unmet.
    let bytes = bytes_at (g.V.Files.state c.args.files.now).files c.args.index in
    last_in_chain bytes keys c.args.key.now c.args.last tree c.if-last-eq0.false c.requires.range (c.in_ok-is_beside.ensures.beside told c.if-branch.true) unmet
