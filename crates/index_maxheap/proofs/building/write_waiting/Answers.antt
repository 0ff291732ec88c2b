use Rattle.std.proofs.Common.{rules, arith, ◌≢◌, ◌+◌, subst, sym}
use Rattle.afl_base.specs.Files.{draft_in}
use Rattle.index_maxheap.specs.Builds.{NodesAwait, waiting}
use Rattle.index_maxheap.proofs.Gathering.{only_same, waiting_written, zeros_waiting}
use Rattle.index_maxheap.proofs.building.write_waiting.Goals as goal

pub returns-then-load-eq0-clause-only : goal.returns-then-load-eq0-clause-only
returns-then-load-eq0-clause-only g c = only_same (g.V.Files.state c.args.files.now) c.requires.begun

pub write-requires-clause-zeros : goal.write-requires-clause-zeros
write-requires-clause-zeros g c = λ told.
    let have = c.requires.told told in
    let fit = c.requires.fit in
    let some : waiting c.args.nodes.now c.args.node ≢ 0 = rw c.from.ensures at c.if-load-eq0.false in
    rw (c.group_place.ensures, c.from-size.ensures, c.from.ensures, c.place-place.ensures)
    (zeros_waiting c.args.nodes.now (draft_in (g.V.Files.state c.args.files.now)).bytes have.0 fit.0 fit.1 c.args.node have.1 fit.2 c.requires.node fit.3 (omega (arith, some)))

pub returns-clause-written : goal.returns-clause-written
returns-clause-written g c = λ told full a.
    let fit = c.requires.fit in
    let some : waiting c.args.nodes.now c.args.node ≢ 0 = rw c.from.ensures at c.if-load-eq0.false in
    let wrote = rw (c.group_place.ensures, c.from-size.ensures, c.from.ensures, c.place-place.ensures) at c.in_ok-write.ensures.written in
    subst (λ xs. NodesAwait (c.args.node + 1) c.args.nodes.now xs full) (sym (wrote.bytes told))
    (waiting_written c.args.nodes.now (draft_in (g.V.Files.state c.args.files.now)).bytes full fit.0 fit.1 c.args.node a fit.2 c.requires.node fit.3 (omega (arith, some)) (search rules))
