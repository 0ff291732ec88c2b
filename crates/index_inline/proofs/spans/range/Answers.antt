use Rattle.std.proofs.Common.{rules, arith, ◌≤◌, ◌-◌}
use Rattle.afl_base.specs.KeyColumn.{key_of}
use Rattle.db_model.specs.Cost.{bits}
use Rattle.index_inline.proofs.Digits.{bits_grow}
use Rattle.index_inline.proofs.Falls.{rises, span_found}
use Rattle.index_inline.proofs.spans.range.Goals as goal

pub returns-in_err-to-clause-reads : goal.returns-in_err-to-clause-reads
returns-in_err-to-clause-reads g c =
    let few : bits (c.in_ok-near.near.behind - c.in_ok-near.near.to) ≤ bits c.args.slots = bits_grow _ _ (omega (arith, c.in_ok-near.ensures.behind, c.in_ok-around.ensures.end)) in
    omega (arith, c.in_ok-around.ensures.reads, c.in_ok-near.ensures.reads, c.in_err-to.ensures.reads)

pub returns-clause-reads : goal.returns-clause-reads
returns-clause-reads g c =
    let few : bits (c.in_ok-near.near.behind - c.in_ok-near.near.to) ≤ bits c.args.slots = bits_grow _ _ (omega (arith, c.in_ok-near.ensures.behind, c.in_ok-around.ensures.end)) in
    omega (arith, c.in_ok-around.ensures.reads, c.in_ok-near.ensures.reads, c.in_ok-to.ensures.reads)

pub returns-clause-span : goal.returns-clause-span
returns-clause-span g c = λ told level.
    let key = key_of (g.V.Files.state c.args.files.now) c.args.column.now in
    let up = rises key c.args.slots level in
    let near = (rw c.in_ok-around.ensures.frame.same at c.in_ok-near.ensures.span) told c.args.slots up (c.in_ok-around.ensures.around told up) in
    let far = (rw (c.in_ok-near.ensures.frame.same, c.in_ok-around.ensures.frame.same) at c.in_ok-to.ensures.end) told c.args.slots (omega (arith, c.in_ok-near.ensures.behind, c.in_ok-around.ensures.end)) up in
    span_found c.args.within.now key c.args.slots c.in_ok-near.near.from c.in_ok-near.near.to c.in_ok-near.near.behind c.in_ok-to.to
    c.in_ok-near.near.order c.in_ok-to.ensures.order c.in_ok-to.ensures.within near far
