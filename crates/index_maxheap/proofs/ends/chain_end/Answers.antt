use Rattle.std.proofs.Common.{arith, ◌∙◌, ◌+◌, ◌≡◌}
use Rattle.afl_base.specs.Files.{bytes_at}
use Rattle.db_model.specs.Cost.{keys_beside}
use Rattle.index_tree.specs.Pairs.{goes, reaching}
use Rattle.index_tree.specs.Trees.{numbered}
use Rattle.index_maxheap.proofs.Chained.{chain_bucket, chain_far, chain_full, chain_last, chain_more, chain_near, chain_paid, pair_end}
use Rattle.index_maxheap.proofs.ends.chain_end.Goals as goal

pub returns-in_err-look_at-clause-reads : goal.returns-in_err-look_at-clause-reads
returns-in_err-look_at-clause-reads g c = λ told keys key hop tree start.
    let bytes = bytes_at (g.V.Files.state c.args.files.now).files c.args.index in
    let inv = c.loop-turns.invariant in
    let near = chain_near bytes keys key (hop + c.loop-turns.turns) c.loop-turns.number tree (inv.chain told keys key hop tree start) in
    chain_paid (g.V.Files.reads c.look_at.new.files) (g.V.Files.reads c.loop-turns.files) (g.V.Files.reads c.args.files.now) (keys_beside key keys) hop c.loop-turns.turns near c.look_at.ensures.reads inv.reads

pub returns-in-None-clause-finds : goal.returns-in-None-clause-finds
returns-in-None-clause-finds g c = λ told keys key hop tree start.
    let bytes = bytes_at (g.V.Files.state c.args.files.now).files c.args.index in
    let inv = c.loop-turns.invariant in
    let chain = inv.chain told keys key hop tree start in
    let bucket = chain_bucket bytes keys key (hop + c.loop-turns.turns) c.loop-turns.number tree chain in
    chain.some (rw c.in-None.is at ((rw inv.same at c.in_ok-look_at.ensures.looks) told (reaching (goes key) (hop + c.loop-turns.turns) (numbered 0 keys)) bucket))

pub returns-in-None-clause-reads : goal.returns-in-None-clause-reads
returns-in-None-clause-reads g c = λ told keys key hop tree start.
    let bytes = bytes_at (g.V.Files.state c.args.files.now).files c.args.index in
    let inv = c.loop-turns.invariant in
    let near = chain_near bytes keys key (hop + c.loop-turns.turns) c.loop-turns.number tree (inv.chain told keys key hop tree start) in
    chain_paid (g.V.Files.reads c.look_at.new.files) (g.V.Files.reads c.loop-turns.files) (g.V.Files.reads c.args.files.now) (keys_beside key keys) hop c.loop-turns.turns near c.look_at.ensures.reads inv.reads

pub returns-in-Room-clause-finds : goal.returns-in-Room-clause-finds
returns-in-Room-clause-finds g c = λ told keys key hop tree start.
    let bytes = bytes_at (g.V.Files.state c.args.files.now).files c.args.index in
    let inv = c.loop-turns.invariant in
    let here = hop + c.loop-turns.turns in
    let chain = inv.chain told keys key hop tree start in
    let bucket = chain_bucket bytes keys key here c.loop-turns.number tree chain in
    let seen = rw c.in-Room.is at ((rw inv.same at c.in_ok-look_at.ensures.looks) told (reaching (goes key) here (numbered 0 keys)) bucket) in
    pair_end bytes (numbered 0 keys) key here c.loop-turns.number c.in-Room.pair c.pair_place.result (chain_full bytes keys key here c.loop-turns.number tree chain) chain.there seen c.pair_place.ensures

pub returns-in-Room-clause-reads : goal.returns-in-Room-clause-reads
returns-in-Room-clause-reads g c = λ told keys key hop tree start.
    let bytes = bytes_at (g.V.Files.state c.args.files.now).files c.args.index in
    let inv = c.loop-turns.invariant in
    let near = chain_near bytes keys key (hop + c.loop-turns.turns) c.loop-turns.number tree (inv.chain told keys key hop tree start) in
    chain_paid (g.V.Files.reads c.look_at.new.files) (g.V.Files.reads c.loop-turns.files) (g.V.Files.reads c.args.files.now) (keys_beside key keys) hop c.loop-turns.turns near c.look_at.ensures.reads inv.reads

pub returns-then-next-eq0-clause-finds : goal.returns-then-next-eq0-clause-finds
returns-then-next-eq0-clause-finds g c = λ told keys key hop tree start.
    let bytes = bytes_at (g.V.Files.state c.args.files.now).files c.args.index in
    let inv = c.loop-turns.invariant in
    let here = hop + c.loop-turns.turns in
    let chain = inv.chain told keys key hop tree start in
    let bucket = chain_bucket bytes keys key here c.loop-turns.number tree chain in
    let seen = rw c.in-Full.is at ((rw inv.same at c.in_ok-look_at.ensures.looks) told (reaching (goes key) here (numbered 0 keys)) bucket) in
    let onward = rw c.in-Full.is at ((rw inv.same at c.in_ok-look_at.ensures.onward) told) in
    chain_last bytes keys key here c.loop-turns.number c.in-Full.next c.next_place.result tree chain seen.1 onward c.if-next-eq0.true c.next_place.ensures.place

pub returns-then-next-eq0-clause-reads : goal.returns-then-next-eq0-clause-reads
returns-then-next-eq0-clause-reads g c = λ told keys key hop tree start.
    let bytes = bytes_at (g.V.Files.state c.args.files.now).files c.args.index in
    let inv = c.loop-turns.invariant in
    let near = chain_near bytes keys key (hop + c.loop-turns.turns) c.loop-turns.number tree (inv.chain told keys key hop tree start) in
    chain_paid (g.V.Files.reads c.look_at.new.files) (g.V.Files.reads c.loop-turns.files) (g.V.Files.reads c.args.files.now) (keys_beside key keys) hop c.loop-turns.turns near c.look_at.ensures.reads inv.reads

pub loop-turns-preserved : goal.loop-turns-preserved
loop-turns-preserved g c =
    let bytes = bytes_at (g.V.Files.state c.args.files.now).files c.args.index in
    let inv = c.loop-turns.invariant in
    record {
      same = c.in_ok-look_at.ensures.frame.same ∙ inv.same;
      lent = c.in_ok-look_at.ensures.frame.lent ∙ inv.lent;
      later = omega (arith, c.in_ok-look_at.ensures.frame.later, inv.later);
      faults = omega (arith, c.in_ok-look_at.ensures.frame.faultless, inv.faults);
      reads = omega (arith, c.in_ok-look_at.ensures.reads, inv.reads);
      chain = λ told keys key hop tree start.
          let onward = rw c.in-Full.is at ((rw inv.same at c.in_ok-look_at.ensures.onward) told) in
          let turn : hop + (c.loop-turns.turns + 1) ≡ hop + c.loop-turns.turns + 1 = omega arith in
          rw turn (chain_more bytes key (hop + c.loop-turns.turns) c.loop-turns.number c.in-Full.next (inv.chain told keys key hop tree start) onward c.if-next-eq0.false);
    }

pub returns-clause-finds : goal.returns-clause-finds
returns-clause-finds g c = λ told keys key hop tree start.
    let bytes = bytes_at (g.V.Files.state c.args.files.now).files c.args.index in
    chain_far bytes keys key (hop + c.loop-turns.turns) c.loop-turns.number tree (c.loop-turns.invariant.chain told keys key hop tree start) (omega (arith, c.loop-turns-test.false))

pub returns-clause-reads : goal.returns-clause-reads
returns-clause-reads g c = λ told keys key hop tree start.
    let bytes = bytes_at (g.V.Files.state c.args.files.now).files c.args.index in
    chain_far bytes keys key (hop + c.loop-turns.turns) c.loop-turns.number tree (c.loop-turns.invariant.chain told keys key hop tree start) (omega (arith, c.loop-turns-test.false))
