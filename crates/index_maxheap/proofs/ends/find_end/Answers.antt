use Rattle.std.proofs.Common.{arith, ap, ◌∙◌, ◌≡◌, ◌*◌, ℕ}
use Rattle.afl_base.specs.Fields.{u16_at}
use Rattle.afl_base.specs.Files.{bytes_at, size_at}
use Rattle.db_model.specs.Cost.{keys_beside}
use Rattle.db_model.specs.HashTree.{node}
use Rattle.index_tree.specs.Pairs.{goes, reaching}
use Rattle.index_tree.specs.Trees.{numbered}
use Rattle.index_maxheap.proofs.Chained.{find_paid, level_bucket, level_end, level_number, lowest_is, pair_end, range_kept, unmet_more}
use Rattle.index_maxheap.proofs.Walked.{full_more}
use Rattle.index_maxheap.proofs.ends.find_end.Goals as goal

pub returns-in-None-clause-finds : goal.returns-in-None-clause-finds
returns-in-None-clause-finds g c = λ told keys tree.
    let bytes = bytes_at (g.V.Files.state c.args.files.now).files c.args.index in
    let inv = c.loop-level.invariant in
    let ps = numbered 0 keys in
    let key = c.args.key.now in
    let level : ℕ = c.loop-level.level in
    let spot : 2 * c.from-at.result ≡ 2 * node key level = ap (λ (n : ℕ). 2 * n) (c.from-at.ensures ∙ c.node.ensures.value) in
    let number : c.in_ok-number.number ≡ u16_at bytes (2 * node key level) = (rw inv.same at c.in_ok-number.ensures.number) told ∙ ap (u16_at bytes) spot in
    let at = level_bucket bytes ps key level c.in_ok-number.number tree inv.low number in
    let none = rw c.in-None.is at ((rw (c.in_ok-number.ensures.frame.same, inv.same) at c.in_ok-look_at.ensures.looks) told (reaching (goes key) level ps) at.1) in
    level_end bytes ps key level c.in_ok-number.number (2 * c.from-at.result) tree inv.low number none spot (inv.full told keys tree)

pub returns-in-Room-clause-finds : goal.returns-in-Room-clause-finds
returns-in-Room-clause-finds g c = λ told keys tree.
    let bytes = bytes_at (g.V.Files.state c.args.files.now).files c.args.index in
    let inv = c.loop-level.invariant in
    let ps = numbered 0 keys in
    let key = c.args.key.now in
    let level : ℕ = c.loop-level.level in
    let spot : 2 * c.from-at.result ≡ 2 * node key level = ap (λ (n : ℕ). 2 * n) (c.from-at.ensures ∙ c.node.ensures.value) in
    let number : c.in_ok-number.number ≡ u16_at bytes (2 * node key level) = (rw inv.same at c.in_ok-number.ensures.number) told ∙ ap (u16_at bytes) spot in
    let at = level_bucket bytes ps key level c.in_ok-number.number tree inv.low number in
    let seen = rw c.in-Room.is at ((rw (c.in_ok-number.ensures.frame.same, inv.same) at c.in_ok-look_at.ensures.looks) told (reaching (goes key) level ps) at.1) in
    pair_end bytes ps key level c.in_ok-number.number c.in-Room.pair c.pair_place.result (inv.full told keys tree) at.0 seen c.pair_place.ensures

pub returns-then-level-eq4-clause-finds : goal.returns-then-level-eq4-clause-finds
returns-then-level-eq4-clause-finds g c = λ told keys tree.
    let bytes = bytes_at (g.V.Files.state c.args.files.now).files c.args.index in
    let inv = c.loop-level.invariant in
    let ps = numbered 0 keys in
    let key = c.args.key.now in
    let level : ℕ = c.loop-level.level in
    let spot : 2 * c.from-at.result ≡ 2 * node key level = ap (λ (n : ℕ). 2 * n) (c.from-at.ensures ∙ c.node.ensures.value) in
    let number : c.in_ok-number.number ≡ u16_at bytes (2 * node key level) = (rw inv.same at c.in_ok-number.ensures.number) told ∙ ap (u16_at bytes) spot in
    let at = level_bucket bytes ps key level c.in_ok-number.number tree inv.low number in
    let seen = rw c.in-Full.is at ((rw (c.in_ok-number.ensures.frame.same, inv.same) at c.in_ok-look_at.ensures.looks) told (reaching (goes key) level ps) at.1) in
    let onward = rw c.in-Full.is at ((rw (c.in_ok-number.ensures.frame.same, inv.same) at c.in_ok-look_at.ensures.onward) told) in
    let lowest = lowest_is bytes ps key level c.in_ok-number.number c.in-Full.next c.if-level-eq4.true at.0 seen onward in
    let unmet = unmet_more bytes key level c.in_ok-number.number c.loop-level.last c.unmet-last.result (inv.unmet told) at.0 c.unmet-last.ensures.same c.unmet-last.ensures.other in
    (rw (c.in_ok-look_at.ensures.frame.same, c.in_ok-number.ensures.frame.same, inv.same) at c.end_behind.ensures.finds) told keys tree lowest (rw c.if-level-eq4.true at unmet)

pub returns-then-level-eq4-clause-reads : goal.returns-then-level-eq4-clause-reads
returns-then-level-eq4-clause-reads g c = λ told keys tree.
    let bytes = bytes_at (g.V.Files.state c.args.files.now).files c.args.index in
    let inv = c.loop-level.invariant in
    let ps = numbered 0 keys in
    let key = c.args.key.now in
    let level : ℕ = c.loop-level.level in
    let spot : 2 * c.from-at.result ≡ 2 * node key level = ap (λ (n : ℕ). 2 * n) (c.from-at.ensures ∙ c.node.ensures.value) in
    let number : c.in_ok-number.number ≡ u16_at bytes (2 * node key level) = (rw inv.same at c.in_ok-number.ensures.number) told ∙ ap (u16_at bytes) spot in
    let at = level_bucket bytes ps key level c.in_ok-number.number tree inv.low number in
    let seen = rw c.in-Full.is at ((rw (c.in_ok-number.ensures.frame.same, inv.same) at c.in_ok-look_at.ensures.looks) told (reaching (goes key) level ps) at.1) in
    let onward = rw c.in-Full.is at ((rw (c.in_ok-number.ensures.frame.same, inv.same) at c.in_ok-look_at.ensures.onward) told) in
    let lowest = lowest_is bytes ps key level c.in_ok-number.number c.in-Full.next c.if-level-eq4.true at.0 seen onward in
    let unmet = unmet_more bytes key level c.in_ok-number.number c.loop-level.last c.unmet-last.result (inv.unmet told) at.0 c.unmet-last.ensures.same c.unmet-last.ensures.other in
    let behind = (rw (c.in_ok-look_at.ensures.frame.same, c.in_ok-number.ensures.frame.same, inv.same) at c.end_behind.ensures.reads) told keys tree lowest (rw c.if-level-eq4.true at unmet) in
    find_paid (g.V.Files.reads c.end_behind.new.files) (g.V.Files.reads c.look_at.new.files) (g.V.Files.reads c.args.files.now) (keys_beside key keys) behind
    (omega (arith, c.in_ok-look_at.ensures.reads, c.in_ok-number.ensures.reads, inv.reads, c.if-level-eq4.true))

pub loop-level-preserved : goal.loop-level-preserved
loop-level-preserved g c =
    let bytes = bytes_at (g.V.Files.state c.args.files.now).files c.args.index in
    let inv = c.loop-level.invariant in
    let key = c.args.key.now in
    let level : ℕ = c.loop-level.level in
    let spot : 2 * c.from-at.result ≡ 2 * node key level = ap (λ (n : ℕ). 2 * n) (c.from-at.ensures ∙ c.node.ensures.value) in
    record {
      same = c.in_ok-look_at.ensures.frame.same ∙ c.in_ok-number.ensures.frame.same ∙ inv.same;
      lent = c.in_ok-look_at.ensures.frame.lent ∙ c.in_ok-number.ensures.frame.lent ∙ inv.lent;
      later = omega (arith, c.in_ok-look_at.ensures.frame.later, c.in_ok-number.ensures.frame.later, inv.later);
      faults = omega (arith, c.in_ok-look_at.ensures.frame.faultless, c.in_ok-number.ensures.frame.faultless, inv.faults);
      reads = omega (arith, c.in_ok-look_at.ensures.reads, c.in_ok-number.ensures.reads, inv.reads);
      low = omega (arith, inv.low, c.if-level-eq4.false);
      range = range_kept c.unmet-last.result c.loop-level.last (size_at (g.V.Files.state c.args.files.now).files c.args.index) c.requires.heads c.unmet-last.ensures.same inv.range;
      unmet = λ told.
          let number : c.in_ok-number.number ≡ u16_at bytes (2 * node key level) = (rw inv.same at c.in_ok-number.ensures.number) told ∙ ap (u16_at bytes) spot in
          unmet_more bytes key level c.in_ok-number.number c.loop-level.last c.unmet-last.result (inv.unmet told) (level_number bytes key level c.in_ok-number.number inv.low number) c.unmet-last.ensures.same c.unmet-last.ensures.other;
      full = λ told keys tree.
          let ps = numbered 0 keys in
          let number : c.in_ok-number.number ≡ u16_at bytes (2 * node key level) = (rw inv.same at c.in_ok-number.ensures.number) told ∙ ap (u16_at bytes) spot in
          let at = level_bucket bytes ps key level c.in_ok-number.number tree inv.low number in
          let seen = rw c.in-Full.is at ((rw (c.in_ok-number.ensures.frame.same, inv.same) at c.in_ok-look_at.ensures.looks) told (reaching (goes key) level ps) at.1) in
          full_more key ps level (inv.full told keys tree) seen.1;
    }
