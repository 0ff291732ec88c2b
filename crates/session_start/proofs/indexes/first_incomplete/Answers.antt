use Rattle.std.proofs.Common.{arith, rules, ◌<◌, ◌+◌, None, length}
use Rattle.session_start.specs.Judged.{IsReadySlot, KeepsSlot}
use Rattle.session_start.proofs.Slots.{each_next}
use Rattle.session_start.proofs.Sums.{reads_next, reads_within}
use Rattle.session_start.proofs.indexes.first_incomplete.Goals as goal
use Rattle.index_set.proofs.Verified.{to_true}

pub returns-in_err-whole-clause-reads : goal.returns-in_err-whole-clause-reads
returns-in_err-whole-clause-reads g c =
    let inv = c.loop-slot.invariant in
    let start = g.V.Files.state c.args.files.now in
    let held = c.args.held.now in
    let n = c.loop-slot.slot in
    let inside : n < length held.indexes = omega (arith, c.requires.found.eight_indexes, c.loop-slot-test.true) in
    let reads = rw inv.same at c.is_whole_slot.ensures.reads in
    omega (arith, inv.reads, reads, reads_next start.files held.relations held.indexes n None inside, reads_within start.files held.relations held.indexes (n + 1))

pub returns-then-not-whole-clause-reads : goal.returns-then-not-whole-clause-reads
returns-then-not-whole-clause-reads g c =
    let inv = c.loop-slot.invariant in
    let start = g.V.Files.state c.args.files.now in
    let held = c.args.held.now in
    let n = c.loop-slot.slot in
    let inside : n < length held.indexes = omega (arith, c.requires.found.eight_indexes, c.loop-slot-test.true) in
    let reads = rw inv.same at c.is_whole_slot.ensures.reads in
    omega (arith, inv.reads, reads, reads_next start.files held.relations held.indexes n None inside, reads_within start.files held.relations held.indexes (n + 1))

pub loop-slot-preserved : goal.loop-slot-preserved
loop-slot-preserved g c =
    let inv = c.loop-slot.invariant in
    let start = g.V.Files.state c.args.files.now in
    let held = c.args.held.now in
    let n = c.loop-slot.slot in
    let inside : n < length held.indexes = omega (arith, c.requires.found.eight_indexes, c.loop-slot-test.true) in
    let reads = rw inv.same at c.is_whole_slot.ensures.reads in
    let kept = rw inv.same at c.in_ok-whole.ensures.kept in
    let ready = rw inv.same at c.in_ok-whole.ensures.ready in
    let others = rw inv.same at c.is_whole_slot.ensures.others in
    record {
      same = search rules;
      kept = λ told. each_next (KeepsSlot start.files held) n (inv.kept told) (to_true c.in_ok-whole.whole (KeepsSlot start.files held n) (kept told) c.if-not-whole.false);
      ready = each_next (IsReadySlot start c.is_whole_slot.new.tables held) n (λ i below. others i (λ same. omega (arith, below, same)) (inv.ready i below)) (ready c.if-not-whole.false);
      reads = omega (arith, inv.reads, reads, reads_next start.files held.relations held.indexes n None inside);
      lent = search rules;
      later = search rules;
      faults = search rules;
    }
