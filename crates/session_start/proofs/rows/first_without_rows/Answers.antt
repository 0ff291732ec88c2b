use Rattle.std.proofs.Common.{arith, rules, subst, ◌<◌, ◌+◌, Option, None, get_or, length}
use Rattle.tuple_file.specs.declared.tuples.Tuples.{Tuples}
use Rattle.session_model.proofs.Running.{same_default}
use Rattle.session_start.specs.Judged.{AreRowsOf, HasRows, HoldsFew, HoldsSlot}
use Rattle.session_start.proofs.Slots.{each_next}
use Rattle.session_start.proofs.Sums.{slots_next, slots_within}
use Rattle.session_start.proofs.rows.first_without_rows.Goals as goal
use Rattle.index_set.proofs.Verified.{to_true}

pub returns-in_err-held_rows-clause-reads : goal.returns-in_err-held_rows-clause-reads
returns-in_err-held_rows-clause-reads g c =
    let inv = c.loop-slot.invariant in
    let start = g.V.Files.state c.args.files.now in
    let relations = c.args.held.now.relations in
    let n = c.loop-slot.slot in
    let inside : n < length relations = omega (arith, c.requires.eight, c.loop-slot-test.true) in
    let reads = rw inv.same at c.holds_rows.ensures.reads in
    omega (arith, inv.reads, reads, slots_next start.files relations n c.index-held-slot.result inside, slots_within start.files relations (n + 1))

pub returns-then-not-held_rows-clause-reads : goal.returns-then-not-held_rows-clause-reads
returns-then-not-held_rows-clause-reads g c =
    let inv = c.loop-slot.invariant in
    let start = g.V.Files.state c.args.files.now in
    let relations = c.args.held.now.relations in
    let n = c.loop-slot.slot in
    let inside : n < length relations = omega (arith, c.requires.eight, c.loop-slot-test.true) in
    let reads = rw inv.same at c.holds_rows.ensures.reads in
    omega (arith, inv.reads, reads, slots_next start.files relations n c.index-held-slot.result inside, slots_within start.files relations (n + 1))

pub loop-slot-preserved : goal.loop-slot-preserved
loop-slot-preserved g c =
    let inv = c.loop-slot.invariant in
    let start = g.V.Files.state c.args.files.now in
    let held = c.args.held.now in
    let relations = held.relations in
    let n = c.loop-slot.slot in
    let d = c.index-held-slot.result in
    let inside : n < length relations = omega (arith, c.requires.eight, c.loop-slot-test.true) in
    let here = same_default relations n d None inside in
    let reads = rw inv.same at c.holds_rows.ensures.reads in
    let rows = rw inv.same at c.in_ok-held_rows.ensures.rows in
    let holds = rw inv.same at c.in_ok-held_rows.ensures.holds in
    record {
      same = search rules;
      rows = λ told. each_next (HasRows start.files held) n (inv.rows told)
          (subst (λ (o : Option Tuples). AreRowsOf start.files held.version o) here (to_true c.in_ok-held_rows.held_rows (AreRowsOf start.files held.version (get_or relations n d)) (rows told) c.if-not-held_rows.false));
      holds = each_next (HoldsSlot start held) n inv.holds (subst (λ (o : Option Tuples). HoldsFew start held.version o) here (holds c.if-not-held_rows.false));
      reads = omega (arith, inv.reads, reads, slots_next start.files relations n d inside);
      lent = search rules;
      later = search rules;
      faults = search rules;
    }
