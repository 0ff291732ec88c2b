use Rattle.std.proofs.Common.{rules, Some, ◌≤◌, ◌+◌, length, sym, ◌∙◌, arith}
use Rattle.index_set.specs.Walks.{Fits, ahead}
use Rattle.tuple_file.specs.Tuples.{rows}
use Rattle.cursor.specs.Remaining.{cost_of_slots, passed_until}
use Rattle.cursor.proofs.Walking.{advances_then, passes_by, walk_more, walk_stops}
use Rattle.cursor.proofs.walk.next_bytes.Goals as goal

pub returns-in_err-is_answer-in-Some-clause-reads_failed : goal.returns-in_err-is_answer-in-Some-clause-reads_failed
returns-in_err-is_answer-in-Some-clause-reads_failed g c = λ told.
    let state = g.V.Files.state c.args.files.now in
    let all = rows state.files c.args.tuples.now in
    let before = c.args.candidates.now in
    let inv = c.slots.invariant in
    let h = c.in_ok-next.ensures in
    let most : Fits before state c.args.tables.now all
    → g.V.Files.reads c.is_answer.new.files ≤ g.V.Files.reads c.args.files.now + cost_of_slots before all (length (passed_until (g.T.Test.passes c.args.test.now) all (ahead before all))) =
    λ fits. let w = inv.told told fits in
    let step = (rw (inv.same, c.in-Some.is) at h.steps) told all w.fits in
    walk_stops state c.args.tables.now all (g.T.Test.passes c.args.test.now) before c.slots.candidates c.next.new.self (g.V.Files.reads c.args.files.now) (g.V.Files.reads c.slots.files)
    (g.V.Files.reads c.next.new.files) (g.V.Files.reads c.is_answer.new.files) c.in-Some.slot w step.first step.reads
    c.in_err-is_answer-in-Some.ensures.reads (h.advances.search ∙ inv.passes.search) in
    search (rules, most)

pub slots-preserved : goal.slots-preserved
slots-preserved g c =
    let state = g.V.Files.state c.args.files.now in
    let all = rows state.files c.args.tuples.now in
    let before = c.args.candidates.now in
    let inv = c.slots.invariant in
    let h = c.in_ok-next.ensures in
    let read = c.in_ok-is_answer-in-Some.ensures in
    let advances = rw c.in-Some.is at h.advances in
    record {
      same = search rules;
      lent = search rules;
      reads_later = omega (arith, inv.reads_later, h.frame.later, read.frame.later);
      faults = omega (arith, inv.faults, h.frame.faultless, read.frame.faultless);
      passes = passes_by c.in-Some.slot before c.next.new.self (advances_then (Some c.in-Some.slot) before c.slots.candidates c.next.new.self inv.passes inv.later advances);
      later = (let forward = advances.forward in let order = forward.0 in let from = forward.1 in omega (arith, inv.later, order, from));
      size = read.size ∙ inv.size;
      told = λ told fits.
          let w = inv.told told fits in
          let step = (rw (inv.same, c.in-Some.is) at h.steps) told all w.fits in
          walk_more state c.args.tables.now all (g.T.Test.passes c.args.test.now) before c.slots.candidates c.next.new.self (g.V.Files.reads c.args.files.now) (g.V.Files.reads c.slots.files)
          (g.V.Files.reads c.next.new.files) (g.V.Files.reads c.is_answer.new.files) c.in-Some.slot w step.first step.reads read.reads
          (sym ((rw (h.frame.same ∙ inv.same) at read.answer) told) ∙ c.if-branch.false) step.fits;
    }
