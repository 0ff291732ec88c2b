use Rattle.std.proofs.Common.{rules, ap, ◌∙◌, Some, IsTrue, arith, subst}
use Rattle.afl_base.specs.Files.{State}
use Rattle.db_model.specs.Row.{tuple_of}
use Rattle.index_set.specs.Walks.{Fits}
use Rattle.tuple_file.specs.declared.tuples.Tuples.{Tuples}
use Rattle.tuple_file.specs.Tuples.{rows}
use Rattle.cursor.specs.declared.select.SelectCursor.{SelectCursor}
use Rattle.cursor.specs.Remaining.{Yields, slots_to_answer}
use Rattle.session_rows.specs.Marking.{IsMarkedFront}
use Rattle.session_rows.proofs.selecting.select_slots.Goals as goal

pub slots-preserved : goal.slots-preserved
slots-preserved g c =
    let s0 = g.V.Files.state c.args.files.now in
    let s1 = g.V.Files.state c.slots.files in
    let c0 = c.args.cursor.now in
    let c1 = c.slots.cursor in
    let c2 = c.next_bytes.new.self in
    let tables = c.args.tables.now in
    let inv = c.slots.invariant in
    let slot = c.in-Some.slot in
    let h = c.in_ok-slot.ensures in
    let r1 = g.V.Files.reads c.slots.files in
    let r2 = g.V.Files.reads c.next_bytes.new.files in
    let Y : State → Tuples → Type 0 = λ s t. IsTrue s.tells → Fits c1.candidates s tables (rows s.files t) → Yields (Some slot) (tuple_of t.schema.attributes c.next_bytes.new.row) c1 c2 s tables (rows s.files t) r1 r2 in
    let yields = subst (λ (t : Tuples). Y s0 t) inv.tuples (subst (λ (s : State). Y s c1.tuples) inv.same (rw c.in-Some.is at h.yields)) in
    let advances = rw c.in-Some.is at h.advances in
    let low = advances.below in
    let forward = advances.forward in
    let order = forward.0 in
    let from = forward.1 in
    record {
      same = search rules;
      lent = search rules;
      faults = search rules;
      reads = search rules;
      tuples = ap (λ (x : SelectCursor). x.tuples) h.stands ∙ inv.tuples;
      code = ap (λ (x : SelectCursor). x.code) h.stands ∙ inv.code;
      slots = advances.slots ∙ inv.slots;
      row = λ some. h.size ∙ inv.row some;
      few = omega (arith, inv.few, order, from, c.add.ensures.count);
      ends = omega (arith, from, c.add.ensures.end);
      firsts = search rules;
      may_read = search rules;
      below = c.add.ensures.below c0.candidates.slots inv.below (omega (arith, low, inv.slots));
      fits = λ told f. (yields told (inv.fits told f)).fits;
      front = λ told f. c.add.ensures.front (slots_to_answer c0 (rows s0.files c0.tuples)) (slots_to_answer c2 (rows s0.files c0.tuples)) (omega (arith, inv.ends, order))
          (subst (λ left. IsMarkedFront c.slots.selected (slots_to_answer c0 (rows s0.files c0.tuples)) left) (yields told (inv.fits told f)).slot (inv.front told f));
    }
