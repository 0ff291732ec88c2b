use Rattle.std.proofs.Common.{◌≡◌, ◌≢◌, ◌<◌, ℕ, List, take, get_or, length, set, subst, sym, ap, ◌∙◌, add-one, arith}
use Rattle.afl_base.specs.Files.{bytes_at}
use Rattle.afl_base.proofs.FrameLaws.{becomes_spares, spares_then}
use Rattle.afl_base.proofs.SparingLaws.{takes_no_page_on}
use Rattle.db_model.specs.Row.{Row, no_row}
use Rattle.tuple_file.specs.Tuples.{row, rows, slots}
use Rattle.cursor.proofs.Walking.{row_there}
use Rattle.session_model.proofs.Running.{same_default}
use Rattle.session_rows.specs.Marking.{dead, marked}
use Rattle.padded.proofs.Facts.{on_err}
use Rattle.afl_base.proofs.CutLaws.{mends_as}
use Rattle.session_rows.specs.CutRows.{MayMarkRows}
use Rattle.session_rows.proofs.Cuts.{marked_one}
use Rattle.session_rows.proofs.Marked.{marks_next}
use Rattle.session_rows.proofs.marking.mark_rows.Goals as goal

pub loop-slot-preserved : goal.loop-slot-preserved
loop-slot-preserved g c =
    let s0 = g.V.Files.state c.args.files.now in
    let s1 = g.V.Files.state c.loop-slot.files in
    let s2 = g.V.Files.state c.mark.new.files in
    let t = c.args.tuples.now in
    let items : List ℕ = c.as_slice-slot-items.result.now in
    let i = c.loop-slot.slot-index in
    let slot : ℕ = c.slot-item.result in
    let inv = c.loop-slot.invariant in
    let h = c.in_ok-mark.ensures in
    let below : i < length items = c.loop-slot-test.true in
    let R = rows s1.files t in
    record {
      holds = h.holds;
      count = h.slots ∙ inv.count;
      records = omega (arith, inv.records, h.records);
      spared = spares_then s0 s1 s2 (λ k. k ≢ t.file) (λ k. k ≢ t.file) (λ k. k ≢ t.file) inv.spared (becomes_spares s1 s2 t.file _ _ inv.holds.file.live h.marked) (λ k r. (r, r));
      told = λ told.
          let before = inv.spared.tells ∙ told in
          let same : items ≡ c.args.slots.now = c.as_slice-slot-items.ensures.items in
          let here : slot ≡ get_or items i 0 = c.slot-item.is ∙ same_default items i _ 0 below in
          let there : get_or items i 0 ≡ get_or c.args.slots.now i 0 = ap (λ (l : List ℕ). get_or l i 0) same in
          let few : i < length c.args.slots.now = omega (arith, below, ap (λ (l : List ℕ). length l) same) in
          let inside : slot < slots s1.files t = omega (arith, here, there, c.requires.below i few, inv.count) in
          let is : row s1.files t slot ≡ get_or R slot no_row = sym (row_there t.schema.attributes (bytes_at s1.files t.file) slot inside) in
          let R0 = rows s0.files t in
          h.rows before ∙ ap (λ (z : Row). set R slot (dead z)) is
          ∙ ap (λ (rs : List Row). set rs slot (dead (get_or rs slot no_row))) (inv.told told)
          ∙ marks_next R0 items i slot below here
          ∙ ap (λ (n : ℕ). marked (take n items) R0) (sym (add-one i));
      free = λ told. takes_no_page_on g.V.Files.is_free s0.store s1.store s2.store (inv.free told) (h.spares (inv.spared.tells ∙ told));
      store = h.frame.store ∙ inv.store;
      lent = h.frame.lent ∙ inv.lent;
      faults = omega (arith, inv.faults, h.frame.cause.later);
      reads = omega (arith, inv.reads, h.frame.later);
    }

pub returns-in_err-mark-clause-cut : goal.returns-in_err-mark-clause-cut
returns-in_err-mark-clause-cut g c = λ cuts told.
    let s0 = g.V.Files.state c.args.files.now in
    let s1 = g.V.Files.state c.loop-slot.files in
    let t = c.args.tuples.now in
    let items : List ℕ = c.as_slice-slot-items.result.now in
    let i = c.loop-slot.slot-index in
    let slot : ℕ = c.slot-item.result in
    let inv = c.loop-slot.invariant in
    let below : i < length items = c.loop-slot-test.true in
    let same : items ≡ c.args.slots.now = c.as_slice-slot-items.ensures.items in
    let here : slot ≡ get_or items i 0 = c.slot-item.is ∙ same_default items i _ 0 below in
    let there : get_or items i 0 ≡ get_or c.args.slots.now i 0 = ap (λ (l : List ℕ). get_or l i 0) same in
    let few : i < length c.args.slots.now = omega (arith, below, ap (λ (l : List ℕ). length l) same) in
    let inside : slot < slots s1.files t = omega (arith, here, there, c.requires.below i few, inv.count) in
    on_err c.from_residual.result (mends_as (c.in_err-mark.ensures.cut cuts (inv.spared.tells ∙ told))
    (λ after m. subst (λ (all : List ℕ). MayMarkRows s0 after t all) same (marked_one s0 s1 after t items i slot below here inside inv.spared (inv.told told) m)))
