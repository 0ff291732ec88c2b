use Rattle.std.proofs.Common.{◌≡◌, ◌<◌, ◌-◌, ℕ, ◌∙◌, ap, sym, arith}
use Rattle.db_model.specs.Step.{fallen_from}
use Rattle.tuple_file.specs.Tuples.{row, slots}
use Rattle.cursor.proofs.Joins.{slot_made}
use Rattle.session_rows.specs.Refused.{is_ordered_by}
use Rattle.session_rows.proofs.Ordered.{fallen_of_last, fallen_of_none, last_there}
use Rattle.session_rows.proofs.refusing.fallen_behind.Goals as goal

pub returns-then-not-has_order-clause-fallen : goal.returns-then-not-has_order-clause-fallen
returns-then-not-has_order-clause-fallen g c = λ told slot.
    sym (fallen_of_none slot c.args.indexes.now _ c.args.values.now (sym c.has_order.ensures ∙ c.if-not-has_order.true))

pub returns-clause-fallen : goal.returns-clause-fallen
returns-clause-fallen g c = λ told slot.
    let state = g.V.Files.state c.args.files.now in
    let t = c.args.tuples.now in
    let count : ℕ = c.count-count.result in
    let some : 0 < slots state.files t = omega (arith, c.if-count-eq0.false, c.count-count.ensures.slots) in
    let at : c.in-Some.slot ≡ count - 1 = slot_made (count - 1) c.in-Some.slot _ (sym c.in-Some.is ∙ c.new.ensures) in
    let same : slots state.files t - 1 ≡ c.in-Some.slot = omega (arith, at, c.count-count.ensures.slots) in
    let last = ap (row state.files t) same ∙ c.in_ok-row.ensures.row told in
    c.fallen.ensures
    ∙ (λ i. fallen_from (is_ordered_by c.args.indexes.now) 0 (c.as_slice.ensures.items i) (c.as_slice-2.ensures.items i))
    ∙ fallen_of_last slot c.args.indexes.now _ c.row.new.into c.args.values.now c.in_ok-row.field-0 (last_there state t _ some last)
