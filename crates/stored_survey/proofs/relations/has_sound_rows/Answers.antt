use Rattle.std.proofs.Common.{◌≡◌, ◌⊎◌, inl, inr, ℕ, ◌%◌, ◌/◌, ◌≤◌, List, [], length, ap, arith, subst, sym, ◌∙◌}
use Rattle.std.specs.Bool.{Decides}
use Rattle.std.proofs.lemmas.List.{nil_from_length}
use Rattle.afl_base.specs.Files.{bytes_at}
use Rattle.padded.proofs.Facts.{false_true}
use Rattle.stored_survey.specs.Pieces.{AreWritten}
use Rattle.stored_survey.proofs.RowsHeld.{by_whole, count_is, held_each, rows_held, whole_by}
use Rattle.stored_survey.proofs.Seen.{carried, refused}
use Rattle.stored_survey.proofs.relations.has_sound_rows.Goals as goal

pub returns-then-length-gt128-clause-rows : goal.returns-then-length-gt128-clause-rows
returns-then-length-gt128-clause-rows g c = λ told short. absurd (omega (arith, short, c.if-length-gt128.true, c.row_length-length.ensures.value))

pub returns-then-slots-most_slots-clause-rows : goal.returns-then-slots-most_slots-clause-rows
returns-then-slots-most_slots-clause-rows g c = λ told short. refused (λ h.
    let bytes = bytes_at (g.V.Files.state c.args.files.now).files c.args.file in
    let few = (held_each c.args.half.now c.args.version c.args.slot c.args.schema.now.attributes bytes h).few in
    let count = count_is c.args.schema.now.attributes bytes c.size-size.result c.row_length-length.result c.size-size.ensures c.row_length-length.ensures.value in
    omega (arith, few, count, c.if-slots-most_slots.true, c.most_slots.ensures.value))

pub returns-then-not-may_have-clause-rows : goal.returns-then-not-may_have-clause-rows
returns-then-not-may_have-clause-rows g c = λ told short. refused (λ h.
    let bytes = bytes_at (g.V.Files.state c.args.files.now).files c.args.file in
    let some = (held_each c.args.half.now c.args.version c.args.slot c.args.schema.now.attributes bytes h).some in
    false_true c.may_have.result c.if-not-may_have.true (c.may_have.ensures.1 (λ none. c.size-size.ensures ∙ ap (λ (xs : List ℕ). length xs) (some none))))

pub returns-then-not-may_end-clause-rows : goal.returns-then-not-may_end-clause-rows
returns-then-not-may_end-clause-rows g c = λ told short. refused (λ h.
    let bytes = bytes_at (g.V.Files.state c.args.files.now).files c.args.file in
    let whole = (held_each c.args.half.now c.args.version c.args.slot c.args.schema.now.attributes bytes h).whole in
    false_true c.may_end.result c.if-not-may_end.true (c.may_end.ensures.1 (whole_by c.args.schema.now.attributes bytes c.size-size.result c.row_length-length.result c.size-size.ensures c.row_length-length.ensures.value whole)))

pub returns-clause-rows : goal.returns-clause-rows
returns-clause-rows g c = λ told short.
    let bytes = bytes_at (g.V.Files.state c.args.files.now).files c.args.file in
    let attributes = c.args.schema.now.attributes in
    let size = c.size-size.ensures in
    let row = c.row_length-length.ensures.value in
    let count = count_is attributes bytes c.size-size.result c.row_length-length.result size row in
    carried c.in_ok-held.held (c.in_ok-held.ensures.written told)
    (λ written. rows_held c.args.half.now c.args.version c.args.slot attributes bytes (record {
      written = subst (AreWritten attributes bytes) count written;
      few = omega (arith, count, c.if-slots-most_slots.false, c.most_slots.ensures.value);
      some = λ none. nil_from_length bytes (sym size ∙ c.may_have.ensures.0 c.if-not-may_have.false none);
      whole = by_whole attributes bytes c.size-size.result c.row_length-length.result size row (c.may_end.ensures.0 c.if-not-may_end.false);
    }))
    (λ h. subst (AreWritten attributes bytes) (sym count) (held_each c.args.half.now c.args.version c.args.slot attributes bytes h).written)
