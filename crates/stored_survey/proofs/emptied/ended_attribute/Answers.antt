use Rattle.std.proofs.Common.{ℕ, ◌+◌, ◌-◌, ◌*◌, List, arith, drop, ◌∙◌}
use Rattle.std.specs.Prelude.{slice_range}
use Rattle.std.proofs.lemmas.List.{length-drop, length-take-le}
use Rattle.stored_survey.proofs.AttributeEnds.{ended_alike, range_end}
use Rattle.stored_survey.proofs.emptied.ended_attribute.Goals as goal

pub returns-then-begin-at-clause-same : goal.returns-then-begin-at-clause-same
returns-then-begin-at-clause-same c =
    let bytes : List ℕ = c.args.bytes.now in
    let at : ℕ = c.args.at in
    let begin : ℕ = 16 + 18 * c.args.place in
    let long = length-take-le (begin + 18 - at) (drop at bytes) (omega (arith, length-drop at bytes, c.requires.length, c.requires.place)) in
    λ a valid is. ended_alike c.attribute_ended.result (slice_range bytes at (begin + 18)) (at - begin) a
    (long ∙ omega (arith, c.if-end-at.false, c.if-begin-at.true)) (omega (arith, c.if-end-at.false)) valid
    (range_end bytes begin at 18 (omega (arith, c.if-begin-at.true)) (omega (arith, c.if-end-at.false)) ∙ is) c.attribute_ended.ensures.some c.attribute_ended.ensures.none
