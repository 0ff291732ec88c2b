use Rattle.std.proofs.Common.{ℕ, ◌+◌, List, ap, arith, length, length-append, ◌∷◌, [], subst, sym, ◌∙◌}
use Rattle.std.specs.List.{AllByRecursion}
use Rattle.std.proofs.lemmas.List.{take_all}
use Rattle.db_model.specs.declared.schemas.Attribute.{Attribute}
use Rattle.db_model.specs.Catalog.{IsAttribute, attribute_bytes}
use Rattle.db_model.specs.Names.{is_name}
use Rattle.std.specs.Prelude.{◌-◌, drop, flat_map}
use Rattle.stored_survey.proofs.NameParts.{x_name}
use Rattle.stored_survey.proofs.SlotEnds.{AreAlike, alike_more, all_behind, count_is, item_at, piece_is, slots_alike}
use Rattle.stored_survey.proofs.emptied.ended_relation.Goals as goal

pub returns-in_err-ended_attribute-clause-same : goal.returns-in_err-ended_attribute-clause-same
returns-in_err-ended_attribute-clause-same c = λ was w.
    let place : ℕ = c.loop-place.place in
    let count = count_is c.args.at c.args.bytes.now was w c.requires.upto in
    let it = item_at was.attributes place (omega (arith, count, c.loop-place-test.true)) in
    absurd (c.in_err-ended_attribute.ensures.same it.item (it.valid w.valid.2) (piece_is c.args.at c.args.bytes.now was w place it (omega (arith, count, c.loop-place-test.true))))

pub loop-place-preserved : goal.loop-place-preserved
loop-place-preserved c =
    let place : ℕ = c.loop-place.place in
    let inv = c.loop-place.invariant in
    let made : Attribute = c.in_ok-ended_attribute.field-0 in
    record {
      valid = subst (AllByRecursion IsAttribute) (sym c.push.ensures) (all_behind c.loop-place.attributes made inv.valid c.in_ok-ended_attribute.ensures.valid);
      many = omega (arith, ap (λ xs. length xs) c.push.ensures, length-append c.loop-place.attributes (made ∷ []), inv.many);
      same = λ was w.
          let count = count_is c.args.at c.args.bytes.now was w c.requires.upto in
          let it = item_at was.attributes place (omega (arith, count, c.loop-place-test.true)) in
          let piece = piece_is c.args.at c.args.bytes.now was w place it (omega (arith, count, c.loop-place-test.true)) in
          subst (λ (xs : List Attribute). AreAlike c.args.at (place + 1) xs was) (sym c.push.ensures)
          (alike_more c.args.at place c.loop-place.attributes was made it inv.valid w.valid.2 inv.many (omega (arith, count, c.loop-place-test.true)) (inv.same was w)
          (c.in_ok-ended_attribute.ensures.same it.item (it.valid w.valid.2) piece));
    }

pub returns-clause-same : goal.returns-clause-same
returns-clause-same c = λ was w.
    let inv = c.loop-place.invariant in
    let count = count_is c.args.at c.args.bytes.now was w c.requires.upto in
    slots_alike (record { name = c.default.result; attributes = c.loop-place.attributes }) was
    (ap is_name c.default.ensures ∙ x_name, omega (arith, inv.many, c.loop-place.auto.place-end, c.if-count-gt8.false), inv.valid) w.valid c.args.at c.requires.from
    (omega (arith, inv.many, count, c.loop-place-test.false, c.loop-place.auto.place-end))
    (inv.same was w ∙ ap (λ (xs : List Attribute). drop (c.args.at - 16) (flat_map attribute_bytes xs)) (take_all c.loop-place.place was.attributes (omega (arith, count, c.loop-place-test.false))))
