use Rattle.std.proofs.Common.{arith, rules, ◌≡◌, ◌+◌, ◌∙◌, ◌∷◌, List, ℕ, ap, sym, subst, drop, take, length, refl, []}
use Rattle.std.proofs.Math.ListN.{drop_of_length-le}
use Rattle.db_model.specs.declared.schemas.Attribute.{Attribute}
use Rattle.db_model.specs.Row.{fields_length, width}
use Rattle.padded.proofs.Facts.{drop_item}
use Rattle.stored_mend.specs.Filled.{FillsFields}
use Rattle.stored_mend.proofs.fields.fill_fields.Goals as goal

pub loop-attribute-init : goal.loop-attribute-init
loop-attribute-init c = record { filled = λ new f. f; kept = refl; size = refl; place = omega arith }

pub fill_field-requires-clause-room : goal.fill_field-requires-clause-room
fill_field-requires-clause-room c =
    let l = c.loop-attribute in
    let more = ap fields_length (drop_item c.args.attributes.now l.attribute-index c.attribute-item.result c.loop-attribute-test.true c.attribute-item.is) in
    omega (arith, more, l.invariant.place, l.invariant.size, c.requires.room)

pub fill_field-requires-clause-before : goal.fill_field-requires-clause-before
fill_field-requires-clause-before c = λ some.
    let l = c.loop-attribute in
    let more = ap fields_length (drop_item c.args.attributes.now l.attribute-index c.attribute-item.result c.loop-attribute-test.true c.attribute-item.is) in
    omega (arith, more, l.invariant.place, c.requires.before some)

pub overflow_add-at : goal.overflow_add-at
overflow_add-at c =
    let l = c.loop-attribute in
    record { fits = omega (arith, c.width-at.ensures.short, l.invariant.place, c.requires.room, c.requires.short) }

pub loop-attribute-preserved : goal.loop-attribute-preserved
loop-attribute-preserved c =
    let l = c.loop-attribute in
    let items = c.args.attributes.now in
    let same = drop_item items l.attribute-index c.attribute-item.result c.loop-attribute-test.true c.attribute-item.is in
    let more = ap fields_length same in
    record {
      filled = λ new f. l.invariant.filled new
          (subst (λ (xs : List Attribute). FillsFields xs c.args.before.now l.at c.args.have l.row new) (sym same) (
            c.fill_field.new.row,
            c.fill_field.ensures.filled,
            subst (λ (n : ℕ). FillsFields (drop (l.attribute-index + 1) items) c.args.before.now (l.at + n) c.args.have c.fill_field.new.row new) c.width-at.ensures.value f,
          ));
      kept = c.fill_field.ensures.kept ∙ l.invariant.kept;
      size = c.fill_field.ensures.size ∙ l.invariant.size;
      place = omega (arith, more, l.invariant.place, c.width-at.ensures.value);
    }

pub returns-clause-filled : goal.returns-clause-filled
returns-clause-filled c =
    let l = c.loop-attribute in
    l.invariant.filled l.row
    (subst (λ (xs : List Attribute). FillsFields xs c.args.before.now l.at c.args.have l.row l.row) (sym (drop_of_length-le c.args.attributes.now c.loop-attribute-test.false)) refl)
