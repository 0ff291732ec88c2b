use Rattle.std.proofs.Common.{arith, ap}
use Rattle.db_model.specs.declared.schemas.Attribute.{Attribute}
use Rattle.db_model.specs.Row.{fields_length, width}
use Rattle.stored_mend.proofs.Slots.{field_of_slot, inside_at}
use Rattle.stored_mend.proofs.keyed.keys_at.Goals as goal

pub overflow_cast-column-2 : goal.overflow_cast-column-2
overflow_cast-column-2 g c =
    let item = c.index-attributes-place in
    let inside = inside_at c.as_slice-attributes.result.now c.args.attribute item.result (omega (arith, c.if-place-attributes.false)) item.is in
    let same = ap fields_length c.as_slice-attributes.ensures.items in
    omega (arith, c.fields_length.ensures.value, c.row_length-length.ensures.value, c.if-length-gt128.false, inside, same)

pub returns-clause-keys : goal.returns-clause-keys
returns-clause-keys g c =
    let item = c.index-attributes-place in
    let inside = inside_at c.as_slice-attributes.result.now c.args.attribute item.result (omega (arith, c.if-place-attributes.false)) item.is in
    let same = ap fields_length c.as_slice-attributes.ensures.items in
    record {
      width = c.in_ok-width.ensures.width;
      few = c.if-slots-gt32768.false;
      fields = λ slot below. record {
        live = c.requires.live;
        field = rw c.size.ensures at (field_of_slot c.row_length-length.result c.size.result slot c.fields_length.result c.in_ok-width.width
            (omega (arith, c.fields_length.ensures.value, c.row_length-length.ensures.value, c.in_ok-width.ensures.same, inside, ap (λ (a : Attribute). width a.domain) item.is, same)) below);
      };
    }
