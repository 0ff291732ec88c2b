use Rattle.std.proofs.Common.{Some, refl, slice_get}
use Rattle.lvm.specs.Evaluate as spec
use Rattle.lvm.proofs.evaluate.compares_attribute.Goals as goal

pub returns-in-Attribute-Number-Compare : goal.returns-in-Attribute-Number-Compare
returns-in-Attribute-Number-Compare c = λ _ values.
    let h = c.in-Attribute-Number-Compare in
    (spec.item_comparison h.field-0-2 (spec.item_of_value (slice_get values h.field-0-0)) (spec.Number (Some h.field-0-1)), λ stack. rw (h.is-0, h.is-1, h.is-2) refl)
