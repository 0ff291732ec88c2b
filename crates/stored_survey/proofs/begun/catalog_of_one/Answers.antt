use Rattle.std.proofs.Common.{List, Some, ap, ◌∙◌}
use Rattle.db_model.specs.declared.schemas.Attribute.{Attribute}
use Rattle.db_model.specs.Catalog.{relation_slot_bytes}
use Rattle.stored_survey.proofs.FirstCatalog.{made_of_one}
use Rattle.stored_survey.proofs.begun.catalog_of_one.Goals as goal

pub returns : goal.returns
returns c =
    made_of_one c.args.name c.as_slice.result.now c.first_catalog.result c.requires
    (c.as_slice.ensures.items ∙ c.relation_slot.ensures ∙ ap (λ (attributes : List Attribute). relation_slot_bytes (Some (record { name = c.args.name; attributes = attributes }))) c.new.ensures)
    c.first_catalog.ensures.value
