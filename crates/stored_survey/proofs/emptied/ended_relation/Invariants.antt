use Rattle.std.proofs.Common.{◌≡◌, length}
use Rattle.std.specs.List.{AllByRecursion}
use Rattle.db_model.specs.declared.schemas.Schema.{Schema}
use Rattle.db_model.specs.Catalog.{IsAttribute}
use Rattle.stored_survey.specs.Parts.{IsSlotEnd}
use Rattle.stored_survey.proofs.SlotEnds.{AreAlike}
use Rattle.stored_survey.proofs.emptied.ended_relation.Given as goal

abbrev pub invariant-loop-place : goal.invariant-loop-place
invariant-loop-place l = record {
  valid : AllByRecursion IsAttribute l.attributes;
  many : length l.attributes ≡ l.place;
  same : (was : Schema) → IsSlotEnd l.at l.bytes was → AreAlike l.at l.place l.attributes was;
}
