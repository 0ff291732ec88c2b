use Rattle.std.proofs.Common.{◌≡◌, ◌+◌, ℕ, List, drop, length, take}
use Rattle.db_model.specs.Row.{fields_length}
use Rattle.stored_mend.specs.Filled.{FillsFields}
use Rattle.stored_mend.proofs.fields.fill_fields.Given as goal

abbrev pub invariant-loop-attribute : goal.invariant-loop-attribute
invariant-loop-attribute l = record {
  filled : (new : List ℕ) → FillsFields (drop l.attribute-index l.attributes) l.before l.at l.have l.row new → FillsFields l.attributes l.before 0 l.have l.initial.row new;
  kept : take l.have l.row ≡ take l.have l.initial.row;
  size : length l.row ≡ length l.initial.row;
  place : l.at + fields_length (drop l.attribute-index l.attributes) ≡ fields_length l.attributes;
}
