use Rattle.std.proofs.Common.{arith, refl, sym, ap, ◌∙◌, Option, false}
use Rattle.std.specs.Prelude.{is_some}
use Rattle.std.specs.Option.{option_map_or}
use Rattle.std.proofs.lemmas.Option.{slice_get_read}
use Rattle.db_model.specs.declared.schemas.Attribute.{Attribute}
use Rattle.db_model.specs.Step.{allows}
use Rattle.session_indexes.proofs.Refused.{exists, full, no_attribute, no_domain}
use Rattle.session_indexes.proofs.sites.site_for.Goals as goal

pub returns-in_default-clause-refused : goal.returns-in_default-clause-refused
returns-in_default-clause-refused c = λ files opens name cell.
    no_attribute files c.args.held.now opens name c.args.attribute.now c.args.kind c.args.relation c.args.tuples.now cell
    (sym c.place_of.ensures.place ∙ c.in_default.is)

pub returns-then-not-allows-clause-refused : goal.returns-then-not-allows-clause-refused
returns-then-not-allows-clause-refused c = λ files opens name cell.
    no_domain files c.args.held.now opens name c.args.attribute.now c.args.kind c.args.relation c.args.tuples.now cell c.in-Some.place c.get.result.now
    (sym c.place_of.ensures.place ∙ c.in-Some.is)
    (slice_get_read c.args.tuples.now.schema.attributes _ c.in-Some.place c.get.result.now refl c.in-Some.ensures.within c.get.ensures)
    (sym c.allows.ensures ∙ c.if-not-allows.true)

pub returns-then-is_some-clause-refused : goal.returns-then-is_some-clause-refused
returns-then-is_some-clause-refused c = λ files opens name cell.
    exists files c.args.held.now opens name c.args.attribute.now c.args.kind c.args.relation c.args.tuples.now cell c.in-Some.place c.get.result.now
    (sym c.place_of.ensures.place ∙ c.in-Some.is)
    (slice_get_read c.args.tuples.now.schema.attributes _ c.in-Some.place c.get.result.now refl c.in-Some.ensures.within c.get.ensures)
    (sym c.allows.ensures ∙ c.if-not-allows.false)
    (ap is_some (sym c.slot_of.ensures) ∙ sym c.is_some.ensures ∙ c.if-is_some.true)

pub returns-in_default-free_slot-clause-refused : goal.returns-in_default-free_slot-clause-refused
returns-in_default-free_slot-clause-refused c = λ files opens name cell.
    full files c.args.held.now opens name c.args.attribute.now c.args.kind c.args.relation c.args.tuples.now cell c.in-Some.place c.get.result.now
    (sym c.place_of.ensures.place ∙ c.in-Some.is)
    (slice_get_read c.args.tuples.now.schema.attributes _ c.in-Some.place c.get.result.now refl c.in-Some.ensures.within c.get.ensures)
    (sym c.allows.ensures ∙ c.if-not-allows.false)
    (ap is_some (sym c.slot_of.ensures) ∙ sym c.is_some.ensures ∙ c.if-is_some.false)
    (sym c.free_slot.ensures ∙ c.in_default-free_slot.is)

pub returns-clause-site : goal.returns-clause-site
returns-clause-site c = record {
  place = sym c.place_of.ensures.place ∙ c.in-Some.is;
  below = c.in-Some.ensures.below;
  allowed = ap (λ (o : Option Attribute). option_map_or (λ (a : Attribute). allows c.args.kind a.domain) o false)
      (slice_get_read c.args.tuples.now.schema.attributes _ c.in-Some.place c.get.result.now refl c.in-Some.ensures.within c.get.ensures)
      ∙ sym c.allows.ensures ∙ c.if-not-allows.false;
  new = ap is_some (sym c.slot_of.ensures) ∙ sym c.is_some.ensures ∙ c.if-is_some.false;
  free = sym c.free_slot.ensures ∙ c.in-Some-free_slot.is;
  slot = omega arith;
}
