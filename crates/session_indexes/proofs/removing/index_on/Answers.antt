use Rattle.std.proofs.Common.{arith, ◌≡◌, ◌<◌, ℕ, Some, None, get_or, refl, ap, sym, subst, ◌∙◌}
use Rattle.session_model.specs.declared.held.Indexed.{Indexed}
use Rattle.session_model.proofs.Running.{same_default, slot_at, some_same}
use Rattle.session_indexes.proofs.Refused.{in_use, no_attribute_of, no_index, slot_found}
use Rattle.session_indexes.proofs.removing.index_on.Goals as goal

pub returns-in_default-clause-refused : goal.returns-in_default-clause-refused
returns-in_default-clause-refused c = λ files cell.
    no_attribute_of files c.args.held.now c.args.opens.now c.args.relation.now c.args.attribute.now c.args.id c.args.tuples.now cell (sym c.place_of.ensures.place ∙ c.in_default.is)

pub returns-in_default-slot_of-clause-refused : goal.returns-in_default-slot_of-clause-refused
returns-in_default-slot_of-clause-refused c = λ files cell.
    no_index files c.args.held.now c.args.opens.now c.args.relation.now c.args.attribute.now c.args.id c.args.tuples.now cell c.in-Some.place
    (sym c.place_of.ensures.place ∙ c.in-Some.is) (sym c.slot_of.ensures ∙ c.in_default-slot_of.is)

pub returns-in-Some-least_reader-clause-refused : goal.returns-in-Some-least_reader-clause-refused
returns-in-Some-least_reader-clause-refused c = λ files cell.
    in_use files c.args.held.now c.args.opens.now c.args.relation.now c.args.attribute.now c.args.id c.args.tuples.now cell c.in-Some.place
    (sym c.place_of.ensures.place ∙ c.in-Some.is) c.in-Some-slot_of.slot (sym c.slot_of.ensures ∙ c.in-Some-slot_of.is) c.in-Some-least_reader.cursor
    (sym (c.least_reader.ensures files) ∙ c.in-Some-least_reader.is)

pub returns-in-Some-indexes-clause-stands : goal.returns-in-Some-indexes-clause-stands
returns-in-Some-indexes-clause-stands c =
    let xs = c.args.held.now.indexes in
    let slot = c.in-Some-slot_of.slot in
    let found = slot_found c.args.id c.in-Some.place xs slot (sym c.slot_of.ensures ∙ c.in-Some-slot_of.is) in
    let below : slot < 8 = omega arith in
    let there : get_or xs slot None ≡ Some c.in-Some-indexes.index =
    subst (λ (n : ℕ). get_or xs n None ≡ Some c.in-Some-indexes.index) c.number.ensures.value
    (slot_at xs c.number.result c.index-held-number.result c.in-Some-indexes.index (omega (arith, c.requires.eight, c.number.ensures.below)) c.index-held-number.is
    (c.index-held-number.is ∙ c.in-Some-indexes.is)) in
    record {
      at = c.in-Some.place;
      place = sym c.place_of.ensures.place ∙ c.in-Some.is;
      found = sym c.slot_of.ensures ∙ c.in-Some-slot_of.is;
      below = below;
      index = c.in-Some-indexes.index;
      there = there;
      relation_is = ap (λ (x : Indexed). x.relation) (some_same c.in-Some-indexes.index found.index (sym there ∙ found.there)) ∙ found.on;
      access_is = refl;
      unread = λ files. sym (c.least_reader.ensures files) ∙ c.in_default-least_reader.is;
    }

pub returns-in-None-clause-refused : goal.returns-in-None-clause-refused
returns-in-None-clause-refused c = λ files cell.
    let xs = c.args.held.now.indexes in
    let slot = c.in-Some-slot_of.slot in
    let found = slot_found c.args.id c.in-Some.place xs slot (sym c.slot_of.ensures ∙ c.in-Some-slot_of.is) in
    let here : get_or xs c.number.result None ≡ None =
    same_default xs c.number.result None c.index-held-number.result (omega (arith, c.requires.eight, c.number.ensures.below)) ∙ c.in-None.is in
    let none : get_or xs slot None ≡ None = subst (λ (n : ℕ). get_or xs n None ≡ None) c.number.ensures.value here in
    let wrong : None ≡ Some found.index = sym none ∙ found.there in
    absurd (cc)
