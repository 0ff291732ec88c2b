use Rattle.std.proofs.Common.{get_or, None, sym, ◌∙◌}
use Rattle.session_relations.proofs.Created.{made_exists, made_full, made_slot, used_slot}
use Rattle.session_relations.proofs.creating.slot_for.Goals as goal

pub returns-in-Some-clause-refused : goal.returns-in-Some-clause-refused
returns-in-Some-clause-refused c = λ files opens.
    let k = c.in-Some.field-0 in
    let there = used_slot (get_or c.args.held.now.relations k None) c.in-Some.ensures.used.1 in
    made_exists files c.args.held.now opens c.args.name.now k there.0 (c.in-Some.ensures.found there.0 there.1)

pub returns-in-Some-free_slot-clause-made : goal.returns-in-Some-free_slot-clause-made
returns-in-Some-free_slot-clause-made c = λ files opens.
    made_slot files c.args.held.now opens c.args.name.now c.in-Some-free_slot.slot c.in-None.ensures.found (sym c.free_slot.ensures ∙ c.in-Some-free_slot.is)

pub returns-in-None-free_slot-clause-refused : goal.returns-in-None-free_slot-clause-refused
returns-in-None-free_slot-clause-refused c = λ files opens.
    made_full files c.args.held.now opens c.args.name.now c.in-None.ensures.found (sym c.free_slot.ensures ∙ c.in-None-free_slot.is)
