use Rattle.std.proofs.Common.{sym, ◌∙◌}
use Rattle.session_relations.proofs.Gone.{removal_free, removal_indexed, removal_read}
use Rattle.session_relations.proofs.removing.refusal_of.Goals as goal

pub returns-in-Some-clause-refused : goal.returns-in-Some-clause-refused
returns-in-Some-clause-refused c = λ files. removal_read files c.args.held.now c.args.opens.now c.args.name.now c.args.at.now.slot c.in-Some.cursor
    (sym (c.least_reader.ensures files) ∙ c.in-Some.is)

pub returns-then-has_index-clause-refused : goal.returns-then-has_index-clause-refused
returns-then-has_index-clause-refused c = λ files. removal_indexed files c.args.held.now c.args.opens.now c.args.name.now c.args.at.now.slot
    (sym (c.least_reader.ensures files) ∙ c.in_default.is) (sym c.has_index.ensures ∙ c.if-has_index.true)

pub returns-clause-unread : goal.returns-clause-unread
returns-clause-unread c = λ files. sym (c.least_reader.ensures files) ∙ c.in_default.is

pub returns-clause-free : goal.returns-clause-free
returns-clause-free c = λ files. removal_free files c.args.held.now c.args.opens.now c.args.name.now c.args.at.now.slot
    (sym (c.least_reader.ensures files) ∙ c.in_default.is) (sym c.has_index.ensures ∙ c.if-has_index.false)
