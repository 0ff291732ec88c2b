use Rattle.stored_survey.proofs.AttributeEnds.{attribute_made, attribute_parts, none_given}
use Rattle.stored_survey.proofs.emptied.attribute_ended.Goals as goal

pub returns-in_err-name-clause-none : goal.returns-in_err-name-clause-none
returns-in_err-name-clause-none c =
    none_given c.from_residual.result _ (λ a e. c.in_err-name.ensures.none a.name (attribute_parts c.args.bytes.now c.requires.some c.requires.most a e).name)

pub returns-in_err-domain-clause-none : goal.returns-in_err-domain-clause-none
returns-in_err-domain-clause-none c =
    none_given c.from_residual-in_err-domain.result _
    (λ a e. let p = attribute_parts c.args.bytes.now c.requires.some c.requires.most a e in c.in_err-domain.ensures.none a.domain e.0.1 p.code p.long)

pub returns-clause-some : goal.returns-clause-some
returns-clause-some c =
    attribute_made c.args.bytes.now c.requires.some c.requires.most (record { name = c.in_ok-name.name; domain = c.in_ok-domain.domain }) c.in_ok-name.ensures.some
    c.in_ok-domain.ensures.some.0 c.in_ok-domain.ensures.some.1 c.in_ok-domain.ensures.some.2
