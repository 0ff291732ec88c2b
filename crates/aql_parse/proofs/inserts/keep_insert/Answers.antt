use Rattle.aql_parse.proofs.Fronts.{keeps_insert}
use Rattle.aql_parse.proofs.GivesUp.{no_opening, no_values, no_relation}
use Rattle.aql_parse.proofs.inserts.keep_insert.Goals as goal

pub returns-clause-kept : goal.returns-clause-kept
returns-clause-kept c =
    keeps_insert c.args.bytes.now c.in-Some.values.now c.in-Some-behind_values.into.now c.behind_values.new.kept c.in-Some-relation_of.relation c.in-Some.ensures.behind c.in-Some-behind_values.ensures.kept c.in-Some-relation_of.ensures.relation

pub returns-in_default-clause-none : goal.returns-in_default-clause-none
returns-in_default-clause-none c = no_opening c.args.bytes.now c.in_default.ensures.none

pub returns-in_default-behind_values-clause-none : goal.returns-in_default-behind_values-clause-none
returns-in_default-behind_values-clause-none c = no_values c.args.bytes.now c.in-Some.values.now c.in-Some.ensures.behind c.in_default-behind_values.ensures.none

pub returns-in_default-relation_of-clause-none : goal.returns-in_default-relation_of-clause-none
returns-in_default-relation_of-clause-none c =
    no_relation c.args.bytes.now c.in-Some.values.now c.in-Some-behind_values.into.now c.behind_values.new.kept c.in-Some.ensures.behind c.in-Some-behind_values.ensures.kept c.in_default-relation_of.ensures.none
