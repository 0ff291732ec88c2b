use Rattle.run_model.proofs.Talks.{costs_same, last_same, output_same}
use Rattle.run_model.proofs.laws.scripts_are_answered_in_order.Goals as goal

pub returns-clause-output : goal.returns-clause-output
returns-clause-output c = output_same

pub returns-clause-last : goal.returns-clause-last
returns-clause-last c = last_same

pub returns-clause-costs : goal.returns-clause-costs
returns-clause-costs c = costs_same
