use Rattle.space_plan.proofs.PlannedSpace.{planned_suffices}
use Rattle.space_plan.proofs.laws.planned_space_suffices.Goals as goal

pub returns : goal.returns
returns c = planned_suffices
