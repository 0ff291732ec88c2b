use Rattle.space_plan.proofs.Scripts.{script_has_enough}
use Rattle.space_plan.proofs.laws.planned_flash_has_enough.Goals as goal

pub returns : goal.returns
returns c = script_has_enough
