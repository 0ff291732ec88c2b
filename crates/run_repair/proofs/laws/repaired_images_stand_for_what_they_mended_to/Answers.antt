use Rattle.run_repair.proofs.Mended.{mended_is, repaired_base}
use Rattle.run_repair.proofs.laws.repaired_images_stand_for_what_they_mended_to.Goals as goal

pub returns-clause-repaired : goal.returns-clause-repaired
returns-clause-repaired c = repaired_base

pub returns-clause-mended : goal.returns-clause-mended
returns-clause-mended c = mended_is
