use Rattle.run_repair.proofs.Mended.{cut_repaired}
use Rattle.run_repair.proofs.laws.cut_images_are_repaired.Goals as goal

pub returns : goal.returns
returns c = cut_repaired
