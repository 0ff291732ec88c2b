use Rattle.std.proofs.Common.{arith}
use Rattle.coffee_cuts.proofs.SupersedingSteps.{goes_on, on_files}
use Rattle.coffee_cuts.proofs.supersedings_go_on.Goals as goal

pub returns-clause-still : goal.returns-clause-still
returns-clause-still c = λ image new sectors size t g. goes_on image new (omega (arith, size)) t g

pub returns-clause-files : goal.returns-clause-files
returns-clause-files c = λ image new sectors size t g. on_files image new (omega (arith, size)) t g
