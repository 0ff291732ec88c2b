-- The law, as it is proved of codes.
use Rattle.lvm.proofs.Codes.{verdict-code}
use Rattle.lvm.proofs.laws.codes_mean_conditions.Goals as goal

pub returns : goal.returns
returns c = λ attributes condition code k tuple. verdict-code attributes tuple condition code k
