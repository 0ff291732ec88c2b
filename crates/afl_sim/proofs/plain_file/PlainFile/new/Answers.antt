use Rattle.std.proofs.Common.{refl}
use Rattle.afl_sim.proofs.PlainLemmas.{content_zeros, plain_zeros}
use Rattle.afl_sim.proofs.plain_file.PlainFile.new.Goals as goal

pub invariant_of-result : goal.invariant_of-result
invariant_of-result g c = plain_zeros g.row.CAP c.args.size c.args.kind c.requires.size c.requires.kind

pub returns : goal.returns
returns g c = rw (content_zeros g.row.CAP c.args.size c.requires.size) refl
