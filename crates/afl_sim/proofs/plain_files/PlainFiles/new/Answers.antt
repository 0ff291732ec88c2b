use Rattle.std.proofs.Common.{refl}
use Rattle.afl_base.proofs.FileLaws.{distinct_none}
use Rattle.afl_sim.proofs.plain_files.PlainFiles.new.Goals as goal

pub invariant_of-result : goal.invariant_of-result
invariant_of-result g c = record {
  least = c.requires.least;
  most = c.requires.most;
  places = refl;
  distinct = distinct_none 32;
  fresh = λ f none. absurd (cc);
  space = λ f none. absurd (cc);
}
