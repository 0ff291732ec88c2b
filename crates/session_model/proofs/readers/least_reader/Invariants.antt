use Rattle.std.proofs.Common.{◌≡◌}
use Rattle.afl_base.specs.Files.{Table}
use Rattle.session_model.proofs.LeastReader.{reader_at}
use Rattle.session_model.proofs.readers.least_reader.Given as goal

abbrev pub invariant-loop-i : goal.invariant-loop-i
invariant-loop-i l = (files : Table) → reader_at files l.name l.opens 0 ≡ reader_at files l.name l.opens l.i
