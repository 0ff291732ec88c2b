use Rattle.std.proofs.Common.{Some}
use Rattle.run_input.proofs.through.take_byte.Given as goal

abbrev pub ghosts-take_byte_since : goal.ghosts-take_byte_since
ghosts-take_byte_since g a = record { held = Some (g.K.Sink.held a.out.now) }
