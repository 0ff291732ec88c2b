use Rattle.std.proofs.Common.{Some}
use Rattle.run_input.proofs.through.take_end.Given as goal

abbrev pub ghosts-take_end_since : goal.ghosts-take_end_since
ghosts-take_end_since g a = record { held = Some (g.K.Sink.held a.out.now) }
