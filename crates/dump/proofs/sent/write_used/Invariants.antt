use Rattle.std.proofs.Common.{Some}
use Rattle.dump.proofs.sent.write_used.Given as goal

abbrev pub ghosts-write_through : goal.ghosts-write_through
ghosts-write_through g a = record { held = Some (g.K.Sink.held a.out.now) }
