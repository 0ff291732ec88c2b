use Rattle.std.proofs.Common.{Some}
use Rattle.dump.proofs.sent.write_index_line.Given as goal

abbrev pub ghosts-index_through : goal.ghosts-index_through
ghosts-index_through g a = record { held = Some (g.K.Sink.held a.out.now) }
