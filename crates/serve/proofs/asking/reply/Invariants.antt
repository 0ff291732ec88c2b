use Rattle.std.proofs.Common.{Some, false}
use Rattle.serve.specs.Front.{fronted}
use Rattle.serve.proofs.asking.reply.Given as goal

abbrev pub ghosts-reply_since : goal.ghosts-reply_since
ghosts-reply_since g a = record { start = Some (fronted (g.K.Sink.held a.out.now) (g.K.Sink.faults a.out.now) (Some a.client) false) }
