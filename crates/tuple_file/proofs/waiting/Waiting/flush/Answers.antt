use Rattle.std.proofs.Common.{take, sym, length-take-le, arith}
use Rattle.afl_base.specs.Files.{draft_in}
use Rattle.tuple_file.proofs.Gathered.{free_behind}
use Rattle.tuple_file.proofs.waiting.Waiting.flush.Goals as goal

pub returns-clause-free : goal.returns-clause-free
returns-clause-free g c told =
    let own = c.self.inside in
    let many = length-take-le own.filled own.bytes (omega (arith, c.self.told, c.self.invariant)) in
    free_behind (draft_in (g.V.Files.state c.args.files.now)).bytes (draft_in (g.V.Files.state c.draft_write.new.self)).bytes (take own.filled own.bytes) own.at own.filled
    (rw (sym c.self.view_is) at (c.requires.takes.free told)) (rw (sym c.self.view_is) at c.requires.range) (sym many) (c.in_ok-draft_write.ensures.written.bytes told)
