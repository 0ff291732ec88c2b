use Rattle.std.proofs.Common.{arith}
use Rattle.afl_base.specs.Files.{file_at}
use Rattle.afl_base.proofs.FileLaws.{place_live}
use Rattle.afl_sim.proofs.PlainStates.{plain_removes}
use Rattle.afl_sim.proofs.plain_files.PlainFilesFiles.remove.Goals as goal

pub returns-clause-removed : goal.returns-clause-removed
returns-clause-removed g c =
    let a = c.self.inside in
    rw (← c.self.view_is, c.number.ensures.value)
    (plain_removes g.row.CAP a.table a.draft c.args.id (file_at a.table c.args.id) c.self.invariant (omega (arith, c.number.ensures.below, c.number.ensures.value))
    (place_live a.table c.args.id (rw (← c.self.view_is) at c.requires.live)))
