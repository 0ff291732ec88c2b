use Rattle.std.proofs.Common.{refl}
use Rattle.afl_sim.proofs.PlainStates.{plain_draft}
use Rattle.afl_sim.proofs.plain_files.PlainFilesFiles.draft.Goals as goal

pub invariant_of-self : goal.invariant_of-self
invariant_of-self g c =
    let a = c.self.inside in
    rw c.new.ensures
    (plain_draft g.row.CAP a.table a.draft _ c.self.invariant (record { kind = refl; records = refl; room = refl }) (rw (← c.self.view_is) at c.requires.place))
