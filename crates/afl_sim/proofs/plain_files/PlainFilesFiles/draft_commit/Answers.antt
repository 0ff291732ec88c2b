use Rattle.std.proofs.Common.{arith}
use Rattle.afl_sim.proofs.PlainStates.{plain_commits, plain_committed}
use Rattle.afl_sim.proofs.plain_files.PlainFilesFiles.draft_commit.Goals as goal

pub invariant_of-self : goal.invariant_of-self
invariant_of-self g c =
    let a = c.self.inside in
    rw c.number.ensures.value
    (plain_committed g.row.CAP a.table c.place_for-id.result c.drafted-draft.result (rw c.drafted-draft.ensures at c.self.invariant)
    (omega (arith, c.number.ensures.below, c.number.ensures.value)) (rw c.name.ensures at c.place_for-id.ensures))

pub returns-clause-committed : goal.returns-clause-committed
returns-clause-committed g c =
    let a = c.self.inside in
    rw (← c.self.view_is, c.number.ensures.value, c.drafted-draft.ensures)
    (plain_commits g.row.CAP a.table c.place_for-id.result c.drafted-draft.result (rw c.drafted-draft.ensures at c.self.invariant)
    (omega (arith, c.number.ensures.below, c.number.ensures.value)) (rw c.name.ensures at c.place_for-id.ensures))
