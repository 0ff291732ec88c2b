use Rattle.std.proofs.Common.{arith}
use Rattle.afl_base.proofs.FileLaws.{some_free}
use Rattle.afl_sim.proofs.PlainStates.{none_kept, plain_creates, plain_new}
use Rattle.afl_sim.proofs.plain_files.PlainFilesFiles.create.Goals as goal

pub invariant_of-self : goal.invariant_of-self
invariant_of-self g c =
    let a = c.self.inside in
    rw (c.number.ensures.value, c.new.ensures)
    (plain_new g.row.CAP a.table a.draft c.free_in-id.result _ c.self.invariant (none_kept a.draft (rw (← c.self.view_is) at c.requires.idle))
    (omega (arith, c.number.ensures.below, c.number.ensures.value)) (rw (← c.self.view_is) at c.requires.unnamed))

pub returns-clause-created : goal.returns-clause-created
returns-clause-created g c =
    let a = c.self.inside in
    rw (← c.self.view_is, c.number.ensures.value, c.new.ensures)
    (plain_creates a.table a.draft c.free_in-id.result c.args.name c.args.kind c.self.invariant.places
    (omega (arith, c.number.ensures.below, c.number.ensures.value)) c.free_in-id.ensures.free c.free_in-id.ensures.lowest)

pub free_in-id-requires-clause-free : goal.free_in-id-requires-clause-free
free_in-id-requires-clause-free g c = some_free c.self.inside.table c.self.invariant.places (rw (← c.self.view_is) at c.requires.place)
