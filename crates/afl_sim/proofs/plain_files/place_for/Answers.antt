use Rattle.afl_base.proofs.FileLaws.{some_free}
use Rattle.afl_sim.proofs.plain_files.place_for.Goals as goal

pub free_in-requires-clause-free : goal.free_in-requires-clause-free
free_in-requires-clause-free g c = some_free c.args.table.now c.requires.places (c.requires.free c.in_default.ensures.none)
