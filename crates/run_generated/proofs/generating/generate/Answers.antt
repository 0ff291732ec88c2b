use Rattle.std.proofs.Common.{inr, rules}
use Rattle.run_entries.specs.Carried.{limits_of}
use Rattle.db_model.specs.Workload.{first_commands}
use Rattle.run_generated.proofs.Summing.{found_none, space_unsaid}
use Rattle.run_generated.proofs.generating.generate.Goals as goal

pub returns-in-Ok-write_no_space-clause-halts : goal.returns-in-Ok-write_no_space-clause-halts
returns-in-Ok-write_no_space-clause-halts g c = λ told.
    let until = rw c.in-Err-NoSpace.field-0-is at (c.in-Err-NoSpace.ensures.space told) in
    let session = c.carry_out.new.session in
    found_none (first_commands c.args.seed c.args.count) c.args.session.now.database session.database c.carry_out.new.tally
    (g.K.Sink.held c.args.out.now) (g.K.Sink.held c.write_no_space.new.out)
    (limits_of g.V.Files session) c.in-Err-NoSpace.need until c.in-Ok-write_no_space.ensures.written

pub returns-in-Err-write_no_space-clause-halts : goal.returns-in-Err-write_no_space-clause-halts
returns-in-Err-write_no_space-clause-halts g c = λ told.
    let until = rw c.in-Err-NoSpace.field-0-is at (c.in-Err-NoSpace.ensures.space told) in
    let session = c.carry_out.new.session in
    inr (space_unsaid (first_commands c.args.seed c.args.count) c.args.session.now.database session.database c.carry_out.new.tally
    (g.K.Sink.held c.args.out.now) (g.K.Sink.held c.write_no_space.new.out)
    (limits_of g.V.Files session) c.in-Err-NoSpace.need until (search rules))
