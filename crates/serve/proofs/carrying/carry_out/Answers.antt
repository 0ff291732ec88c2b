use Rattle.run_entries.specs.Carried.{standing_of, limits_of}
use Rattle.serve.proofs.Halting.{less_halts, none_halts, part_halts, unsaid_halts}
use Rattle.run_frames.specs.Frames.{Asked}
use Rattle.run_frames.specs.Served.{serve_talk}
use Rattle.serve.proofs.carrying.carry_out.Goals as goal

pub returns-in-Ok-clause-halts : goal.returns-in-Ok-clause-halts
returns-in-Ok-clause-halts g c = λ told read reader.
    let s = c.answer.new.session in
    let a = standing_of g.V.Files.state g.V.Files.reads c.args.session.now (g.K.Sink.held c.args.out.now) in
    let m = standing_of g.V.Files.state g.V.Files.reads s (g.K.Sink.held c.answer.new.out) in
    let f = rw c.in-Ok-NoSpace.field-0-is at (c.in-Ok-NoSpace.ensures.answered told read reader) in
    none_halts (serve_talk read) (Asked c.args.client c.args.bytes.now) (limits_of g.V.Files s) a m c.in-Ok-NoSpace.need (g.K.Sink.held c.refuse.new.out) f c.in-Ok.ensures.written

pub returns-in-Err-clause-halts : goal.returns-in-Err-clause-halts
returns-in-Err-clause-halts g c = λ told read reader.
    let s = c.answer.new.session in
    let a = standing_of g.V.Files.state g.V.Files.reads c.args.session.now (g.K.Sink.held c.args.out.now) in
    let m = standing_of g.V.Files.state g.V.Files.reads s (g.K.Sink.held c.answer.new.out) in
    let f = rw c.in-Ok-NoSpace.field-0-is at (c.in-Ok-NoSpace.ensures.answered told read reader) in
    unsaid_halts (serve_talk read) (Asked c.args.client c.args.bytes.now) (limits_of g.V.Files s) a m c.in-Ok-NoSpace.need (g.K.Sink.held c.refuse.new.out) f c.in-Err.ensures.failed

pub returns-in-Err-Sink-clause-halts : goal.returns-in-Err-Sink-clause-halts
returns-in-Err-Sink-clause-halts g c = λ told read reader.
    let s = c.answer.new.session in
    let a = standing_of g.V.Files.state g.V.Files.reads c.args.session.now (g.K.Sink.held c.args.out.now) in
    let b = standing_of g.V.Files.state g.V.Files.reads s (g.K.Sink.held c.answer.new.out) in
    less_halts (serve_talk read) (Asked c.args.client c.args.bytes.now) (limits_of g.V.Files s) a b (rw c.in-Err-Sink.field-0-is at (c.in-Err-Sink.ensures.answered told read reader))

pub returns-in-Err-Flash-clause-halts : goal.returns-in-Err-Flash-clause-halts
returns-in-Err-Flash-clause-halts g c = λ told read reader.
    let s = c.answer.new.session in
    let a = standing_of g.V.Files.state g.V.Files.reads c.args.session.now (g.K.Sink.held c.args.out.now) in
    let b = standing_of g.V.Files.state g.V.Files.reads s (g.K.Sink.held c.answer.new.out) in
    part_halts (serve_talk read) (Asked c.args.client c.args.bytes.now) (limits_of g.V.Files s) a b (rw c.in-Err-Flash.field-0-is at (c.in-Err-Flash.ensures.answered told read reader))
