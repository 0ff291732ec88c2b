use Rattle.std.proofs.Common.{ap}
use Rattle.run_entries.specs.Carried.{limits_of, standing_of}
use Rattle.run_model.proofs.Parts.{script_parts}
use Rattle.run_model.specs.Scripts.{script_cut, script_line, script_talk}
use Rattle.run_frames.proofs.Ending.{frame_parts}
use Rattle.run_frames.specs.Frames.{frame_cut, frame_line}
use Rattle.run_frames.specs.Served.{serve_talk}
use Rattle.antelope_run.proofs.Fronts.{has_fronts}
use Rattle.antelope_run.proofs.Halts.{reaches_by, reaches_none}
use Rattle.antelope_run.proofs.PagesRead.{reads_few}
use Rattle.antelope_run.proofs.carrying.carry_out.Goals as goal

pub returns-in-Run-clause-does : goal.returns-in-Run-clause-does
returns-in-Run-clause-does g c = λ told kept. rw c.in-Run.is (c.answer_script.ensures.went told)

pub returns-in-Serve-clause-does : goal.returns-in-Serve-clause-does
returns-in-Serve-clause-does g c = λ told kept. rw c.in-Serve.is (c.serve_line.ensures.went told)

pub returns-in-Gen-clause-does : goal.returns-in-Gen-clause-does
returns-in-Gen-clause-does g c = λ told kept. rw c.in-Gen.is (c.generate_all.ensures.does told kept)

pub returns-in-Gen-clause-cause : goal.returns-in-Gen-clause-cause
returns-in-Gen-clause-cause g c = c.generate_all.ensures.frame.cause (g.S.Source.faults c.args.input.now)

pub returns-in-Plan-clause-does : goal.returns-in-Plan-clause-does
returns-in-Plan-clause-does g c = λ told kept. rw c.in-Plan.is (c.plan.ensures.does told)

pub returns-in-Plan-clause-cause : goal.returns-in-Plan-clause-cause
returns-in-Plan-clause-cause g c = c.plan.ensures.frame.cause (g.S.Source.faults c.args.input.now)

pub returns-in-Dump-clause-does : goal.returns-in-Dump-clause-does
returns-in-Dump-clause-does g c = λ told kept. rw c.in-Dump.is (c.dump_all.ensures.does told)

pub returns-in-Look-clause-does : goal.returns-in-Look-clause-does
returns-in-Look-clause-does g c = λ told kept. rw c.in-Look.is (c.look_all.ensures.does told)

pub returns-in-Dump-clause-same : goal.returns-in-Dump-clause-same
returns-in-Dump-clause-same g c = λ tells. ap (λ s. s.store) c.dump_all.ensures.files

pub returns-in-Look-clause-same : goal.returns-in-Look-clause-same
returns-in-Look-clause-same g c = λ tells. ap (λ s. s.store) c.look_all.ensures.files

pub returns-in-Dump-clause-cause : goal.returns-in-Dump-clause-cause
returns-in-Dump-clause-cause g c = c.dump_all.ensures.frame.cause (g.S.Source.faults c.args.input.now)

pub returns-in-Look-clause-cause : goal.returns-in-Look-clause-cause
returns-in-Look-clause-cause g c = c.look_all.ensures.frame.cause (g.S.Source.faults c.args.input.now)

pub returns-in-Run-clause-reads : goal.returns-in-Run-clause-reads
returns-in-Run-clause-reads g c = λ told. rw c.in-Run.is (λ read reader.
    reads_few script_line (has_fronts script_cut script_line script_parts) (script_talk read)
    (standing_of g.V.Files.state g.V.Files.reads c.args.session.now (g.K.Sink.held c.args.out.now))
    (standing_of g.V.Files.state g.V.Files.reads c.answer_script.new.session (g.K.Sink.held c.answer_script.new.out))
    (g.S.Source.left c.args.input.now) (g.S.Source.left c.answer_script.new.script)
    (limits_of g.V.Files c.answer_script.new.session) c.answer_script.result (c.answer_script.ensures.went told read reader))

pub returns-in-Serve-clause-reads : goal.returns-in-Serve-clause-reads
returns-in-Serve-clause-reads g c = λ told. rw c.in-Serve.is (λ read reader.
    reads_few frame_line (has_fronts frame_cut frame_line frame_parts) (serve_talk read)
    (standing_of g.V.Files.state g.V.Files.reads c.args.session.now (g.K.Sink.held c.args.out.now))
    (standing_of g.V.Files.state g.V.Files.reads c.serve_line.new.session (g.K.Sink.held c.serve_line.new.out))
    (g.S.Source.left c.args.input.now) (g.S.Source.left c.serve_line.new.line)
    (limits_of g.V.Files c.serve_line.new.session) c.serve_line.result (c.serve_line.ensures.went told read reader))

pub returns-in-Run-clause-reaches : goal.returns-in-Run-clause-reaches
returns-in-Run-clause-reaches g c =
    reaches_by c.args.form (g.S.Source.left c.args.input.now) (g.S.Source.left c.answer_script.new.script) c.answer_script.result c.answer_script.ensures.reaches

pub returns-in-Serve-clause-reaches : goal.returns-in-Serve-clause-reaches
returns-in-Serve-clause-reaches g c =
    reaches_by c.args.form (g.S.Source.left c.args.input.now) (g.S.Source.left c.serve_line.new.line) c.serve_line.result c.serve_line.ensures.reaches

pub returns-in-Gen-clause-reaches : goal.returns-in-Gen-clause-reaches
returns-in-Gen-clause-reaches g c =
    reaches_none c.args.form (g.S.Source.left c.args.input.now) (g.S.Source.left c.args.input.now) (λ takes. (rw c.in-Gen.is at takes)) c.generate_all.result c.generate_all.ensures.frame.halts

pub returns-in-Plan-clause-reaches : goal.returns-in-Plan-clause-reaches
returns-in-Plan-clause-reaches g c =
    reaches_none c.args.form (g.S.Source.left c.args.input.now) (g.S.Source.left c.args.input.now) (λ takes. (rw c.in-Plan.is at takes)) c.plan.result c.plan.ensures.frame.halts

pub returns-in-Dump-clause-reaches : goal.returns-in-Dump-clause-reaches
returns-in-Dump-clause-reaches g c =
    reaches_none c.args.form (g.S.Source.left c.args.input.now) (g.S.Source.left c.args.input.now) (λ takes. (rw c.in-Dump.is at takes)) c.dump_all.result c.dump_all.ensures.frame.halts

pub returns-in-Look-clause-reaches : goal.returns-in-Look-clause-reaches
returns-in-Look-clause-reaches g c =
    reaches_none c.args.form (g.S.Source.left c.args.input.now) (g.S.Source.left c.args.input.now) (λ takes. (rw c.in-Look.is at takes)) c.look_all.result c.look_all.ensures.frame.halts

pub returns-in-Run-clause-unread : goal.returns-in-Run-clause-unread
returns-in-Run-clause-unread g c = λ none. absurd ((rw c.in-Run.is at none) tt)

pub returns-in-Serve-clause-unread : goal.returns-in-Serve-clause-unread
returns-in-Serve-clause-unread g c = λ none. absurd ((rw c.in-Serve.is at none) tt)
