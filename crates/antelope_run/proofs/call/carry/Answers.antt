use Rattle.std.proofs.Common.{rules}
use Rattle.run_model.specs.Runs.{world}
use Rattle.antelope_run.specs.Promise.{CausedBy, KeepsPromise}
use Rattle.run_model.specs.Moments.{counts_of, moment}
use Rattle.antelope_run.proofs.Outcomes.{broken_at, caused_by, no_fault_by, suffices_by, taken_by, unsound_at}
use Rattle.antelope_run.proofs.call.carry.Goals as goal

pub returns-clause-runs : goal.returns-clause-runs
returns-clause-runs g c = λ told.
    let ran = c.run_form-handed in
    let came = ran.new.came in
    let e = ran.ensures in
    let is = c.status.ensures in
    let old = world (g.F.Flash.image c.args.flash.now) (g.S.Source.left c.args.input.now) (g.K.Sink.held c.args.out.now) in
    let new = world (g.F.Flash.image ran.result.flash.now) (g.S.Source.left ran.new.input) (g.K.Sink.held ran.new.out) in
    let counts = counts_of g.F.Flash g.S.Source g.K.Sink c.args.flash.now c.args.input.now c.args.out.now in
    let counts_now = counts_of g.F.Flash g.S.Source g.K.Sink ran.result.flash.now ran.new.input ran.new.out in
    let is_run : KeepsPromise c.args.form g.F.Flash.cuts c.status.result (moment g.F.Flash g.S.Source g.K.Sink c.args.flash.now c.args.input.now c.args.out.now)
    (moment g.F.Flash g.S.Source g.K.Sink ran.result.flash.now ran.new.input ran.new.out) = record {
      told = record { came = came; is = is; left = e.comes told };
      broken_off = λ cuts. broken_at c.args.form came old new (e.comes told) c.status.result is (e.broken told cuts);
      unsound = unsound_at c.args.form came old new (e.comes told) c.status.result is;
      no_fault = λ sound short well. no_fault_by c.args.form old new sound short counts counts_now well came (e.comes told) e.reaches e.cause c.status.result is;
      suffices = λ sound has. suffices_by old new e.kept.size c.args.form came (e.comes told) c.status.result is has;
      reads = e.reads told;
    } in
    search (rules, is_run)

pub returns-clause-caused : goal.returns-clause-caused
returns-clause-caused g c =
    let ran = c.run_form-handed in
    let counts = counts_of g.F.Flash g.S.Source g.K.Sink c.args.flash.now c.args.input.now c.args.out.now in
    let counts_now = counts_of g.F.Flash g.S.Source g.K.Sink ran.result.flash.now ran.new.input ran.new.out in
    let caused : CausedBy c.status.result counts counts_now = caused_by ran.new.came counts counts_now ran.ensures.cause c.status.result c.status.ensures in
    search (rules, caused)

pub returns-clause-taken : goal.returns-clause-taken
returns-clause-taken g c =
    let e = c.run_form-handed.ensures in
    taken_by g.S.Source.left c.args.form c.run_form-handed.new.came c.args.input.now c.run_form-handed.new.input c.status.result c.status.ensures e.reaches e.unread e.untouched
