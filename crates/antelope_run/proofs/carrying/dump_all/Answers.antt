use Rattle.std.proofs.Common.{rules, ap, length}
use Rattle.run_entries.specs.Carried.{standing_of}
use Rattle.antelope_run.proofs.Halts.{dumped, dumped_cause, dumped_lost, dumped_same, stopped_only, unless_flash}
use Rattle.antelope_run.proofs.carrying.dump_all.Goals as goal

pub returns-clause-does : goal.returns-clause-does
returns-clause-does g c =
    let e = c.write.ensures in
    let old = standing_of g.V.Files.state g.V.Files.reads c.args.session.now (g.K.Sink.held c.args.out.now) in
    let new = standing_of g.V.Files.state g.V.Files.reads c.write.new.session (g.K.Sink.held c.write.new.out) in
    λ told. rw c.stopped.ensures (
      λ other. ap (λ s. s.tells) (dumped_same c.write.result _ e.same other).files,
      dumped old new _ c.write.result (e.wrote told),
    )

pub returns-clause-lost : goal.returns-clause-lost
returns-clause-lost g c = λ kept lost.
    rw c.stopped.ensures (dumped_lost c.write.result c.write.new.session.lost
    (unless_flash c.write.result (λ same. same.kept kept) c.write.ensures.same) lost)

pub returns-clause-files : goal.returns-clause-files
returns-clause-files g c = c.write.ensures.frame.same

pub returns-clause-frame : goal.returns-clause-frame
returns-clause-frame g c =
    let e = c.write.ensures in
    record {
      halts = rw c.stopped.ensures (stopped_only c.write.result);
      store = ap (λ s. length s.store) e.frame.same;
      borrows = search rules;
      lent = search rules;
      cause = λ inputs. rw c.stopped.ensures (dumped_cause c.write.result inputs _ _ _ _ e.frame.cause);
    }
