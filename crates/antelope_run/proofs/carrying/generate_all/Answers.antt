use Rattle.std.proofs.Common.{rules}
use Rattle.run_entries.specs.Carried.{standing_of}
use Rattle.antelope_run.proofs.Halts.{generated, generated_cause, generated_lost, generated_tells, halted_only}
use Rattle.antelope_run.proofs.carrying.generate_all.Goals as goal

pub returns-clause-does : goal.returns-clause-does
returns-clause-does g c =
    let e = c.generate.ensures in
    let old = standing_of g.V.Files.state g.V.Files.reads c.args.session.now (g.K.Sink.held c.args.out.now) in
    let new = standing_of g.V.Files.state g.V.Files.reads c.generate.new.session (g.K.Sink.held c.generate.new.out) in
    λ told kept. rw c.halted.ensures (
      generated_tells c.generate.result c.generate.new.session.lost _ (e.lost kept) e.tells,
      generated old new _ _ c.generate.result (e.carried told) (e.halts told),
    )

pub returns-clause-lost : goal.returns-clause-lost
returns-clause-lost g c = λ kept lost.
    rw c.halted.ensures (generated_lost c.generate.result c.generate.new.session.lost (c.generate.ensures.lost kept) lost)

pub returns-clause-frame : goal.returns-clause-frame
returns-clause-frame g c = record {
  halts = rw c.halted.ensures (halted_only c.generate.result);
  store = search rules;
  borrows = search rules;
  lent = search rules;
  cause = λ inputs. rw c.halted.ensures (generated_cause c.generate.result inputs _ _ _ _ c.generate.ensures.frame.cause);
}
