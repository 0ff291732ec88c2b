use Rattle.run_input.specs.Through.{Out, out_of}
use Rattle.run_entries.proofs.Through.{reaches, sum, went}
use Rattle.run_model.specs.Scripts.{script_line}
use Rattle.run_model.proofs.Parts.{script_parts}
use Rattle.run_script.specs.declared.running.Runner.{Runner}
use Rattle.run_script.specs.Input.{script_input}
use Rattle.run_script.proofs.Seen.{seen}
use Rattle.run_script.proofs.whole.run_through.Goals as goal

pub returns-clause-went : goal.returns-clause-went
returns-clause-went g c = λ told read reader.
    let old : Runner g.row.V.Denot × Out = (c.args.runner.now, out_of (g.K.Sink.held c.args.out.now) (g.K.Sink.faults c.args.out.now)) in
    let new : Runner g.row.V.Denot × Out = (c.take_through.new.taker, out_of (g.K.Sink.held c.take_through.new.out) (g.K.Sink.faults c.take_through.new.out)) in
    went script_input g.V.Files script_line script_parts seen old new (g.S.Source.left c.args.script.now) (g.S.Source.left c.take_through.new.input) (g.S.Source.reads c.args.script.now) (g.S.Source.reads c.take_through.new.input)
    c.requires.running told read reader c.requires.none
    c.take_through.result c.take_through.ensures.through

pub returns-clause-reaches : goal.returns-clause-reaches
returns-clause-reaches g c =
    let old : Runner g.row.V.Denot × Out = (c.args.runner.now, out_of (g.K.Sink.held c.args.out.now) (g.K.Sink.faults c.args.out.now)) in
    let new : Runner g.row.V.Denot × Out = (c.take_through.new.taker, out_of (g.K.Sink.held c.take_through.new.out) (g.K.Sink.faults c.take_through.new.out)) in
    reaches script_input g.V.Files script_line script_parts seen old new (g.S.Source.left c.args.script.now) (g.S.Source.left c.take_through.new.input) (g.S.Source.reads c.args.script.now) (g.S.Source.reads c.take_through.new.input)
    c.requires.running c.take_through.result c.take_through.ensures.through

pub returns-clause-lost : goal.returns-clause-lost
returns-clause-lost g c = λ kept lost.
    let old : Runner g.row.V.Denot × Out = (c.args.runner.now, out_of (g.K.Sink.held c.args.out.now) (g.K.Sink.faults c.args.out.now)) in
    let new : Runner g.row.V.Denot × Out = (c.take_through.new.taker, out_of (g.K.Sink.held c.take_through.new.out) (g.K.Sink.faults c.take_through.new.out)) in
    let total = sum script_input g.V.Files script_line script_parts seen old new (g.S.Source.left c.args.script.now) (g.S.Source.left c.take_through.new.input) (g.S.Source.reads c.args.script.now) (g.S.Source.reads c.take_through.new.input)
    c.requires.running c.take_through.result c.take_through.ensures.through in
    total.kept kept lost

pub returns-clause-store : goal.returns-clause-store
returns-clause-store g c =
    let old : Runner g.row.V.Denot × Out = (c.args.runner.now, out_of (g.K.Sink.held c.args.out.now) (g.K.Sink.faults c.args.out.now)) in
    let new : Runner g.row.V.Denot × Out = (c.take_through.new.taker, out_of (g.K.Sink.held c.take_through.new.out) (g.K.Sink.faults c.take_through.new.out)) in
    let total = sum script_input g.V.Files script_line script_parts seen old new (g.S.Source.left c.args.script.now) (g.S.Source.left c.take_through.new.input) (g.S.Source.reads c.args.script.now) (g.S.Source.reads c.take_through.new.input)
    c.requires.running c.take_through.result c.take_through.ensures.through in
    total.on.store

pub returns-clause-borrows : goal.returns-clause-borrows
returns-clause-borrows g c =
    let old : Runner g.row.V.Denot × Out = (c.args.runner.now, out_of (g.K.Sink.held c.args.out.now) (g.K.Sink.faults c.args.out.now)) in
    let new : Runner g.row.V.Denot × Out = (c.take_through.new.taker, out_of (g.K.Sink.held c.take_through.new.out) (g.K.Sink.faults c.take_through.new.out)) in
    let total = sum script_input g.V.Files script_line script_parts seen old new (g.S.Source.left c.args.script.now) (g.S.Source.left c.take_through.new.input) (g.S.Source.reads c.args.script.now) (g.S.Source.reads c.take_through.new.input)
    c.requires.running c.take_through.result c.take_through.ensures.through in
    total.on.lent

pub returns-clause-cause : goal.returns-clause-cause
returns-clause-cause g c =
    let old : Runner g.row.V.Denot × Out = (c.args.runner.now, out_of (g.K.Sink.held c.args.out.now) (g.K.Sink.faults c.args.out.now)) in
    let new : Runner g.row.V.Denot × Out = (c.take_through.new.taker, out_of (g.K.Sink.held c.take_through.new.out) (g.K.Sink.faults c.take_through.new.out)) in
    let total = sum script_input g.V.Files script_line script_parts seen old new (g.S.Source.left c.args.script.now) (g.S.Source.left c.take_through.new.input) (g.S.Source.reads c.args.script.now) (g.S.Source.reads c.take_through.new.input)
    c.requires.running c.take_through.result c.take_through.ensures.through in
    record {
      files_later = total.on.faults;
      input = c.take_through.ensures.input;
      flash = total.flash;
      sink = total.sink;
    }
