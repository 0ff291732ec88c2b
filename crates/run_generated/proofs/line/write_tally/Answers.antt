use Rattle.std.proofs.Common.{rules}
use Rattle.run_generated.proofs.Lines.{line_written}
use Rattle.run_generated.proofs.line.write_tally.Goals as goal

pub returns-clause-written : goal.returns-clause-written
returns-clause-written g c =
    line_written c.args.tally.now (g.K.Sink.held c.args.out.now) (g.K.Sink.held c.write_counts.new.out) (g.K.Sink.held c.write_counts-2.new.out) (g.K.Sink.held c.write_all.new.out)
    (search rules) (search rules) (search rules)
