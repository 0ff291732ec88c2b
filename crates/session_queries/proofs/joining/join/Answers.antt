use Rattle.std.proofs.Common.{map, sym, subst}
use Rattle.cursor.specs.Pairs.{matching}
use Rattle.tuple_file.specs.Tuples.{rows}
use Rattle.session_model.specs.View.{project_pair}
use Rattle.session_queries.specs.Replies.{WroteAll}
use Rattle.session_queries.proofs.Lines.{rows_done, rows_less}
use Rattle.session_queries.proofs.joining.join.Goals as goal

pub returns-in-Ok-write_rows-clause-replies : goal.returns-in-Ok-write_rows-clause-replies
returns-in-Ok-write_rows-clause-replies g c = λ t.
    let files = (g.V.Files.state c.args.files.now).files in
    let plan = c.args.joining.plan in
    let all = map (project_pair plan.places) (matching plan.left_on plan.right_on (rows files c.args.joining.left.tuples) (rows files c.args.joining.right.tuples)) in
    let h0 = g.K.Sink.held c.args.out.now in
    let h1 = g.K.Sink.held c.join_all.new.out in
    rows_done all c.from-count.result h0 h1 (g.K.Sink.held c.write_rows.new.out) (subst (WroteAll all h0 h1) (sym c.from-count.ensures) (c.in-Ok.ensures.wrote t)) c.in-Ok-write_rows.ensures.written

pub returns-in-Err-write_rows-clause-replies : goal.returns-in-Err-write_rows-clause-replies
returns-in-Err-write_rows-clause-replies g c = λ t.
    let files = (g.V.Files.state c.args.files.now).files in
    let plan = c.args.joining.plan in
    let all = map (project_pair plan.places) (matching plan.left_on plan.right_on (rows files c.args.joining.left.tuples) (rows files c.args.joining.right.tuples)) in
    let h0 = g.K.Sink.held c.args.out.now in
    let h1 = g.K.Sink.held c.join_all.new.out in
    rows_less all c.from-count.result h0 h1 (g.K.Sink.held c.write_rows.new.out) (subst (WroteAll all h0 h1) (sym c.from-count.ensures) (c.in-Ok.ensures.wrote t)) c.in-Err-write_rows.ensures.failed
