use Rattle.std.proofs.Common.{arith, List, map, subst}
use Rattle.db_model.specs.declared.values.Value.{Value}
use Rattle.tuple_file.specs.Tuples.{rows}
use Rattle.session_model.specs.View.{project_pair}
use Rattle.session_queries.specs.Replies.{WroteRows}
use Rattle.session_queries.proofs.Paired.{begun}
use Rattle.session_queries.proofs.joining.join_all.Goals as goal

pub returns-clause-wrote : goal.returns-clause-wrote
returns-clause-wrote g c = λ t.
    let files = (g.V.Files.state c.args.files.now).files in
    let b = c.begin-cursor.ensures in
    let o = c.over-block.ensures in
    let s = begun (g.V.Files.state c.args.files.now) c.args.tables.now c.args.joining.left c.args.joining.right c.args.joining.plan.left_on c.args.joining.plan.right_on c.begin-cursor.result
    b.begun.left b.begun.right b.begun.indexes b.begun.left_on b.begun.right_on b.begun.left_slots b.begun.right_slots b.begun.rests b.pairs b.cost (c.requires.right.complete t) in
    subst (λ (pairs : List (List Value × List Value)). WroteRows c.join_rows.result (map (project_pair c.args.joining.plan.places) pairs) (g.K.Sink.held c.args.out.now) (g.K.Sink.held c.join_rows.new.out)) s.pairs
    ((rw (s.lefts, s.rights) at c.join_rows.ensures.wrote) t s.fits (o.holds (rows files c.args.joining.left.tuples) (rows files c.args.joining.right.tuples)) s.few)

pub returns-clause-reads : goal.returns-clause-reads
returns-clause-reads g c = λ t.
    let files = (g.V.Files.state c.args.files.now).files in
    let b = c.begin-cursor.ensures in
    let o = c.over-block.ensures in
    let s = begun (g.V.Files.state c.args.files.now) c.args.tables.now c.args.joining.left c.args.joining.right c.args.joining.plan.left_on c.args.joining.plan.right_on c.begin-cursor.result
    b.begun.left b.begun.right b.begun.indexes b.begun.left_on b.begun.right_on b.begun.left_slots b.begun.right_slots b.begun.rests b.pairs b.cost (c.requires.right.complete t) in
    omega (arith, s.cost, o.cost (rows files c.args.joining.left.tuples) (rows files c.args.joining.right.tuples), (rw (s.lefts, s.rights) at c.join_rows.ensures.reads) t s.fits (o.holds (rows files c.args.joining.left.tuples) (rows files c.args.joining.right.tuples)))
