use Rattle.std.proofs.Common.{arith, List, map, sym, subst}
use Rattle.db_model.specs.declared.values.Value.{Value}
use Rattle.db_model.specs.Plan.{ranges_of}
use Rattle.db_model.specs.Step.{Rows}
use Rattle.index_set.specs.Plans.{kinds}
use Rattle.tuple_file.specs.Tuples.{rows}
use Rattle.session_model.specs.View.{project}
use Rattle.session_model.specs.Steps.{Replies}
use Rattle.session_queries.proofs.Costs.{begin_chosen}
use Rattle.session_queries.proofs.selecting.select.Goals as goal
use Rattle.tuple_file.proofs.Columns.{rows_counted}

pub returns-in-Ok-clause-replies : goal.returns-in-Ok-clause-replies
returns-in-Ok-clause-replies g c = λ t condition code.
    let h = c.in-Ok.ensures in
    let indexes = c.requires.ready.complete t in
    let wrote = (rw (h.frame.same, h.begun.tuples) at c.select_rows.ensures.replies) t (h.fits t indexes) in
    subst (λ (all : List (List Value)). Replies (Rows (map (project c.args.selecting.plan.places) all)) c.select_rows.result (g.K.Sink.held c.args.out.now) (g.K.Sink.held c.select_rows.new.out))
    (h.begins t condition code indexes).remaining wrote

pub returns-in-Ok-clause-reads : goal.returns-in-Ok-clause-reads
returns-in-Ok-clause-reads g c = λ t condition code.
    let h = c.in-Ok.ensures in
    let indexes = c.requires.ready.complete t in
    let few = (rw (h.frame.same, h.begun.tuples) at c.select_rows.ensures.reads) t (h.fits t indexes) in
    let begun = rw (sym (rows_counted (g.V.Files.state c.args.files.now).files c.args.selecting.found.tuples)) at (h.reads condition code) in
    omega (arith, few, begun, (h.begins t condition code indexes).cost)

pub returns-in-Err-clause-reads : goal.returns-in-Err-clause-reads
returns-in-Err-clause-reads g c = λ t condition code.
    let all = rows (g.V.Files.state c.args.files.now).files c.args.selecting.found.tuples in
    let begun = rw (sym (rows_counted (g.V.Files.state c.args.files.now).files c.args.selecting.found.tuples)) at (c.in-Err.ensures.reads condition code) in
    omega (arith, begun, begin_chosen (kinds c.args.selecting.found.indexes) (ranges_of c.args.selecting.found.tuples.schema.attributes condition) all)
