use Rattle.std.proofs.Common.{arith, List, length, sym, ap, ◌∙◌}
use Rattle.db_model.specs.declared.values.Value.{Value}
use Rattle.db_model.specs.Cost.{begin_cost, chosen_cost}
use Rattle.db_model.specs.Plan.{plan, ranges_of}
use Rattle.index_set.specs.Plans.{kinds}
use Rattle.index_set.specs.Walks.{cost_ahead}
use Rattle.cursor.specs.Remaining.{remaining}
use Rattle.tuple_file.specs.Tuples.{rows}
use Rattle.session_plans.specs.Aggregates.{answers, column_values, medians}
use Rattle.session_queries.specs.Folded.{AreFolded, item_at}
use Rattle.session_queries.proofs.Costs.{begin_chosen, pass_paid, passes_paid}
use Rattle.session_queries.proofs.aggregating.folded.Goals as goal
use Rattle.tuple_file.proofs.Columns.{rows_counted}

pub returns-in_err-begin-clause-reads : goal.returns-in_err-begin-clause-reads
returns-in_err-begin-clause-reads g c = λ t condition code.
    let found = c.args.aggregating.found in
    let all = rows (g.V.Files.state c.args.files.now).files found.tuples in
    let ranges = ranges_of found.tuples.schema.attributes condition in
    let begun = rw (sym (rows_counted (g.V.Files.state c.args.files.now).files found.tuples)) at (c.in_err-begin.ensures.reads condition code) in
    omega (arith, begun, begin_chosen (kinds found.indexes) ranges all, pass_paid (medians c.args.aggregating.plan.items) (chosen_cost (kinds found.indexes) ranges all))

pub returns-clause-numbers : goal.returns-clause-numbers
returns-clause-numbers g c = λ t condition code.
    let h = c.in_ok-begin.ensures in
    let found = c.args.aggregating.found in
    let items = c.args.aggregating.plan.items in
    let all = rows (g.V.Files.state c.args.files.now).files found.tuples in
    let left = remaining c.begin.new.self all in
    let indexes = c.requires.ready.complete t in
    let fresh = rw c.as_slice.ensures.items at c.new_tallies-tallies.ensures.fresh in
    let start : AreFolded items left c.new_tallies-tallies.result = λ i inside. (fresh i inside).told (column_values (item_at items i).1 left) in
    let folded = (rw (h.frame.same, h.begun.tuples, c.as_slice-2.ensures.items) at c.in_ok-fold_all.ensures.folded) t (h.fits t indexes) start in
    let aggs = rw c.as_slice-2.ensures.items at c.in_ok-fold_all.ensures.aggs in
    let done = rw c.as_slice-2.ensures.items at c.in_ok-fold_all.ensures.done in
    (rw c.as_slice-3.ensures.items at c.answers_of.ensures.told) left aggs folded done
    ∙ ap (λ (tuples : List (List Value)). answers items tuples) (h.begins t condition code indexes).remaining

pub returns-clause-reads : goal.returns-clause-reads
returns-clause-reads g c = λ t condition code.
    let h = c.in_ok-begin.ensures in
    let found = c.args.aggregating.found in
    let items = c.args.aggregating.plan.items in
    let all = rows (g.V.Files.state c.args.files.now).files found.tuples in
    let ranges = ranges_of found.tuples.schema.attributes condition in
    let indexes = c.requires.ready.complete t in
    let begun = rw (sym (rows_counted (g.V.Files.state c.args.files.now).files found.tuples)) at (h.reads condition code) in
    let passed = (rw (h.frame.same, h.begun.tuples, c.as_slice-2.ensures.items) at c.in_ok-fold_all.ensures.reads) t (h.fits t indexes) in
    let paid = passes_paid (medians items) (begin_cost (length all) (plan (kinds found.indexes) ranges)) (cost_ahead c.begin.new.self.candidates all) (chosen_cost (kinds found.indexes) ranges all) ((h.begins t condition code indexes).cost) in
    omega (arith, begun, passed, paid)

pub returns-in_err-fold_all-clause-reads : goal.returns-in_err-fold_all-clause-reads
returns-in_err-fold_all-clause-reads g c = λ t condition code.
    let h = c.in_ok-begin.ensures in
    let found = c.args.aggregating.found in
    let items = c.args.aggregating.plan.items in
    let all = rows (g.V.Files.state c.args.files.now).files found.tuples in
    let ranges = ranges_of found.tuples.schema.attributes condition in
    let indexes = c.requires.ready.complete t in
    let begun = rw (sym (rows_counted (g.V.Files.state c.args.files.now).files found.tuples)) at (h.reads condition code) in
    let passed = (rw (h.frame.same, h.begun.tuples, c.as_slice-2.ensures.items) at c.in_err-fold_all.ensures.reads) t (h.fits t indexes) in
    let paid = passes_paid (medians items) (begin_cost (length all) (plan (kinds found.indexes) ranges)) (cost_ahead c.begin.new.self.candidates all) (chosen_cost (kinds found.indexes) ranges all) ((h.begins t condition code indexes).cost) in
    omega (arith, begun, passed, paid)
