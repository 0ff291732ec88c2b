use Rattle.std.proofs.Common.{◌≤◌, ◌+◌, ℕ, refl, sym, subst}
use Rattle.db_model.specs.Cond.{condition_of}
use Rattle.padded.proofs.Facts.{on_err}
use Rattle.session_model.specs.View.{relation_of_rows}
use Rattle.session_cursors.proofs.Queried.{select_answered, select_begins, select_price, select_refused, select_unnamed}
use Rattle.session_cursors.proofs.queries.open_select.Goals as goal

pub returns-in-None-clause-refused : goal.returns-in-None-clause-refused
returns-in-None-clause-refused g c =
    select_unnamed (g.V.Files.state c.args.files.now).files c.args.memory.now.held.now c.args.memory.now.opens.now c.args.list.now c.args.relation.now c.args.condition.now c.in-None.ensures.found

pub returns-in-Err-clause-refused : goal.returns-in-Err-clause-refused
returns-in-Err-clause-refused g c =
    let files = (g.V.Files.state c.args.files.now).files in
    let t = c.in-Some.queried.tuples.now in
    select_refused files c.args.memory.now.held.now c.args.memory.now.opens.now c.args.list.now c.args.relation.now c.args.condition.now c.in-Some.queried.slot t c.in-Some.ensures.found c.in-Err.refusal (c.in-Err.ensures.refused (relation_of_rows files t) refl)

pub returns-in_err-begin_select-clause-answered : goal.returns-in_err-begin_select-clause-answered
returns-in_err-begin_select-clause-answered g c =
    let files = (g.V.Files.state c.args.files.now).files in
    let t = c.in-Some.queried.tuples.now in
    on_err _ (select_answered files c.args.memory.now.held.now c.args.memory.now.opens.now c.args.list.now c.args.relation.now c.args.condition.now c.in-Some.queried.slot t c.in-Some.ensures.found _ (c.in-Ok.ensures.rows (relation_of_rows files t) refl))

pub returns-in_err-begin_select-clause-reads : goal.returns-in_err-begin_select-clause-reads
returns-in_err-begin_select-clause-reads g c =
    let files = (g.V.Files.state c.args.files.now).files in
    let t = c.in-Some.queried.tuples.now in
    subst (λ (n : ℕ). g.V.Files.reads c.begin_select.new.files ≤ g.V.Files.reads c.args.files.now + n)
    (sym (select_price files c.args.memory.now.held.now c.args.memory.now.opens.now c.args.list.now c.args.relation.now c.args.condition.now c.in-Some.queried.slot t c.in-Some.ensures.found))
    (c.in_err-begin_select.ensures.reads (condition_of c.args.condition.now) c.in-Ok.ensures.code)

pub returns-clause-begins : goal.returns-clause-begins
returns-clause-begins g c = λ told.
    let files = (g.V.Files.state c.args.files.now).files in
    let t = c.in-Some.queried.tuples.now in
    let h = c.in_ok-begin_select.ensures in
    let tree = condition_of c.args.condition.now in
    select_begins files c.args.memory.now.held.now c.args.memory.now.opens.now c.args.list.now c.args.relation.now c.args.condition.now c.in-Some.queried.slot t c.in-Some.ensures.found c.begin_select.new.opened _
    (c.in-Ok.ensures.rows (relation_of_rows files t) refl) (h.rows told tree c.in-Ok.ensures.code) h.tuples (h.ahead told tree c.in-Ok.ensures.code)

pub returns-clause-reads : goal.returns-clause-reads
returns-clause-reads g c =
    let files = (g.V.Files.state c.args.files.now).files in
    let t = c.in-Some.queried.tuples.now in
    subst (λ (n : ℕ). g.V.Files.reads c.begin_select.new.files ≤ g.V.Files.reads c.args.files.now + n)
    (sym (select_price files c.args.memory.now.held.now c.args.memory.now.opens.now c.args.list.now c.args.relation.now c.args.condition.now c.in-Some.queried.slot t c.in-Some.ensures.found))
    (c.in_ok-begin_select.ensures.reads (condition_of c.args.condition.now) c.in-Ok.ensures.code)
