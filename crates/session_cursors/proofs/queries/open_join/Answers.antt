use Rattle.std.proofs.Common.{refl}
use Rattle.afl_base.specs.Files.{bytes_at}
use Rattle.session_model.specs.View.{relation_of_rows}
use Rattle.session_plans.proofs.Joined.{rows_whole}
use Rattle.session_cursors.proofs.Queried.{join_begins, join_refused, left_unnamed, right_unnamed}
use Rattle.session_cursors.proofs.queries.open_join.Goals as goal

pub returns-in-None-clause-refused : goal.returns-in-None-clause-refused
returns-in-None-clause-refused g c =
    left_unnamed (g.V.Files.state c.args.files.now).files c.args.memory.now.held.now c.args.memory.now.opens.now c.args.left.now c.args.right.now c.args.on.now c.args.list.now c.in-None.ensures.found

pub returns-in-None-named-clause-refused : goal.returns-in-None-named-clause-refused
returns-in-None-named-clause-refused g c =
    right_unnamed (g.V.Files.state c.args.files.now).files c.args.memory.now.held.now c.args.memory.now.opens.now c.args.left.now c.args.right.now c.args.on.now c.args.list.now
    c.in-Some.lefts.slot c.in-Some.lefts.tuples.now c.in-Some.ensures.found c.in-None-named.ensures.found

pub returns-in-Err-clause-refused : goal.returns-in-Err-clause-refused
returns-in-Err-clause-refused g c =
    let files = (g.V.Files.state c.args.files.now).files in
    let s = c.in-Some.lefts.tuples.now in
    let t = c.in-Some-named.rights.tuples.now in
    join_refused files c.args.memory.now.held.now c.args.memory.now.opens.now c.args.left.now c.args.right.now c.args.on.now c.args.list.now c.in-Some.lefts.slot s c.in-Some.ensures.found c.in-Some-named.rights.slot t c.in-Some-named.ensures.found c.in-Err.refusal
    (c.in-Err.ensures.refused (relation_of_rows files s) (relation_of_rows files t) refl refl)

pub returns-clause-begins : goal.returns-clause-begins
returns-clause-begins g c =
    let files = (g.V.Files.state c.args.files.now).files in
    let s = c.in-Some.lefts.tuples.now in
    let t = c.in-Some-named.rights.tuples.now in
    let h = c.begin_join-opened.ensures in
    let p = c.in-Ok.ensures in
    join_begins files c.args.memory.now.held.now c.args.memory.now.opens.now c.args.left.now c.args.right.now c.args.on.now c.args.list.now c.in-Some.lefts.slot s c.in-Some.ensures.found c.in-Some-named.rights.slot t c.in-Some-named.ensures.found c.begin_join-opened.result _
    c.in-Ok.plan.left_on c.in-Ok.plan.right_on (p.rows (relation_of_rows files s) (relation_of_rows files t) refl refl (rows_whole s.schema.attributes (bytes_at files s.file))) h.rows p.left_on p.right_on h.left h.right h.ahead
