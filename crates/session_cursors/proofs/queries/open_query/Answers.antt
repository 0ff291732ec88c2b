use Rattle.std.proofs.Common.{◌≡◌, ◌≤◌, ◌+◌, IsTrue, sym, subst}
use Rattle.std.specs.Prelude.{IfErr, IfOk, IsOk, OnErr, Err}
use Rattle.db_model.specs.declared.commands.Query.{Query}
use Rattle.db_model.specs.Cost.{open_cost}
use Rattle.db_model.specs.Step.{answer_of}
use Rattle.session_model.specs.View.{view}
use Rattle.session_cursors.specs.Opened.{BeginsAnswer}
use Rattle.session_cursors.proofs.queries.open_query.Goals as goal

pub returns-in-Select-clause-begins : goal.returns-in-Select-clause-begins
returns-in-Select-clause-begins g c =
    let files = (g.V.Files.state c.args.files.now).files in
    let db = view files c.args.memory.now.held.now c.args.memory.now.opens.now in
    let P : Query → Type 0 = λ q. IsTrue (g.V.Files.state c.args.files.now).tells → IfOk c.open_select.result (λ came. IfOk came (λ o. BeginsAnswer db files q o)) in
    subst P (sym c.in-Select.is) c.open_select.ensures.begins

pub returns-in-Select-clause-refused : goal.returns-in-Select-clause-refused
returns-in-Select-clause-refused g c =
    let db = view (g.V.Files.state c.args.files.now).files c.args.memory.now.held.now c.args.memory.now.opens.now in
    let P : Query → Type 0 = λ q. IfOk c.open_select.result (λ came. IfErr came (λ refusal. answer_of db q ≡ Err refusal)) in
    subst P (sym c.in-Select.is) c.open_select.ensures.refused

pub returns-in-Select-clause-answered : goal.returns-in-Select-clause-answered
returns-in-Select-clause-answered g c =
    let db = view (g.V.Files.state c.args.files.now).files c.args.memory.now.held.now c.args.memory.now.opens.now in
    let P : Query → Type 0 = λ q. OnErr c.open_select.result (IsOk (answer_of db q)) in
    subst P (sym c.in-Select.is) c.open_select.ensures.answered

pub returns-in-Select-clause-reads : goal.returns-in-Select-clause-reads
returns-in-Select-clause-reads g c =
    let db = view (g.V.Files.state c.args.files.now).files c.args.memory.now.held.now c.args.memory.now.opens.now in
    let P : Query → Type 0 = λ q. g.V.Files.reads c.open_select.new.files ≤ g.V.Files.reads c.args.files.now + open_cost db q in
    subst P (sym c.in-Select.is) c.open_select.ensures.reads

pub returns-in-Join-clause-begins : goal.returns-in-Join-clause-begins
returns-in-Join-clause-begins g c = λ told.
    let files = (g.V.Files.state c.args.files.now).files in
    let db = view files c.args.memory.now.held.now c.args.memory.now.opens.now in
    let P : Query → Type 0 = λ q. IfOk c.open_join.result (λ came. IfOk came (λ o. BeginsAnswer db files q o)) in
    subst P (sym c.in-Join.is) c.open_join.ensures.begins

pub returns-in-Join-clause-refused : goal.returns-in-Join-clause-refused
returns-in-Join-clause-refused g c =
    let db = view (g.V.Files.state c.args.files.now).files c.args.memory.now.held.now c.args.memory.now.opens.now in
    let P : Query → Type 0 = λ q. IfOk c.open_join.result (λ came. IfErr came (λ refusal. answer_of db q ≡ Err refusal)) in
    subst P (sym c.in-Join.is) c.open_join.ensures.refused

pub returns-in-Join-clause-answered : goal.returns-in-Join-clause-answered
returns-in-Join-clause-answered g c =
    let db = view (g.V.Files.state c.args.files.now).files c.args.memory.now.held.now c.args.memory.now.opens.now in
    let P : Query → Type 0 = λ q. OnErr c.open_join.result (IsOk (answer_of db q)) in
    subst P (sym c.in-Join.is) c.open_join.ensures.answered

pub returns-in-Join-clause-reads : goal.returns-in-Join-clause-reads
returns-in-Join-clause-reads g c =
    let db = view (g.V.Files.state c.args.files.now).files c.args.memory.now.held.now c.args.memory.now.opens.now in
    let P : Query → Type 0 = λ q. g.V.Files.reads c.open_join.new.files ≤ g.V.Files.reads c.args.files.now + open_cost db q in
    subst P (sym c.in-Join.is) c.open_join.ensures.reads
