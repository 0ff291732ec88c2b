use Rattle.std.proofs.Common.{◌≤◌, ◌+◌, Some, IsTrue, OnOk, subst, sym}
use Rattle.db_model.specs.Database.{Database}
use Rattle.session_model.specs.declared.held.Held.{Held}
use Rattle.session_model.specs.declared.held.Open.{Open}
use Rattle.session_model.specs.Running.{IsCursorSlot, IsWaiting, IsWaitingJoin}
use Rattle.session_cursors.specs.Fetched.{FindsRows, fetch_price}
use Rattle.session_cursors.proofs.heads.fetch_open.Goals as goal

pub returns-in-Select-clause-waits : goal.returns-in-Select-clause-waits
returns-in-Select-clause-waits g c =
    let state = g.V.Files.state c.args.files.now in
    let P : Open → Type 0 = λ o. OnOk c.fetch_select.result ((held : Held) → IsCursorSlot state held (Some o) → IsWaiting state held c.fetch_select.new.opened.cursor) in
    subst P (sym c.in-Select.is) c.fetch_select.ensures.waits

pub returns-in-Join-clause-waits : goal.returns-in-Join-clause-waits
returns-in-Join-clause-waits g c =
    let state = g.V.Files.state c.args.files.now in
    let P : Open → Type 0 = λ o. OnOk c.fetch_join.result ((held : Held) → IsCursorSlot state held (Some o) → IsWaitingJoin state held c.fetch_join.new.opened.cursor) in
    subst P (sym c.in-Join.is) c.fetch_join.ensures.waits

pub returns-in-Select-clause-reads : goal.returns-in-Select-clause-reads
returns-in-Select-clause-reads g c =
    let state = g.V.Files.state c.args.files.now in
    let P : Open → Type 0 = λ o. IsTrue state.tells → (db : Database) → FindsRows db state.files o
    → g.V.Files.reads c.fetch_select.new.files ≤ g.V.Files.reads c.args.files.now + fetch_price db state.files o in
    subst P (sym c.in-Select.is) c.fetch_select.ensures.reads

pub returns-in-Join-clause-reads : goal.returns-in-Join-clause-reads
returns-in-Join-clause-reads g c =
    let state = g.V.Files.state c.args.files.now in
    let P : Open → Type 0 = λ o. IsTrue state.tells → (db : Database) → FindsRows db state.files o
    → g.V.Files.reads c.fetch_join.new.files ≤ g.V.Files.reads c.args.files.now + fetch_price db state.files o in
    subst P (sym c.in-Join.is) c.fetch_join.ensures.reads
