use Rattle.std.proofs.Common.{◌≡◌, Option, Some, refl, subst, arith}
use Rattle.db_model.specs.declared.commands.Command.TheVariants as command
use Rattle.db_model.specs.Ahead.{aheads_after}
use Rattle.db_model.specs.Step.{Rows, step}
use Rattle.session_model.specs.declared.held.Open.{Open}
use Rattle.session_model.specs.Aheads.{aheads_of}
use Rattle.session_model.specs.Running.{IsCursorSlot, IsRunning}
use Rattle.session_model.specs.View.{view}
use Rattle.session_model.proofs.Opens.{cursor_put}
use Rattle.session_model.proofs.Running.{slot_at}
use Rattle.session_cursors.specs.Fetched.{one_or_none}
use Rattle.session_cursors.proofs.Taken.{aheads_fetched, aheads_refused, can_fetch, put_back, step_fetched, step_refused, within_cost}
use Rattle.session_cursors.proofs.fetching.take_row.Goals as goal

pub returns-in-None-clause-done : goal.returns-in-None-clause-done
returns-in-None-clause-done g c = λ told.
    let files = (g.V.Files.state c.args.files.now).files in
    step_refused files c.args.held.now c.args.opens.now c.args.number.now (c.in-None.ensures.refused refl files c.args.held.now)

pub returns-in-None-clause-aheads : goal.returns-in-None-clause-aheads
returns-in-None-clause-aheads g c = λ told.
    let files = (g.V.Files.state c.args.files.now).files in
    aheads_refused files c.args.held.now c.args.opens.now c.args.number.now (c.in-None.ensures.refused refl files c.args.held.now)

pub fetch_open-requires : goal.fetch_open-requires
fetch_open-requires g c =
    let state = g.V.Files.state c.args.files.now in
    let held = c.args.held.now in
    let there = slot_at c.args.opens.now c.in-Some.place c.index-opens-place.result c.in-Some-take.opened (omega (arith, c.requires.running.four, c.in-Some.ensures.few)) c.index-opens-place.is (cc (c.take.ensures.value, c.in-Some-take.is, c.index-opens-place.is)) in
    record { can = can_fetch state c.args.tables.now held c.args.opens.now c.requires.running c.in-Some-take.opened (subst (λ (z : Option Open). IsCursorSlot state held z) there (c.requires.running.cursors c.in-Some.place c.in-Some.ensures.few)) }

pub returns-clause-done : goal.returns-clause-done
returns-clause-done g c = λ told.
    let state = g.V.Files.state c.args.files.now in
    let held = c.args.held.now in
    let opens = c.args.opens.now in
    let place = c.in-Some.place in
    let o : Open = c.in-Some-take.opened in
    let there = slot_at opens place c.index-opens-place.result o (omega (arith, c.requires.running.four, c.in-Some.ensures.few)) c.index-opens-place.is (cc (c.take.ensures.value, c.in-Some-take.is, c.index-opens-place.is)) in
    let h = c.in_ok-found.ensures in
    let d : Open = c.fetch_open.new.opened in
    put_back (λ s os. step (view state.files held opens) (command.FetchCursor c.args.number.now) ≡ (view s.files held os, Rows (one_or_none c.in_ok-found.found c.fetch_open.new.into)))
    opens place c.take.new.self (Some d) h.frame.same
    (step_fetched state.files held opens c.args.number.now place c.in-Some.ensures.place o there d (one_or_none c.in_ok-found.found c.fetch_open.new.into) (h.row told) (h.left told))

pub returns-clause-running : goal.returns-clause-running
returns-clause-running g c =
    let state = g.V.Files.state c.args.files.now in
    let held = c.args.held.now in
    let opens = c.args.opens.now in
    let place = c.in-Some.place in
    let o : Open = c.in-Some-take.opened in
    let there = slot_at opens place c.index-opens-place.result o (omega (arith, c.requires.running.four, c.in-Some.ensures.few)) c.index-opens-place.is (cc (c.take.ensures.value, c.in-Some-take.is, c.index-opens-place.is)) in
    let h = c.in_ok-found.ensures in
    let d : Open = c.fetch_open.new.opened in
    put_back (λ s os. IsRunning s c.args.tables.now held os) opens place c.take.new.self (Some d) h.frame.same
    (cursor_put state c.args.tables.now held opens place (Some d) c.requires.running c.in-Some.ensures.few (h.waits held (subst (λ (z : Option Open). IsCursorSlot state held z) there (c.requires.running.cursors place c.in-Some.ensures.few))))

pub returns-clause-aheads : goal.returns-clause-aheads
returns-clause-aheads g c = λ told.
    let state = g.V.Files.state c.args.files.now in
    let held = c.args.held.now in
    let opens = c.args.opens.now in
    let place = c.in-Some.place in
    let o : Open = c.in-Some-take.opened in
    let there = slot_at opens place c.index-opens-place.result o (omega (arith, c.requires.running.four, c.in-Some.ensures.few)) c.index-opens-place.is (cc (c.take.ensures.value, c.in-Some-take.is, c.index-opens-place.is)) in
    let h = c.in_ok-found.ensures in
    let d : Open = c.fetch_open.new.opened in
    put_back (λ s os. aheads_of s.files os ≡ aheads_after (view state.files held opens) (aheads_of state.files opens) (command.FetchCursor c.args.number.now)) opens place c.take.new.self (Some d) h.frame.same
    (aheads_fetched state.files held opens c.args.number.now place c.in-Some.ensures.place o there d (h.left told) (h.ahead told))

pub returns-clause-reads : goal.returns-clause-reads
returns-clause-reads g c = λ told sound.
    let state = g.V.Files.state c.args.files.now in
    let held = c.args.held.now in
    let opens = c.args.opens.now in
    let place = c.in-Some.place in
    let o : Open = c.in-Some-take.opened in
    let there = slot_at opens place c.index-opens-place.result o (omega (arith, c.requires.running.four, c.in-Some.ensures.few)) c.index-opens-place.is (cc (c.take.ensures.value, c.in-Some-take.is, c.index-opens-place.is)) in
    within_cost state held opens c.args.number.now place c.in-Some.ensures.place o there sound (subst (λ (z : Option Open). IsCursorSlot state held z) there (c.requires.running.cursors place c.in-Some.ensures.few)) (g.V.Files.reads c.args.files.now) (g.V.Files.reads c.fetch_open.new.files)
    (c.in_ok-found.ensures.reads told (view state.files held opens))

pub returns-in_err-found-clause-reads : goal.returns-in_err-found-clause-reads
returns-in_err-found-clause-reads g c = λ told sound.
    let state = g.V.Files.state c.args.files.now in
    let held = c.args.held.now in
    let opens = c.args.opens.now in
    let place = c.in-Some.place in
    let o : Open = c.in-Some-take.opened in
    let there = slot_at opens place c.index-opens-place.result o (omega (arith, c.requires.running.four, c.in-Some.ensures.few)) c.index-opens-place.is (cc (c.take.ensures.value, c.in-Some-take.is, c.index-opens-place.is)) in
    within_cost state held opens c.args.number.now place c.in-Some.ensures.place o there sound (subst (λ (z : Option Open). IsCursorSlot state held z) there (c.requires.running.cursors place c.in-Some.ensures.few)) (g.V.Files.reads c.args.files.now) (g.V.Files.reads c.fetch_open.new.files)
    (c.in_err-found.ensures.reads told (view state.files held opens))
