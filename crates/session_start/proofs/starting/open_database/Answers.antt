use Rattle.std.proofs.Common.{sym}
use Rattle.session_start.proofs.Costs.{opened_within}
use Rattle.session_start.proofs.Opened.{base_is, breaks_of, running_of, sound_of}
use Rattle.session_start.proofs.starting.open_database.Goals as goal

pub returns-in-Err-clause-bad : goal.returns-in-Err-clause-bad
returns-in-Err-clause-bad g c = λ told. (rw c.in-Err.is at c.in_ok-hold_catalog.ensures.bad) told

pub first_broken_rule-requires : goal.first_broken_rule-requires
first_broken_rule-requires g c = record {
  found = rw c.in_ok-hold_catalog.ensures.frame.same (rw c.in-Ok.is at c.in_ok-hold_catalog.ensures.found);
}

pub returns-in-Some-clause-bad : goal.returns-in-Some-clause-bad
returns-in-Some-clause-bad g c = λ told.
    let state = g.V.Files.state c.args.files.now in
    let same = c.in_ok-hold_catalog.ensures.frame.same in
    let held = c.hold_catalog.new.held in
    let found = rw c.in-Ok.is at c.in_ok-hold_catalog.ensures.found in
    let catalog = (rw c.in-Ok.is at c.in_ok-hold_catalog.ensures.catalog) told in
    let unbroken = (rw c.in-Ok.is at c.in_ok-hold_catalog.ensures.sound) told in
    let judged = (rw (same, c.in-Some.is) at c.in_ok-broken.ensures.judged) told in
    breaks_of state held found catalog unbroken c.in-Some.broken.rule c.in-Some.broken.place judged

pub returns-in-None-clause-sound : goal.returns-in-None-clause-sound
returns-in-None-clause-sound g c = λ told.
    let state = g.V.Files.state c.args.files.now in
    let same = c.in_ok-hold_catalog.ensures.frame.same in
    let held = c.hold_catalog.new.held in
    let found = rw c.in-Ok.is at c.in_ok-hold_catalog.ensures.found in
    let catalog = (rw c.in-Ok.is at c.in_ok-hold_catalog.ensures.catalog) told in
    let unbroken = (rw c.in-Ok.is at c.in_ok-hold_catalog.ensures.sound) told in
    let judged = (rw (same, c.in-None.is) at c.in_ok-broken.ensures.judged) told in
    sound_of state held found catalog unbroken judged.0 judged.1

pub returns-in-None-clause-base : goal.returns-in-None-clause-base
returns-in-None-clause-base g c = λ told.
    let state = g.V.Files.state c.args.files.now in
    let found = rw c.in-Ok.is at c.in_ok-hold_catalog.ensures.found in
    let catalog = (rw c.in-Ok.is at c.in_ok-hold_catalog.ensures.catalog) told in
    sym (base_is state c.hold_catalog.new.held found catalog)

pub returns-in-None-clause-running : goal.returns-in-None-clause-running
returns-in-None-clause-running g c =
    let state = g.V.Files.state c.args.files.now in
    let same = c.in_ok-hold_catalog.ensures.frame.same in
    let held = c.hold_catalog.new.held in
    let found = rw c.in-Ok.is at c.in_ok-hold_catalog.ensures.found in
    let catalog = rw c.in-Ok.is at c.in_ok-hold_catalog.ensures.catalog in
    let unbroken = rw c.in-Ok.is at c.in_ok-hold_catalog.ensures.sound in
    let ready = rw (same, c.in-None.is) at c.in_ok-broken.ensures.ready in
    running_of state held found c.first_broken_rule.new.tables c.requires.idle ready.0 ready.1 catalog unbroken

pub returns-in_err-broken-clause-reads : goal.returns-in_err-broken-clause-reads
returns-in_err-broken-clause-reads g c = λ told.
    let state = g.V.Files.state c.args.files.now in
    let same = c.in_ok-hold_catalog.ensures.frame.same in
    let found = rw c.in-Ok.is at c.in_ok-hold_catalog.ensures.found in
    let catalog = (rw c.in-Ok.is at c.in_ok-hold_catalog.ensures.catalog) told in
    let judged = rw same at c.first_broken_rule.ensures.reads in
    opened_within state c.hold_catalog.new.held found catalog (g.V.Files.reads c.args.files.now) (g.V.Files.reads c.hold_catalog.new.files)
    (g.V.Files.reads c.first_broken_rule.new.files) c.hold_catalog.ensures.reads judged

pub returns-in-Some-clause-reads : goal.returns-in-Some-clause-reads
returns-in-Some-clause-reads g c = λ told.
    let state = g.V.Files.state c.args.files.now in
    let same = c.in_ok-hold_catalog.ensures.frame.same in
    let found = rw c.in-Ok.is at c.in_ok-hold_catalog.ensures.found in
    let catalog = (rw c.in-Ok.is at c.in_ok-hold_catalog.ensures.catalog) told in
    let judged = rw same at c.first_broken_rule.ensures.reads in
    opened_within state c.hold_catalog.new.held found catalog (g.V.Files.reads c.args.files.now) (g.V.Files.reads c.hold_catalog.new.files)
    (g.V.Files.reads c.first_broken_rule.new.files) c.hold_catalog.ensures.reads judged

pub returns-in-None-clause-reads : goal.returns-in-None-clause-reads
returns-in-None-clause-reads g c = λ told.
    let state = g.V.Files.state c.args.files.now in
    let same = c.in_ok-hold_catalog.ensures.frame.same in
    let found = rw c.in-Ok.is at c.in_ok-hold_catalog.ensures.found in
    let catalog = (rw c.in-Ok.is at c.in_ok-hold_catalog.ensures.catalog) told in
    let judged = rw same at c.first_broken_rule.ensures.reads in
    opened_within state c.hold_catalog.new.held found catalog (g.V.Files.reads c.args.files.now) (g.V.Files.reads c.hold_catalog.new.files)
    (g.V.Files.reads c.first_broken_rule.new.files) c.hold_catalog.ensures.reads judged
