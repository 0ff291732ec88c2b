use Rattle.std.proofs.Common.{◌≡◌, ◌<◌, ◌≤◌, ℕ, List, None, map, drop, take, ap, sym, subst, ◌∙◌, arith}
use Rattle.db_model.specs.declared.values.Value.{Value}
use Rattle.db_model.specs.Ahead.{fetched, rows_named}
use Rattle.cursor.specs.declared.join.JoinCursor.{JoinCursor}
use Rattle.cursor.specs.Pairs.{pairs_left, place_in}
use Rattle.cursor.proofs.Joins.{all_passed}
use Rattle.tuple_file.specs.Tuples.{rows}
use Rattle.session_model.specs.Aheads.{ahead_of_join, join_stops}
use Rattle.session_model.specs.View.{join_left, project_pair}
use Rattle.session_model.proofs.Joins.{join_waits}
use Rattle.session_cursors.proofs.JoinReads.{ahead_none}
use Rattle.session_cursors.proofs.JoinSteps.{no_stop}
use Rattle.session_cursors.proofs.JoinTaken.{all_lefts, ahead_then, fault_few, left_pairs, named_price, read_few}
use Rattle.session_cursors.proofs.heads.fetch_join.Goals as goal
use Rattle.cursor.proofs.Waiting.{right_none}

pub returns-then-opened-eq0-clause-row : goal.returns-then-opened-eq0-clause-row
returns-then-opened-eq0-clause-row g c = λ told.
    let files = (g.V.Files.state c.args.files.now).files in
    let o = c.args.opened.now in
    ap (λ (l : List (List Value × List Value)). take 1 (map (project_pair o.places) l)) (right_none o.cursor (rows files o.cursor.left) (rows files o.cursor.right) c.if-opened-eq0.true)

pub returns-then-opened-eq0-clause-left : goal.returns-then-opened-eq0-clause-left
returns-then-opened-eq0-clause-left g c = λ told.
    let files = (g.V.Files.state c.args.files.now).files in
    let o = c.args.opened.now in
    let now : JoinCursor = record o.cursor { at = o.cursor.left_slots } in
    ap (map (project_pair o.places)) (all_passed now (rows files o.cursor.left) (rows files o.cursor.right) (omega arith))
    ∙ sym (ap (λ (l : List (List Value × List Value)). drop 1 (map (project_pair o.places) l)) (right_none o.cursor (rows files o.cursor.left) (rows files o.cursor.right) c.if-opened-eq0.true))

pub returns-then-opened-eq0-clause-ahead : goal.returns-then-opened-eq0-clause-ahead
returns-then-opened-eq0-clause-ahead g c = λ told.
    let state = g.V.Files.state c.args.files.now in
    let o = c.args.opened.now in
    let lefts = rows state.files o.cursor.left in
    let rights = rows state.files o.cursor.right in
    ahead_none state.files o o.cursor.left_slots o.cursor.from (omega arith)
    (no_stop o.cursor lefts rights (all_lefts state o.cursor c.requires.can.may_read) (right_none o.cursor lefts rights c.if-opened-eq0.true))

pub returns-clause-left : goal.returns-clause-left
returns-clause-left g c = λ told.
    let files = (g.V.Files.state c.args.files.now).files in
    let o = c.args.opened.now in
    let lefts = rows files o.cursor.left in
    let rights = rows files o.cursor.right in
    let h = c.in_ok-found.ensures in
    let d = c.next.new.self in
    let fits = c.requires.can.fits told in
    let stands : d ≡ record o.cursor { at = d.at; from = d.from; inner = d.inner } = h.moves.stands in
    let hint = place_in d.inner in
    let is : c.rest.new.self ≡ record o.cursor { at = d.at; from = d.from; inner = None; hint = hint } = c.rest.ensures.rests ∙ ap (λ (z : JoinCursor). record z { inner = None; hint = hint }) stands in
    let P : JoinCursor → Type 0 = λ z. map (project_pair o.places) (pairs_left z (rows files z.left) (rows files z.right)) ≡ drop 1 (join_left files o) in
    let Q : JoinCursor → Type 0 = λ z. map (project_pair o.places) (pairs_left z lefts rights) ≡ drop 1 (join_left files o) in
    subst P (sym is)
    (subst Q stands (left_pairs o.places c.in_ok-found.found (c.next.new.left, c.next.new.right) (pairs_left o.cursor lefts rights) (pairs_left d lefts rights) (h.yields told fits).next (h.yields told fits).over))

pub returns-clause-ahead : goal.returns-clause-ahead
returns-clause-ahead g c = λ told.
    let state = g.V.Files.state c.args.files.now in
    let o = c.args.opened.now in
    let h = c.in_ok-found.ensures in
    let d = c.next.new.self in
    let fits = c.requires.can.fits told in
    let stands : d ≡ record o.cursor { at = d.at; from = d.from; inner = d.inner } = h.moves.stands in
    let hint = place_in d.inner in
    let is : c.rest.new.self ≡ record o.cursor { at = d.at; from = d.from; inner = None; hint = hint } = c.rest.ensures.rests ∙ ap (λ (z : JoinCursor). record z { inner = None; hint = hint }) stands in
    let P : JoinCursor → Type 0 = λ z. ahead_of_join state.files (record { cursor = z; places = o.places }) ≡ fetched (ahead_of_join state.files o) in
    subst P (sym is)
    (ahead_then state o d c.next.new.left c.next.new.right c.in_ok-found.found (record {
      may = c.requires.can.may_read;
      stands = stands;
      pairs = (h.yields told fits).next;
      here = h.stops.here;
      later = h.moves.later;
      answered = h.pair told;
      within = h.may_read.within;
    }))

pub returns-clause-waits : goal.returns-clause-waits
returns-clause-waits g c = λ held w.
    let o = c.args.opened.now in
    let h = c.in_ok-found.ensures in
    let d = c.next.new.self in
    let stands : d ≡ record o.cursor { at = d.at; from = d.from; inner = d.inner } = h.moves.stands in
    let hint = place_in d.inner in
    join_waits (g.V.Files.state c.args.files.now) held o.cursor c.rest.new.self d.at d.from hint w
    (c.rest.ensures.rests ∙ ap (λ (z : JoinCursor). record z { inner = None; hint = hint }) stands)
    (subst (λ (n : ℕ). d.from ≤ n) (ap (λ (z : JoinCursor). z.right_slots) stands) h.may_read.within)

pub returns-clause-reads : goal.returns-clause-reads
returns-clause-reads g c = λ told db finds.
    let state = g.V.Files.state c.args.files.now in
    let o = c.args.opened.now in
    let lefts = rows state.files o.cursor.left in
    let rights = rows state.files o.cursor.right in
    let h = c.in_ok-found.ensures in
    let d = c.next.new.self in
    let fits = c.requires.can.fits told in
    let some : 0 < o.cursor.right_slots = omega (arith, c.if-opened-eq0.false) in
    named_price o.cursor (join_stops o.cursor lefts rights) lefts rights (rows_named db o.cursor.left.schema.name) (rows_named db o.cursor.right.schema.name)
    (g.V.Files.reads c.args.files.now) (g.V.Files.reads c.next.new.files) (λ left. finds left some)
    (read_few state o d c.next.new.left c.next.new.right c.in_ok-found.found (g.V.Files.reads c.args.files.now) (g.V.Files.reads c.next.new.files) (record {
      may = c.requires.can.may_read;
      stands = h.moves.stands;
      pairs = (h.yields told fits).next;
      here = h.stops.here;
      later = h.moves.later;
      answered = h.pair told;
      within = h.may_read.within;
    }) c.requires.can.rests (h.yields told fits).reads)

pub returns-in_err-found-clause-reads : goal.returns-in_err-found-clause-reads
returns-in_err-found-clause-reads g c = λ told db finds.
    let state = g.V.Files.state c.args.files.now in
    let o = c.args.opened.now in
    let lefts = rows state.files o.cursor.left in
    let rights = rows state.files o.cursor.right in
    let h = c.in_err-found.ensures in
    let fits = c.requires.can.fits told in
    let some : 0 < o.cursor.right_slots = omega (arith, c.if-opened-eq0.false) in
    named_price o.cursor (join_stops o.cursor lefts rights) lefts rights (rows_named db o.cursor.left.schema.name) (rows_named db o.cursor.right.schema.name)
    (g.V.Files.reads c.args.files.now) (g.V.Files.reads c.next.new.files) (λ left. finds left some)
    (fault_few state o c.next.new.self c.next.new.left c.next.new.right (g.V.Files.reads c.args.files.now) (g.V.Files.reads c.next.new.files) c.requires.can.may_read h.moves.stands c.requires.can.rests h.moves.later h.inside
    (h.fails told fits).unanswered (h.fails told fits).reads)
