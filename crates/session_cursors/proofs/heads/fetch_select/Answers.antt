use Rattle.std.proofs.Common.{◌<◌, ◌≤◌, ◌+◌, List, map, length, slice_get, refl, ap, sym, subst, ◌∙◌, arith}
use Rattle.db_model.specs.Cost.{fetch_select_cost, passed}
use Rattle.db_model.specs.Row.{Row}
use Rattle.index_set.specs.Walks.{ahead, walk_of_search}
use Rattle.cursor.specs.declared.select.SelectCursor.{SelectCursor}
use Rattle.cursor.specs.Remaining.{remaining, slots_to_answer}
use Rattle.tuple_file.specs.Tuples.{rows}
use Rattle.session_model.specs.View.{project}
use Rattle.session_cursors.proofs.SelectSteps.{ahead_then, at_root, ended_rows, left_rows, read_failed, read_few, rested_at, rested_on}
use Rattle.session_cursors.proofs.heads.fetch_select.Goals as goal

pub returns-clause-left : goal.returns-clause-left
returns-clause-left g c = λ told.
    let files = (g.V.Files.state c.args.files.now).files in
    let o = c.args.opened.now in
    let all = rows files o.cursor.tuples in
    let h = c.in_ok-found.ensures in
    let now = c.rest.new.self in
    let fits = c.requires.can.fits told in
    let yields = h.yields told fits in
    ap (λ (x : SelectCursor). map (project o.places) (remaining now (rows files x.tuples))) (c.rest.ensures.rests ∙ ap at_root h.stands)
    ∙ ap (map (project o.places)) (c.rest.ensures.remaining all)
    ∙ left_rows o.places c.in_ok-found.found c.next.new.into (remaining o.cursor all) (remaining c.next.new.self all) yields.next
    (ended_rows c.in_ok-found.found (remaining c.next.new.self all) yields.over)

pub returns-clause-ahead : goal.returns-clause-ahead
returns-clause-ahead g c = λ told.
    let files = (g.V.Files.state c.args.files.now).files in
    let o = c.args.opened.now in
    let all = rows files o.cursor.tuples in
    let h = c.in_ok-found.ensures in
    let r = c.rest.ensures in
    let found = c.in_ok-found.found in
    let advances = h.advances in
    ahead_then files o c.rest.new.self (ap (λ (x : SelectCursor). x.tuples) (r.rests ∙ ap at_root h.stands)) (ap (λ (x : SelectCursor). x.candidates.search) r.rests ∙ advances.search)
    (ap (λ (x : SelectCursor). x.candidates.slots) r.rests ∙ advances.slots) found
    (rested_on found (slots_to_answer o.cursor all) (slots_to_answer c.next.new.self all) (slots_to_answer c.rest.new.self all) (r.slots_left all) (h.yields told (c.requires.can.fits told)).slot)
    (rested_at found (λ slot. o.cursor.candidates.from ≤ slot) c.next.new.self.candidates.from c.rest.new.self.candidates.from c.next.new.self.candidates.slots c.rest.new.self.candidates.slots
    (ap (λ (x : SelectCursor). x.candidates.from) r.rests) (ap (λ (x : SelectCursor). x.candidates.slots) r.rests) h.ended advances.forward)

pub returns-clause-reads : goal.returns-clause-reads
returns-clause-reads g c = λ told db finds.
    let files = (g.V.Files.state c.args.files.now).files in
    let o = c.args.opened.now in
    let all = rows files o.cursor.tuples in
    let h = c.in_ok-found.ensures in
    let found = c.in_ok-found.found in
    let next = c.next.new.self in
    let fits = c.requires.can.fits told in
    let before = g.V.Files.reads c.args.files.now in
    let now = g.V.Files.reads c.next.new.files in
    let some : 0 < o.cursor.candidates.slots = omega (arith, c.if-opened.false) in
    let P : List Row → Type 0 = λ l. now ≤ before + fetch_select_cost (walk_of_search o.cursor.candidates.search) l (length (passed (slice_get (slots_to_answer o.cursor all) 0) (ahead o.cursor.candidates all))) in
    let yields = h.yields told fits in
    let advances = h.advances in
    subst P (sym (finds some))
    (read_few o.cursor next all advances.search advances.slots c.requires.can.rests found before now yields.slot
    (rested_at found (λ slot. o.cursor.candidates.from ≤ slot) next.candidates.from next.candidates.from next.candidates.slots next.candidates.slots refl refl h.ended advances.forward) yields.reads)

pub returns-in_err-found-clause-reads : goal.returns-in_err-found-clause-reads
returns-in_err-found-clause-reads g c = λ told db finds.
    let files = (g.V.Files.state c.args.files.now).files in
    let o = c.args.opened.now in
    let all = rows files o.cursor.tuples in
    let before = g.V.Files.reads c.args.files.now in
    let now = g.V.Files.reads c.next.new.files in
    let some : 0 < o.cursor.candidates.slots = omega (arith, c.if-opened.false) in
    let P : List Row → Type 0 = λ l. now ≤ before + fetch_select_cost (walk_of_search o.cursor.candidates.search) l (length (passed (slice_get (slots_to_answer o.cursor all) 0) (ahead o.cursor.candidates all))) in
    subst P (sym (finds some)) (read_failed o.cursor all before now c.requires.can.rests (c.in_err-found.ensures.reads_failed told (c.requires.can.fits told)))
