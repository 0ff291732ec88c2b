use Rattle.std.proofs.Common.{◌∙◌, ap, sym, List, ℕ, ◌∷◌}
use Rattle.index_set.specs.Walks.{ahead}
use Rattle.tuple_file.specs.Tuples.{rows}
use Rattle.cursor.specs.Pairs.{belongs}
use Rattle.cursor.specs.Remaining.{passing}
use Rattle.cursor.proofs.Partners.{partners_behind}
use Rattle.cursor.proofs.partner.next_partner.Goals as goal

pub returns-in-Some-clause-finds : goal.returns-in-Some-clause-finds
returns-in-Some-clause-finds g c = λ told indexes fits all_ahead.
    let state = g.V.Files.state c.args.files.now in
    let all = rows state.files c.args.right.now in
    let test = belongs c.args.partner.now.value c.args.partner.now.on in
    let before = c.in_ok-stands.ensures.ahead told indexes all_ahead in
    let stands = c.in_ok-stands.ensures.fits told indexes fits in
    let steps = (rw (c.in-Some.is, c.in_ok-stands.ensures.frame.same) at c.in_ok-next_row.ensures.steps) told stands in
    let e = sym before ∙ steps.first in
    let behind = partners_behind test all c.args.from c.args.slots c.in-Some.slot (passing test all (ahead c.next_row.new.candidates all)) c.requires.may_read.order e in (
      e ∙ ap (λ (l : List ℕ). c.in-Some.slot ∷ l) behind,
      (steps.fits, behind),
    )
