use Rattle.std.proofs.Common.{refl, ap, ◌∙◌, arith}
use Rattle.afl_base.specs.Files.{draft_in}
use Rattle.afl_base.proofs.FieldLaws.{length-put_at}
use Rattle.tuple_file.specs.Gathered.{end_of_waiting, gathered, page_rest}
use Rattle.tuple_file.proofs.Gathered.{fits_in_page, put_in_page, put_over_page}
use Rattle.tuple_file.proofs.waiting.Waiting.put.Goals as goal

pub returns-in_ok-flush-clause-put : goal.returns-in_ok-flush-clause-put
returns-in_ok-flush-clause-put g c told =
    let state = g.V.Files.state c.args.files.now in
    let waits = c.args.self.now in
    let first = c.take_in.new.self in
    put_over_page (draft_in state).bytes waits.bytes c.args.row.now first.bytes (gathered state waits) (draft_in (g.V.Files.state c.flush.new.files)).bytes c.flush.new.self.bytes c.take_in-then-room-eq0.new.self.bytes
    waits.at first.at (end_of_waiting waits) c.min-fits.result c.flush.new.self.at c.take_in-then-room-eq0.new.self.at
    c.take_in.ensures.at c.take_in.ensures.bytes refl c.requires.range refl
    (c.in_ok-flush.ensures.written told) c.in_ok-flush.ensures.at c.take_in-then-room-eq0.ensures.at c.in_ok-flush.ensures.none c.take_in-then-room-eq0.ensures.bytes
    (length-put_at (draft_in state).bytes waits.bytes waits.at (omega (arith, c.requires.range)))

pub returns-else-room-eq0-clause-put : goal.returns-else-room-eq0-clause-put
returns-else-room-eq0-clause-put g c told =
    let state = g.V.Files.state c.args.files.now in
    let waits = c.args.self.now in
    let first = c.take_in.new.self in
    let fits = fits_in_page waits.bytes c.args.row.now first.bytes c.room.result c.room-2.result (page_rest waits.at) c.min-fits.result c.take_in.ensures.bytes c.min-fits.ensures c.room.ensures
    (c.room-2.ensures ∙ ap page_rest c.take_in.ensures.at) c.if-room-eq0.false in
    put_in_page (draft_in state).bytes waits.bytes c.args.row.now c.take_in.new.self.bytes (gathered state waits)
    waits.at c.take_in.new.self.at (end_of_waiting waits) c.min-fits.result
    c.take_in.ensures.at c.take_in.ensures.bytes fits refl (omega (arith, c.requires.range)) refl
