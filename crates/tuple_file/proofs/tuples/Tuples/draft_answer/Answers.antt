use Rattle.std.proofs.Common.{◌≡◌, ◌*◌, ◌∙◌, ap}
use Rattle.afl_base.specs.Fields.{put_at}
use Rattle.db_model.specs.Row.{row_bytes, row_length, row_of}
use Rattle.tuple_file.specs.Gathered.{gathered}
use Rattle.tuple_file.specs.Tuples.{row_slot_bytes}
use Rattle.tuple_file.proofs.Written.{written_slot}
use Rattle.tuple_file.proofs.tuples.Tuples.draft_answer.Goals as goal

pub returns-clause-row : goal.returns-clause-row
returns-clause-row g c told =
    let state = g.V.Files.state c.args.files.now in
    let attributes = c.args.self.now.schema.attributes in
    let drafted = gathered state c.args.waiting.now in
    let bytes = row_slot_bytes state.files c.args.self.now c.args.slot in
    let read : c.read.new.into ≡ bytes = c.in_ok-read.ensures.bytes told in
    let written : row_bytes attributes (row_of attributes bytes) ≡ bytes = written_slot state c.args.self.now c.args.slot c.requires.holds told c.requires.slot in
    let said = (rw c.has.ensures at (rw read at c.answer.ensures.answered)) written in (
      said.0,
      said.1,
      said.2,
      (rw c.in_ok-read.ensures.frame.same at c.in_ok-put.ensures.put) told ∙ ap (λ n. put_at drafted n c.answer.new.row) c.requires.behind ∙ ap (put_at drafted (row_length attributes * c.args.slot)) said.3,
    )
