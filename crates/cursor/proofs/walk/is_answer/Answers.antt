use Rattle.std.proofs.Common.{◌≡◌, ◌∙◌, ap, Bool, length}
use Rattle.afl_base.specs.Files.{bytes_at}
use Rattle.db_model.specs.Row.{row_length, tuple_of}
use Rattle.cursor.proofs.Walking.{live_answer, not_live, row_of_bytes}
use Rattle.cursor.proofs.walk.is_answer.Goals as goal

pub returns-then-not-is_live-clause-answer : goal.returns-then-not-is_live-clause-answer
returns-then-not-is_live-clause-answer g c = λ told.
    let files = (g.V.Files.state c.args.files.now).files in
    let t = c.args.tuples.now in
    let row = c.row_bytes.new.into in
    let long : length row ≡ row_length t.schema.attributes = c.in_ok-row_bytes.ensures.size ∙ c.requires.size in
    let there = row_of_bytes t.schema.attributes (bytes_at files t.file) row c.args.slot c.is_live.result c.requires.slot (c.in_ok-row_bytes.ensures.bytes told) long c.is_live.ensures in
    not_live (g.T.Test.passes c.args.test.now) _ (tuple_of t.schema.attributes row) c.is_live.result there c.if-not-is_live.true

pub returns-clause-answer : goal.returns-clause-answer
returns-clause-answer g c = λ told.
    let files = (g.V.Files.state c.args.files.now).files in
    let t = c.args.tuples.now in
    let row = c.row_bytes.new.into in
    let long : length row ≡ row_length t.schema.attributes = c.in_ok-row_bytes.ensures.size ∙ c.requires.size in
    let there = row_of_bytes t.schema.attributes (bytes_at files t.file) row c.args.slot c.is_live.result c.requires.slot (c.in_ok-row_bytes.ensures.bytes told) long c.is_live.ensures in
    live_answer (g.T.Test.passes c.args.test.now) _ (tuple_of t.schema.attributes row) c.is_live.result c.holds.result there c.if-not-is_live.false (rw c.as_slice.ensures.items at c.holds.ensures)

pub returns-clause-row : goal.returns-clause-row
returns-clause-row g c = λ told _.
    let files = (g.V.Files.state c.args.files.now).files in
    let t = c.args.tuples.now in
    let row = c.row_bytes.new.into in
    let long : length row ≡ row_length t.schema.attributes = c.in_ok-row_bytes.ensures.size ∙ c.requires.size in
    let there = row_of_bytes t.schema.attributes (bytes_at files t.file) row c.args.slot c.is_live.result c.requires.slot (c.in_ok-row_bytes.ensures.bytes told) long c.is_live.ensures in
    there ∙ ap (λ (b : Bool). record { tuple = tuple_of t.schema.attributes row; live = b }) c.if-not-is_live.false
