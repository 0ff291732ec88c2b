use Rattle.std.proofs.Common.{◌≡◌, ◌∙◌, ◌+◌, ◌-◌, ◌*◌, ◌<◌, ◌==◌, Bool, cond, List, Some, None, length, nat_lt, subst, sym, get_or, ℕ}
use Rattle.std.specs.Prelude.{slice_index, slice_range}
use Rattle.afl_base.specs.Files.{bytes_at}
use Rattle.db_model.specs.declared.schemas.Attribute.{Attribute}
use Rattle.db_model.specs.Row.{no_row, row_length, rows_of, slots_in_bytes, tuple_of}
use Rattle.cursor.proofs.Blocks.{live_there, number_missing, number_read, numbers_suit, on_none, on_some, removed_there}
use Rattle.cursor.proofs.Joins.{slot_made}
use Rattle.cursor.proofs.Walking.{row_of_bytes}
use Rattle.cursor.proofs.block.number_in.Goals as goal

-- the bytes that were read are the row in the slot
there : (attributes : List Attribute) (bytes row : List ℕ) (slot read : ℕ) (live : Bool) → Some read ≡ cond (nat_lt slot 32768) (Some slot) None → slot < slots_in_bytes attributes bytes
    → row ≡ slice_range bytes (row_length attributes * read) (row_length attributes * read + row_length attributes) → length row ≡ row_length attributes
    → live ≡ (slice_index row (length row - 1) == 1) → get_or (rows_of attributes bytes) slot no_row ≡ record { tuple = tuple_of attributes row; live = live }
there attributes bytes row slot read live made below same long is =
    let e = slot_made slot read (nat_lt slot 32768) made in
    subst (λ (n : ℕ). get_or (rows_of attributes bytes) n no_row ≡ record { tuple = tuple_of attributes row; live = live }) e
    (row_of_bytes attributes bytes row read live (rw e below) same long is)

pub returns-then-not-is_live-clause-number : goal.returns-then-not-is_live-clause-number
returns-then-not-is_live-clause-number g c = λ told.
    let t = c.args.tuples.now in
    let row = there t.schema.attributes (bytes_at (g.V.Files.state c.args.files.now).files t.file) c.row_bytes.new.into c.args.slot c.in-Some.slot c.is_live.result
    c.in-Some.ensures c.requires.slot (c.in_ok-row_bytes.ensures.bytes told) (c.in_ok-row_bytes.ensures.size ∙ c.requires.size) c.is_live.ensures in
    number_missing _ _ _ row c.args.place c.if-not-is_live.true

pub returns-then-not-is_live-clause-removed : goal.returns-then-not-is_live-clause-removed
returns-then-not-is_live-clause-removed g c = λ told number.
    let t = c.args.tuples.now in
    let row = there t.schema.attributes (bytes_at (g.V.Files.state c.args.files.now).files t.file) c.row_bytes.new.into c.args.slot c.in-Some.slot c.is_live.result
    c.in-Some.ensures c.requires.slot (c.in_ok-row_bytes.ensures.bytes told) (c.in_ok-row_bytes.ensures.size ∙ c.requires.size) c.is_live.ensures in
    removed_there _ _ _ row c.if-not-is_live.true

pub returns-clause-number : goal.returns-clause-number
returns-clause-number g c = λ told.
    let t = c.args.tuples.now in
    let row = there t.schema.attributes (bytes_at (g.V.Files.state c.args.files.now).files t.file) c.row_bytes.new.into c.args.slot c.in-Some.slot c.is_live.result
    c.in-Some.ensures c.requires.slot (c.in_ok-row_bytes.ensures.bytes told) (c.in_ok-row_bytes.ensures.size ∙ c.requires.size) c.is_live.ensures in
    c.number_at.ensures ∙ rw c.as_slice.ensures.items (number_read _ _ _ row c.args.place c.if-not-is_live.false)

pub returns-clause-tuple : goal.returns-clause-tuple
returns-clause-tuple g c = λ told.
    let t = c.args.tuples.now in
    let row = there t.schema.attributes (bytes_at (g.V.Files.state c.args.files.now).files t.file) c.row_bytes.new.into c.args.slot c.in-Some.slot c.is_live.result
    c.in-Some.ensures c.requires.slot (c.in_ok-row_bytes.ensures.bytes told) (c.in_ok-row_bytes.ensures.size ∙ c.requires.size) c.is_live.ensures in
    on_some c.number_at.result (live_there _ _ _ row c.if-not-is_live.false)

pub returns-clause-removed : goal.returns-clause-removed
returns-clause-removed g c = λ told.
    let attributes = c.args.tuples.now.schema.attributes in
    on_none c.number_at.result (λ none number. numbers_suit attributes (tuple_of attributes c.row_bytes.new.into) c.args.place _ c.values_suit.ensures number (sym (rw c.as_slice.ensures.items at c.number_at.ensures) ∙ none))
