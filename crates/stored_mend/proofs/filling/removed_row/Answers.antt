use Rattle.std.proofs.Common.{arith, ap, ◌≡◌, ◌∙◌, ◌-◌, ◌+◌, ◌/◌, ◌≤◌, List, ℕ, length, set, IsTrue, drop, ◌++◌, replicate}
use Rattle.std.proofs.lemmas.List.{length-take-le}
use Rattle.std.specs.Prelude.{slice_range}
use Rattle.afl_base.specs.Files.{bytes_at}
use Rattle.catalog.specs.Catalogs.{catalog_slots}
use Rattle.db_model.specs.Row.{fields_length, row_length}
use Rattle.stored_mend.proofs.PartRead.{before_read, part_filled, part_long, part_read}
use Rattle.stored_mend.proofs.TakenRows.{has_filling}
use Rattle.stored_mend.specs.Filled.{FillsPart, part_of_row, row_before}
use Rattle.stored_mend.specs.Rows.{whole_length}
use Rattle.stored_mend.proofs.filling.removed_row.Goals.{After-is_taken}
use Rattle.stored_mend.proofs.filling.removed_row.Goals as goal

module _ (g : _) (c : After-is_taken g) where
  row_long : length c.args.row.now ≡ fields_length c.args.attributes.now + 1
  row_long = c.requires.size

  fields_long : length c.fill_fields.new.row ≡ fields_length c.args.attributes.now + 1
  fields_long = c.fill_fields.ensures.size ∙ c.in_ok-read_front.ensures.size ∙ c.blank.ensures.size ∙ row_long

  zeros : c.blank.new.bytes ≡ replicate (row_length c.args.attributes.now) 0
  zeros = c.blank.ensures.zeros ∙ ap (λ (n : ℕ). replicate n 0) c.requires.size

  last : length c.args.row.now - 1 ≡ fields_length c.args.attributes.now
  last = omega (arith, row_long)

  long : length (part_of_row c.args.attributes.now (bytes_at (g.V.Files.state c.args.files.now).files c.args.tail.file)) ≡ c.args.tail.have
  long = part_long c.args.attributes.now (bytes_at (g.V.Files.state c.args.files.now).files c.args.tail.file) c.args.tail.have c.requires.have

  at_whole : c.size-size.result - c.args.tail.have ≡ whole_length c.args.attributes.now (bytes_at (g.V.Files.state c.args.files.now).files c.args.tail.file)
  at_whole = omega (arith, c.size-size.ensures, c.requires.have)

  all : c.size-size.result - c.args.tail.have + c.args.tail.have ≡ length (bytes_at (g.V.Files.state c.args.files.now).files c.args.tail.file)
  all = omega (arith, c.size-size.ensures, c.requires.have)

  front : IsTrue (g.V.Files.state c.args.files.now).tells → c.read_front.new.into ≡ part_of_row c.args.attributes.now (bytes_at (g.V.Files.state c.args.files.now).files c.args.tail.file) ++ drop c.args.tail.have c.blank.new.bytes
  front told = c.in_ok-read_front.ensures.read told ∙ ap (λ (xs : List ℕ). xs ++ drop c.args.tail.have c.blank.new.bytes) (part_read c.args.attributes.now (bytes_at (g.V.Files.state c.args.files.now).files c.args.tail.file) c.args.tail.have (c.size-size.result - c.args.tail.have) at_whole all)

  before : IsTrue (g.V.Files.state c.args.files.now).tells → c.read.new.into ≡ row_before c.args.attributes.now (bytes_at (g.V.Files.state c.args.files.now).files c.args.tail.file)
  before told =
      let read = (rw c.in_ok-read_front.ensures.frame.same at c.in_ok-read.ensures.bytes) told in
      let start : c.saturating_sub-from.result ≡ c.size-size.result - c.args.tail.have - row_length c.args.attributes.now = omega (arith, c.saturating_sub-from.ensures, row_long) in
      let fits : c.size-size.result - c.args.tail.have - c.saturating_sub-from.result ≤ 128 = omega (arith, start, c.requires.short) in
      let count = length-take-le (c.size-size.result - c.args.tail.have - c.saturating_sub-from.result) (replicate 128 0) fits in
      read ∙ ap (λ (n : ℕ). slice_range (bytes_at (g.V.Files.state c.args.files.now).files c.args.tail.file) c.saturating_sub-from.result (c.saturating_sub-from.result + n)) count ∙ before_read c.args.attributes.now (bytes_at (g.V.Files.state c.args.files.now).files c.args.tail.file) c.saturating_sub-from.result (c.size-size.result - c.args.tail.have) at_whole start

  fills : IsTrue (g.V.Files.state c.args.files.now).tells → FillsPart c.args.attributes.now (row_before c.args.attributes.now (bytes_at (g.V.Files.state c.args.files.now).files c.args.tail.file))
      (part_of_row c.args.attributes.now (bytes_at (g.V.Files.state c.args.files.now).files c.args.tail.file)) (set c.fill_fields.new.row (length c.args.row.now - 1) 3)
  fills told =
      part_filled c.args.attributes.now _ c.read.new.into _ c.blank.new.bytes c.read_front.new.into c.fill_fields.new.row c.args.tail.have (length c.args.row.now - 1) zeros (before told) (front told) long last
      (rw c.as_slice.ensures.items at c.fill_fields.ensures.filled)

pub returns-clause-fills : goal.returns-clause-fills
returns-clause-fills g c = fills g c.before

pub returns-clause-may : goal.returns-clause-may
returns-clause-may g c = λ told.
    has_filling (catalog_slots c.args.catalog.now) c.args.relation c.args.attributes.now _ (bytes_at (g.V.Files.state c.args.files.now).files c.args.tail.file) c.read.new.into _ c.is_taken.result
    (ap (λ (n : ℕ). n / length c.args.row.now) c.size-size.ensures ∙ ap (λ (m : ℕ). length (bytes_at (g.V.Files.state c.args.files.now).files c.args.tail.file) / m) c.requires.size) (before g c.before told) (fills g c.before told) c.is_taken.ensures
