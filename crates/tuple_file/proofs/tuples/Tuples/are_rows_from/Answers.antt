use Rattle.std.proofs.Common.{◌≡◌, refl, length, rules, ℕ, ◌+◌, ◌*◌, ◌<◌, List, ◌∙◌, sym, subst}
use Rattle.std.specs.Prelude.{slice_range}
use Rattle.afl_base.specs.Files.{bytes_at}
use Rattle.db_model.specs.Row.{row_length}
use Rattle.tuple_file.proofs.Judged.{IsRow}
use Rattle.tuple_file.proofs.Slots.{piece_slot}
use Rattle.tuple_file.proofs.tuples.Tuples.are_rows_from.Goals as goal

pub returns-clause-valid : goal.returns-clause-valid
returns-clause-valid g c told =
    let attributes = c.args.self.now.schema.attributes in
    let bytes : List ℕ = bytes_at (g.V.Files.state c.args.files.now).files c.args.self.now.file in
    let size : ℕ = row_length attributes in
    let slot : ℕ = c.args.slot in
    let count : ℕ = c.args.count in
    let from : ℕ = c.row_length-length.result * c.from.result in
    let place : from ≡ size * slot = rw (c.row_length-length.ensures.value, c.from.ensures) refl in
    let long : length c.read.new.into ≡ size * count = search rules in
    let whole : c.read.new.into ≡ slice_range bytes from (from + size * count) =
    subst (λ (n : ℕ). c.read.new.into ≡ slice_range bytes from (from + n)) (sym c.read.auto.into ∙ long) (c.in_ok-read.ensures.bytes told) in
    let read : c.read.new.into ≡ slice_range bytes (size * slot) (size * slot + size * count) = subst (λ (n : ℕ). c.read.new.into ≡ slice_range bytes n (n + size * count)) place whole in
    let same : (k : ℕ) → k < count → slice_range c.read.new.into (size * k) (size * k + size) ≡ slice_range bytes (size * (slot + k)) (size * (slot + k) + size) =
    λ k below. subst (λ (xs : List ℕ). slice_range xs (size * k) (size * k + size) ≡ slice_range bytes (size * (slot + k)) (size * (slot + k) + size)) (sym read) (piece_slot bytes size slot count k below) in (
      (λ is k below. subst (λ (xs : List ℕ). IsRow attributes xs) (same k below) (c.are_rows.ensures.0 is k below)),
      (λ each. c.are_rows.ensures.1 (λ k below. subst (λ (xs : List ℕ). IsRow attributes xs) (sym (same k below)) (each k below))),
    )
