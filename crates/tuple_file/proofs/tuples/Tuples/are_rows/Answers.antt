use Rattle.std.proofs.Common.{◌≡◌, ℕ, ◌+◌, ◌-◌, ◌*◌, ◌≤◌, ◌<◌, ◌∙◌, sym, subst, arith, mul-add, mul-le-mul_left}
use Rattle.std.proofs.Math.Logic.{⊎_elim}
use Rattle.std.proofs.lemmas.Bool.{cases_lt}
use Rattle.afl_base.specs.Files.{bytes_at}
use Rattle.db_model.specs.Row.{row_bytes, row_length}
use Rattle.tuple_file.specs.Tuples.{row, row_slot_bytes}
use Rattle.tuple_file.proofs.Written.{written_each, written_first, written_from}
use Rattle.tuple_file.proofs.tuples.Tuples.are_rows.Goals as goal
use Rattle.std.proofs.lemmas.Grind.{common_steps}

pub are_rows_from-requires-clause-range : goal.are_rows_from-requires-clause-range
are_rows_from-requires-clause-range g c =
    let size : ℕ = row_length c.args.self.now.schema.attributes in
    let slot : ℕ = c.loop-slot.slot in
    let few : ℕ = c.rows_at_once-few.result in
    let count : ℕ = c.args.count in
    let within : slot + few ≤ count = omega (arith, c.rows_at_once-few.ensures.within, c.loop-slot-test.true) in
    let more : size * (slot + few) ≤ size * count = mul-le-mul_left size within in
    rw c.loop-slot.invariant.same (omega (arith, mul-add size slot few, more, c.requires.whole))

pub loop-slot-preserved : goal.loop-slot-preserved
loop-slot-preserved g c =
    let attributes = c.args.self.now.schema.attributes in
    let files = (g.V.Files.state c.args.files.now).files in
    let inv = c.loop-slot.invariant in
    let slot : ℕ = c.loop-slot.slot in
    let few : ℕ = c.rows_at_once-few.result in
    record {
      same = c.in_ok-are_rows_from.ensures.frame.same ∙ inv.same;
      lent = c.in_ok-are_rows_from.ensures.frame.lent ∙ inv.lent;
      later = omega (arith, c.in_ok-are_rows_from.ensures.frame.later, inv.later);
      reads = omega (arith, c.in_ok-are_rows_from.ensures.reads, inv.reads);
      faults = omega (arith, c.in_ok-are_rows_from.ensures.frame.faultless, inv.faults);
      within = omega (arith, c.rows_at_once-few.ensures.within, c.loop-slot-test.true);
      each = λ told k below.
          let judged = (rw inv.same at c.in_ok-are_rows_from.ensures.valid) told in
          ⊎_elim
          (λ (before : k < slot). inv.each told k before)
          (λ (from : slot ≤ k).
          let place : slot + (k - slot) ≡ k = omega (arith, from) in
          subst (λ (n : ℕ). row_bytes attributes (row files c.args.self.now n) ≡ row_slot_bytes files c.args.self.now n) place
          (judged.0 c.if-not-branch.false (k - slot) (omega (arith, from, below))))
          (cases_lt k slot);
    }

pub returns-then-not-branch-clause-valid : goal.returns-then-not-branch-clause-valid
returns-then-not-branch-clause-valid g c told =
    let attributes = c.args.self.now.schema.attributes in
    let bytes = bytes_at (g.V.Files.state c.args.files.now).files c.args.self.now.file in
    let slot : ℕ = c.loop-slot.slot in
    let few : ℕ = c.rows_at_once-few.result in
    let count : ℕ = c.args.count in
    let within : slot + few ≤ count = omega (arith, c.rows_at_once-few.ensures.within, c.loop-slot-test.true) in
    let judged = (rw c.loop-slot.invariant.same at c.in_ok-are_rows_from.ensures.valid) told in (
      (λ never. absurd (cc)),
      (λ all.
          let is = judged.1 (λ k below.
          let inside : slot + k < count = omega (arith, within, below) in
          written_each attributes bytes count (slot + k) c.requires.whole inside (written_first attributes bytes count (slot + k) c.requires.whole (omega (arith, inside)) all) all) in
          sym c.if-not-branch.true ∙ is),
    )

pub returns-clause-valid : goal.returns-clause-valid
returns-clause-valid g c told = grind (arith, common_steps, written_from)
