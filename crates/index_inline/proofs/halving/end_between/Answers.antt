use Rattle.std.proofs.Common.{FitsSigned, w64, rules, arith, ◌+◌, ◌≤◌, ◌<◌, ◌-◌, ◌/◌, ap, sym, ◌∙◌, true}
use Rattle.std.proofs.lemmas.Int.{to_z-of_z}
use Rattle.afl_base.specs.KeyColumn.{key_of}
use Rattle.db_model.specs.Cost.{bits}
use Rattle.index_inline.specs.Span.{passes_end}
use Rattle.index_inline.proofs.Digits.{bits_less}
use Rattle.index_inline.proofs.Falls.{passes_up_to, fails_from}
use Rattle.index_inline.proofs.halving.end_between.Goals as goal

pub returns-in_err-key-clause-reads : goal.returns-in_err-key-clause-reads
returns-in_err-key-clause-reads g c =
    let fewer : bits 0 + 1 ≤ bits (c.halves.high - c.halves.low) = bits_less _ _ (omega arith) (omega arith) in
    omega (arith, c.in_err-key.ensures.reads)

pub halves-preserved-then-passes_end : goal.halves-preserved-then-passes_end
halves-preserved-then-passes_end g c =
    let fewer : bits (c.halves.high - (c.halves.low + (c.halves.high - c.halves.low) / 2 + 1)) + 1 ≤ bits (c.halves.high - c.halves.low) = bits_less _ _ (omega arith) (omega arith) in
    record {
      from = omega arith;
      order = omega arith;
      within = search rules;
      same = search rules;
      lent = search rules;
      later = search rules;
      passed = λ told slots most rises i h k.
          let key = (rw c.halves.invariant.same at c.in_ok-key.ensures.key) told in
          let fits : FitsSigned w64 c.in_ok-key.key = search rules in
          let test = rw (to_z-of_z w64 c.in_ok-key.key fits) at c.passes_end.ensures in
          passes_up_to (key_of (g.V.Files.state c.args.files.now) c.args.column.now) slots (c.halves.low + (c.halves.high - c.halves.low) / 2) true c.args.within.now
          rises (omega (arith, most)) (sym (ap (passes_end true c.args.within.now) key) ∙ sym test ∙ c.if-passes_end.true) i k;
      failed = search rules;
      reads = omega (arith, c.in_ok-key.ensures.reads);
      reads_later = search rules;
    }

pub halves-preserved : goal.halves-preserved
halves-preserved g c =
    let fewer : bits (c.halves.low + (c.halves.high - c.halves.low) / 2 - c.halves.low) + 1 ≤ bits (c.halves.high - c.halves.low) = bits_less _ _ (omega arith) (omega arith) in
    record {
      from = search rules;
      order = omega arith;
      within = omega arith;
      same = search rules;
      lent = search rules;
      later = search rules;
      passed = search rules;
      failed = λ told slots most rises i h k.
          let key = (rw c.halves.invariant.same at c.in_ok-key.ensures.key) told in
          let fits : FitsSigned w64 c.in_ok-key.key = search rules in
          let test = rw (to_z-of_z w64 c.in_ok-key.key fits) at c.passes_end.ensures in
          fails_from (key_of (g.V.Files.state c.args.files.now) c.args.column.now) slots (c.halves.low + (c.halves.high - c.halves.low) / 2) true c.args.within.now
          rises (sym (ap (passes_end true c.args.within.now) key) ∙ sym test ∙ c.if-passes_end.false) i h (omega (arith, most, k));
      reads = omega (arith, c.in_ok-key.ensures.reads);
      reads_later = search rules;
    }
