use Rattle.std.proofs.Common.{FitsSigned, w64, rules, arith, ◌+◌, ◌≤◌, ◌-◌, ◌∙◌}
use Rattle.std.proofs.lemmas.Int.{to_z-of_z}
use Rattle.afl_base.specs.KeyColumn.{key_of}
use Rattle.db_model.specs.Cost.{bits}
use Rattle.index_inline.proofs.Digits.{bits_less}
use Rattle.index_inline.proofs.halving.narrowed.Goals as goal

pub returns-in_err-key-clause-reads_err : goal.returns-in_err-key-clause-reads_err
returns-in_err-key-clause-reads_err g c =
    let some : bits 0 + 1 ≤ bits (c.halves.around.1.0 - c.halves.around.0) = bits_less _ _ (omega arith) (omega arith) in
    omega (arith, c.in_err-key.ensures.reads)

pub halves-preserved : goal.halves-preserved
halves-preserved g c =
    let half : bits (c.halved-around.result.high - c.halved-around.result.low) + 1 ≤ bits (c.halves.around.1.0 - c.halves.around.0) = bits_less _ _ (omega arith) c.halved-around.ensures.half in
    record {
      order = search rules;
      within = search rules;
      behind = omega (arith, c.halved-around.ensures.behind);
      same = search rules;
      lent = search rules;
      later = search rules;
      around = λ told rises.
          let key = (rw c.halves.invariant.same at c.in_ok-key.ensures.key) told in
          let fits : FitsSigned w64 c.in_ok-key.key = search rules in
          c.halved-around.ensures.around (key_of (g.V.Files.state c.args.files.now) c.args.column.now) c.args.slots rises (to_z-of_z w64 c.in_ok-key.key fits ∙ key) (c.halves.invariant.around told rises);
      reads = omega (arith, c.in_ok-key.ensures.reads);
      reads_later = search rules;
    }
