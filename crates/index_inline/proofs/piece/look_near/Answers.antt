use Rattle.std.proofs.Common.{rules, arith, ◌+◌, ◌≤◌, ◌-◌}
use Rattle.afl_base.specs.KeyColumn.{key_of}
use Rattle.db_model.specs.Cost.{bits}
use Rattle.index_inline.proofs.Digits.{bits_less}
use Rattle.index_inline.proofs.piece.look_near.Goals as goal

pub returns-in_err-read_piece-clause-reads : goal.returns-in_err-read_piece-clause-reads
returns-in_err-read_piece-clause-reads g c =
    let some : bits 0 + 1 ≤ bits (c.args.around.high - c.args.around.low) = bits_less _ _ (omega (arith, c.args.around.order)) (omega arith) in
    omega (arith, c.in_err-read_piece.ensures.reads)

pub returns-clause-span : goal.returns-clause-span
returns-clause-span g c told slots rises around =
    c.found_in.ensures.span (key_of (g.V.Files.state c.args.files.now) c.args.column.now) slots rises (c.in_ok-read_piece.ensures.keys told) around

pub returns-clause-reads : goal.returns-clause-reads
returns-clause-reads g c =
    let some : bits 0 + 1 ≤ bits (c.args.around.high - c.args.around.low) = bits_less _ _ (omega (arith, c.args.around.order)) (omega arith) in
    omega (arith, c.in_ok-read_piece.ensures.reads)
