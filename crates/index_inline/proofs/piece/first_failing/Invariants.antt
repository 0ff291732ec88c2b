use Rattle.std.proofs.Common.{◌≡◌, ◌≤◌, ◌<◌, ◌*◌, ℕ, true}
use Rattle.afl_base.specs.KeyColumn.{number_of_width}
use Rattle.index_inline.specs.Span.{passes_end}
use Rattle.index_inline.proofs.piece.first_failing.Given as goal

abbrev pub invariant-loop-nth : goal.invariant-loop-nth
invariant-loop-nth l =
    (i : ℕ) → l.start ≤ i → i < l.nth → passes_end l.upper l.within (number_of_width l.piece (l.column.row * i) l.column.width) ≡ true
