use Rattle.std.proofs.Common.{◌≡◌, ◌++◌, drop, take}
use Rattle.db_model.specs.Row.{up_to_zero}
use Rattle.db_model.proofs.widths.up_to_zero.Given as goal

abbrev pub invariant-loop-at : goal.invariant-loop-at
invariant-loop-at l = up_to_zero l.bytes ≡ take l.at l.bytes ++ up_to_zero (drop l.at l.bytes)
