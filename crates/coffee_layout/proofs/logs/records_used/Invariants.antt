use Rattle.std.proofs.Common.{◌≡◌, ◌+◌, not, ◌==◌, drop}
use Rattle.std.specs.List.{prefix_len}
use Rattle.coffee_layout.specs.FileBytes.{number_in, records, used_in}
use Rattle.coffee_layout.proofs.logs.records_used.Given as goal

abbrev pub invariant-loop-i : goal.invariant-loop-i
invariant-loop-i l = l.i + prefix_len (λ k. not (number_in l.table k == 0)) (drop l.i records) ≡ used_in l.table
