use Rattle.std.proofs.Common.{◌≡◌, ◌==◌, drop}
use Rattle.std.specs.List.{list_all}
use Rattle.coffee_layout.specs.FileBytes.{number_in, records}
use Rattle.coffee_layout.specs.Rules.{is_front_filled}
use Rattle.coffee_layout.proofs.logs.is_table_filled.Given as goal

abbrev pub invariant-loop-i : goal.invariant-loop-i
invariant-loop-i l = list_all (λ k. number_in l.table k == 0) (drop l.i records) ≡ is_front_filled l.table
