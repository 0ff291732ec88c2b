use Rattle.std.proofs.Common.{◌≡◌, ◌||◌, ◌==◌, drop}
use Rattle.std.specs.List.{list_all}
use Rattle.coffee_layout.specs.FileBytes.{number_in, records}
use Rattle.coffee_layout.specs.Rules.{has_regions_inside, is_region_inside}
use Rattle.coffee_layout.proofs.logs.has_regions_inside.Given as goal

abbrev pub invariant-loop-i : goal.invariant-loop-i
invariant-loop-i l = list_all (λ k. number_in l.table k == 0 || is_region_inside l.pages l.size (number_in l.table k)) (drop l.i records) ≡ has_regions_inside l.pages l.size l.table
