use Rattle.coffee_layout.proofs.Judging.{sound_tiled}
use Rattle.coffee_layout.proofs.Tilings.{one_cover, one_tiling as same_tiling, tiled_covered, tiled_unbroken, unbroken_tiled, units_tiled}
use Rattle.coffee_layout.proofs.laws.one_tiling.Goals as goal

pub returns : goal.returns
returns c = record { one = same_tiling; covered = one_cover; covers = tiled_covered; units = units_tiled; unbroken = unbroken_tiled; tiled = tiled_unbroken; sound = sound_tiled }
