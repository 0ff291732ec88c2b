-- The sectors that files take of a flash at most, by their kinds and sizes.
use Rattle.std.specs.Prelude.{ℕ, ◌+◌, ◌-◌, ◌*◌, ◌/◌, [], ◌∷◌, length, Some, None}
use Rattle.afl_base.specs.Files.{Table}
use Rattle.afl_base.specs.Fit.{fit}
use Rattle.afl_base.specs.declared.kind.Kind.{Kind}
use Rattle.afl_base.specs.declared.kind.Kind.TheVariants.{Doubling, Fixed}

-- the most sectors between two extents, where no run of n pages is free
abbrev pub gap_for : ℕ → ℕ
gap_for n = (n + 15) / 16 - 1

-- the sectors that a file of this many bytes touches at most: a doubling one has at most twice the
-- pages that it needs, a fixed one at most 15
abbrev pub touched_of : Kind → ℕ → ℕ
touched_of Doubling size = fit size / 8 + 1
touched_of (Fixed n) size = 2

-- what a file takes at most, with its log, and with a gap after each of the two
abbrev pub file_share : (gap : ℕ) → Kind → ℕ → ℕ
file_share gap kind size = touched_of kind size + 2 + 2 * gap

-- the same of all files
abbrev pub shares : (gap : ℕ) → Table → ℕ
shares gap [] = 0
shares gap (None ∷ files) = shares gap files
shares gap (Some f ∷ files) = file_share gap f.kind (length f.bytes) + shares gap files
