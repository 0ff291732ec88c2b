-- What a cut leaves of the write that settles what was under way.
use Rattle.std.specs.Prelude.{◌≡◌, ℕ, List}
use Rattle.afl_base.specs.Cuts.{IsCutErase}
use Rattle.coffee_cuts.specs.Cuts.{UnderWay, Nothing, Beginning, Building, Erasing, Unnamed, Naming, Replacing, settled}
use Rattle.coffee_merge.specs.CutMarks.{IsOneOf}

-- a flag is there or not, a front part of the sector is erased
abbrev pub IsCutSettling : (old new : List ℕ) → UnderWay → Type 0
IsCutSettling old new Nothing = new ≡ old
IsCutSettling old new (Beginning page) = IsOneOf new old (settled old (Beginning page))
IsCutSettling old new (Building page) = IsOneOf new old (settled old (Building page))
IsCutSettling old new (Erasing sector page) = IsCutErase old new sector
IsCutSettling old new (Unnamed log) = IsOneOf new old (settled old (Unnamed log))
IsCutSettling old new (Naming page) = IsOneOf new old (settled old (Naming page))
IsCutSettling old new (Replacing dropped kept) = IsOneOf new old (settled old (Replacing dropped kept))
