-- What the first broken rule of an image shows of what was under way.
use Rattle.std.specs.Prelude.{◌≡◌, ◌⊎◌, ℕ, ◌/◌, ◌≤◌, List}
use Rattle.coffee_layout.specs.declared.unit.BadImage.{BadImage}
use Rattle.coffee_cuts.specs.Cuts.{IsSettled, UnderWay, Nothing, Beginning, Building, Erasing, Unnamed, Naming, Replacing}

-- only a record is torn, or is being superseded
abbrev pub IsOnlyRecordTorn : List ℕ → BadImage → Type 0
IsOnlyRecordTorn image bad = ((bad.rule ≡ 12) ⊎ (bad.rule ≡ 10)) × IsSettled image

-- the first broken rule and its place show what was under way
abbrev pub ShowsUnderWay : List ℕ → BadImage → UnderWay → Type 0
ShowsUnderWay image bad Nothing = IsOnlyRecordTorn image bad
ShowsUnderWay image bad (Beginning page) = bad ≡ record { rule = 1; place = page }
ShowsUnderWay image bad (Building page) = bad ≡ record { rule = 1; place = page }
ShowsUnderWay image bad (Erasing sector page) = IsOnlyRecordTorn image bad ⊎ (1 ≤ bad.rule × (bad.rule ≤ 4) × (bad.place / 16 ≡ sector))
ShowsUnderWay image bad (Unnamed log) = ((bad.rule ≡ 7) ⊎ (bad.rule ≡ 9)) × (bad.place ≡ log)
ShowsUnderWay image bad (Naming page) = bad ≡ record { rule = 8; place = page }
ShowsUnderWay image bad (Replacing dropped kept) = (bad.rule ≡ 5) ⊎ (bad.rule ≡ 6)
