-- What a search by sixteenths knows.
use Rattle.std.specs.Prelude.{◌≡◌, ℕ, ◌+◌, ◌*◌, ◌<◌, ◌/◌, ◌⊎◌, ℤ, pos, ◌+ℤ◌, ◌≤ℤ◌, ◌<ℤ◌, List, get_or}
use Rattle.aggregate.specs.declared.search.Search.{Search}
use Rattle.aggregate.specs.Order.{up_to, below}

-- the width of a part: sixteen parts reach past the greatest that it may be
abbrev pub part_width : Search → ℕ
part_width s = s.span / 16 + 1

-- where a part begins
abbrev pub begins : Search → ℕ → ℤ
begins s part = s.lo +ℤ pos (part * part_width s)

-- a number lies in a part
pub record IsInPart (s : Search) (part : ℕ) (number : ℤ) : Type 0 where
  pub few : part < 16
  pub from : begins s part ≤ℤ number
  pub to : number <ℤ begins s (part + 1)

-- a number lies in none
abbrev pub IsOutside : Search → ℤ → Type 0
IsOutside s number = (number <ℤ begins s 0) ⊎ (begins s 16 ≤ℤ number)

-- each part has as many of these numbers as it was counted to have
abbrev pub IsCounted : List ℤ → Search → Type 0
IsCounted numbers s = (part : ℕ) → part < 16 → below (begins s part) numbers + get_or s.counts part 0 ≡ below (begins s (part + 1)) numbers

-- The search is for the number at a place among all numbers in rising order, and in this pass it
-- has been told some of them so far.
pub record Seeks (all so_far : List ℤ) (place : ℕ) (s : Search) : Type 0 where
  pub lowest : below s.lo all + s.place ≡ place
  pub highest : place < up_to (s.lo +ℤ pos s.span) all
  pub counted : IsCounted so_far s
