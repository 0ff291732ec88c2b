-- What a guess is right of, and that a search by it misses nothing.
use Rattle.std.specs.Prelude.{◌≡◌, ℕ, ◌/◌, List, Option, Some, None}
use Rattle.coffee_cuts.specs.Cuts.{IsFound, IsSettled, UnderWay as CutWay, Beginning as was_beginning, Building as was_building, Erasing as was_erasing, Naming as was_naming, Nothing as was_nothing, Replacing as was_replacing, Unnamed as was_unnamed, settled}
use Rattle.coffee_find.specs.Found.{meant}
use Rattle.coffee_find.specs.declared.finding.Guess.{Guess}
use Rattle.coffee_find.specs.declared.finding.Guess.TheVariants.{Nothing, Header, TornHeader, Erased, Replaced}
use Rattle.coffee_find.specs.declared.trouble.UnderWay.{UnderWay}

-- an image mends by what was under way
pub record MendsBy (image : List ℕ) (way : CutWay) : Type 0 where
  pub found : IsFound image way
  pub settles : IsSettled (settled image way)

-- a guess at a page is right of what was under way
abbrev pub IsGuess : Guess → (page : ℕ) → CutWay → Type 0
IsGuess guess page was_nothing = guess ≡ Nothing
IsGuess guess page (was_beginning at) = (guess ≡ TornHeader) × (at ≡ page)
IsGuess guess page (was_building at) = (guess ≡ Header) × (at ≡ page)
IsGuess guess page (was_erasing sector at) = (guess ≡ Erased) × (sector ≡ page / 16)
IsGuess guess page (was_unnamed log) = (guess ≡ Header) × (log ≡ page)
IsGuess guess page (was_naming at) = (guess ≡ Header) × (at ≡ page)
IsGuess guess page (was_replacing dropped kept) = guess ≡ Replaced

-- what was found means what was under way
abbrev pub Means : CutWay → Option UnderWay → Type 0
Means way None = ⊥
Means way (Some found) = meant found ≡ way

-- what was found settles an image as what was under way does
abbrev pub SettlesAs : List ℕ → CutWay → Option UnderWay → Type 0
SettlesAs image way None = ⊥
SettlesAs image way (Some found) = settled image (meant found) ≡ settled image way

-- whatever an image mends by, where a guess is right of it, what was found settles the image as that
abbrev pub MissesNoWay : List ℕ → Guess → (page : ℕ) → Option UnderWay → Type 0
MissesNoWay image guess page found = (way : CutWay) → IsGuess guess page way → MendsBy image way
    → SettlesAs image way found

-- the image mends by nothing of which a guess is right
abbrev pub IsWrong : List ℕ → (page : ℕ) → Guess → Type 0
IsWrong image page guess = (way : CutWay) → IsGuess guess page way → MendsBy image way → ⊥

-- nor by anything that a header, a torn header or an erased sector at a page shows
pub record IsHeadWrong (image : List ℕ) (page : ℕ) : Type 0 where
  pub header : IsWrong image page Header
  pub torn_header : IsWrong image page TornHeader
  pub erased : IsWrong image page Erased
