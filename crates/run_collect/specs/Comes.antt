-- What a collection came to, and what that leaves and says.
use Rattle.std.specs.Prelude.{◌≡◌, ◌⊎◌, ⊤, ℕ, List, [], Option}
use Rattle.std.specs.Io.KnownBytes.{append_known}
use Rattle.reply_text.specs.WroteLess.{WroteLess}
use Rattle.run_model.specs.Runs.{image_line}
use Rattle.image_model.specs.Images.{IsSound}
use Rattle.run_collect.specs.Collects.{BreaksCollectionOff, IsCollectedImage, IsLeftAsItWas, erased_line, sectors_taken}
use Rattle.run_collect.specs.declared.came.Came.{Came}
use Rattle.run_collect.specs.declared.came.Came.TheVariants.{Collected, Refused, Failed}

-- what is left of an image
abbrev pub CollectsTo : (old new : List ℕ) → Came → Type 0
CollectsTo old new (Collected erased) = IsCollectedImage old new × (erased ≡ sectors_taken old)
CollectsTo old new (Refused bad) = IsLeftAsItWas old new bad.rule bad.place
CollectsTo old new Failed = (new ≡ old) ⊎ IsSound old

-- and where failures are cuts
abbrev pub BreaksCollectionBy : (old new : List ℕ) → Came → Type 0
BreaksCollectionBy old new Failed = BreaksCollectionOff old new
BreaksCollectionBy old new _ = ⊤

-- what is said
abbrev pub collection_lines : Came → List ℕ
collection_lines (Collected erased) = erased_line erased
collection_lines (Refused bad) = image_line bad.rule bad.place
collection_lines Failed = []

-- the status, where all of it is said
abbrev pub collection_status : Came → ℕ
collection_status (Collected erased) = 0
collection_status (Refused bad) = 6
collection_status Failed = 4

-- all was said, or less than that
abbrev pub IsCollectionSaid : (status : ℕ) → Came → (held now : Option (List ℕ)) → Type 0
IsCollectionSaid status came held now =
    ((status ≡ collection_status came) × (now ≡ append_known held (collection_lines came))) ⊎ ((status ≡ 5) × WroteLess held now (collection_lines came))
