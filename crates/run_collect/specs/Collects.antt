-- What a collection leaves of an image, and what is said of it.
use Rattle.std.specs.Prelude.{◌≡◌, ◌⊎◌, ℕ, ◌++◌, ◌/◌, List, length, Option, codes, decimal}
use Rattle.std.specs.Io.KnownBytes.{append_known}
use Rattle.coffee_layout.specs.Files.{files_of}
use Rattle.coffee_layout.specs.Marks.{is_taken}
use Rattle.coffee_layout.specs.Tiling.{nowhere, units_of}
use Rattle.coffee_space.specs.Collection.{IsCollected, number_taken}
use Rattle.db_model.specs.ReplyText.{line}
use Rattle.reply_text.specs.WroteLess.{WroteLess}
use Rattle.run_model.specs.Runs.{image_line}
use Rattle.image_model.specs.Images.{IsFirstBroken, IsSound, base}
use Rattle.image_model.specs.Mending.{ImageMendsTo}

-- how many sectors a collection takes in an image: those that have a page in use and no active page
abbrev pub sectors_taken : List ℕ → ℕ
sectors_taken image = number_taken (is_taken (units_of image)) (length image / 4096)

-- `sectors erased N`
abbrev pub erased_line : ℕ → List ℕ
erased_line n = line (codes "sectors erased " ++ decimal n)

-- a sound image was collected: exactly those sectors are erased, the active extents have their bytes, it is sound,
-- and has the same files in the same order, so that it stands for the same database
pub record IsCollectedImage (old new : List ℕ) : Type 0 where
  pub sound : IsSound old
  pub collected : IsCollected nowhere old new (units_of old)
  pub still : IsSound new
  pub files : files_of new ≡ files_of old
  pub same : base new ≡ base old

-- an image that is not sound is as it was, and this is its first broken rule, and that rule's first place
pub record IsLeftAsItWas (old new : List ℕ) (rule place : ℕ) : Type 0 where
  pub first : IsFirstBroken old rule place
  pub same : new ≡ old

-- 6: the image is not sound, and that was written
pub record Refuses (old new : List ℕ) (held now : Option (List ℕ)) : Type 0 where
  pub rule : ℕ
  pub place : ℕ
  pub left : IsLeftAsItWas old new rule place
  pub written : now ≡ append_known held (image_line rule place)

-- 5: the same line was not wholly written
pub record RefusalUnsaid (old new : List ℕ) (held now : Option (List ℕ)) : Type 0 where
  pub rule : ℕ
  pub place : ℕ
  pub left : IsLeftAsItWas old new rule place
  pub written : WroteLess held now (image_line rule place)

-- 0: the image was collected, and the number of erased sectors was written
pub record Collected (old new : List ℕ) (held now : Option (List ℕ)) : Type 0 where
  pub image : IsCollectedImage old new
  pub written : now ≡ append_known held (erased_line (sectors_taken old))

-- 5: it was collected, and that line was not wholly written
pub record NumberUnsaid (old new : List ℕ) (held now : Option (List ℕ)) : Type 0 where
  pub image : IsCollectedImage old new
  pub written : WroteLess held now (erased_line (sectors_taken old))

-- 4: nothing was written, and an image that is not sound is as it was
pub record Failed (old new : List ℕ) (held now : Option (List ℕ)) : Type 0 where
  pub image : (new ≡ old) ⊎ IsSound old
  pub unwritten : now ≡ held

-- what a collection that ended with a status left of an image and of a sink
pub record Collects (status : ℕ) (old new : List ℕ) (held now : Option (List ℕ)) : Type 0 where
  pub done : status ≡ 0 → Collected old new held now
  pub failed : status ≡ 4 → Failed old new held now
  pub unsaid : status ≡ 5 → NumberUnsaid old new held now ⊎ RefusalUnsaid old new held now
  pub refused : status ≡ 6 → Refuses old new held now

-- where failures are cuts: an image that was sound mends to the database that it stood for, and no other was written
pub record BreaksCollectionOff (old new : List ℕ) : Type 0 where
  pub sound : IsSound old → ImageMendsTo new (λ db. db ≡ base old)
  pub other : (IsSound old → ⊥) → new ≡ old

-- the statuses of a collection
abbrev pub IsCollectStatus : ℕ → Type 0
IsCollectStatus s = (s ≡ 0) ⊎ (s ≡ 4) ⊎ (s ≡ 5) ⊎ (s ≡ 6)
