-- What a repair makes of an image that mends to a database, where the failures of its flash are cuts.
use Rattle.std.specs.Prelude.{◌≡◌, ◌⊎◌, ℕ, zero, suc, List, Option, length}
use Rattle.db_model.specs.Database.{Database, empty_database}
use Rattle.image_model.specs.Images.{IsSound, base}
use Rattle.stored_mend.specs.Mending.{IsPutRight}
use Rattle.run_repair.specs.Mends.{MendsButLacks, MendsPutRight, StaysOrMends}
use Rattle.run_repair.specs.Repairs.{Repairs}

-- 0: it is sound, and stands for that database, put right
pub record Restores (db : Database) (new : List ℕ) : Type 0 where
  pub sound : IsSound new
  pub base_is : IsPutRight db (base new)

-- 3: it still mends to that database, put right, and no extent is available that the repair needed
abbrev pub IsRepairCramped : Database → (new : List ℕ) → Type 0
IsRepairCramped db new = (need : ℕ) × MendsButLacks db new need

-- 6: it is as it was, and the database is the empty one
pub record RefusesEmpty (db : Database) (old new : List ℕ) : Type 0 where
  pub same : new ≡ old
  pub empty : db ≡ empty_database

-- each by its status; at 4 it still mends to that database, put right
abbrev pub RepairsTo : (status : ℕ) → Database → (old new : List ℕ) → Type 0
RepairsTo status db old new =
    ((status ≡ 0) × Restores db new)
    ⊎ (((status ≡ 3) × IsRepairCramped db new) ⊎ (((status ≡ 4) × MendsPutRight db new) ⊎ ((status ≡ 6) × RefusesEmpty db old new)))

-- ---- repairs one after another

-- a repair lacked pages, or was cut
pub record IsInterrupted (old new : List ℕ) : Type 0 where
  pub status : ℕ
  pub is : (status ≡ 3) ⊎ (status ≡ 4)
  pub held : Option (List ℕ)
  pub now : Option (List ℕ)
  pub repairs : Repairs status old new held now
  pub cut : status ≡ 4 → StaysOrMends old new
  pub size : length new ≡ length old

-- so were so many, each of what the one before it left
abbrev pub AreInterrupted : (repairs : ℕ) → (first last : List ℕ) → Type 0
AreInterrupted zero first last = last ≡ first
AreInterrupted (suc n) first last = (image : List ℕ) × AreInterrupted n first image × IsInterrupted image last

-- a database is put right so many times
abbrev pub IsPutRightTimes : (times : ℕ) → (old now : Database) → Type 0
IsPutRightTimes zero old now = now ≡ old
IsPutRightTimes (suc n) old now = (between : Database) × IsPutRightTimes n old between × IsPutRight between now
