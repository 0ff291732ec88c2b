-- What a run leaves that ended anywhere, in the middle of a write too: the replies to the entries in front, and the
-- database after them, or one up to the next entry.
use Rattle.std.specs.Prelude.{◌≡◌, ◌⊎◌, ℕ, List, [], ◌∷◌, ◌++◌}
use Rattle.std.specs.Io.KnownBytes.{append_known, prepend_known}
use Rattle.db_model.specs.declared.commands.Command.{Command}
use Rattle.db_model.specs.Between.{IsBetween}
use Rattle.db_model.specs.Database.{Database, bare}
use Rattle.run_repair.specs.Outcomes.{IsPutRightTimes, RepairsTo}
use Rattle.run_model.specs.Line.{Line}
use Rattle.run_model.specs.Runs.{AreEntries, Machine, World, machine_from}
use Rattle.run_model.specs.Talk.{Talk}
use Rattle.image_model.specs.Images.{IsSound, base}
use Rattle.image_model.specs.Mending.{ImageMendsTo}

-- the entry that follows those in front
pub record Next {E : Type 0} (entries front : List E) : Type 0 where
  pub entry : E
  pub rest : List E
  pub split : entries ≡ front ++ entry ∷ rest

module _ {E : Type 0} (m : Machine E) (entries : List E) where
  -- the database after the entries in front; or after the next one, too; or one between these two, where that is a command
  abbrev pub IsUpToNext : List E → Database → Type 0
  IsUpToNext front db =
      (db ≡ bare (m.last front))
      ⊎ ((next : Next entries front) × ((db ≡ bare (m.last (front ++ next.entry ∷ []))) ⊎ ((command : Command) × m.Asks next.entry command × IsBetween (m.last front) command db)))

  -- the bytes are a front part of what is written for the next entry: of its reply, or of the line that there is no space
  abbrev pub IsReplyBegun : List E → List ℕ → Type 0
  IsReplyBegun front part =
      (part ≡ [])
      ⊎ ((next : Next entries front) × (rest : List ℕ) × ((m.written (front ++ next.entry ∷ []) ≡ m.written front ++ part ++ rest) ⊎ ((n : ℕ) × (m.refused next.entry n ≡ part ++ rest))))

  -- the replies to the entries in front were written, and at most a part of the next; and the image mends to the database
  -- after those entries, or to one up to the next
  pub record Survives (old new : World) : Type 0 where
    pub front : List E
    pub part : List ℕ
    pub written : new.held ≡ append_known old.held (m.written front ++ part)
    pub begun : IsReplyBegun front part
    pub mends : ImageMendsTo new.image (IsUpToNext front)

-- so it is of the entries of the bytes that came, of an input that is cut into entries by `line` and answered by `talk`
pub record InputSurvives {E : Type 0} (line : Line E) (talk : Talk E) (old new : World) : Type 0 where
  pub bytes : List ℕ
  pub more : List ℕ
  pub came : old.left ≡ prepend_known (bytes ++ more) new.left
  pub entries : List E
  pub are : AreEntries line talk bytes entries new
  pub survives : Survives (machine_from talk (base old.image)) entries old new

-- and behind it a repair that ended with a status made of the image one that stands for one of these databases, put right,
-- or that still mends to it
pub record InputRestores {E : Type 0} (line : Line E) (talk : Talk E) (old new : World) (status : ℕ) (repaired : List ℕ) : Type 0 where
  pub survives : InputSurvives line talk old new
  pub database : Database
  pub up_to : IsUpToNext (machine_from talk (base old.image)) survives.entries survives.survives.front database
  pub repairs : RepairsTo status database new.image repaired

-- or many repairs, of which the last alone was not interrupted: the image is sound, and stands for one of these databases,
-- put right so many times
pub record InputRestoredAfter {E : Type 0} (line : Line E) (talk : Talk E) (old new : World) (repairs : ℕ) (repaired : List ℕ) : Type 0 where
  pub survives : InputSurvives line talk old new
  pub database : Database
  pub up_to : IsUpToNext (machine_from talk (base old.image)) survives.entries survives.survives.front database
  pub sound : IsSound repaired
  pub base_is : IsPutRightTimes repairs database (base repaired)
