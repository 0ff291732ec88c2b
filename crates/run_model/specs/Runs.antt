-- What a run leaves, status by status.
use Rattle.std.specs.Prelude.{◌≡◌, ◌⊎◌, ℕ, ◌+◌, ◌/◌, ◌<◌, ◌≤◌, false, List, [], ◌∷◌, ◌++◌, length, codes, decimal, Option, Some}
use Rattle.std.specs.Io.KnownBytes.{append_known, prepend_known, IsAtEnd}
use Rattle.std.specs.List.{AllByRecursion}
use Rattle.db_model.specs.declared.commands.Command.{Command}
use Rattle.db_model.specs.declared.refusals.Refusal.TheVariants as no
use Rattle.db_model.specs.Ahead.{is_refused, no_cursors}
use Rattle.db_model.specs.Between.{IsBetween}
use Rattle.db_model.specs.Database.{Database, bare}
use Rattle.db_model.specs.ReplyText.{refusal_text}
use Rattle.db_model.specs.RunCost.{opening_cost}
use Rattle.db_model.specs.Step.{Reads, step}
use Rattle.space_model.specs.Enough.{enough, most}
use Rattle.image_model.specs.Images.{IsFirstBroken, IsSound, base}
use Rattle.image_model.specs.Lacking.{LacksFor}
use Rattle.image_model.specs.Mending.{ImageMendsTo}
use Rattle.run_model.specs.Line.{Line}
use Rattle.run_model.specs.Talk.{AsksCommand, AsksToRead, Talk, talk_costs, last_database, talk_output}

-- what there is before and after a run: the image, what is left of the input, and what the sink holds
pub record World : Type 0 where
  pub image : List ℕ
  pub left : Option (List ℕ)
  pub held : Option (List ℕ)

abbrev pub world : List ℕ → Option (List ℕ) → Option (List ℕ) → World
world image left held = record { image = image; left = left; held = held }

-- ---- what was written

-- a part of these bytes from their front on, or all of them
pub record WroteInFront (all : List ℕ) (old new : Option (List ℕ)) : Type 0 where
  pub part : List ℕ
  pub rest : List ℕ
  pub split : all ≡ part ++ rest
  pub held : new ≡ append_known old part

-- some bytes, and then a part of what follows them, or all of it
pub record WroteFrom (least all : List ℕ) (old new : Option (List ℕ)) : Type 0 where
  pub part : List ℕ
  pub rest : List ℕ
  pub split : all ≡ least ++ part ++ rest
  pub held : new ≡ append_known old (least ++ part)

-- some bytes, and then less than all of what follows them
pub record WroteWithin (least all : List ℕ) (old new : Option (List ℕ)) : Type 0 where
  pub part : List ℕ
  pub rest : List ℕ
  pub some : 0 < length rest
  pub split : all ≡ least ++ part ++ rest
  pub held : new ≡ append_known old (least ++ part)

-- ---- what carries entries out: what it writes for some, the database after them, which command an entry is, and what it
-- writes where that finds no space

pub record Machine (E : Type 0) : Type 1 where
  pub written : List E → List ℕ
  pub last : List E → Database
  pub Asks : E → Command → Type 0
  pub refused : E → ℕ → List ℕ

module _ {E : Type 0} (m : Machine E) where
  -- the image is sound, and stands for the database after these entries
  pub record StandsAfter (entries : List E) (image : List ℕ) : Type 0 where
    pub sound : IsSound image
    pub base_is : base image ≡ bare (m.last entries)

  -- the entries were carried out, and what they give was written
  pub record CarriedOut (entries : List E) (old new : World) : Type 0 where
    pub written : new.held ≡ append_known old.held (m.written entries)
    pub stands : StandsAfter entries new.image

  -- those in front were carried out, and the next is a command that is not refused and finds no space
  pub record StopsAt (entries front : List E) (n : ℕ) (image : List ℕ) : Type 0 where
    pub entry : E
    pub rest : List E
    pub split : entries ≡ front ++ entry ∷ rest
    pub command : Command
    pub asks : m.Asks entry command
    pub accepted : is_refused ((step (m.last front) command).1) ≡ false
    pub lacks : LacksFor image command n
    pub stands : StandsAfter front image

  -- status 3: what those in front give was written, then that there is no space
  pub record FoundNoSpace (entries : List E) (old new : World) : Type 0 where
    pub front : List E
    pub n : ℕ
    pub stops : StopsAt entries front n new.image
    pub written : new.held ≡ append_known old.held (m.written front ++ m.refused stops.entry n)

  -- status 5: the same, but what is written after `least front` ends before it is all written
  pub record SpaceUnsaid (least : List E → List ℕ) (entries : List E) (old new : World) : Type 0 where
    pub front : List E
    pub n : ℕ
    pub stops : StopsAt entries front n new.image
    pub written : WroteWithin (least front) (m.written front ++ m.refused stops.entry n) old.held new.held

  -- status 5: the replies to those in front were written, and less than the reply to the next, which was carried out
  pub record ReplyUnsaid (entries : List E) (old new : World) : Type 0 where
    pub front : List E
    pub entry : E
    pub rest : List E
    pub split : entries ≡ front ++ entry ∷ rest
    pub written : WroteWithin (m.written front) (m.written (front ++ entry ∷ [])) old.held new.held
    pub stands : StandsAfter (front ++ entry ∷ []) new.image

  -- those in front were carried out, and the next is a command that broke off: the image mends to a database between that before
  -- it and that after it
  pub record BreaksOffAt (entries front : List E) (image : List ℕ) : Type 0 where
    pub entry : E
    pub rest : List E
    pub split : entries ≡ front ++ entry ∷ rest
    pub command : Command
    pub asks : m.Asks entry command
    pub mends : ImageMendsTo image (IsBetween (m.last front) command)

  -- before each command there are enough sectors for what it may ask for, or it asks for nothing
  abbrev pub HasEnough : ℕ → List E → Type 0
  HasEnough sectors entries = (front rest : List E) (entry : E) (command : Command) → entries ≡ front ++ entry ∷ rest → m.Asks entry command
      → (most (m.last front) command ≡ 0) ⊎ (enough (m.last front) (most (m.last front) command) ≤ sectors)

-- the relational machine, started at a database
abbrev pub machine_from : {E : Type 0} → Talk E → Database → Machine E
machine_from talk db = record {
  written = talk_output talk db;
  last = last_database talk db;
  Asks = AsksCommand talk;
  refused = λ entry n. talk.sent entry (refusal_text (no.Space n));
}

-- ---- the entries of an input

-- no more than 16,777,216 bytes came
pub record Came (bytes : List ℕ) (old new : World) : Type 0 where
  pub left : old.left ≡ prepend_known bytes new.left
  pub few : length bytes ≤ 16777216

module _ {E : Type 0} (line : Line E) (talk : Talk E) where
  -- the entries of bytes that came: an unfinished one counts where no byte is left
  abbrev pub AreEntries : List ℕ → List E → World → Type 0
  AreEntries bytes entries new = (entries ≡ line.whole bytes) ⊎ ((entries ≡ line.all bytes) × IsAtEnd new.left)

  -- 0: all came, and all was carried out
  pub record InputEnded (old new : World) : Type 0 where
    pub bytes : List ℕ
    pub came : Came bytes old new
    pub at_end : IsAtEnd new.left
    pub carried : CarriedOut (machine_from talk (base old.image)) (line.all bytes) old new

  -- 2: what came of whole entries was carried out
  pub record InputCutOff (old new : World) : Type 0 where
    pub bytes : List ℕ
    pub came : Came bytes old new
    pub carried : CarriedOut (machine_from talk (base old.image)) (line.whole bytes) old new

  -- 8: the same of the first 16,777,216 bytes, and one more came
  pub record InputTooLong (old new : World) : Type 0 where
    pub bytes : List ℕ
    pub more : List ℕ
    pub left : old.left ≡ prepend_known (bytes ++ more) new.left
    pub many : length bytes ≡ 16777216
    pub one : length more ≡ 1
    pub carried : CarriedOut (machine_from talk (base old.image)) (line.whole bytes) old new

  -- 3: the next entry found no space
  pub record InputFoundNoSpace (old new : World) : Type 0 where
    pub bytes : List ℕ
    pub entries : List E
    pub came : Came bytes old new
    pub are : AreEntries bytes entries new
    pub found : FoundNoSpace (machine_from talk (base old.image)) entries old new

  -- 4: a part of the replies was written
  pub record InputFaulted (old new : World) : Type 0 where
    pub bytes : List ℕ
    pub entries : List E
    pub came : Came bytes old new
    pub are : AreEntries bytes entries new
    pub written : WroteInFront (talk_output talk (base old.image) entries) old.held new.held

  -- 4, where failures are cuts: the replies to the entries in front were written, and a part of that to the next, which broke off;
  -- nothing of it where that changes more than a cursor
  pub record InputBrokenOff (old new : World) : Type 0 where
    pub bytes : List ℕ
    pub entries : List E
    pub came : Came bytes old new
    pub are : AreEntries bytes entries new
    pub front : List E
    pub breaks : BreaksOffAt (machine_from talk (base old.image)) entries front new.image
    pub written : WroteFrom (talk_output talk (base old.image) front) (talk_output talk (base old.image) (front ++ breaks.entry ∷ [])) old.held new.held
    pub unsaid : (Reads breaks.command → ⊥) → new.held ≡ append_known old.held (talk_output talk (base old.image) front)

  -- 5: a reply, or that there is no space, was not wholly written
  pub record InputUnsaid (old new : World) : Type 0 where
    pub bytes : List ℕ
    pub entries : List E
    pub came : Came bytes old new
    pub are : AreEntries bytes entries new
    pub stopped : ReplyUnsaid (machine_from talk (base old.image)) entries old new
        ⊎ SpaceUnsaid (machine_from talk (base old.image)) (talk_output talk (base old.image)) entries old new

  -- what an input whose entries only read may make a run read, its opening included
  abbrev pub ReadsWithin : World → ℕ → Type 0
  ReadsWithin old n = (text : List ℕ) → old.left ≡ Some text → AllByRecursion (AsksToRead talk) (line.all text)
      → n ≤ opening_cost (base old.image) (length old.image / 256) + talk_costs talk (base old.image) no_cursors (line.all text)

  -- before each of its commands the flash has enough sectors
  abbrev pub InputHasEnough : World → Type 0
  InputHasEnough old = (text : List ℕ) → old.left ≡ Some text → HasEnough (machine_from talk (base old.image)) (length old.image / 4096) (line.all text)

-- 16,777,216 bytes came, and one more
pub record CameToLimit (old new : Option (List ℕ)) : Type 0 where
  pub bytes : List ℕ
  pub more : List ℕ
  pub left : old ≡ prepend_known (bytes ++ more) new
  pub many : length bytes ≡ 16777216
  pub one : length more ≡ 1

-- ---- images that are not sound

-- the line of status 6
unfoldable pub image_line : (rule place : ℕ) → List ℕ
image_line rule place = codes "no image " ++ decimal rule ++ codes " " ++ decimal place ++ codes "\n"

-- 6: the image is not sound, and its first broken rule was written
pub record Refuses (old new : World) : Type 0 where
  pub rule : ℕ
  pub place : ℕ
  pub first : IsFirstBroken old.image rule place
  pub same : new.image ≡ old.image
  pub written : new.held ≡ append_known old.held (image_line rule place)

-- 5: the same line was not wholly written
pub record RefusalUnsaid (old new : World) : Type 0 where
  pub rule : ℕ
  pub place : ℕ
  pub first : IsFirstBroken old.image rule place
  pub same : new.image ≡ old.image
  pub written : WroteWithin [] (image_line rule place) old.held new.held
