-- The commands of a script, and what is written for them.
use Rattle.std.specs.Prelude.{ℕ, Bool, true, false, not, ◌||◌, ◌==◌, List, [], ◌∷◌, ◌++◌, length, Result, Ok, Err, if◌then◌else◌, nat_lt}
use Rattle.db_model.specs.declared.commands.Command.{Command}
use Rattle.db_model.specs.declared.refusals.Refusal.{Refusal}
use Rattle.db_model.specs.declared.refusals.Refusal.TheVariants as no
use Rattle.db_model.specs.Database.{Database}
use Rattle.db_model.specs.ReplyText.{text}
use Rattle.db_model.specs.Tokens.{is_white}
use Rattle.db_model.specs.Step.{Reply, Refused, step}

-- what a piece of a script is
pub data Entry : Type 0 where
  -- it has more than 512 bytes
  Long : Entry
  -- it is the last, and has no `;`
  Unfinished : Entry
  -- the bytes of a command
  Bytes : List ℕ → Entry

-- the bytes from the first that is not white space
abbrev pub past_white : List ℕ → List ℕ
past_white [] = []
past_white (b ∷ bs) = if is_white b then past_white bs else b ∷ bs

-- a piece that a `;` ends: one of white space alone is no command
abbrev pub ended : List ℕ → List Entry
ended [] = []
ended (b ∷ bs) = if nat_lt 512 (length (b ∷ bs)) then Long ∷ [] else Bytes (b ∷ bs) ∷ []

-- the last piece, which nothing ends
abbrev pub unended : List ℕ → List Entry
unended [] = []
unended (b ∷ bs) = Unfinished ∷ []

-- a quote opens at `'` and ends at the next `'` or at an LF
abbrev pub quoted_after : Bool → ℕ → Bool
quoted_after true b = not (b == 39 || b == 10)
quoted_after false b = b == 39

-- a `;` outside quotes ends a piece
abbrev pub ends_piece : Bool → ℕ → Bool
ends_piece true b = false
ends_piece false b = b == 59

-- a byte before the first of some pieces
abbrev pub onto : ℕ → List (List ℕ) → List (List ℕ)
onto b [] = (b ∷ []) ∷ []
onto b (piece ∷ pieces) = (b ∷ piece) ∷ pieces

-- the pieces that bytes fall into, which begin inside quotes or not; nothing ends the last one
abbrev pub pieces : Bool → List ℕ → List (List ℕ)
pieces quoted [] = [] ∷ []
pieces quoted (b ∷ bs) = if ends_piece quoted b then [] ∷ pieces false bs else onto b (pieces (quoted_after quoted b) bs)

-- what the pieces are
abbrev pub entries_of : List (List ℕ) → List Entry
entries_of [] = []
entries_of (piece ∷ []) = unended (past_white piece)
entries_of (piece ∷ next ∷ pieces) = ended (past_white piece) ++ entries_of (next ∷ pieces)

-- the commands of a script
abbrev pub commands : List ℕ → List Entry
commands bytes = entries_of (pieces false bytes)

-- the entries without a last one that is unfinished
abbrev pub finished : List Entry → List Entry
finished [] = []
finished (Unfinished ∷ entries) = finished entries
finished (Long ∷ entries) = Long ∷ finished entries
finished (Bytes bytes ∷ entries) = Bytes bytes ∷ finished entries

abbrev pub whole : List ℕ → List Entry
whole bytes = finished (commands bytes)

-- ---- what is written

-- `read` reads the bytes of a command, or says why they are none (see `Reading`)
module _ (read : List ℕ → Result Command Refusal) where
  abbrev pub carried_out : Database → Result Command Refusal → Database × Reply
  carried_out db (Ok command) = step db command
  carried_out db (Err refusal) = (db, Refused refusal)

  -- the database after an entry, and the reply to it
  abbrev pub after : Database → Entry → Database × Reply
  after db Long = (db, Refused no.Long)
  after db Unfinished = (db, Refused no.Unfinished)
  after db (Bytes bytes) = carried_out db (read bytes)

  -- the texts of the replies, one after the other
  abbrev pub output : Database → List Entry → List ℕ
  output db [] = []
  output db (entry ∷ entries) = text ((after db entry).1) ++ output ((after db entry).0) entries

  -- the database after all entries
  abbrev pub last : Database → List Entry → Database
  last db [] = db
  last db (entry ∷ entries) = last ((after db entry).0) entries
