-- What is served to clients, frame by frame. Each client has one cursor, which it calls 1.
use Rattle.std.specs.Prelude.{ℕ, ◌≤◌, ℤ, pos, List, [], ◌∷◌, ◌++◌, Result, Ok, Err, if◌then◌else◌}
use Rattle.std.specs.Ordering.{int_eq}
use Rattle.db_model.specs.declared.commands.Command.{Command}
use Rattle.db_model.specs.declared.commands.Command.TheVariants as command
use Rattle.db_model.specs.declared.refusals.Refusal.{Refusal}
use Rattle.db_model.specs.declared.refusals.Refusal.TheVariants as no
use Rattle.db_model.specs.Database.{Database}
use Rattle.db_model.specs.Refusing.{◌>>=◌}
use Rattle.db_model.specs.ReplyText.{text}
use Rattle.db_model.specs.Step.{Reply}
use Rattle.run_model.specs.Talk.{Talk, answered, talk_output}
use Rattle.run_frames.specs.Frames.{Frame, Broken, Long, Asked, Unfinished}

-- ---- what is asked

-- a client's cursor is the one of its number; it has no other
abbrev pub numbered_cursor : ℕ → ℤ → (ℤ → Command) → Result Command Refusal
numbered_cursor client number command = if int_eq number (pos 1) then Ok (command (pos client)) else Err no.NoCursor

abbrev pub own_cursor : ℕ → Command → Result Command Refusal
own_cursor client (command.OpenCursor number query) = numbered_cursor client number (λ n. command.OpenCursor n query)
own_cursor client (command.FetchCursor number) = numbered_cursor client number command.FetchCursor
own_cursor client (command.CloseCursor number) = numbered_cursor client number command.CloseCursor
own_cursor client c = Ok c

-- ---- what is written

-- the byte that a reply frame begins with: the client, or 0 where none is known
abbrev pub client_of : Frame → ℕ
client_of Broken = 0
client_of (Long client) = client
client_of (Asked client bytes) = client
client_of Unfinished = 0

-- the reply frame: that byte, a text, and END
abbrev pub framed : Frame → List ℕ → List ℕ
framed frame text = client_of frame ∷ text ++ 192 ∷ []

-- ---- frames one after the other

-- `read` reads the bytes of a command, or says why they are none (see `Reading` of db_model)
module _ (read : List ℕ → Result Command Refusal) where
  -- the command that a frame asks for, or why it is refused
  abbrev pub heard : Frame → Result Command Refusal
  heard Broken = Err no.Frame
  heard (Long client) = Err no.Long
  heard (Asked client bytes) = ◌>>=◌ (read bytes) (own_cursor client)
  heard Unfinished = Err no.Unfinished

  abbrev pub serve_talk : Talk Frame
  serve_talk = record { heard = heard; sent = framed }

  -- the database after a frame, and the reply to it
  abbrev pub after_frame : Database → Frame → Database × Reply
  after_frame db frame = answered db (heard frame)

  -- the reply frames, one after the other
  abbrev pub served : Database → List Frame → List ℕ
  served db frames = talk_output serve_talk db frames

  -- ---- what is served, cut at each END

  -- for each frame the client's byte and the text of the reply
  abbrev pub parts : Database → List Frame → List (List ℕ)
  parts db [] = []
  parts db (frame ∷ frames) = (client_of frame ∷ text ((after_frame db frame).1)) ∷ parts ((after_frame db frame).0) frames

-- it is of one of the clients, or of none that is known
abbrev pub IsOfClient : Frame → Type 0
IsOfClient frame = client_of frame ≤ 4
