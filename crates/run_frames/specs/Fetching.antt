-- What a client fetches after its OPEN, whatever other frames stand between.
use Rattle.std.specs.Prelude.{◌≡◌, ℕ, ◌<◌, pos, Bool, false, not, ◌&&◌, ◌==◌, IsTrue, List, [], ◌∷◌, length, take, drop, Some, Result, Ok, Err, if◌then◌else◌, slice_get}
use Rattle.std.specs.Ordering.{int_eq}
use Rattle.std.specs.List.{list_any}
use Rattle.db_model.specs.declared.commands.Command.{Command}
use Rattle.db_model.specs.declared.commands.Command.TheVariants as command
use Rattle.db_model.specs.declared.commands.Query.{Query}
use Rattle.db_model.specs.declared.refusals.Refusal.{Refusal}
use Rattle.db_model.specs.declared.values.Value.{Value}
use Rattle.db_model.specs.Database.{Database}
use Rattle.db_model.specs.Step.{Reply, Fine, Rows, answer_of}
use Rattle.run_frames.specs.Frames.{Frame, Asked}
use Rattle.run_frames.specs.Served.{after_frame, heard}

-- FETCH 1
abbrev pub is_fetch : Command → Bool
is_fetch (command.FetchCursor number) = int_eq number (pos 1)
is_fetch _ = false

-- CLOSE 1
abbrev pub is_close : Command → Bool
is_close (command.CloseCursor number) = int_eq number (pos 1)
is_close _ = false

abbrev pub is_read : Result Command Refusal → (Command → Bool) → Bool
is_read (Ok c) test = test c
is_read (Err refusal) test = false

module _ (read : List ℕ → Result Command Refusal) where
  -- whether a frame is one of the client that asks for such a command
  abbrev pub asks : (Command → Bool) → ℕ → Frame → Bool
  asks test client (Asked sender bytes) = sender == client && is_read (read bytes) test
  asks test client _ = false

  -- the replies to a client's FETCH 1
  abbrev pub replies_fetched : ℕ → Database → List Frame → List Reply
  replies_fetched client db [] = []
  replies_fetched client db (frame ∷ frames) =
      if asks is_fetch client frame then (after_frame read db frame).1 ∷ replies_fetched client ((after_frame read db frame).0) frames else replies_fetched client ((after_frame read db frame).0) frames

  -- none of the frames is a CLOSE 1 of the client
  abbrev pub keeps_open : ℕ → List Frame → Bool
  keeps_open client frames = not (list_any (asks is_close client) frames)

  -- a frame is an OPEN 1 of the client for a query with these rows, and the reply to it is `ok`
  pub record OpensQuery (client : ℕ) (rows : List (List Value)) (db : Database) (frame : Frame) : Type 0 where
    pub query : Query
    pub asked : heard read frame ≡ Ok (command.OpenCursor (pos client) query)
    pub answered : answer_of db query ≡ Ok rows
    pub fine : (after_frame read db frame).1 ≡ Fine

  -- the nth reply to a FETCH 1 of the client, as long as it closes nothing, is the nth row of its answer as it was at the OPEN, or no
  -- row where none is left, whatever frames of any client stand between
  abbrev pub FetchesItsAnswer : ℕ → List (List Value) → Database → Frame → Type 0
  FetchesItsAnswer client rows db opening =
      (frames : List Frame) → IsTrue (keeps_open client frames)
      → (n : ℕ) → n < length (replies_fetched client ((after_frame read db opening).0) frames)
      → slice_get (replies_fetched client ((after_frame read db opening).0) frames) n ≡ Some (Rows (take 1 (drop n rows)))
