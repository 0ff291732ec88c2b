-- The frames of clients on one line: parts that end with the byte END, 192, with escapes inside. ESC is 219;
-- 219 220 stands for 192, and 219 221 for 219.
use Rattle.std.specs.Prelude.{ℕ, Bool, ◌&&◌, ◌==◌, List, [], ◌∷◌, ◌++◌, length, nat_le, nat_lt, Option, Some, None, option_map, if◌then◌else◌}
use Rattle.std.specs.List.{slice_split}
use Rattle.run_model.specs.Line.{Cut, Line}

-- what stands between two ENDs
pub data Frame : Type 0 where
  -- it has a broken escape, or names no client
  Broken : Frame
  -- a client sent more than 512 bytes
  Long : ℕ → Frame
  -- a client, and the bytes of its command
  Asked : ℕ → List ℕ → Frame
  -- no END comes after it
  Unfinished : Frame

abbrev pub is_end : ℕ → Bool
is_end b = b == 192

-- ---- one part

-- the byte after an ESC, and what is decoded after it
abbrev pub escaped : ℕ → Option (List ℕ) → Option (List ℕ)
escaped b rest =
    if b == 220 then option_map (λ bytes. 192 ∷ bytes) rest else
    (if b == 221 then option_map (λ bytes. 219 ∷ bytes) rest else None)

-- the bytes of a part without its escapes; None where an ESC stands at its end, or before another byte
abbrev pub decoded : List ℕ → Option (List ℕ)
decoded [] = Some []
decoded (b ∷ []) = if b == 219 then None else Some (b ∷ [])
decoded (b ∷ c ∷ bytes) = if b == 219 then escaped c (decoded bytes) else option_map (λ rest. b ∷ rest) (decoded (c ∷ bytes))

abbrev pub is_client : ℕ → Bool
is_client b = nat_le 1 b && nat_le b 4

-- the first decoded byte is the client, and the others are its command
abbrev pub frame_from : Option (List ℕ) → Frame
frame_from None = Broken
frame_from (Some []) = Broken
frame_from (Some (client ∷ command)) =
    if is_client client then (if nat_lt 512 (length command) then Long client else Asked client command) else Broken

-- an empty part is no frame
abbrev pub frame_of : List ℕ → List Frame
frame_of [] = []
frame_of (b ∷ bytes) = frame_from (decoded (b ∷ bytes)) ∷ []

-- ---- all parts

-- what stands after the last END
abbrev pub unended_frame : List ℕ → List Frame
unended_frame [] = []
unended_frame (b ∷ bytes) = Unfinished ∷ []

-- of parts the last has no END after it
abbrev pub frames_in : List (List ℕ) → List Frame
frames_in [] = []
frames_in (part ∷ []) = unended_frame part
frames_in (part ∷ next ∷ parts) = frame_of part ++ frames_in (next ∷ parts)

-- the frames of some bytes: cut at each END, and each part decoded
abbrev pub frames : List ℕ → List Frame
frames bytes = frames_in (slice_split is_end bytes)

-- the frames without a last one that is unfinished
abbrev pub finished_frames : List Frame → List Frame
finished_frames [] = []
finished_frames (Unfinished ∷ rest) = finished_frames rest
finished_frames (Broken ∷ rest) = Broken ∷ finished_frames rest
finished_frames (Long client ∷ rest) = Long client ∷ finished_frames rest
finished_frames (Asked client command ∷ rest) = Asked client command ∷ finished_frames rest

-- ---- bytes that come one by one

-- the part that is begun once these bytes came after a part so far
abbrev pub part_behind : List ℕ → List ℕ → List ℕ
part_behind part [] = part
part_behind part (b ∷ bytes) = if is_end b then part_behind [] bytes else part_behind (part ++ b ∷ []) bytes

-- the frames that they end
abbrev pub ended_frames : List ℕ → List ℕ → List Frame
ended_frames part [] = []
ended_frames part (b ∷ bytes) = if is_end b then frame_of part ++ ended_frames [] bytes else ended_frames (part ++ b ∷ []) bytes

-- ---- a line of frames, whole and as its bytes come

abbrev pub frame_line : Line Frame
frame_line = record { all = frames; whole = λ bytes. finished_frames (frames bytes) }

-- the bytes of the part at hand
abbrev pub frame_cut : Cut Frame (List ℕ)
frame_cut = record { start = []; begun = part_behind; ended = ended_frames; left = unended_frame }
