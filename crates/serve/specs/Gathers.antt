-- What a decoder has kept of the part at hand.
use Rattle.std.specs.Prelude.{◌≡◌, ℕ, ◌<◌, ◌≤◌, Bool, true, false, ◌==◌, List, [], ◌∷◌, ◌++◌, length, take, drop, slice_index, nat_lt, Option, Some, None, IsTrue, option_map, if◌then◌else◌}
use Rattle.run_frames.specs.Frames.{Frame, Broken, Long, Asked, is_client}
use Rattle.serve.specs.declared.fed.Fed.{Fed}
use Rattle.serve.specs.declared.fed.Fed.TheVariants as fed

-- ---- a part so far

-- the decoded bytes of a part so far, and whether its last byte is an ESC whose next byte is still to come
pub record Opened : Type 0 where
  pub bytes : List ℕ
  pub escaped : Bool

abbrev pub with_front : ℕ → Opened → Opened
with_front b o = record { bytes = b ∷ o.bytes; escaped = o.escaped }

abbrev pub opened_escape : ℕ → Option Opened → Option Opened
opened_escape b rest = if b == 220 then option_map (with_front 192) rest else (if b == 221 then option_map (with_front 219) rest else None)

-- None where an escape is broken
abbrev pub escape_opened : List ℕ → Option Opened
escape_opened [] = Some (record { bytes = []; escaped = false })
escape_opened (b ∷ []) = if b == 219 then Some (record { bytes = []; escaped = true }) else Some (record { bytes = b ∷ []; escaped = false })
escape_opened (b ∷ c ∷ bytes) = if b == 219 then opened_escape c (escape_opened bytes) else option_map (with_front b) (escape_opened (c ∷ bytes))

-- one byte more
abbrev pub one_more : ℕ → Opened → Option Opened
one_more b o =
    if o.escaped
    then (if b == 220 then Some (record { bytes = o.bytes ++ 192 ∷ []; escaped = false }) else (if b == 221 then Some (record { bytes = o.bytes ++ 219 ∷ []; escaped = false }) else None))
    else (if b == 219 then Some (record { bytes = o.bytes; escaped = true }) else Some (record { bytes = o.bytes ++ b ∷ []; escaped = false }))

-- ---- a decoder

pub record Decoding : Type 0 where
  -- the first 513 decoded bytes of the part, or those of the frame that it ended
  pub bytes : List ℕ
  -- there are more
  pub long : Bool
  -- the last byte is an ESC
  pub escaped : Bool
  -- an escape is broken
  pub broken : Bool
  -- a byte of the part has come
  pub begun : Bool

-- of a part so far a decoder holds these
abbrev pub HoldsPart : Option Opened → List ℕ → Bool → Bool → Bool → Type 0
HoldsPart None bytes long escaped broken = broken ≡ true
HoldsPart (Some o) bytes long escaped broken = (broken ≡ false) × (escaped ≡ o.escaped) × (bytes ≡ take 513 o.bytes) × (long ≡ nat_lt 513 (length o.bytes))

abbrev pub KeepsPart : List ℕ → Decoding → Type 0
KeepsPart part d = HoldsPart (escape_opened part) d.bytes d.long d.escaped d.broken

abbrev pub GathersBy : Bool → List ℕ → Decoding → Type 0
GathersBy true part d = (0 < length part) × KeepsPart part d
GathersBy false part d = part ≡ []

-- the bytes since the last END are this part
abbrev pub GathersPart : List ℕ → Decoding → Type 0
GathersPart part d = GathersBy d.begun part d

-- ---- what a byte ends

abbrev pub client_in : Decoding → ℕ
client_in d = slice_index d.bytes 0

abbrev pub command_in : Decoding → List ℕ
command_in d = drop 1 d.bytes

-- a frame of a client with a command of at most 512 bytes has just ended
pub record HasFrame (d : Decoding) : Type 0 where
  pub client : IsTrue (is_client (client_in d))
  pub some : 1 ≤ length d.bytes
  pub few : length d.bytes ≤ 513

abbrev pub told : Fed → Decoding → List Frame
told fed.More d = []
told fed.Frame d = Asked (client_in d) (command_in d) ∷ []
told fed.Bad d = Broken ∷ []
told (fed.Long client) d = Long client ∷ []
