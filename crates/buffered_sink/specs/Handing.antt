-- Bytes that wait before a sink, and go on into it.
use Rattle.std.specs.Prelude.{◌≡◌, ℕ, List, ◌++◌, Option, Some, None, length, option_map, take}
use Rattle.std.specs.Io.KnownBytes.{append_known}

-- as many of the bytes that a sink holds as it held before
abbrev pub front_of : Option (List ℕ) → Option (List ℕ) → Option (List ℕ)
front_of None new = new
front_of (Some bytes) new = option_map (take (length bytes)) new

-- the first of the bytes that waited went into the sink, and the others still wait
pub record Hands (old new : Option (List ℕ)) (waited waits : List ℕ) : Type 0 where
  pub went : List ℕ
  pub split : waited ≡ went ++ waits
  pub held : new ≡ append_known old went

-- of what was to be written after what a sink held, a front part was: `left` was not
pub record WroteFront (old new wanted : Option (List ℕ)) : Type 0 where
  pub written : List ℕ
  pub left : List ℕ
  pub held : new ≡ append_known old written
  pub whole : wanted ≡ append_known new left
