-- A byte that goes out before the first byte of a reply.
use Rattle.std.specs.Prelude.{◌≡◌, ℕ, ◌≤◌, Bool, true, false, List, [], ◌∷◌, Option, Some, None}
use Rattle.std.specs.Io.KnownBytes.{append_known}
use Rattle.afl_base.specs.Causes.{Rose}
use Rattle.buffered_sink.specs.Handing.{front_of}

-- the byte that has not gone out yet
abbrev pub front_bytes : Option ℕ → List ℕ
front_bytes None = []
front_bytes (Some byte) = byte ∷ []

-- what stands in the sink below, and the byte
abbrev pub front_held : Option (List ℕ) → Option ℕ → Option (List ℕ)
front_held held front = append_known held (front_bytes front)

-- no fault, or as many as are counted
abbrev pub front_faults : Bool → ℕ
front_faults false = 0
front_faults true = 18446744073709551615

-- the sink below, the byte, and whether a call failed
pub record Fronted : Type 0 where
  pub held : Option (List ℕ)
  pub faults : ℕ
  pub front : Option ℕ
  pub failed : Bool

abbrev pub fronted : Option (List ℕ) → ℕ → Option ℕ → Bool → Fronted
fronted held faults front failed = record { held = held; faults = faults; front = front; failed = failed }

-- what it holds is seen after the byte
abbrev pub seen : Fronted → Option (List ℕ)
seen f = front_held f.held f.front

-- only more bytes were written; where none were and no call failed, the byte has not gone out either
pub record HoldsOn (old new : Fronted) : Type 0 where
  pub held : front_of (seen old) (seen new) ≡ seen old
  pub silent : new.failed ≡ false → seen new ≡ seen old → new.held ≡ old.held
  pub faultless : new.failed ≡ false → (old.failed ≡ false) × (new.faults ≡ old.faults)
  pub fault : old.failed ≡ false → new.failed ≡ true → Rose old.faults new.faults
  pub later : old.faults ≤ new.faults
