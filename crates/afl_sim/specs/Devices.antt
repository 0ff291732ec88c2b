-- What contracts see of the devices of this crate.
use Rattle.std.specs.Prelude.{◌≡◌, ℕ, ◌+◌, ◌*◌, ◌-◌, ◌^◌, replicate, min, Bool, false, true, if◌then◌else◌, nat_eq, nat_lt, List, Option, None, Some, option_map, Result, is_err, IsErr, OnErr}
use Rattle.afl_base.specs.Causes.{Rose}
use Rattle.std.specs.List.{list_any}

-- a count of faults after a call: one more where the call failed, up to the last number of a u64
abbrev pub faults_counted : Bool → ℕ → ℕ
faults_counted failed before = if failed then min (before + 1) (2 ^ 64 - 1) else before

-- a flash in memory: its bytes, the name of the memory that holds them, and how often it was read
pub record FlashInMemory : Type 0 where
  pub image : List ℕ
  pub lent : ℕ
  pub reads : ℕ

-- a flash in a file: its number of sectors, how often it was read, and how many calls failed
pub record FlashInFile : Type 0 where
  pub sectors : ℕ
  pub reads : ℕ
  pub faults : ℕ

-- an image of its size, whose bytes are not told
abbrev pub untold : FlashInFile → List ℕ
untold flash = replicate (4096 * flash.sectors) 0

-- a source in memory: the bytes to come, which call from now fails (none: no call), how often it was
-- read, and how many calls failed
pub record SourceInMemory : Type 0 where
  pub left : List ℕ
  pub fails_in : Option ℕ
  pub reads : ℕ
  pub faults : ℕ

-- a source over a reader: how often it was read, and how many calls failed
pub record SourceOverReader : Type 0 where
  pub reads : ℕ
  pub faults : ℕ

-- a sink in memory: the bytes held, how many more it has room for, the name of the memory that holds
-- them, which call from now fails, and how many failed
pub record SinkInMemory : Type 0 where
  pub held : List ℕ
  pub room : ℕ
  pub lent : ℕ
  pub fails_in : Option ℕ
  pub faults : ℕ

-- one call later, the failing call is one nearer; past it, none fails
abbrev pub nearer : Option ℕ → Option ℕ
nearer fails_in = option_map (λ n. n - 1) fails_in

-- whether the call to come is the one that fails
abbrev pub is_first : Option ℕ → Bool
is_first None = false
is_first (Some n) = nat_eq n 1

-- a flash around another that fails at the calls of some numbers
pub record FlashWithFaults (F : Type 0) : Type 0 where
  pub inner : F
  pub fails : List ℕ
  pub calls : ℕ
  pub reads : ℕ
  pub faults : ℕ

-- the number of the call to come, counted from 1 up to the last number of a u64
abbrev pub number_of_call : ℕ → ℕ
number_of_call calls = min (calls + 1) (2 ^ 64 - 1)

-- whether the call to come is one of those that fail
abbrev pub fails_now : List ℕ → ℕ → Bool
fails_now fails calls = list_any (λ n. nat_eq n (number_of_call calls)) fails

-- a call is numbered; it fails where its number is one of those, and does nothing inside then, and
-- else only where the flash inside counted a fault
pub record FailsOnDemand {F T E : Type 0} (inner : F → ℕ) (old new : FlashWithFaults F) (result : Result T E) : Type 0 where
  pub counts : new.faults ≡ faults_counted (fails_now old.fails old.calls) old.faults
  pub numbered : new.calls ≡ number_of_call old.calls
  pub list : new.fails ≡ old.fails
  pub fails : fails_now old.fails old.calls ≡ true → IsErr result × (new.inner ≡ old.inner)
  pub passes : fails_now old.fails old.calls ≡ false → OnErr result (Rose (inner old.inner) (inner new.inner))

-- the faults of the flash around and of the flash inside, up to the last number of a u64
abbrev pub all_faults : {F : Type 0} → (F → ℕ) → FlashWithFaults F → ℕ
all_faults inner flash = min (flash.faults + inner flash.inner) (2 ^ 64 - 1)

-- a flash in memory whose power goes: its bytes, the name of the memory that holds them, how many
-- writes are done, how many bytes of the next one, and whether the power is gone
pub record FlashWithCut : Type 0 where
  pub image : List ℕ
  pub lent : ℕ
  pub writes : ℕ
  pub front : ℕ
  pub off : Bool
  pub reads : ℕ
  pub faults : ℕ

-- whether the power is gone behind the write to come
abbrev pub power : FlashWithCut → Bool
power flash = if flash.off then true else nat_eq flash.writes 0

-- how many writes are still done behind it
abbrev pub writes_left : FlashWithCut → ℕ
writes_left flash = if flash.off then flash.writes else flash.writes - 1

-- how many bytes of a write of n bytes are done in which the power goes
abbrev pub done_at_cut : ℕ → ℕ → ℕ
done_at_cut front n = if nat_lt front n then (if nat_lt 2 n then front else 0) else n

-- how many bytes of the write to come are done, which has n
abbrev pub done_of : FlashWithCut → ℕ → ℕ
done_of flash n = if flash.off then 0 else if nat_eq flash.writes 0 then done_at_cut flash.front n else n

-- a write is counted: it fails where the power is gone behind it
pub record CountsWrite {T E : Type 0} (old new : FlashWithCut) (result : Result T E) : Type 0 where
  pub fails : is_err result ≡ power old
  pub off : new.off ≡ power old
  pub writes : new.writes ≡ writes_left old
  pub front : new.front ≡ old.front
