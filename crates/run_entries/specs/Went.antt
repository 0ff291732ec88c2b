-- How far a session went through an input.
use Rattle.std.specs.Prelude.{◌≡◌, ◌⊎◌, ⊤, ℕ, ◌≤◌, List, ◌++◌, length, Option, Result, Ok, Err}
use Rattle.std.specs.Io.KnownBytes.{prepend_known, IsAtEnd}
use Rattle.afl_base.specs.Causes.{Rose}
use Rattle.run_input.specs.declared.ending.Ending.{Ending}
use Rattle.run_input.specs.declared.ending.Ending.TheVariants.{Flash, Sink}
use Rattle.run_input.specs.declared.ending.InputEnding.{InputEnding}
use Rattle.run_input.specs.declared.ending.InputEnding.TheVariants.{Input, Long, Early}
use Rattle.run_model.specs.Line.{Line}
use Rattle.run_model.specs.Runs.{CameToLimit}
use Rattle.run_model.specs.Talk.{Talk}
use Rattle.run_entries.specs.Carried.{Carried, HaltsIn, Limits, Standing}

module _ {E : Type 0} (line : Line E) (talk : Talk E) (old new : Standing) (left left_now : Option (List ℕ)) where
  -- all bytes came, and all their entries were carried out
  pub record CarriedAll : Type 0 where
    pub bytes : List ℕ
    pub came : left ≡ prepend_known bytes left_now
    pub few : length bytes ≤ 16777216
    pub at_end : IsAtEnd left_now
    pub carried : Carried talk (line.all bytes) old new

  -- some bytes came, and their whole entries were carried out
  pub record TookSome : Type 0 where
    pub bytes : List ℕ
    pub came : left ≡ prepend_known bytes left_now
    pub few : length bytes ≤ 16777216
    pub carried : Carried talk (line.whole bytes) old new

  -- the same of 16,777,216 bytes, and one more came
  pub record ReachedLimit : Type 0 where
    pub bytes : List ℕ
    pub more : List ℕ
    pub came : left ≡ prepend_known (bytes ++ more) left_now
    pub many : length bytes ≡ 16777216
    pub one : length more ≡ 1
    pub carried : Carried talk (line.whole bytes) old new

  -- it went no further within the entries of the bytes that came
  pub record StoppedWithin (limits : Limits) (halt : Ending) : Type 0 where
    pub bytes : List ℕ
    pub entries : List E
    pub came : left ≡ prepend_known bytes left_now
    pub few : length bytes ≤ 16777216
    pub are : (entries ≡ line.whole bytes) ⊎ ((entries ≡ line.all bytes) × IsAtEnd left_now)
    pub halts : HaltsIn talk limits entries old new halt

  abbrev pub Went : Limits → Result ⊤ InputEnding → Type 0
  Went limits (Ok done) = CarriedAll
  Went limits (Err Input) = TookSome
  Went limits (Err Long) = ReachedLimit
  Went limits (Err (Early halt)) = StoppedWithin limits halt

-- how far the bytes of the input came, whether the files tell or not: to their end, or one byte past the limit
abbrev pub Reaches : Result ⊤ InputEnding → (left left_now : Option (List ℕ)) → Type 0
Reaches (Ok done) left left_now = IsAtEnd left_now
Reaches (Err Long) left left_now = CameToLimit left left_now
Reaches _ left left_now = ⊤

-- what failed has counted it, and the files' count does not fall
pub record HasRunCause (inputs inputs_now files files_now replies replies_now : ℕ) (result : Result ⊤ InputEnding) : Type 0 where
  pub files_later : files ≤ files_now
  pub input : result ≡ Err Input → Rose inputs inputs_now
  pub flash : result ≡ Err (Early Flash) → Rose files files_now
  pub sink : result ≡ Err (Early Sink) → Rose replies replies_now
