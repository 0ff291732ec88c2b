-- What an input was taken through.
use Rattle.std.specs.Prelude.{◌≡◌, ℕ, ◌+◌, ◌≤◌, ◌⊎◌, List, ◌++◌, length, Option, Result, Ok, Err, ⊤}
use Rattle.std.specs.Io.KnownBytes.{prepend_known, IsAtEnd}
use Rattle.run_input.specs.declared.ending.Ending.{Ending}
use Rattle.run_input.specs.declared.ending.InputEnding.{InputEnding}
use Rattle.run_input.specs.declared.ending.InputEnding.TheVariants.{Input, Long, Early}

-- what a sink holds, and how many of its calls failed
pub record Out : Type 0 where
  pub held : Option (List ℕ)
  pub faults : ℕ

abbrev pub out_of : Option (List ℕ) → ℕ → Out
out_of held faults = record { held = held; faults = faults }

-- T is what takes an input, with what it writes to; of the input, what it has left and how often it was read:
-- each read but the last brought a byte
module _ {T : Type 0} (Takes : T → List ℕ → T → Type 0) (Ends : T → T → Type 0) (Halts : T → List ℕ → T → Ending → Type 0) (HaltsAtEnd : T → T → Ending → Type 0) where
  -- the bytes came, and were taken
  pub record Took (old new : T) (left0 left1 : Option (List ℕ)) (reads0 reads1 : ℕ) : Type 0 where
    pub came : List ℕ
    pub left : left0 ≡ prepend_known came left1
    pub reads : reads1 ≤ reads0 + length came + 1
    pub few : length came ≤ 16777216
    pub takes : Takes old came new

  -- all bytes came and were taken, and then the end
  pub record TookAll (old new : T) (left0 left1 : Option (List ℕ)) (reads0 reads1 : ℕ) : Type 0 where
    pub came : List ℕ
    pub left : left0 ≡ prepend_known came left1
    pub reads : reads1 ≤ reads0 + length came + 1
    pub at_end : IsAtEnd left1
    pub few : length came ≤ 16777216
    pub last : T
    pub takes : Takes old came last
    pub ends : Ends last new

  -- 16,777,216 bytes were taken, and one more came
  pub record TookLimit (old new : T) (left0 left1 : Option (List ℕ)) (reads0 reads1 : ℕ) : Type 0 where
    pub came : List ℕ
    pub more : List ℕ
    pub left : left0 ≡ prepend_known (came ++ more) left1
    pub reads : reads1 ≤ reads0 + length came + 1
    pub many : length came ≡ 16777216
    pub one : length more ≡ 1
    pub takes : Takes old came new

  -- these bytes came, and it went no further within them: what came before the last read was taken before
  -- it, and each read before it brought a byte
  pub record WentNoFurther (old new : T) (left0 left1 : Option (List ℕ)) (reads0 reads1 : ℕ) (halt : Ending) : Type 0 where
    pub came : List ℕ
    pub left : left0 ≡ prepend_known came left1
    pub reads : reads1 ≤ reads0 + length came
    pub few : length came ≤ 16777216
    pub halts : Halts old came new halt
    pub before : List ℕ
    pub last : List ℕ
    pub split : came ≡ before ++ last
    pub taken : T
    pub takes : Takes old before taken
    pub earlier : reads1 ≤ reads0 + length before + 1

  -- all bytes came and were taken, and it went no further in what was left
  pub record WentNoFurtherAtEnd (old new : T) (left0 left1 : Option (List ℕ)) (reads0 reads1 : ℕ) (halt : Ending) : Type 0 where
    pub came : List ℕ
    pub left : left0 ≡ prepend_known came left1
    pub reads : reads1 ≤ reads0 + length came + 1
    pub at_end : IsAtEnd left1
    pub few : length came ≤ 16777216
    pub last : T
    pub takes : Takes old came last
    pub halts : HaltsAtEnd last new halt

  abbrev pub Through : Result ⊤ InputEnding → T → T → Option (List ℕ) → Option (List ℕ) → ℕ → ℕ → Type 0
  Through (Ok done) old new left0 left1 reads0 reads1 = TookAll old new left0 left1 reads0 reads1
  Through (Err Input) old new left0 left1 reads0 reads1 = Took old new left0 left1 reads0 reads1
  Through (Err Long) old new left0 left1 reads0 reads1 = TookLimit old new left0 left1 reads0 reads1
  Through (Err (Early halt)) old new left0 left1 reads0 reads1 = WentNoFurther old new left0 left1 reads0 reads1 halt ⊎ WentNoFurtherAtEnd old new left0 left1 reads0 reads1 halt
