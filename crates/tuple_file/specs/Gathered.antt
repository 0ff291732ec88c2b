-- Rows on their way into the draft of a relation's file.
use Rattle.std.specs.Prelude.{◌≡◌, ℕ, ◌+◌, ◌-◌, ◌%◌, ◌≤◌, IsSome, IsTrue, List, length, drop, replicate}
use Rattle.afl_base.specs.Fields.{put_at}
use Rattle.afl_base.specs.Files.{State, draft_in}

-- bytes that wait, and where in the draft they belong
pub record WaitingRows : Type 0 where
  pub at : ℕ
  pub bytes : List ℕ

-- where the bytes after them belong
abbrev pub end_of_waiting : WaitingRows → ℕ
end_of_waiting waiting = waiting.at + length waiting.bytes

-- how many bytes there are from a place in a file to the end of its page: a file begins 32 bytes after a page does
abbrev pub page_rest : ℕ → ℕ
page_rest at = 256 - (at + 32) % 256

-- the draft as it is once they are written
abbrev pub gathered : State → WaitingRows → List ℕ
gathered state waiting = put_at (draft_in state).bytes waiting.at waiting.bytes

-- the draft has zeros where they belong, and all the way after
abbrev pub IsFree : State → WaitingRows → Type 0
IsFree state waiting =
    drop waiting.at (draft_in state).bytes ≡ replicate (length (draft_in state).bytes - waiting.at) 0

-- rows may wait for it: it is begun, with at most 4 MiB, and has zeros where they belong
pub record TakesRows (state : State) (waiting : WaitingRows) : Type 0 where
  pub begun : IsSome state.draft
  pub most : length (draft_in state).bytes ≤ 4194304
  pub free : IsTrue state.tells → IsFree state waiting
