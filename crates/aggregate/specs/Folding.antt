-- What contracts see of a fold.
use Rattle.std.specs.Prelude.{◌≡◌, ℕ, ◌*◌, ◌^◌, ◌<◌, ◌≤◌, pos, negsuc, ◌+ℤ◌, ◌≤ℤ◌, length, get_or}
use Rattle.db_model.specs.declared.commands.Agg.{Agg}
use Rattle.db_model.specs.declared.commands.Agg.TheVariants.{Median}
use Rattle.aggregate.specs.declared.stage.Stage.{Stage}
use Rattle.aggregate.specs.declared.stage.Stage.TheVariants.{Gathering, Searching, Done}
use Rattle.aggregate.specs.declared.search.Search.{Search}
use Rattle.aggregate.specs.declared.summary.Summary.{Summary}
use Rattle.aggregate.specs.Ends.{AreEnds}

-- the aggregate, how many passes were wanted and have ended, how many values this pass has pushed,
-- and what is known so far
pub record Folding : Type 0 where
  pub agg : Agg
  pub passes : ℕ
  pub pushed : ℕ
  pub stage : Stage

-- of at most n numbers that the aggregate takes
pub record IsSummary (agg : Agg) (n : ℕ) (s : Summary) : Type 0 where
  pub few : s.count ≤ n
  pub low : pos 0 ≤ℤ (s.sum +ℤ pos (s.count * 140737488355328))
  pub high : s.sum ≤ℤ pos (s.count * 140737488355328)
  pub ends : AreEnds agg s.least s.greatest

-- After p passes fewer than 16^(9 - p) numbers are left besides the least.
pub record IsSearch (agg : Agg) (p n : ℕ) (s : Search) : Type 0 where
  pub median : agg ≡ Median
  pub low : negsuc 2147483647 ≤ℤ s.lo
  pub high : (s.lo +ℤ pos s.span) ≤ℤ pos 2147483647
  pub some : 0 < s.span
  pub sixteenth : s.span * 16 ^ p < 16 ^ 9
  pub sixteen : length s.counts ≡ 16
  pub counted : (part : ℕ) → get_or s.counts part 0 ≤ n

abbrev pub IsSoundStage : Agg → ℕ → ℕ → Stage → Type 0
IsSoundStage agg p n (Gathering s) = (p ≡ 0) × IsSummary agg n s
IsSoundStage agg p n (Searching s) = IsSearch agg p n s
IsSoundStage agg p n (Done _) = Unit {0}

pub record IsRightStage (agg : Agg) (p n : ℕ) (stage : Stage) : Type 0 where
  pub few : p ≤ 9
  pub pushed : n ≤ 32768
  pub stage_is : IsSoundStage agg p n stage
