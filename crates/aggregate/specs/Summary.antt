-- What one pass finds out about its numbers.
use Rattle.std.specs.Prelude.{◌≡◌, ℤ, List, length}
use Rattle.aggregate.specs.declared.summary.Summary.{Summary}
use Rattle.db_model.specs.Answers.{total, least, greatest}

-- the summary of the numbers
pub record Summarises (numbers : List ℤ) (s : Summary) : Type 0 where
  pub count_is : s.count ≡ length numbers
  pub sum_is : s.sum ≡ total numbers
  pub least_is : s.least ≡ least numbers
  pub greatest_is : s.greatest ≡ greatest numbers
