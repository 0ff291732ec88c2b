-- What given commands come to where their replies are only counted.
use Rattle.std.specs.Prelude.{◌≡◌, ⊤, ℕ, false, List, ◌∷◌, ◌++◌, Result, Ok, Err}
use Rattle.run_entries.specs.Carried.{Limits}
use Rattle.db_model.specs.declared.commands.Command.{Command}
use Rattle.db_model.specs.Ahead.{is_refused}
use Rattle.db_model.specs.Database.{Database}
use Rattle.db_model.specs.Step.{after_all, replies, step}
use Rattle.db_model.specs.Workload.{Tally, nothing, tally}
use Rattle.run_generated.specs.declared.counting.Failure.{Failure}
use Rattle.run_generated.specs.declared.counting.Failure.TheVariants.{NoSpace, Flash}

-- they made one database of another, and their replies were counted
pub record Counted (commands : List Command) (old new : Database) (t : Tally) : Type 0 where
  pub database : new ≡ after_all old commands
  pub tally_is : t ≡ tally nothing (replies old commands)

-- those in front were carried out, and the next is not refused and lacks n pages
pub record StopsAtCommand (limits : Limits) (commands : List Command) (old new : Database) (n : ℕ) : Type 0 where
  pub front : List Command
  pub command : Command
  pub rest : List Command
  pub split : commands ≡ front ++ command ∷ rest
  pub database : new ≡ after_all old front
  pub accepted : is_refused ((step (after_all old front) command).1) ≡ false
  pub lacks : limits.Lacks command n

-- those in front were carried out, and the next broke off
pub record BreaksAtCommand (limits : Limits) (commands : List Command) (old : Database) : Type 0 where
  pub front : List Command
  pub command : Command
  pub rest : List Command
  pub split : commands ≡ front ++ command ∷ rest
  pub breaks : limits.Breaks (after_all old front) command

-- and the replies to those in front were counted
pub record CountedUntil (limits : Limits) (commands : List Command) (old new : Database) (t : Tally) (n : ℕ) : Type 0 where
  pub stops : StopsAtCommand limits commands old new n
  pub tally_is : t ≡ tally nothing (replies old stops.front)

-- P of the pages, where there was no space
abbrev pub OnSpaceFailure : Result ⊤ Failure → (ℕ → Type 0) → Type 0
OnSpaceFailure (Ok done) P = ⊤
OnSpaceFailure (Err (NoSpace need)) P = P need
OnSpaceFailure (Err Flash) P = ⊤
