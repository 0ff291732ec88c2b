-- What the bytes of a command are read as: the command that they spell, or why they are refused.
use Rattle.std.specs.Prelude.{◌≡◌, ℕ, ◌<◌, ◌≤◌, List, length, Result, Ok, Err}
use Rattle.db_model.specs.declared.commands.Command.{Command}
use Rattle.db_model.specs.declared.refusals.Pool.{Pool}
use Rattle.db_model.specs.declared.refusals.Pool.TheVariants.{Nodes}
use Rattle.db_model.specs.declared.refusals.Refusal.{Refusal}
use Rattle.db_model.specs.declared.refusals.Refusal.TheVariants.{Syntax, Full}
use Rattle.db_model.specs.Spelling.{IsSpelt, GoesWrongAt, nodes_of}

-- the bytes spell no command, and go wrong at a place
pub record IsNoCommand (bytes : List ℕ) (at : ℕ) : Type 0 where
  pub none : (command : Command) → IsSpelt command bytes → ⊥
  pub wrong : GoesWrongAt bytes at

-- the bytes spell a command whose condition has more than 32 nodes
pub record IsTooLarge (bytes : List ℕ) (pool : Pool) (limit : ℕ) : Type 0 where
  pub nodes : pool ≡ Nodes
  pub few : limit ≡ 32
  pub command : Command
  pub spelt : IsSpelt command bytes
  pub many : 32 < length (nodes_of command)

-- a relation, since spelling is one: the grammar says which tokens spell a command, and not how one is found
abbrev pub IsReading : List ℕ → Result Command Refusal → Type 0
IsReading bytes (Ok command) = IsSpelt command bytes × (length (nodes_of command) ≤ 32)
IsReading bytes (Err (Syntax at)) = IsNoCommand bytes at
IsReading bytes (Err (Full pool limit)) = IsTooLarge bytes pool limit
IsReading bytes (Err _) = ⊥

-- a function that reads the bytes of each command as they are to be read
pub record IsReader (read : List ℕ → Result Command Refusal) : Type 0 where
  pub reads : (bytes : List ℕ) → IsReading bytes (read bytes)
