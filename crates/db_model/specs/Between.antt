-- The databases between that before a command and that after it: one of them a cut in the middle of the command leaves.
use Rattle.std.specs.Prelude.{◌≡◌, ◌⊎◌, ℕ, ◌≤◌, List, ◌++◌, length, map, take, drop, Option, Some, IsOk}
use Rattle.db_model.specs.declared.commands.Command.{Command}
use Rattle.db_model.specs.declared.commands.Command.TheVariants as command
use Rattle.db_model.specs.Answers.{selected}
use Rattle.db_model.specs.Cond.{Cond, condition_of}
use Rattle.db_model.specs.Database.{Database, Relation, bare, relation_named, with_relation}
use Rattle.db_model.specs.Step.{outcome, removed_row, step}

-- the same but for the version
abbrev pub AreAlike : Database → Database → Type 0
AreAlike a b = a ≡ record b { version = a.version }

-- the rows that satisfy a condition are removed in the first n slots
abbrev pub removed_in : ℕ → Option Cond → Relation → Relation
removed_in n condition r = record r {
  rows = map (removed_row r.schema.attributes condition) (take n r.rows) ++ drop n r.rows;
}

-- of the rows that a REMOVE FROM removes, at most 29, those in the first slots are removed
pub record IsRemovedInPart (before : Database) (relation : List ℕ) (condition : Option Cond) (now : Database) : Type 0 where
  pub slot : ℕ
  pub r : Relation
  pub named : relation_named before relation ≡ Some (slot, r)
  pub few : length (selected r.schema.attributes condition r.rows) ≤ 29
  pub slots : ℕ
  pub is : AreAlike now (bare (with_relation before slot (Some (removed_in slots condition r))))

abbrev pub RemovesPart : Database → Command → Database → Type 0
RemovesPart before (command.RemoveFrom relation nodes) now = IsOk (outcome before (command.RemoveFrom relation nodes)) × IsRemovedInPart before relation (condition_of nodes) now
RemovesPart before _ now = ⊥

-- without its cursors: the one before the command, or the one after it, but for the version; or, where the command removes
-- rows, one in which it has removed some
abbrev pub IsBetween : Database → Command → Database → Type 0
IsBetween before command now = AreAlike now (bare before) ⊎ (AreAlike now (bare (step before command).0) ⊎ RemovesPart before command now)
