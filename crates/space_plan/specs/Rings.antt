-- Commands that put rows into relations and take them out, as loggers do that keep the last days, and the slots that they use.
-- A removed row has its slot until a PACK.
use Rattle.std.specs.Prelude.{◌≡◌, ◌≢◌, ⊤, ℕ, ◌+◌, ◌≤◌, Bool, true, false, List, ◌++◌, length}
use Rattle.std.specs.List.{AllByRecursion}
use Rattle.db_model.specs.declared.commands.Command.{Command}
use Rattle.db_model.specs.declared.commands.Command.TheVariants as command
use Rattle.db_model.specs.declared.schemas.IndexKind.TheVariants.{MaxHeap}
use Rattle.db_model.specs.Catalog.{Index}
use Rattle.db_model.specs.Database.{Relation, Database}
use Rattle.db_model.specs.Row.{row_length}
use Rattle.db_model.specs.Sound.{StandsIn}
use Rattle.db_model.specs.Step.{Reads, after_all}

-- it is an INSERT, a REMOVE FROM, a PACK, a query, an aggregate, an OPEN, a FETCH or a CLOSE
abbrev pub IsOfRows : Command → Type 0
IsOfRows (command.Insert values relation) = ⊤
IsOfRows (command.RemoveFrom relation nodes) = ⊤
IsOfRows (command.Pack relation) = ⊤
IsOfRows c = Reads c

-- each relation has at most this many slots more than it had, by its name
abbrev pub HasFewMore : (most : List ℕ → ℕ) → (db now : Database) → Type 0
HasFewMore most db now = (slot : ℕ) (r q : Relation) → StandsIn db.relations slot r → StandsIn now.relations slot q
    → length q.rows ≤ length r.rows + most r.schema.name

-- commands of rows, which at any time leave each relation at most this many slots more
pub record KeepsToRing (most : List ℕ → ℕ) (db : Database) (commands : List Command) : Type 0 where
  pub kinds : AllByRecursion IsOfRows commands
  pub few : (front rest : List Command) → commands ≡ front ++ rest → HasFewMore most db (after_all db front)

-- ---- relations that come and go

-- no index is a hash tree
abbrev pub HasNoTree : Database → Type 0
HasNoTree db = (slot : ℕ) (index : Index) → StandsIn db.indexes slot index → index.kind ≢ MaxHeap

-- whether a command makes one
abbrev pub makes_tree : Command → Bool
makes_tree (command.CreateIndex relation attribute MaxHeap) = true
makes_tree c = false

-- the rows of a relation are no longer than those of another, and use at most this many slots more
pub record IsNoLarger (most : ℕ) (r q : Relation) : Type 0 where
  pub width : row_length q.schema.attributes ≤ row_length r.schema.attributes
  pub few : length q.rows ≤ length r.rows + most

-- each slot has no relation, or one that is no larger than the one that was there, whatever its name
abbrev pub HasNoneLarger : (most : List ℕ → ℕ) → (db now : Database) → Type 0
HasNoneLarger most db now = (slot : ℕ) (q : Relation) → StandsIn now.relations slot q
    → (r : Relation) × StandsIn db.relations slot r × IsNoLarger (most r.schema.name) r q

-- commands that make no hash tree, over a database without any, and at any time leave no relation larger
pub record KeepsToSlots (most : List ℕ → ℕ) (db : Database) (commands : List Command) : Type 0 where
  pub treeless : HasNoTree db
  pub kinds : AllByRecursion (λ c. makes_tree c ≡ false) commands
  pub few : (front rest : List Command) → commands ≡ front ++ rest → HasNoneLarger most db (after_all db front)
