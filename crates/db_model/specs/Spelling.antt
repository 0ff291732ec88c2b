-- What the bytes of a command spell, and where a refused one goes wrong.
use Rattle.std.specs.Prelude.{◌≡◌, ℕ, zero, suc, ◌≤◌, true, List, [], ◌++◌, length, take, get_or}
use Rattle.db_model.specs.Grammar.{Spells}
use Rattle.db_model.specs.Tokens.{tokens_of}
use Rattle.db_model.specs.declared.commands.Command.{Command}
use Rattle.db_model.specs.declared.commands.Command.TheVariants.{CreateRelation, CreateAttribute, CreateIndex, Insert, Ask, Aggregate, RemoveFrom, RemoveRelation, RemoveIndex, Pack, OpenCursor, FetchCursor, CloseCursor}
use Rattle.db_model.specs.declared.commands.Node.{Node}
use Rattle.db_model.specs.declared.commands.Query.{Query}
use Rattle.db_model.specs.declared.commands.Query.TheVariants.{Select, Join}
use Rattle.db_model.specs.declared.tokens.Token.{Token}

-- the bytes spell a command: they are tokens to their end, and these spell it
pub record IsSpelt (command : Command) (bytes : List ℕ) : Type 0 where
  pub whole : (tokens_of bytes).whole ≡ true
  pub spelling : Spells command (tokens_of bytes).items

-- some tokens begin a command: there are tokens which, put after them, make a spelling of one
pub record Begins (ts : List Token) : Type 0 where
  pub rest : List Token
  pub command : Command
  pub spelling : Spells command (ts ++ rest)

-- the first n tokens begin a command, and no more of them do
pub record IsLongestFront (ts : List Token) (n : ℕ) : Type 0 where
  pub fits : n ≤ length ts
  pub begins : Begins (take n ts)
  pub longest : (m : ℕ) → m ≤ length ts → Begins (take m ts) → m ≤ n

-- where the nth token ends, 0 for none
abbrev pub end_of : List ℕ → ℕ → ℕ
end_of ends zero = 0
end_of ends (suc n) = get_or ends n 0

-- a place is the end of the longest prefix of the tokens that begins some command
pub record GoesWrongAt (bytes : List ℕ) (at : ℕ) : Type 0 where
  pub tokens : ℕ
  pub longest : IsLongestFront (tokens_of bytes).items tokens
  pub place : at ≡ end_of (tokens_of bytes).ends tokens

-- ---- the nodes of a command's condition

abbrev pub query_nodes : Query → List Node
query_nodes (Select list relation nodes) = nodes
query_nodes (Join left right on list) = []

abbrev pub nodes_of : Command → List Node
nodes_of (Ask query) = query_nodes query
nodes_of (Aggregate list relation nodes) = nodes
nodes_of (RemoveFrom relation nodes) = nodes
nodes_of (OpenCursor number query) = query_nodes query
nodes_of (CreateRelation name) = []
nodes_of (CreateAttribute name domain relation) = []
nodes_of (CreateIndex relation attribute kind) = []
nodes_of (Insert values relation) = []
nodes_of (RemoveRelation relation) = []
nodes_of (RemoveIndex relation attribute) = []
nodes_of (Pack relation) = []
nodes_of (FetchCursor number) = []
nodes_of (CloseCursor number) = []
