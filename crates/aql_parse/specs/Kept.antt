-- What is kept of the nodes of a condition: the first 32, and whether there are more.
use Rattle.std.specs.Prelude.{◌≡◌, ◌<◌, ◌≤◌, true, false, Option, Some, None, List, [], ◌∷◌, ◌++◌, length, nat_lt, if◌then◌else◌}
use Rattle.db_model.specs.declared.commands.Node.{Node}
use Rattle.aql_parse.specs.declared.nodes.Nodes.{Nodes}

abbrev pub kept_one : Nodes → Node → Nodes
kept_one k n = if nat_lt (length k.first) 32 then record { first = k.first ++ n ∷ []; over = k.over } else record { first = k.first; over = true }

abbrev pub kept : Nodes → List Node → Nodes
kept k [] = k
kept k (n ∷ ns) = kept (kept_one k n) ns

-- what is kept is all, or the first 32 of more
pub record KeepsNodes (all : List Node) (k : Nodes) : Type 0 where
  pub whole : k.over ≡ false → k.first ≡ all
  pub more : k.over ≡ true → 32 < length all
  pub few : length k.first ≤ 32

-- there are nodes, and they are kept
abbrev pub AreKept : Option (List Node) → Nodes → Type 0
AreKept None k = ⊥
AreKept (Some all) k = KeepsNodes all k
