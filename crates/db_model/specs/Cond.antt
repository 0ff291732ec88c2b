-- Expressions and conditions as trees, and their nodes in postfix order.
use Rattle.std.specs.Prelude.{ℕ, ℤ, List, [], ◌∷◌, ◌++◌, Option, Some, None, option_and_then, IsSome}
use Rattle.db_model.specs.declared.commands.Compare.{Compare}
use Rattle.db_model.specs.declared.commands.Node.{Node}
use Rattle.db_model.specs.declared.commands.Node.TheVariants as node

-- what stands at the tips of an expression: a number with its sign, a text between quotes, the name of an attribute
pub data Leaf : Type 0 where
  Number : ℤ → Leaf
  Text : List ℕ → Leaf
  Attribute : List ℕ → Leaf

-- the signs + - * /
pub data Arithmetic : Type 0 where
  Plus : Arithmetic
  Minus : Arithmetic
  Times : Arithmetic
  Over : Arithmetic

pub data Expr : Type 0 where
  Tip : Leaf → Expr
  Arith : Arithmetic → Expr → Expr → Expr

pub data Cond : Type 0 where
  Comparison : Compare → Expr → Expr → Cond
  Not : Cond → Cond
  And : Cond → Cond → Cond
  Or : Cond → Cond → Cond

abbrev pub leaf_node : Leaf → Node
leaf_node (Number z) = node.Number z
leaf_node (Text bytes) = node.Text bytes
leaf_node (Attribute name) = node.Attribute name

abbrev pub arithmetic_node : Arithmetic → Node
arithmetic_node Plus = node.Add
arithmetic_node Minus = node.Sub
arithmetic_node Times = node.Mul
arithmetic_node Over = node.Div

-- ---- postfix order: both sides, then what joins them

abbrev pub postfix_expr : Expr → List Node
postfix_expr (Tip leaf) = leaf_node leaf ∷ []
postfix_expr (Arith sign a b) = postfix_expr a ++ postfix_expr b ++ arithmetic_node sign ∷ []

abbrev pub postfix : Cond → List Node
postfix (Comparison how a b) = postfix_expr a ++ postfix_expr b ++ node.Compare how ∷ []
postfix (Not c) = postfix c ++ node.Not ∷ []
postfix (And c d) = postfix c ++ postfix d ++ node.And ∷ []
postfix (Or c d) = postfix c ++ postfix d ++ node.Or ∷ []

-- ---- the tree that a postfix list spells

pub data Tree : Type 0 where
  OfExpr : Expr → Tree
  OfCond : Cond → Tree

-- the trees once a node has joined the latest of them, the latest being first; none where it has nothing to join
abbrev pub joined : Node → List Tree → Option (List Tree)
joined (node.Number z) ts = Some (OfExpr (Tip (Number z)) ∷ ts)
joined (node.Text bytes) ts = Some (OfExpr (Tip (Text bytes)) ∷ ts)
joined (node.Attribute name) ts = Some (OfExpr (Tip (Attribute name)) ∷ ts)
joined node.Add (OfExpr b ∷ OfExpr a ∷ ts) = Some (OfExpr (Arith Plus a b) ∷ ts)
joined node.Sub (OfExpr b ∷ OfExpr a ∷ ts) = Some (OfExpr (Arith Minus a b) ∷ ts)
joined node.Mul (OfExpr b ∷ OfExpr a ∷ ts) = Some (OfExpr (Arith Times a b) ∷ ts)
joined node.Div (OfExpr b ∷ OfExpr a ∷ ts) = Some (OfExpr (Arith Over a b) ∷ ts)
joined (node.Compare how) (OfExpr b ∷ OfExpr a ∷ ts) = Some (OfCond (Comparison how a b) ∷ ts)
joined node.Not (OfCond c ∷ ts) = Some (OfCond (Not c) ∷ ts)
joined node.And (OfCond d ∷ OfCond c ∷ ts) = Some (OfCond (And c d) ∷ ts)
joined node.Or (OfCond d ∷ OfCond c ∷ ts) = Some (OfCond (Or c d) ∷ ts)
joined _ _ = None

abbrev pub joined_all : List Node → List Tree → Option (List Tree)
joined_all [] ts = Some ts
joined_all (n ∷ ns) ts = option_and_then (joined_all ns) (joined n ts)

abbrev pub sole_condition : List Tree → Option Cond
sole_condition (OfCond c ∷ []) = Some c
sole_condition _ = None

-- the condition whose postfix list the nodes are; none for the empty list, which stands for 'no WHERE'
abbrev pub condition_of : List Node → Option Cond
condition_of nodes = option_and_then sole_condition (joined_all nodes [])

-- the nodes that a command may hold: none, or those of a condition
abbrev pub IsCondition : List Node → Type 0
IsCondition [] = Unit {0}
IsCondition (n ∷ ns) = IsSome (condition_of (n ∷ ns))
