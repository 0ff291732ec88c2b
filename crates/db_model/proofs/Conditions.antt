-- A postfix list spells the tree that it was made from, and no other list does.
use Rattle.std.proofs.Common.{◌≡◌, refl, sym, ap, ◌∙◌, List, [], ◌∷◌, ◌++◌, Option, Some, None, append_assoc, append-nil}
use Rattle.std.specs.Prelude.{unwrap_or, option_and_then}
use Rattle.db_model.specs.declared.commands.Node.{Node}
use Rattle.db_model.specs.declared.commands.Node.TheVariants as node
use Rattle.db_model.specs.Cond.{Number, Text, Attribute, Arithmetic, Plus, Minus, Times, Over, Expr, Tip, Arith, Cond, Comparison, Not, And, Or, Tree, OfExpr, OfCond, arithmetic_node, postfix_expr, postfix, joined, joined_all, sole_condition, condition_of}

arithmetic-joined : (sign : Arithmetic) (a b : Expr) (rest : List Node) (ts : List Tree) → joined_all (arithmetic_node sign ∷ rest) (OfExpr b ∷ OfExpr a ∷ ts) ≡ joined_all rest (OfExpr (Arith sign a b) ∷ ts)
arithmetic-joined Plus a b rest ts = refl
arithmetic-joined Minus a b rest ts = refl
arithmetic-joined Times a b rest ts = refl
arithmetic-joined Over a b rest ts = refl

-- two lists and a node, before a rest
three : (xs ys : List Node) (n : Node) (rest : List Node) → (xs ++ ys ++ n ∷ []) ++ rest ≡ xs ++ (ys ++ n ∷ rest)
three xs ys n rest = rw (append_assoc xs ys (n ∷ []), append_assoc xs (ys ++ n ∷ []) rest, append_assoc ys (n ∷ []) rest) refl

pub expr-joined : (e : Expr) (rest : List Node) (ts : List Tree) → joined_all (postfix_expr e ++ rest) ts ≡ joined_all rest (OfExpr e ∷ ts)
expr-joined (Tip (Number z)) rest ts = refl
expr-joined (Tip (Text bytes)) rest ts = refl
expr-joined (Tip (Attribute name)) rest ts = refl
expr-joined (Arith sign a b) rest ts =
    ap (λ ns. joined_all ns ts) (three (postfix_expr a) (postfix_expr b) (arithmetic_node sign) rest)
    ∙ expr-joined a (postfix_expr b ++ arithmetic_node sign ∷ rest) ts
    ∙ expr-joined b (arithmetic_node sign ∷ rest) (OfExpr a ∷ ts)
    ∙ arithmetic-joined sign a b rest ts

pub cond-joined : (c : Cond) (rest : List Node) (ts : List Tree) → joined_all (postfix c ++ rest) ts ≡ joined_all rest (OfCond c ∷ ts)
cond-joined (Comparison how a b) rest ts =
    ap (λ ns. joined_all ns ts) (three (postfix_expr a) (postfix_expr b) (node.Compare how) rest)
    ∙ expr-joined a (postfix_expr b ++ node.Compare how ∷ rest) ts
    ∙ expr-joined b (node.Compare how ∷ rest) (OfExpr a ∷ ts)
cond-joined (Not c) rest ts = ap (λ ns. joined_all ns ts) (append_assoc (postfix c) (node.Not ∷ []) rest) ∙ cond-joined c (node.Not ∷ rest) ts
cond-joined (And c d) rest ts =
    ap (λ ns. joined_all ns ts) (three (postfix c) (postfix d) node.And rest)
    ∙ cond-joined c (postfix d ++ node.And ∷ rest) ts
    ∙ cond-joined d (node.And ∷ rest) (OfCond c ∷ ts)
cond-joined (Or c d) rest ts =
    ap (λ ns. joined_all ns ts) (three (postfix c) (postfix d) node.Or rest)
    ∙ cond-joined c (postfix d ++ node.Or ∷ rest) ts
    ∙ cond-joined d (node.Or ∷ rest) (OfCond c ∷ ts)

-- a condition is read back from its postfix list
pub condition_back : (c : Cond) → condition_of (postfix c) ≡ Some c
condition_back c = rw (← append-nil (postfix c)) (rw (cond-joined c [] []) refl)

-- ---- the other way: the nodes are those of the trees that they are read as

-- the nodes of trees, the latest of which is first
tree_nodes : Tree → List Node
tree_nodes (OfExpr e) = postfix_expr e
tree_nodes (OfCond c) = postfix c

all_nodes : List Tree → List Node
all_nodes [] = []
all_nodes (t ∷ ts) = all_nodes ts ++ tree_nodes t

four : (us xs ys : List Node) (n : Node) → us ++ (xs ++ ys ++ n ∷ []) ≡ ((us ++ xs) ++ ys) ++ n ∷ []
four us xs ys n = rw (append_assoc us xs ys, append_assoc us (xs ++ ys) (n ∷ []), append_assoc xs ys (n ∷ [])) refl

is : (ts us : List Tree) → Some ts ≡ Some us → all_nodes us ≡ all_nodes ts
is ts us e = ap (λ o. all_nodes (unwrap_or o [])) (sym e)

joined_nodes : (n : Node) (ts us : List Tree) → joined n ts ≡ Some us → all_nodes us ≡ all_nodes ts ++ n ∷ []
unfolding all_nodes tree_nodes
joined_nodes (node.Number z) ts us e = is (OfExpr (Tip (Number z)) ∷ ts) us e
joined_nodes (node.Text bytes) ts us e = is (OfExpr (Tip (Text bytes)) ∷ ts) us e
joined_nodes (node.Attribute name) ts us e = is (OfExpr (Tip (Attribute name)) ∷ ts) us e
joined_nodes node.Add [] us e = cc
joined_nodes node.Add (OfCond b ∷ ts) us e = cc
joined_nodes node.Add (OfExpr b ∷ []) us e = cc
joined_nodes node.Add (OfExpr b ∷ OfCond a ∷ ts) us e = cc
joined_nodes node.Add (OfExpr b ∷ OfExpr a ∷ ts) us e = is (OfExpr (Arith Plus a b) ∷ ts) us e ∙ four (all_nodes ts) (postfix_expr a) (postfix_expr b) node.Add
joined_nodes node.Sub [] us e = cc
joined_nodes node.Sub (OfCond b ∷ ts) us e = cc
joined_nodes node.Sub (OfExpr b ∷ []) us e = cc
joined_nodes node.Sub (OfExpr b ∷ OfCond a ∷ ts) us e = cc
joined_nodes node.Sub (OfExpr b ∷ OfExpr a ∷ ts) us e = is (OfExpr (Arith Minus a b) ∷ ts) us e ∙ four (all_nodes ts) (postfix_expr a) (postfix_expr b) node.Sub
joined_nodes node.Mul [] us e = cc
joined_nodes node.Mul (OfCond b ∷ ts) us e = cc
joined_nodes node.Mul (OfExpr b ∷ []) us e = cc
joined_nodes node.Mul (OfExpr b ∷ OfCond a ∷ ts) us e = cc
joined_nodes node.Mul (OfExpr b ∷ OfExpr a ∷ ts) us e = is (OfExpr (Arith Times a b) ∷ ts) us e ∙ four (all_nodes ts) (postfix_expr a) (postfix_expr b) node.Mul
joined_nodes node.Div [] us e = cc
joined_nodes node.Div (OfCond b ∷ ts) us e = cc
joined_nodes node.Div (OfExpr b ∷ []) us e = cc
joined_nodes node.Div (OfExpr b ∷ OfCond a ∷ ts) us e = cc
joined_nodes node.Div (OfExpr b ∷ OfExpr a ∷ ts) us e = is (OfExpr (Arith Over a b) ∷ ts) us e ∙ four (all_nodes ts) (postfix_expr a) (postfix_expr b) node.Div
joined_nodes (node.Compare how) [] us e = cc
joined_nodes (node.Compare how) (OfCond b ∷ ts) us e = cc
joined_nodes (node.Compare how) (OfExpr b ∷ []) us e = cc
joined_nodes (node.Compare how) (OfExpr b ∷ OfCond a ∷ ts) us e = cc
joined_nodes (node.Compare how) (OfExpr b ∷ OfExpr a ∷ ts) us e = is (OfCond (Comparison how a b) ∷ ts) us e ∙ four (all_nodes ts) (postfix_expr a) (postfix_expr b) (node.Compare how)
joined_nodes node.And [] us e = cc
joined_nodes node.And (OfExpr b ∷ ts) us e = cc
joined_nodes node.And (OfCond b ∷ []) us e = cc
joined_nodes node.And (OfCond b ∷ OfExpr a ∷ ts) us e = cc
joined_nodes node.And (OfCond b ∷ OfCond a ∷ ts) us e = is (OfCond (And a b) ∷ ts) us e ∙ four (all_nodes ts) (postfix a) (postfix b) node.And
joined_nodes node.Or [] us e = cc
joined_nodes node.Or (OfExpr b ∷ ts) us e = cc
joined_nodes node.Or (OfCond b ∷ []) us e = cc
joined_nodes node.Or (OfCond b ∷ OfExpr a ∷ ts) us e = cc
joined_nodes node.Or (OfCond b ∷ OfCond a ∷ ts) us e = is (OfCond (Or a b) ∷ ts) us e ∙ four (all_nodes ts) (postfix a) (postfix b) node.Or
joined_nodes node.Not [] us e = cc
joined_nodes node.Not (OfExpr b ∷ ts) us e = cc
joined_nodes node.Not (OfCond c ∷ ts) us e = is (OfCond (Not c) ∷ ts) us e ∙ sym (append_assoc (all_nodes ts) (postfix c) (node.Not ∷ []))

joined_all_nodes : (ns : List Node) (ts us : List Tree) → joined_all ns ts ≡ Some us → all_nodes us ≡ all_nodes ts ++ ns
joined_all_nodes [] ts us e = is ts us e ∙ sym (append-nil (all_nodes ts))
joined_all_nodes (n ∷ ns) ts us e = by_first (joined n ts) (joined_nodes n ts) (λ vs f. joined_all_nodes ns vs us f) e
  where
    by_first : (o : Option (List Tree)) → ((vs : List Tree) → o ≡ Some vs → all_nodes vs ≡ all_nodes ts ++ n ∷ []) → ((vs : List Tree) → joined_all ns vs ≡ Some us → all_nodes us ≡ all_nodes vs ++ ns) → option_and_then (joined_all ns) o ≡ Some us → all_nodes us ≡ all_nodes ts ++ n ∷ ns
    by_first None first rest f = cc
    by_first (Some vs) first rest f = rest vs f ∙ ap (λ xs. xs ++ ns) (first vs refl) ∙ append_assoc (all_nodes ts) (n ∷ []) ns

pub condition_only : (nodes : List Node) (c : Cond) → condition_of nodes ≡ Some c → postfix c ≡ nodes
unfolding all_nodes tree_nodes
condition_only nodes c e = by_trees (joined_all nodes []) (joined_all_nodes nodes []) e
  where
    by_trees : (o : Option (List Tree)) → ((us : List Tree) → o ≡ Some us → all_nodes us ≡ nodes) → option_and_then sole_condition o ≡ Some c → postfix c ≡ nodes
    by_trees None all f = cc
    by_trees (Some []) all f = cc
    by_trees (Some (OfExpr a ∷ ts)) all f = cc
    by_trees (Some (OfCond d ∷ t ∷ ts)) all f = cc
    by_trees (Some (OfCond d ∷ [])) all f = ap (λ o. postfix (unwrap_or o d)) (sym f) ∙ all (OfCond d ∷ []) refl
