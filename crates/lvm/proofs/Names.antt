-- The names among the nodes of a condition are those of its trees.
use Rattle.std.proofs.Common.{◌≡◌, ℕ, List, [], ◌∷◌, ◌++◌, Some, refl, ap, sym, ◌∙◌, append_assoc, append-nil}
use Rattle.db_model.specs.declared.commands.Node.{Node}
use Rattle.db_model.specs.Cond.{Leaf, Number, Text, Attribute as Name, Arithmetic, Plus, Minus, Times, Over, Expr, Tip, Arith, Tree, OfExpr, OfCond, leaf_node, arithmetic_node, joined, joined_all}
use Rattle.db_model.specs.Typing.{names_in, names}
use Rattle.lvm.specs.Instruction.{names_of_node, names_among}
use Rattle.lvm.proofs.Joining.{by_join, Between, between}
use Rattle.padded.proofs.Facts.{some_same}

abbrev pub names_of_tree : Tree → List (List ℕ)
names_of_tree (OfExpr e) = names_in e
names_of_tree (OfCond c) = names c

-- the names of some trees, the latest tree being first
abbrev pub all_names : List Tree → List (List ℕ)
all_names [] = []
all_names (t ∷ ts) = all_names ts ++ names_of_tree t

abbrev Adds : Node → List Tree → List Tree → Type 0
Adds n ts us = all_names us ≡ all_names ts ++ names_of_node n

leaf-adds : (leaf : Leaf) (ts : List Tree) → Adds (leaf_node leaf) ts (OfExpr (Tip leaf) ∷ ts)
leaf-adds (Number z) ts = refl
leaf-adds (Text bytes) ts = refl
leaf-adds (Name name) ts = refl

grouped : (xs ys zs : List (List ℕ)) → xs ++ (ys ++ zs) ≡ ((xs ++ ys) ++ zs) ++ []
grouped xs ys zs = simp (append-nil, append_assoc)

sign-adds : (s : Arithmetic) (a b : Expr) (ts : List Tree) → Adds (arithmetic_node s) (OfExpr b ∷ OfExpr a ∷ ts) (OfExpr (Arith s a b) ∷ ts)
sign-adds Plus a b ts = grouped (all_names ts) (names_in a) (names_in b)
sign-adds Minus a b ts = grouped (all_names ts) (names_in a) (names_in b)
sign-adds Times a b ts = grouped (all_names ts) (names_in a) (names_in b)
sign-adds Over a b ts = grouped (all_names ts) (names_in a) (names_in b)

node-adds : (n : Node) (ts us : List Tree) → joined n ts ≡ Some us → Adds n ts us
node-adds = by_join Adds leaf-adds sign-adds
    (λ how a b ts. grouped (all_names ts) (names_in a) (names_in b))
    (λ c ts. sym (append-nil (all_names ts ++ names c)))
    (λ c d ts. grouped (all_names ts) (names c) (names d))
    (λ c d ts. grouped (all_names ts) (names c) (names d))

pub names-nodes : (nodes : List Node) (ts us : List Tree) → joined_all nodes ts ≡ Some us → all_names us ≡ all_names ts ++ names_among nodes
names-nodes [] ts us j = ap all_names (sym (some_same ts us j)) ∙ sym (append-nil (all_names ts))
names-nodes (n ∷ ns) ts us j =
    let b : Between n ns ts us = between n ns ts us j in
    names-nodes ns b.trees us b.others
    ∙ ap (λ xs. xs ++ names_among ns) (node-adds n ts b.trees b.first)
    ∙ append_assoc (all_names ts) (names_of_node n) (names_among ns)
