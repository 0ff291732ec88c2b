-- The nodes of a condition join its trees one by one, and a machine over its steps keeps pace.
use Rattle.std.proofs.Common.{◌≡◌, List, [], ◌∷◌, map, Option, Some, None, refl, ap, ◌∙◌, subst, option_map, option_and_then}
use Rattle.std.specs.Prelude.{IfSome}
use Rattle.db_model.specs.declared.commands.Compare.{Compare}
use Rattle.db_model.specs.declared.commands.Node.{Node}
use Rattle.db_model.specs.declared.commands.Node.TheVariants as node
use Rattle.db_model.specs.declared.schemas.Attribute.{Attribute}
use Rattle.db_model.specs.Cond.{Leaf, Number, Text, Attribute as Name, Arithmetic, Plus, Minus, Times, Over, Expr, Tip, Arith, Cond, Comparison, Not, And, Or, Tree, OfExpr, OfCond, leaf_node, arithmetic_node, joined, joined_all}
use Rattle.lvm.specs.declared.instruction.Instruction.{Instruction}
use Rattle.lvm.specs.Instruction.{instruction_for, instructions_for}
use Rattle.padded.proofs.Facts.{some_same}

-- a node that joins trees is one of six kinds
pub by_join : (P : Node → List Tree → List Tree → Type 0)
    → ((leaf : Leaf) (ts : List Tree) → P (leaf_node leaf) ts (OfExpr (Tip leaf) ∷ ts))
    → ((sign : Arithmetic) (a b : Expr) (ts : List Tree) → P (arithmetic_node sign) (OfExpr b ∷ OfExpr a ∷ ts) (OfExpr (Arith sign a b) ∷ ts))
    → ((how : Compare) (a b : Expr) (ts : List Tree) → P (node.Compare how) (OfExpr b ∷ OfExpr a ∷ ts) (OfCond (Comparison how a b) ∷ ts))
    → ((c : Cond) (ts : List Tree) → P node.Not (OfCond c ∷ ts) (OfCond (Not c) ∷ ts))
    → ((c d : Cond) (ts : List Tree) → P node.And (OfCond d ∷ OfCond c ∷ ts) (OfCond (And c d) ∷ ts))
    → ((c d : Cond) (ts : List Tree) → P node.Or (OfCond d ∷ OfCond c ∷ ts) (OfCond (Or c d) ∷ ts))
    → (n : Node) (ts us : List Tree) → joined n ts ≡ Some us → P n ts us
by_join P leaf arith comparison not and or (node.Number z) ts us e = subst (P (node.Number z) ts) (some_same _ _ e) (leaf (Number z) ts)
by_join P leaf arith comparison not and or (node.Text bytes) ts us e = subst (P (node.Text bytes) ts) (some_same _ _ e) (leaf (Text bytes) ts)
by_join P leaf arith comparison not and or (node.Attribute name) ts us e = subst (P (node.Attribute name) ts) (some_same _ _ e) (leaf (Name name) ts)
by_join P leaf arith comparison not and or node.Add (OfExpr b ∷ OfExpr a ∷ ts) us e = subst (P node.Add (OfExpr b ∷ OfExpr a ∷ ts)) (some_same _ _ e) (arith Plus a b ts)
by_join P leaf arith comparison not and or node.Sub (OfExpr b ∷ OfExpr a ∷ ts) us e = subst (P node.Sub (OfExpr b ∷ OfExpr a ∷ ts)) (some_same _ _ e) (arith Minus a b ts)
by_join P leaf arith comparison not and or node.Mul (OfExpr b ∷ OfExpr a ∷ ts) us e = subst (P node.Mul (OfExpr b ∷ OfExpr a ∷ ts)) (some_same _ _ e) (arith Times a b ts)
by_join P leaf arith comparison not and or node.Div (OfExpr b ∷ OfExpr a ∷ ts) us e = subst (P node.Div (OfExpr b ∷ OfExpr a ∷ ts)) (some_same _ _ e) (arith Over a b ts)
by_join P leaf arith comparison not and or (node.Compare how) (OfExpr b ∷ OfExpr a ∷ ts) us e = subst (P (node.Compare how) (OfExpr b ∷ OfExpr a ∷ ts)) (some_same _ _ e) (comparison how a b ts)
by_join P leaf arith comparison not and or node.Not (OfCond c ∷ ts) us e = subst (P node.Not (OfCond c ∷ ts)) (some_same _ _ e) (not c ts)
by_join P leaf arith comparison not and or node.And (OfCond d ∷ OfCond c ∷ ts) us e = subst (P node.And (OfCond d ∷ OfCond c ∷ ts)) (some_same _ _ e) (and c d ts)
by_join P leaf arith comparison not and or node.Or (OfCond d ∷ OfCond c ∷ ts) us e = subst (P node.Or (OfCond d ∷ OfCond c ∷ ts)) (some_same _ _ e) (or c d ts)
by_join P leaf arith comparison not and or _ _ us e = cc

-- the trees between the first node and the rest
pub record Between (n : Node) (ns : List Node) (ts us : List Tree) : Type 0 where
  pub trees : List Tree
  pub first : joined n ts ≡ Some trees
  pub others : joined_all ns trees ≡ Some us

between-at : (n : Node) (ns : List Node) (ts us : List Tree) (o : Option (List Tree)) → joined n ts ≡ o → option_and_then (joined_all ns) o ≡ Some us → Between n ns ts us
between-at n ns ts us None e f = cc
between-at n ns ts us (Some trees) e f = record { trees = trees; first = e; others = f }

pub between : (n : Node) (ns : List Node) (ts us : List Tree) → joined_all (n ∷ ns) ts ≡ Some us → Between n ns ts us
between n ns ts us e = between-at n ns ts us (joined n ts) refl e

-- the step of the first node, and those of the rest
pub record Steps (attributes : List Attribute) (n : Node) (ns : List Node) (code : List Instruction) : Type 0 where
  pub step : Instruction
  pub rest : List Instruction
  pub first : instruction_for attributes n ≡ Some step
  pub others : instructions_for attributes ns ≡ Some rest
  pub both : step ∷ rest ≡ code

steps-at : (attributes : List Attribute) (n : Node) (ns : List Node) (code : List Instruction) (o : Option Instruction) (os : Option (List Instruction))
    → instruction_for attributes n ≡ o → instructions_for attributes ns ≡ os → option_and_then (λ i. option_map (λ is. i ∷ is) os) o ≡ Some code → Steps attributes n ns code
steps-at attributes n ns code None os e f h = cc
steps-at attributes n ns code (Some i) None e f h = cc
steps-at attributes n ns code (Some i) (Some is) e f h = record { step = i; rest = is; first = e; others = f; both = some_same _ _ h }

pub steps : (attributes : List Attribute) (n : Node) (ns : List Node) (code : List Instruction) → instructions_for attributes (n ∷ ns) ≡ Some code → Steps attributes n ns code
steps attributes n ns code e = steps-at attributes n ns code (instruction_for attributes n) (instructions_for attributes ns) refl refl e

-- what holds of the step of a node, where it has one
pub at_step : (P : Instruction → Type 0) (o : Option Instruction) (i : Instruction) → o ≡ Some i → IfSome o P → P i
at_step P None i e h = cc
at_step P (Some j) i e h = subst P (some_same j i e) h

-- A machine whose single step keeps pace with a node keeps pace with all nodes.
pub keeps_pace : {X : Type 0} (attributes : List Attribute) (step : Instruction → List X → List X) (run : List Instruction → List X → List X) (m : Tree → X)
    → ((s : List X) → run [] s ≡ s) → ((i : Instruction) (is : List Instruction) (s : List X) → run (i ∷ is) s ≡ run is (step i s))
    → ((n : Node) (ts us : List Tree) → joined n ts ≡ Some us → IfSome (instruction_for attributes n) (λ i. step i (map m ts) ≡ map m us))
    → (nodes : List Node) (code : List Instruction) (ts us : List Tree) → joined_all nodes ts ≡ Some us → instructions_for attributes nodes ≡ Some code
    → run code (map m ts) ≡ map m us
keeps_pace attributes step run m nil cons one [] code ts us j c =
    subst (λ is. run is (map m ts) ≡ map m us) (some_same [] code c) (nil (map m ts) ∙ ap (map m) (some_same ts us j))
keeps_pace attributes step run m nil cons one (n ∷ ns) code ts us j c =
    let b : Between n ns ts us = between n ns ts us j in
    let k : Steps attributes n ns code = steps attributes n ns code c in
    let e : step k.step (map m ts) ≡ map m b.trees = at_step (λ i. step i (map m ts) ≡ map m b.trees) (instruction_for attributes n) k.step k.first (one n ts b.trees b.first) in
    let r : run k.rest (map m b.trees) ≡ map m us = keeps_pace attributes step run m nil cons one ns k.rest b.trees us b.others k.others in
    subst (λ is. run is (map m ts) ≡ map m us) k.both (cons k.step k.rest (map m ts) ∙ ap (run k.rest) e ∙ r)
