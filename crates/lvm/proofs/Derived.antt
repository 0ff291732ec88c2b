-- Derivation by steps gives the ranges of the trees.
use Rattle.std.proofs.Common.{◌≡◌, ℕ, ℤ, List, ◌∷◌, map, Option, Some, None, refl, ap, option_map, if◌then◌else◌}
use Rattle.std.specs.Prelude.{IfSome}
use Rattle.db_model.specs.declared.commands.Compare.{Compare}
use Rattle.db_model.specs.declared.commands.Node.{Node}
use Rattle.db_model.specs.declared.schemas.Attribute.{Attribute}
use Rattle.db_model.specs.Cond.{Leaf, Number, Text, Attribute as Name, Arithmetic, Plus, Minus, Times, Over, Expr, Tip, Arith, Comparison, Tree, OfExpr, OfCond, leaf_node, arithmetic_node, joined, joined_all}
use Rattle.db_model.specs.Item.{place_of}
use Rattle.db_model.specs.Ranges.{everything, compared_to, mirrored, range, is_at}
use Rattle.lvm.specs.declared.instruction.Instruction.{Instruction}
use Rattle.lvm.specs.declared.instruction.Instruction.TheVariants as step
use Rattle.lvm.specs.declared.side.Side.{Side}
use Rattle.lvm.specs.declared.side.Side.TheVariants as side
use Rattle.lvm.specs.Instruction.{instruction_for, instructions_for}
use Rattle.lvm.specs.Side.{compared_range, stepped, derived}
use Rattle.lvm.proofs.Joining.{by_join, keeps_pace}

-- the side of an attribute
abbrev pub named : Option ℕ → Side
named None = side.Other
named (Some k) = side.Attribute k

abbrev pub side_in : List Attribute → Expr → Side
side_in attributes (Tip (Number z)) = side.Number z
side_in attributes (Tip (Text bytes)) = side.Other
side_in attributes (Tip (Name name)) = named (place_of name attributes)
side_in attributes (Arith sign a b) = side.Other

abbrev pub side_of : List Attribute → ℕ → Tree → Side
side_of attributes place (OfExpr e) = side_in attributes e
side_of attributes place (OfCond c) = side.Condition (range attributes place c)

name-number : (how : Compare) (o : Option ℕ) (c : ℤ) (place : ℕ) → compared_range how (named o) (side.Number c) place ≡ (if is_at o place then compared_to how c else everything)
name-number how None c place = refl
name-number how (Some k) c place = refl

number-name : (how : Compare) (c : ℤ) (o : Option ℕ) (place : ℕ) → compared_range how (side.Number c) (named o) place ≡ (if is_at o place then compared_to (mirrored how) c else everything)
number-name how c None place = refl
number-name how c (Some k) place = refl

name-other : (how : Compare) (o : Option ℕ) (place : ℕ) → compared_range how (named o) side.Other place ≡ everything
name-other how None place = refl
name-other how (Some k) place = refl

other-name : (how : Compare) (o : Option ℕ) (place : ℕ) → compared_range how side.Other (named o) place ≡ everything
other-name how None place = refl
other-name how (Some k) place = refl

name-name : (how : Compare) (o p : Option ℕ) (place : ℕ) → compared_range how (named o) (named p) place ≡ everything
name-name how None None place = refl
name-name how None (Some k) place = refl
name-name how (Some k) None place = refl
name-name how (Some k) (Some l) place = refl

compared-sides : (attributes : List Attribute) (place : ℕ) (how : Compare) (a b : Expr) → compared_range how (side_in attributes a) (side_in attributes b) place ≡ range attributes place (Comparison how a b)
compared-sides attributes place how (Tip (Number x)) (Tip (Number y)) = refl
compared-sides attributes place how (Tip (Number x)) (Tip (Text y)) = refl
compared-sides attributes place how (Tip (Number x)) (Tip (Name y)) = number-name how x (place_of y attributes) place
compared-sides attributes place how (Tip (Number x)) (Arith s c d) = refl
compared-sides attributes place how (Tip (Text x)) (Tip (Number y)) = refl
compared-sides attributes place how (Tip (Text x)) (Tip (Text y)) = refl
compared-sides attributes place how (Tip (Text x)) (Tip (Name y)) = other-name how (place_of y attributes) place
compared-sides attributes place how (Tip (Text x)) (Arith s c d) = refl
compared-sides attributes place how (Tip (Name x)) (Tip (Number y)) = name-number how (place_of x attributes) y place
compared-sides attributes place how (Tip (Name x)) (Tip (Text y)) = name-other how (place_of x attributes) place
compared-sides attributes place how (Tip (Name x)) (Tip (Name y)) = name-name how (place_of x attributes) (place_of y attributes) place
compared-sides attributes place how (Tip (Name x)) (Arith s c d) = name-other how (place_of x attributes) place
compared-sides attributes place how (Arith s a b) (Tip (Number y)) = refl
compared-sides attributes place how (Arith s a b) (Tip (Text y)) = refl
compared-sides attributes place how (Arith s a b) (Tip (Name y)) = other-name how (place_of y attributes) place
compared-sides attributes place how (Arith s a b) (Arith t c d) = refl

-- the step of a name
step-name : (o : Option ℕ) (place : ℕ) (s : List Side) → IfSome (option_map (λ k. step.Attribute k) o) (λ i. stepped place i s ≡ named o ∷ s)
step-name None place s = tt
step-name (Some k) place s = refl

-- after the step of a node the stack has the sides of its trees
abbrev Keeps : List Attribute → ℕ → Node → List Tree → List Tree → Type 0
Keeps attributes place n ts us = IfSome (instruction_for attributes n) (λ i. stepped place i (map (side_of attributes place) ts) ≡ map (side_of attributes place) us)

leaf-step : (attributes : List Attribute) (place : ℕ) (leaf : Leaf) (ts : List Tree) → Keeps attributes place (leaf_node leaf) ts (OfExpr (Tip leaf) ∷ ts)
leaf-step attributes place (Number z) ts = refl
leaf-step attributes place (Text bytes) ts = refl
leaf-step attributes place (Name name) ts = step-name (place_of name attributes) place (map (side_of attributes place) ts)

sign-step : (attributes : List Attribute) (place : ℕ) (s : Arithmetic) (a b : Expr) (ts : List Tree) → Keeps attributes place (arithmetic_node s) (OfExpr b ∷ OfExpr a ∷ ts) (OfExpr (Arith s a b) ∷ ts)
sign-step attributes place Plus a b ts = refl
sign-step attributes place Minus a b ts = refl
sign-step attributes place Times a b ts = refl
sign-step attributes place Over a b ts = refl

node-step : (attributes : List Attribute) (place : ℕ) (n : Node) (ts us : List Tree) → joined n ts ≡ Some us → Keeps attributes place n ts us
node-step attributes place = by_join (Keeps attributes place) (leaf-step attributes place) (sign-step attributes place)
    (λ how a b ts. ap (λ r. side.Condition r ∷ map (side_of attributes place) ts) (compared-sides attributes place how a b))
    (λ c ts. refl) (λ c d ts. refl) (λ c d ts. refl)

pub derived-nodes : (attributes : List Attribute) (place : ℕ) (nodes : List Node) (code : List Instruction) (ts us : List Tree)
    → joined_all nodes ts ≡ Some us → instructions_for attributes nodes ≡ Some code
    → derived place code (map (side_of attributes place) ts) ≡ map (side_of attributes place) us
derived-nodes attributes place = keeps_pace attributes (λ i s. stepped place i s) (λ is s. derived place is s) (side_of attributes place) (λ s. refl) (λ i is s. refl) (node-step attributes place)
