-- Evaluation by steps gives what the trees are of a tuple.
use Rattle.std.proofs.Common.{◌≡◌, ℕ, List, ◌∷◌, map, Option, Some, None, refl, ap, option_map, option_and_then, slice_get}
use Rattle.std.specs.Prelude.{IfSome}
use Rattle.db_model.specs.declared.commands.Compare.{Compare}
use Rattle.db_model.specs.declared.commands.Node.{Node}
use Rattle.db_model.specs.declared.schemas.Attribute.{Attribute}
use Rattle.db_model.specs.declared.values.Value.{Value}
use Rattle.db_model.specs.declared.values.Value.TheVariants as value
use Rattle.db_model.specs.Cond.{Leaf, Number, Text, Attribute as Name, Arithmetic, Plus, Minus, Times, Over, Expr, Tip, Arith, Tree, OfExpr, OfCond, leaf_node, arithmetic_node, joined, joined_all}
use Rattle.db_model.specs.Item as db
use Rattle.lvm.specs.declared.instruction.Arithmetic.TheVariants as sign
use Rattle.lvm.specs.declared.instruction.Arithmetic as signs
use Rattle.lvm.specs.declared.instruction.Instruction.{Instruction}
use Rattle.lvm.specs.declared.instruction.Instruction.TheVariants as step
use Rattle.lvm.specs.Instruction.{instruction_for, instructions_for, arithmetic}
use Rattle.lvm.specs.Evaluate as item
use Rattle.lvm.specs.Evaluate.{Item, item_of_value, calculation, item_comparison, stepped, evaluated}
use Rattle.lvm.proofs.Joining.{by_join, keeps_pace}

-- an item of the definitions as one of the stack
abbrev pub stacked : db.Item → Item
stacked (db.OfNumber z) = item.Number z
stacked (db.OfText bytes) = item.Text bytes

abbrev pub meaning : List Attribute → List Value → Tree → Item
meaning attributes values (OfExpr e) = stacked (db.item attributes values e)
meaning attributes values (OfCond c) = item.Truth (db.holds attributes values c)

stacked-value : (v : Option Value) → item_of_value v ≡ stacked (db.item_of v)
stacked-value None = refl
stacked-value (Some (value.Number z)) = refl
stacked-value (Some (value.Text bytes)) = refl

stacked-calculation : (s : signs.Arithmetic) (x y : db.Item) → calculation s (stacked x) (stacked y) ≡ stacked (db.joined_items (arithmetic s) x y)
stacked-calculation s (db.OfNumber (Some x)) (db.OfNumber (Some y)) = refl
stacked-calculation s (db.OfNumber (Some x)) (db.OfNumber None) = refl
stacked-calculation s (db.OfNumber (Some x)) (db.OfText bytes) = refl
stacked-calculation s (db.OfNumber None) y = refl
stacked-calculation s (db.OfText bytes) y = refl

stacked-comparison : (how : Compare) (x y : db.Item) → item_comparison how (stacked x) (stacked y) ≡ db.compared how x y
stacked-comparison how (db.OfNumber (Some x)) (db.OfNumber (Some y)) = refl
stacked-comparison how (db.OfNumber (Some x)) (db.OfNumber None) = refl
stacked-comparison how (db.OfNumber (Some x)) (db.OfText bytes) = refl
stacked-comparison how (db.OfNumber None) (db.OfNumber y) = refl
stacked-comparison how (db.OfNumber None) (db.OfText bytes) = refl
stacked-comparison how (db.OfText bytes) (db.OfNumber y) = refl
stacked-comparison how (db.OfText bytes) (db.OfText other) = refl

-- the step of a name
step-name : (o : Option ℕ) (values : List Value) (s : List Item)
    → IfSome (option_map (λ k. step.Attribute k) o) (λ i. stepped i values s ≡ stacked (db.item_of (option_and_then (slice_get values) o)) ∷ s)
step-name None values s = tt
step-name (Some k) values s = ap (λ x. x ∷ s) (stacked-value (slice_get values k))

-- after the step of a node the stack has the meanings of its trees
abbrev Keeps : List Attribute → List Value → Node → List Tree → List Tree → Type 0
Keeps attributes values n ts us = IfSome (instruction_for attributes n) (λ i. stepped i values (map (meaning attributes values) ts) ≡ map (meaning attributes values) us)

leaf-step : (attributes : List Attribute) (values : List Value) (leaf : Leaf) (ts : List Tree) → Keeps attributes values (leaf_node leaf) ts (OfExpr (Tip leaf) ∷ ts)
leaf-step attributes values (Number z) ts = refl
leaf-step attributes values (Text bytes) ts = refl
leaf-step attributes values (Name name) ts = step-name (db.place_of name attributes) values (map (meaning attributes values) ts)

sign-step : (attributes : List Attribute) (values : List Value) (s : Arithmetic) (a b : Expr) (ts : List Tree) → Keeps attributes values (arithmetic_node s) (OfExpr b ∷ OfExpr a ∷ ts) (OfExpr (Arith s a b) ∷ ts)
sign-step attributes values Plus a b ts = ap (λ x. x ∷ map (meaning attributes values) ts) (stacked-calculation sign.Add (db.item attributes values a) (db.item attributes values b))
sign-step attributes values Minus a b ts = ap (λ x. x ∷ map (meaning attributes values) ts) (stacked-calculation sign.Sub (db.item attributes values a) (db.item attributes values b))
sign-step attributes values Times a b ts = ap (λ x. x ∷ map (meaning attributes values) ts) (stacked-calculation sign.Mul (db.item attributes values a) (db.item attributes values b))
sign-step attributes values Over a b ts = ap (λ x. x ∷ map (meaning attributes values) ts) (stacked-calculation sign.Div (db.item attributes values a) (db.item attributes values b))

node-step : (attributes : List Attribute) (values : List Value) (n : Node) (ts us : List Tree) → joined n ts ≡ Some us → Keeps attributes values n ts us
node-step attributes values = by_join (Keeps attributes values) (leaf-step attributes values) (sign-step attributes values)
    (λ how a b ts. ap (λ x. item.Truth x ∷ map (meaning attributes values) ts) (stacked-comparison how (db.item attributes values a) (db.item attributes values b)))
    (λ c ts. refl) (λ c d ts. refl) (λ c d ts. refl)

pub evaluated-nodes : (attributes : List Attribute) (values : List Value) (nodes : List Node) (code : List Instruction) (ts us : List Tree)
    → joined_all nodes ts ≡ Some us → instructions_for attributes nodes ≡ Some code
    → evaluated code values (map (meaning attributes values) ts) ≡ map (meaning attributes values) us
evaluated-nodes attributes values = keeps_pace attributes (λ i s. stepped i values s) (λ is s. evaluated is values s) (meaning attributes values) (λ s. refl) (λ i is s. refl) (node-step attributes values)
