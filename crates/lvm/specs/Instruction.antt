-- The steps of the nodes of a condition.
use Rattle.std.specs.Prelude.{ℕ, List, [], ◌∷◌, ◌++◌, Option, Some, option_map, option_and_then}
use Rattle.db_model.specs.declared.commands.Node.{Node}
use Rattle.db_model.specs.declared.commands.Node.TheVariants as node
use Rattle.db_model.specs.declared.schemas.Attribute.{Attribute}
use Rattle.db_model.specs.Cond as cond
use Rattle.db_model.specs.Item.{place_of}
use Rattle.lvm.specs.declared.instruction.Arithmetic.{Arithmetic}
use Rattle.lvm.specs.declared.instruction.Arithmetic.TheVariants as sign
use Rattle.lvm.specs.declared.instruction.Instruction.{Instruction}
use Rattle.lvm.specs.declared.instruction.Instruction.TheVariants as step

-- the step of a node, none where its name is no attribute
abbrev pub instruction_for : List Attribute → Node → Option Instruction
instruction_for attributes (node.Number z) = Some (step.Number z)
instruction_for attributes (node.Text bytes) = Some (step.Text bytes)
instruction_for attributes (node.Attribute name) = option_map (λ k. step.Attribute k) (place_of name attributes)
instruction_for attributes node.Add = Some (step.Calculate sign.Add)
instruction_for attributes node.Sub = Some (step.Calculate sign.Sub)
instruction_for attributes node.Mul = Some (step.Calculate sign.Mul)
instruction_for attributes node.Div = Some (step.Calculate sign.Div)
instruction_for attributes (node.Compare how) = Some (step.Compare how)
instruction_for attributes node.And = Some step.And
instruction_for attributes node.Or = Some step.Or
instruction_for attributes node.Not = Some step.Not

-- the steps of some nodes
abbrev pub instructions_for : List Attribute → List Node → Option (List Instruction)
instructions_for attributes [] = Some []
instructions_for attributes (n ∷ ns) = option_and_then (λ i. option_map (λ is. i ∷ is) (instructions_for attributes ns)) (instruction_for attributes n)

abbrev pub arithmetic : Arithmetic → cond.Arithmetic
arithmetic sign.Add = cond.Plus
arithmetic sign.Sub = cond.Minus
arithmetic sign.Mul = cond.Times
arithmetic sign.Div = cond.Over

-- the names among some nodes, from the left
abbrev pub names_of_node : Node → List (List ℕ)
names_of_node (node.Attribute name) = name ∷ []
names_of_node _ = []

abbrev pub names_among : List Node → List (List ℕ)
names_among [] = []
names_among (n ∷ ns) = names_of_node n ++ names_among ns
