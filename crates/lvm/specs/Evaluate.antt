-- What the steps of a condition make of a tuple.
use Rattle.std.specs.Prelude.{◌≡◌, ℕ, ℤ, Bool, true, false, not, ◌&&◌, ◌||◌, List, [], ◌∷◌, Option, Some, None, drop, slice_get}
use Rattle.std.specs.Ordering.{int_cmp, nat_cmp}
use Rattle.std.specs.Cmp.Lexicographic.{slice_cmp}
use Rattle.db_model.specs.declared.commands.Compare.{Compare}
use Rattle.db_model.specs.declared.values.Value.{Value}
use Rattle.db_model.specs.declared.values.Value.TheVariants as value
use Rattle.db_model.specs.Item.{calculated, satisfies}
use Rattle.lvm.specs.declared.instruction.Arithmetic.{Arithmetic}
use Rattle.lvm.specs.declared.instruction.Instruction.{Instruction}
use Rattle.lvm.specs.declared.instruction.Instruction.TheVariants as step
use Rattle.lvm.specs.Instruction.{arithmetic}
use Rattle.lvm.specs.Stack.{rest, top_or}

-- a result: a number, which may be undefined, a text or a truth value
pub data Item : Type 0 where
  Number : Option ℤ → Item
  Text : List ℕ → Item
  Truth : Bool → Item

abbrev pub item_of_value : Option Value → Item
item_of_value (Some (value.Number z)) = Number (Some z)
item_of_value (Some (value.Text bytes)) = Text bytes
item_of_value None = Number None

abbrev pub calculation : Arithmetic → Item → Item → Item
calculation sign (Number (Some x)) (Number (Some y)) = Number (calculated (arithmetic sign) x y)
calculation sign _ _ = Number None

abbrev pub item_comparison : Compare → Item → Item → Bool
item_comparison how (Number (Some x)) (Number (Some y)) = satisfies how (int_cmp x y)
item_comparison how (Text x) (Text y) = satisfies how (slice_cmp nat_cmp x y)
item_comparison how _ _ = false

abbrev pub is_true : Item → Bool
is_true (Truth b) = b
is_true (Number z) = false
is_true (Text bytes) = false

-- the item on the top of a stack
abbrev pub top : List Item → Item
top s = top_or (Number None) s

-- the result of a step
abbrev pub result_of : Instruction → List Value → List Item → Item
result_of (step.Number z) values s = Number (Some z)
result_of (step.Text bytes) values s = Text bytes
result_of (step.Attribute k) values s = item_of_value (slice_get values k)
result_of (step.Calculate sign) values s = calculation sign (top (rest s)) (top s)
result_of (step.Compare how) values s = Truth (item_comparison how (top (rest s)) (top s))
result_of step.Not values s = Truth (not (is_true (top s)))
result_of step.And values s = Truth (is_true (top (rest s)) && is_true (top s))
result_of step.Or values s = Truth (is_true (top (rest s)) || is_true (top s))

-- the items that a step leaves
abbrev pub left_by : Instruction → List Item → List Item
left_by (step.Number z) s = s
left_by (step.Text bytes) s = s
left_by (step.Attribute k) s = s
left_by (step.Calculate sign) s = rest (rest s)
left_by (step.Compare how) s = rest (rest s)
left_by step.Not s = rest s
left_by step.And s = rest (rest s)
left_by step.Or s = rest (rest s)

abbrev pub stepped : Instruction → List Value → List Item → List Item
stepped i values s = result_of i values s ∷ left_by i s

-- NOT, AND and OR
abbrev pub is_join : Instruction → Bool
is_join step.Not = true
is_join step.And = true
is_join step.Or = true
is_join _ = false

-- the stack after some steps
abbrev pub evaluated : List Instruction → List Value → List Item → List Item
evaluated [] values s = s
evaluated (i ∷ is) values s = evaluated is values (stepped i values s)

-- the steps from one place to another put an item on the stack, and change nothing below
abbrev pub PutsItem : List Instruction → List Value → ℕ → ℕ → Item → Type 0
PutsItem is values from next item = (s : List Item) → evaluated (drop from is) values s ≡ evaluated (drop next is) values (item ∷ s)

-- where there was no step, each tuple is selected
abbrev pub verdict : List Item → Bool
verdict s = is_true (top_or (Truth true) s)
