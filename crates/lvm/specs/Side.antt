-- The ranges that the steps of a condition derive.
use Rattle.std.specs.Prelude.{ℕ, List, [], ◌∷◌, nat_eq, if◌then◌else◌}
use Rattle.db_model.specs.declared.commands.Compare.{Compare}
use Rattle.db_model.specs.declared.schemas.Range.{Range}
use Rattle.db_model.specs.Ranges.{everything, compared_to, mirrored, common, spanned}
use Rattle.lvm.specs.declared.instruction.Instruction.{Instruction}
use Rattle.lvm.specs.declared.instruction.Instruction.TheVariants as step
use Rattle.lvm.specs.declared.side.Side.{Side}
use Rattle.lvm.specs.declared.side.Side.TheVariants.{Attribute, Number, Condition, Other}
use Rattle.lvm.specs.Stack.{rest, top_or}

-- the range of a condition, everything for another side
abbrev pub side_range : Side → Range
side_range (Condition range) = range
side_range (Attribute k) = everything
side_range (Number z) = everything
side_range Other = everything

-- the range of a comparison for the attribute at a place
abbrev pub compared_range : Compare → Side → Side → ℕ → Range
compared_range how (Attribute k) (Number c) place = if nat_eq k place then compared_to how c else everything
compared_range how (Number c) (Attribute k) place = if nat_eq k place then compared_to (mirrored how) c else everything
compared_range how _ _ place = everything

-- the side on the top of a stack
abbrev pub top : List Side → Side
top s = top_or Other s

abbrev pub stepped : ℕ → Instruction → List Side → List Side
stepped place (step.Number z) s = Number z ∷ s
stepped place (step.Text bytes) s = Other ∷ s
stepped place (step.Attribute k) s = Attribute k ∷ s
stepped place (step.Calculate sign) s = Other ∷ rest (rest s)
stepped place (step.Compare how) s = Condition (compared_range how (top (rest s)) (top s) place) ∷ rest (rest s)
stepped place step.Not s = Condition everything ∷ rest s
stepped place step.And s = Condition (common (side_range (top (rest s))) (side_range (top s))) ∷ rest (rest s)
stepped place step.Or s = Condition (spanned (side_range (top (rest s))) (side_range (top s))) ∷ rest (rest s)

-- the stack after some steps
abbrev pub derived : ℕ → List Instruction → List Side → List Side
derived place [] s = s
derived place (i ∷ is) s = derived place is (stepped place i s)

-- everything where there was no step
abbrev pub range_on_top : List Side → Range
range_on_top s = side_range (top s)
