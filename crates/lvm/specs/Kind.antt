-- What the steps of a condition are made of, whatever the tuple.
use Rattle.std.specs.Prelude.{Bool, true, false, List, [], ◌∷◌, ◌++◌, Option, Some, None, slice_get}
use Rattle.db_model.specs.declared.schemas.Attribute.{Attribute}
use Rattle.db_model.specs.declared.schemas.Domain.{Domain}
use Rattle.db_model.specs.declared.schemas.Domain.TheVariants as domain
use Rattle.lvm.specs.declared.instruction.Instruction.{Instruction}
use Rattle.lvm.specs.declared.instruction.Instruction.TheVariants as step
use Rattle.lvm.specs.declared.kind.Kind.{Kind}
use Rattle.lvm.specs.declared.kind.Kind.TheVariants.{Numbers, Texts, Mixed, Truth}
use Rattle.lvm.specs.Stack.{rest, top_or}

abbrev pub kind_in : Domain → Kind
kind_in domain.Int = Numbers
kind_in domain.Long = Numbers
kind_in domain.Time = Numbers
kind_in (domain.Str n) = Texts

abbrev pub attribute_kind : Option Attribute → Kind
attribute_kind None = Mixed
attribute_kind (Some a) = kind_in a.domain

abbrev pub joined_kind : Kind → Kind → Kind
joined_kind Numbers Numbers = Numbers
joined_kind _ _ = Mixed

abbrev pub are_kinds_alike : Kind → Kind → Bool
are_kinds_alike Numbers Numbers = true
are_kinds_alike Texts Texts = true
are_kinds_alike _ _ = false

-- the kind on the top of a stack
abbrev pub top : List Kind → Kind
top s = top_or Mixed s

abbrev pub stepped : List Attribute → Instruction → List Kind → List Kind
stepped attributes (step.Number z) s = Numbers ∷ s
stepped attributes (step.Text bytes) s = Texts ∷ s
stepped attributes (step.Attribute k) s = attribute_kind (slice_get attributes k) ∷ s
stepped attributes (step.Calculate sign) s = joined_kind (top (rest s)) (top s) ∷ rest (rest s)
stepped attributes (step.Compare how) s = Truth ∷ rest (rest s)
stepped attributes step.Not s = Truth ∷ rest s
stepped attributes step.And s = Truth ∷ rest (rest s)
stepped attributes step.Or s = Truth ∷ rest (rest s)

-- whether a step is no comparison or a well typed one
abbrev pub is_typed : Instruction → List Kind → Bool
is_typed (step.Compare how) s = are_kinds_alike (top (rest s)) (top s)
is_typed _ s = true

abbrev pub is_comparison : Instruction → Bool
is_comparison (step.Compare how) = true
is_comparison _ = false

-- the typing of a step, where it is a comparison
abbrev pub typing : Instruction → List Kind → List Bool
typing (step.Compare how) s = are_kinds_alike (top (rest s)) (top s) ∷ []
typing _ s = []

-- for each comparison of some steps, from the left, whether it is well typed
abbrev pub step_typings : List Attribute → List Instruction → List Kind → List Bool
step_typings attributes [] s = []
step_typings attributes (i ∷ is) s = typing i s ++ step_typings attributes is (stepped attributes i s)
