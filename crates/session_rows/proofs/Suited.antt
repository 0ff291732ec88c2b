-- Values against attributes and against the last row's values, place by place.
use Rattle.std.proofs.Common.{◌≡◌, ℕ, ◌+◌, ◌<◌, Bool, List, [], ◌∷◌, length, Some, None, refl, arith}
use Rattle.db_model.specs.declared.schemas.Attribute.{Attribute}
use Rattle.db_model.specs.declared.values.Value.{Value}
use Rattle.db_model.specs.declared.values.Value.TheVariants as value
use Rattle.db_model.specs.Step.{fallen_from, unsuited_from}

-- ---- values and attributes

pub value_missing : (n : ℕ) (attributes : List Attribute) (values : List Value) → 0 < length attributes → values ≡ [] → Some (n + 1) ≡ unsuited_from n attributes values
value_missing n [] values some e = absurd (omega (arith, some))
value_missing n (a ∷ attributes) values some e = rw e refl

pub value_left : (n : ℕ) (attributes : List Attribute) (values : List Value) → attributes ≡ [] → 0 < length values → Some (n + 1) ≡ unsuited_from n attributes values
value_left n attributes [] e some = absurd (omega (arith, some))
value_left n attributes (v ∷ values) e some = rw e refl

-- ---- the last row's values and the new ones

-- no value is left of one of the rows
pub falls_none : (test : ℕ → Bool) (n : ℕ) (last new : List Value) → new ≡ [] → fallen_from test n last new ≡ None
falls_none test n [] new e = refl
falls_none test n (value.Number a ∷ last) new e = rw e refl
falls_none test n (value.Text a ∷ last) new e = rw e refl
