-- Values at places.
use Rattle.std.specs.Prelude.{ℕ, pos, List, map, get_or}
use Rattle.db_model.specs.declared.values.Value.{Value}
use Rattle.db_model.specs.declared.values.Value.TheVariants.{Number}

abbrev pub value_at : List Value → ℕ → Value
value_at tuple place = get_or tuple place (Number (pos 0))

-- the values at some places of a tuple
abbrev pub project : List ℕ → List Value → List Value
project places tuple = map (value_at tuple) places
