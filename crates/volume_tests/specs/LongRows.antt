-- LongRows: rows of 128 bytes.
use Rattle.std.specs.Prelude.{◌≡◌, ℕ, ℤ, List, [], ◌∷◌, IsTrue}
use Rattle.db_model.specs.declared.schemas.Attribute.{Attribute}
use Rattle.db_model.specs.declared.schemas.Domain.TheVariants.{Long, Str}
use Rattle.db_model.specs.declared.values.Value.TheVariants.{Number, Text}
use Rattle.db_model.specs.Row.{AllSuit, row_length, suits}

-- a number and four texts, the last of at most 27 bytes
pub record AreLong (attributes : List Attribute) : Type 0 where
  pub size : row_length attributes ≡ 128
  pub suit : (k : ℤ) (t d : List ℕ) → IsTrue (suits Long (Number k)) → IsTrue (suits (Str 32) (Text t)) → IsTrue (suits (Str 27) (Text d)) → AllSuit attributes (Number k ∷ Text t ∷ Text t ∷ Text t ∷ Text d ∷ [])
