-- The keys of the rows in their order.
use Rattle.std.specs.Prelude.{ℕ, ℤ, ◌≡◌, List, None}
use Rattle.afl_base.specs.declared.key_column.KeyColumn.{KeyColumn}
use Rattle.afl_base.specs.Files.{State}
use Rattle.afl_base.specs.KeyColumn.{key_of}
use Rattle.afl_base.specs.Keys.{first_keys}
use Rattle.db_model.specs.Step.{first_fall}

-- the keys of the first slots
abbrev pub keys_of : State → KeyColumn → ℕ → List ℤ
keys_of state column slots = first_keys (key_of state column) slots

-- no key is less than the one before it
abbrev pub NeverFalls : List ℤ → Type 0
NeverFalls keys = first_fall keys ≡ None
