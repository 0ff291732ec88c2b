-- Lists of keys, the first being that of slot 0, and the slots of one key.
use Rattle.std.specs.Prelude.{ℕ, ℤ, pos, ◌≡◌, ◌<◌, ◌≤◌, Bool, true, false, List, length, get_or, map}
use Rattle.std.specs.List.{range_with_len}
use Rattle.std.specs.Ordering.{int_eq}

-- the keys of this many slots
abbrev pub first_keys : (ℕ → ℤ) → ℕ → List ℤ
first_keys key slots = map key (range_with_len 0 slots)

-- the key of a slot
abbrev pub key_in : List ℤ → ℕ → ℤ
key_in keys slot = get_or keys slot (pos 0)

abbrev pub is_key_at : ℤ → List ℤ → ℕ → Bool
is_key_at key keys slot = int_eq (key_in keys slot) key

-- the first slot of a key, from one on
pub record IsFirstOf (key : ℤ) (keys : List ℤ) (from slot : ℕ) : Type 0 where
  pub order : from ≤ slot
  pub within : slot < length keys
  pub here : is_key_at key keys slot ≡ true
  pub before : (i : ℕ) → from ≤ i → i < slot → is_key_at key keys i ≡ false

-- no slot has a key, from one on
abbrev pub HasNone : ℤ → List ℤ → ℕ → Type 0
HasNone key keys from = (i : ℕ) → from ≤ i → i < length keys → is_key_at key keys i ≡ false
