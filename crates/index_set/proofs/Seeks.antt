-- Searches for a key, seen over rows.
use Rattle.std.proofs.Common.{◌≡◌, ◌≤◌, ◌+◌, ◌-◌, ◌*◌, ◌/◌, ℕ, ℤ, zero, suc, List, [], ◌∷◌, length, get_or, Some, refl, arith}
use Rattle.std.specs.Prelude.{min}
use Rattle.std.specs.Ordering.{int_eq}
use Rattle.db_model.specs.Cost.{keys_beside}
use Rattle.db_model.specs.HashTree.{same_path}
use Rattle.db_model.specs.Row.{Row, no_row}
use Rattle.db_model.specs.Step.{keys}
use Rattle.afl_base.specs.Keys.{is_key_at}
use Rattle.index_tree.specs.Trees.{IsTreeOf}
use Rattle.index_tree.proofs.Numbered.{numbered_length}
use Rattle.index_set.specs.Complete.{key_at_place}
use Rattle.index_maxheap.specs.Searches.{walk_left}
use Rattle.padded.proofs.Facts.{filter_few}

-- a walk that is over reads nothing more
pub walk_over : (bytes : List ℕ) (ks : List ℤ) (key : ℤ) → IsTreeOf bytes ks → walk_left (keys_beside key ks) (Some (record { bucket = 0; pair = 0; hop = 65535 })) ≡ 0
walk_over bytes ks key tree =
    let few = tree.few in
    let same = numbered_length 0 ks in
    let less : keys_beside key ks ≤ length ks = filter_few (same_path key) ks in
    over (keys_beside key ks) (omega (arith, few, same, less))
  where
    over : (e : ℕ) → e ≤ 32768 → 3 * (4 - min 65535 4) + 9 * (5 + e / 32 - 65535) ≡ 0
    over e h = omega arith

-- the key of a slot is that of its row
pub key_of_slot : (attribute : ℕ) (key : ℤ) (rows : List Row) (slot : ℕ) → is_key_at key (keys attribute rows) slot ≡ int_eq (key_at_place attribute (get_or rows slot no_row)) key
key_of_slot attribute key [] slot = refl
key_of_slot attribute key (row ∷ rows) zero = refl
key_of_slot attribute key (row ∷ rows) (suc slot) = key_of_slot attribute key rows slot
