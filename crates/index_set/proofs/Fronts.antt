-- The keys of the first rows.
use Rattle.std.proofs.Common.{◌≡◌, ◌≤◌, ◌<◌, ℕ, ℤ, pos, zero, suc, List, [], ◌∷◌, length, get_or, take, None, refl, arith, ◌∙◌, sym}
use Rattle.std.specs.Prelude.{int_lt}
use Rattle.std.proofs.lemmas.List.{ext_get_or, get_or-take, length-take-le, take_all}
use Rattle.std.proofs.lemmas.List.FromFn.{get_or-map-range_with_len, length-map-range_with_len}
use Rattle.afl_base.specs.Files.{State}
use Rattle.afl_base.specs.KeyColumn.{key_of}
use Rattle.db_model.specs.Row.{Row, no_row}
use Rattle.db_model.specs.Step.{first_fall, keys}
use Rattle.index_inline.specs.Keys.{keys_of}
use Rattle.index_set.proofs.Inserted.{keys_count as keys_length}
use Rattle.index_set.specs.declared.info.IndexInfo.{IndexInfo}
use Rattle.index_set.specs.Complete.{HasKeys, key_at_place}
use Rattle.index_inline.proofs.Falls.{not_first, none_behind}

key_at_slot : (attribute : ℕ) (all : List Row) (slot : ℕ) → get_or (keys attribute all) slot (pos 0) ≡ key_at_place attribute (get_or all slot no_row)
key_at_slot attribute [] slot = refl
key_at_slot attribute (row ∷ all) zero = refl
key_at_slot attribute (row ∷ all) (suc slot) = key_at_slot attribute all slot

-- a column that has the keys of rows has those of the first of them
pub keys_front : (state : State) (y : IndexInfo) (all : List Row) (slots : ℕ) → slots ≤ length all → HasKeys state all y → keys_of state y.column slots ≡ take slots (keys y.attribute all)
keys_front state y all slots few column =
    let n = keys_length y.attribute all in
    let size = length-map-range_with_len (key_of state y.column) 0 slots in
    let front = length-take-le slots (keys y.attribute all) (omega (arith, few, n)) in
    ext_get_or (pos 0) (keys_of state y.column slots) (take slots (keys y.attribute all)) (omega (arith, size, front))
    (λ i below.
    let h : i < slots = omega (arith, below, size) in
    get_or-map-range_with_len (key_of state y.column) 0 slots i i (pos 0) h (omega arith) ∙ column i (omega (arith, h, few)) ∙ sym (key_at_slot y.attribute all i)
    ∙ sym (get_or-take slots (keys y.attribute all) i (pos 0) h))

pub keys_whole : (state : State) (y : IndexInfo) (all : List Row) (slots : ℕ) → length all ≡ slots → HasKeys state all y → keys_of state y.column slots ≡ keys y.attribute all
keys_whole state y all slots count column =
    let n = keys_length y.attribute all in
    keys_front state y all slots (omega (arith, count)) column ∙ take_all slots (keys y.attribute all) (omega (arith, n, count))

-- ---- keys that do not fall, from the first on

pub level_front : (zs : List ℤ) (n : ℕ) → first_fall zs ≡ None → first_fall (take n zs) ≡ None
level_front [] zero e = refl
level_front [] (suc n) e = refl
level_front (a ∷ zs) zero e = refl
level_front (a ∷ []) (suc zero) e = refl
level_front (a ∷ []) (suc (suc n)) e = refl
level_front (a ∷ b ∷ zs) (suc zero) e = refl
level_front (a ∷ b ∷ zs) (suc (suc n)) e =
    let test = not_first (int_lt b a) a (first_fall (b ∷ zs)) e in
    rw test (level_front (b ∷ zs) (suc n) (none_behind (int_lt b a) a (first_fall (b ∷ zs)) e))
