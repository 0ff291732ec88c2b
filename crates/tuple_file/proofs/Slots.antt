-- The slots of a relation's bytes, before and after a change.
use Rattle.std.proofs.Common.{◌≡◌, ap, ◌∙◌, ℕ, ◌+◌, ◌*◌, ◌<◌, ◌≤◌, List, length, take, drop, ◌-◌, arith}
use Rattle.std.specs.Prelude.{IsTrue, slice_range}
use Rattle.std.proofs.lemmas.List.{drop-drop, drop-take, take-take}
use Rattle.std.proofs.Math.Nat.{mul-div_cancel_left}
use Rattle.std.proofs.lemmas.List.FromFn.{length-map-range_with_len}
use Rattle.afl_base.specs.Files.{Becomes, State}
use Rattle.db_model.specs.declared.schemas.Attribute.{Attribute}
use Rattle.db_model.specs.Row.{row_at, row_length, rows_bytes, rows_of, slots_in_bytes}
use Rattle.tuple_file.specs.declared.tuples.Tuples.{Tuples}
use Rattle.tuple_file.specs.Tuples.{HoldsRows}
use Rattle.std.proofs.lemmas.Grind.{common_steps}
use Rattle.db_model.proofs.Rows.{slot_inside}

pub length-rows : (attributes : List Attribute) (bytes : List ℕ) → length (rows_of attributes bytes) ≡ slots_in_bytes attributes bytes
length-rows attributes bytes = length-map-range_with_len (row_at attributes bytes) 0 (slots_in_bytes attributes bytes)

-- whole rows have so many slots
pub slots_of_whole : (attributes : List Attribute) (bytes : List ℕ) (n : ℕ) → length bytes ≡ row_length attributes * n → slots_in_bytes attributes bytes ≡ n
slots_of_whole attributes bytes n long = let some : 0 < row_length attributes = omega arith in rw long (mul-div_cancel_left n some)

-- the bytes of a field, in its slot and in all bytes
pub slot_field : (bytes : List ℕ) (from size at w : ℕ) → at + w ≤ size → take w (drop at (slice_range bytes from (from + size))) ≡ take w (drop (from + at) bytes)
slot_field bytes from size at w inside =
    let more : ℕ = size - at in
    let all : from + size - from ≡ at + more = omega (arith, inside) in
    ap (λ (n : ℕ). take w (drop at (take n (drop from bytes)))) all
    ∙ ap (take w) (drop-take at more (drop from bytes))
    ∙ take-take w more (drop at (drop from bytes)) (omega (arith, inside))
    ∙ ap (take w) (drop-drop at from bytes)

-- the bytes of a slot, in those of so many slots and in all bytes
pub piece_slot : (bytes : List ℕ) (size slot count k : ℕ) → k < count → slice_range (slice_range bytes (size * slot) (size * slot + size * count)) (size * k) (size * k + size) ≡ slice_range bytes (size * (slot + k)) (size * (slot + k) + size)
piece_slot bytes size slot count k below = grind (arith, common_steps, slot_field, slot_inside)

-- a change that leaves whole rows, at most one a slot
pub holds_after : (old new : State) (tuples : Tuples) (total : ℕ) (told : List ℕ) (n : ℕ) → HoldsRows old tuples → Becomes old new tuples.file total told
    → total ≡ row_length tuples.schema.attributes * n → n ≤ 32768
    → (IsTrue old.tells → rows_bytes tuples.schema.attributes (rows_of tuples.schema.attributes told) ≡ told) → HoldsRows new tuples
holds_after old new tuples total told n holds becomes long few written = grind (arith, common_steps, slots_of_whole)

-- what has changed is neither the files nor whether they are told
pub holds_kept : (old new : State) (tuples : Tuples) → HoldsRows old tuples → new.files ≡ old.files → new.tells ≡ old.tells → HoldsRows new tuples
holds_kept old new tuples holds files tells = grind (arith, common_steps)
