-- The numbers of a column are the keys in the rows of its file.
use Rattle.std.proofs.Common.{◌≡◌, ◌≢◌, ℕ, ℤ, ◌+◌, ◌*◌, ◌<◌, ◌≤◌, true, List, [], ◌∷◌, length, map, take, drop, Some, refl, ap, sym, ◌∙◌, arith, w16, w32}
use Rattle.std.specs.Prelude.{slice_get, slice_range}
use Rattle.std.specs.Int.{cast_signed}
use Rattle.std.specs.List.{range_with_len}
use Rattle.std.proofs.lemmas.List.FromFn.{length-map-range_with_len}
use Rattle.std.proofs.lemmas.List.{length-map}
use Rattle.afl_base.specs.Fields.{i32_at}
use Rattle.afl_base.specs.Files.{State, bytes_at}
use Rattle.afl_base.specs.KeyColumn.{key_of as key_of_column, number_of_width}
use Rattle.afl_base.specs.Keys.{first_keys}
use Rattle.afl_base.specs.declared.key_column.KeyColumn.{KeyColumn}
use Rattle.db_model.specs.declared.schemas.Attribute.{Attribute}
use Rattle.db_model.specs.declared.schemas.Domain.{Domain}
use Rattle.db_model.specs.declared.schemas.Domain.TheVariants.{Int, Long, Time, Str}
use Rattle.db_model.specs.declared.schemas.IndexKind.TheVariants.{MaxHeap}
use Rattle.db_model.specs.Row.{Row, field_of, fields_length, row_at, row_length, rows_of, slots_in_bytes, width}
use Rattle.db_model.specs.Step.{allows, key_of, keys}
use Rattle.db_model.proofs.Decoded.{field_inside, number_front, value_read}
use Rattle.db_model.proofs.Rows.{map_range_same}
use Rattle.stored_mend.specs.Keys.{IsNumbersOf}
use Rattle.tuple_file.proofs.Slots.{slot_field}

pub keys_count : (place : ℕ) (attributes : List Attribute) (bytes : List ℕ) → length (keys place (rows_of attributes bytes)) ≡ slots_in_bytes attributes bytes
keys_count place attributes bytes =
    length-map (rows_of attributes bytes) (λ (row : Row). key_of (slice_get row.tuple place)) ∙ length-map-range_with_len (row_at attributes bytes) 0 (slots_in_bytes attributes bytes)

-- ---- numbers of hash trees

-- an INT or a LONG is read of any bytes
narrow_number : (d : Domain) (bytes xs : List ℕ) (at : ℕ) → allows MaxHeap d ≡ true → take (width d) xs ≡ take (width d) (drop at bytes) → number_of_width bytes at (width d) ≡ key_of (Some (field_of d xs))
unfolding number_of_width i32_at
narrow_number Int bytes xs at allowed same = ap (λ (n : ℕ). cast_signed w16 n) (number_front 2 (drop at bytes) xs (sym same))
narrow_number Long bytes xs at allowed same = ap (λ (n : ℕ). cast_signed w32 n) (number_front 4 (drop at bytes) xs (sym same))
narrow_number Time bytes xs at allowed same = cc
narrow_number (Str n) bytes xs at allowed same = cc

pub narrow_width : (d : Domain) → allows MaxHeap d ≡ true → width d ≢ 8
narrow_width Int allowed e = let n : 2 ≡ 8 = e in omega (arith, n)
narrow_width Long allowed e = let n : 4 ≡ 8 = e in omega (arith, n)
narrow_width Time allowed e = cc
narrow_width (Str n) allowed e = cc

-- ---- the numbers of a column

both_maps : {X Y Z : Type 0} (f : Y → Z) (g : X → Y) (xs : List X) → map f (map g xs) ≡ map (λ (x : X). f (g x)) xs
both_maps f g [] = refl
both_maps f g (x ∷ xs) = ap (λ (ys : List _). f (g x) ∷ ys) (both_maps f g xs)

module _ (state : State) (attributes : List Attribute) (place : ℕ) (column : KeyColumn) (slots : ℕ) (n : IsNumbersOf state.files attributes place column slots) where
  abbrev bytes : List ℕ
  bytes = bytes_at state.files column.file

  abbrev at : ℕ
  at = fields_length (take place attributes)

  column_number : (slot : ℕ) → key_of_column state column slot ≡ number_of_width bytes (row_length attributes * slot + at) (width n.attribute.domain)
  column_number slot =
      ap (λ (w : ℕ). number_of_width bytes (column.row * slot + column.at) w) n.width_is
      ∙ ap (λ (x : ℕ). number_of_width bytes (column.row * slot + x) (width n.attribute.domain)) n.at_is
      ∙ ap (λ (x : ℕ). number_of_width bytes (x * slot + at) (width n.attribute.domain)) n.row_is

  pub all_numbers : ((slot : ℕ) → slot < slots → number_of_width bytes (row_length attributes * slot + at) (width n.attribute.domain) ≡ key_of (slice_get (row_at attributes bytes slot).tuple place))
      → first_keys (key_of_column state column) slots ≡ keys place (rows_of attributes bytes)
  all_numbers each =
      map_range_same (key_of_column state column) (λ (slot : ℕ). key_of (slice_get (row_at attributes bytes slot).tuple place)) 0 slots
      (λ slot low below. column_number slot ∙ each slot (omega (arith, below)))
      ∙ ap (λ (m : ℕ). map (λ (slot : ℕ). key_of (slice_get (row_at attributes bytes slot).tuple place)) (range_with_len 0 m)) n.slots_are
      ∙ sym (both_maps (λ (row : Row). key_of (slice_get row.tuple place)) (row_at attributes bytes) (range_with_len 0 (slots_in_bytes attributes bytes)))

  -- of a hash tree
  pub narrow_keys : allows MaxHeap n.attribute.domain ≡ true → first_keys (key_of_column state column) slots ≡ keys place (rows_of attributes bytes)
  narrow_keys allowed = all_numbers (λ slot below.
      let size : ℕ = row_length attributes in
      let from : ℕ = size * slot in
      let w : ℕ = width n.attribute.domain in
      let inside : at + w ≤ fields_length attributes = field_inside attributes place n.attribute n.placed in
      let one : List ℕ = slice_range bytes from (from + size) in
      narrow_number n.attribute.domain bytes (drop at one) (from + at) allowed (slot_field bytes from size at w (omega (arith, inside)))
      ∙ ap key_of (sym (value_read attributes one place n.attribute n.placed)))
