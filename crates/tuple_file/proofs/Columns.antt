-- The keys of a column are the numbers of its attribute.
use Rattle.std.proofs.Common.{◌≡◌, refl, sym, ap, ◌∙◌, IsTrue, inl, inr, ℕ, zero, suc, get_or, ◌+◌, ◌*◌, ◌<◌, true, false, List, [], ◌∷◌, length, take, drop, Some, None, arith, w16, w32, w64}
use Rattle.std.specs.Prelude.{Option, slice_get, slice_range}
use Rattle.std.specs.Option.{option_map_or}
use Rattle.std.specs.Int.{cast_signed}
use Rattle.std.proofs.lemmas.List.{drop-append-le, length-append, length-drop, take-append-le}
use Rattle.afl_base.specs.Fields.{i32_at, i64_at}
use Rattle.afl_base.specs.Files.{State, Table, bytes_at}
use Rattle.afl_base.specs.KeyColumn.{HasField, IsWidth, key_of as key_of_column, number_of_width}
use Rattle.db_model.specs.declared.schemas.Attribute.{Attribute}
use Rattle.db_model.specs.declared.schemas.Domain.{Domain}
use Rattle.db_model.specs.declared.schemas.Domain.TheVariants.{Int, Long, Time, Str}
use Rattle.db_model.specs.Row.{field_bytes, field_of, fields_bytes, fields_length, mark, row_at, row_bytes, row_length, tuple_of, width}
use Rattle.db_model.specs.Step.{key_of}
use Rattle.db_model.proofs.Decoded.{field_inside, field_written, length-row_read, number_front, time_written, value_read}
use Rattle.tuple_file.specs.Column.{IsNumber, column_of, is_number}
use Rattle.tuple_file.specs.Tuples.{HoldsRows, row, rows, slots}
use Rattle.tuple_file.specs.declared.tuples.Tuples.{Tuples}
use Rattle.tuple_file.proofs.Slots.{length-rows, slot_field}
use Rattle.tuple_file.proofs.Written.{written_each, written_first}
use Rattle.std.proofs.lemmas.Grind.{common_steps}
use Rattle.db_model.proofs.Rows.{slot_inside}

-- the attribute at the place
pub attribute_at : (attributes : List Attribute) (place : ℕ) → IsNumber attributes place → (a : Attribute) × (slice_get attributes place ≡ Some a) × (is_number a.domain ≡ true)
attribute_at attributes place is = either (slice_get attributes place) is
  where
    either : (o : Option Attribute) → option_map_or (λ (a : Attribute). is_number a.domain) o false ≡ true → (a : Attribute) × (o ≡ Some a) × (is_number a.domain ≡ true)
    either None e = absurd (cc)
    either (Some a) e = (a, refl, e)

pub is_width : (d : Domain) → is_number d ≡ true → IsWidth (width d)
is_width Int e = inl refl
is_width Long e = inr (inl refl)
is_width Time e = inr (inr refl)
is_width (Str n) e = absurd (cc)

-- the number of a field that is written as it was read
number_of : (d : Domain) (bytes xs : List ℕ) (place : ℕ) → is_number d ≡ true → take (width d) xs ≡ take (width d) (drop place bytes) → take (width d) xs ≡ field_bytes d (field_of d xs)
    → number_of_width bytes place (width d) ≡ key_of (Some (field_of d xs))
unfolding number_of_width i32_at i64_at
number_of Int bytes xs place is same written = ap (λ (n : ℕ). cast_signed w16 n) (number_front 2 (drop place bytes) xs (sym same))
number_of Long bytes xs place is same written = ap (λ (n : ℕ). cast_signed w32 n) (number_front 4 (drop place bytes) xs (sym same))
number_of Time bytes xs place is same written = ap (λ (n : ℕ). cast_signed w64 n) (number_front 8 (drop place bytes) xs (sym same)) ∙ time_written xs written
number_of (Str n) bytes xs place is same written = absurd (cc)

-- the number of an attribute in a slot, where the slot's row is written as it was read
pub key_in_slot : (attributes : List Attribute) (bytes : List ℕ) (slot place : ℕ) (a : Attribute) → slice_get attributes place ≡ Some a → is_number a.domain ≡ true
    → row_bytes attributes (row_at attributes bytes slot) ≡ slice_range bytes (row_length attributes * slot) (row_length attributes * slot + row_length attributes)
    → number_of_width bytes (row_length attributes * slot + fields_length (take place attributes)) (width a.domain) ≡ key_of (slice_get (row_at attributes bytes slot).tuple place)
key_in_slot attributes bytes slot place a is number one =
    let size = row_length attributes in
    let from = size * slot in
    let at = fields_length (take place attributes) in
    let w = width a.domain in
    let bs : List ℕ = slice_range bytes from (from + size) in
    let tuple = tuple_of attributes bs in
    let fields : List ℕ = fields_bytes attributes tuple in
    let m : ℕ = mark (row_at attributes bytes slot).live in
    let inside = field_inside attributes place a is in
    let wide : length fields ≡ fields_length attributes = omega (arith, length-append fields (m ∷ []), length-row_read attributes bs) in
    let left = length-drop at fields in
    let written : take w (drop at bs) ≡ field_bytes a.domain (field_of a.domain (drop at bs)) =
    ap (λ (xs : List ℕ). take w (drop at xs)) (sym one)
    ∙ ap (take w) (drop-append-le at fields (m ∷ []) (omega (arith, inside, wide)))
    ∙ take-append-le w (drop at fields) (m ∷ []) (omega (arith, inside, wide, left))
    ∙ field_written attributes bs place a is in
    number_of a.domain bytes (drop at bs) (from + at) number (slot_field bytes from size at w (omega (arith, inside))) written
    ∙ ap key_of (sym (value_read attributes bs place a is))

-- the attribute stands at a place, and its field lies in the row
pub place_inside : (attributes : List Attribute) (place : ℕ) (a : Attribute) → slice_get attributes place ≡ Some a → place < length attributes
place_inside [] place a is = absurd (cc)
place_inside (b ∷ attributes) zero a is = omega arith
place_inside (b ∷ attributes) (suc place) a is = omega (arith, place_inside attributes place a is)

pub item_at : (attributes : List Attribute) (place : ℕ) (a b : Attribute) → slice_get attributes place ≡ Some a → b ≡ get_or attributes place b → b ≡ a
item_at [] place a b is here = absurd (cc)
item_at (x ∷ attributes) zero a b is here = let same : x ≡ a = cc in here ∙ same
item_at (x ∷ attributes) (suc place) a b is here = item_at attributes place a b is here

-- ---- the column of an attribute

wide : (t : Tuples) (place : ℕ) (a : Attribute) → slice_get t.schema.attributes place ≡ Some a → (column_of t place).width ≡ width a.domain
wide t place a e = ap (λ (o : Option Attribute). option_map_or (λ (x : Attribute). width x.domain) o 0) e

pub column_width : (t : Tuples) (place : ℕ) → IsNumber t.schema.attributes place → IsWidth (column_of t place).width
column_width t place number = grind (arith, common_steps, attribute_at, wide, is_width)

pub column_field : (state : State) (t : Tuples) (place slot : ℕ) → IsNumber t.schema.attributes place → HoldsRows state t → slot < slots state.files t → HasField state (column_of t place) slot
column_field state t place slot number holds below = grind (arith, common_steps, attribute_at, field_inside, slot_inside, wide)

pub column_key : (state : State) (t : Tuples) (place slot : ℕ) → IsNumber t.schema.attributes place → HoldsRows state t → IsTrue state.tells → slot < slots state.files t
    → key_of_column state (column_of t place) slot ≡ key_of (slice_get (row state.files t slot).tuple place)
column_key state t place slot number holds told below =
    let attributes = t.schema.attributes in
    let bytes = bytes_at state.files t.file in
    let found = attribute_at attributes place number in
    let all = holds.written told in
    let one = written_each attributes bytes (slots state.files t) slot holds.whole below (written_first attributes bytes (slots state.files t) slot holds.whole (omega (arith, below)) all) all in
    ap (λ (n : ℕ). number_of_width bytes (row_length attributes * slot + fields_length (take place attributes)) n) (wide t place found.0 found.1)
    ∙ key_in_slot attributes bytes slot place found.0 found.1 found.2 one

pub rows_counted : (files : Table) (t : Tuples) → length (rows files t) ≡ slots files t
rows_counted files t = length-rows t.schema.attributes (bytes_at files t.file)
