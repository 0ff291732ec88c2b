-- The tuples of a relation's rows suit its attributes, since the file has the bytes of its rows.
use Rattle.std.proofs.Common.{◌≡◌, ℕ, zero, suc, ◌+◌, ◌-◌, ◌*◌, ◌<◌, ◌≤ℤ◌, Bool, true, false, cond, ◌&&◌, ◌==◌, List, [], ◌∷◌, ◌++◌, length, map, get_or, Some, take, drop, replicate, refl, ap, sym, subst, arith, IsTrue, slice_get, slice_range, nat_le}
use Rattle.std.specs.List.{list_all, range_with_len}
use Rattle.std.proofs.lemmas.Bool.Decides.{nat_tests}
use Rattle.std.proofs.lemmas.Int.{ints}
use Rattle.std.proofs.lemmas.List.{get_or-drop}
use Rattle.std.specs.Int.{bytes_low_first}
use Rattle.std.proofs.lemmas.List.Concat.{flat_map-cons}
use Rattle.db_model.specs.Step.{key_of}
use Rattle.afl_base.specs.Files.{State, bytes_at}
use Rattle.db_model.specs.declared.schemas.Attribute.{Attribute}
use Rattle.db_model.specs.declared.schemas.Domain.{Domain}
use Rattle.db_model.specs.declared.schemas.Domain.TheVariants.{Int, Long, Time, Str}
use Rattle.db_model.specs.declared.values.Value.{Value}
use Rattle.db_model.specs.declared.values.Value.TheVariants.{Number, Text}
use Rattle.db_model.specs.Names.{is_text, is_text_byte}
use Rattle.db_model.specs.Ranges.{highest, lowest}
use Rattle.db_model.specs.Row.{AllSuit, Row, field_bytes, field_of, fields_bytes, mark, no_row, row_at, row_bytes, row_length, row_of, rows_bytes, suits, text_or_empty, tuple_of, up_to_zero, width}
use Rattle.db_model.proofs.Decoded.{tuple_suits}
use Rattle.tuple_file.specs.declared.tuples.Tuples.{Tuples}
use Rattle.tuple_file.specs.Column.{IsNumber, is_number}
use Rattle.tuple_file.specs.Tuples.{HoldsRows, rows, slots}
use Rattle.tuple_file.proofs.Slots.{length-rows}
use Rattle.cursor.proofs.Walking.{row_there}
use Rattle.padded.proofs.Facts.{both_parts, byte_small}

-- ---- bytes below 256

AreBytes : List ℕ → Type 0
AreBytes bytes = (i : ℕ) → get_or bytes i 0 < 256

joined : (xs ys : List ℕ) → AreBytes xs → AreBytes ys → AreBytes (xs ++ ys)
unfolding AreBytes
joined [] ys hx hy = hy
joined (x ∷ xs) ys hx hy = behind (joined xs ys (λ i. hx (suc i)) hy)
  where
    behind : AreBytes (xs ++ ys) → (i : ℕ) → get_or (x ∷ xs ++ ys) i 0 < 256
    behind rest zero = hx 0
    behind rest (suc i) = rest i

zeros : (n : ℕ) → AreBytes (replicate n 0)
unfolding AreBytes
zeros zero i = omega arith
zeros (suc n) zero = omega arith
zeros (suc n) (suc i) = zeros n i

taken : (n : ℕ) (xs : List ℕ) → AreBytes xs → AreBytes (take n xs)
unfolding AreBytes
taken zero xs h i = omega arith
taken (suc n) [] h i = omega arith
taken (suc n) (x ∷ xs) h zero = h 0
taken (suc n) (x ∷ xs) h (suc i) = taken n xs (λ j. h (suc j)) i

dropped : (n : ℕ) (xs : List ℕ) → AreBytes xs → AreBytes (drop n xs)
unfolding AreBytes
dropped n xs h i = rw (get_or-drop n xs i 0) (h (n + i))

low : (at k n : ℕ) → AreBytes (bytes_low_first at k n)
unfolding AreBytes
low at zero n i = omega arith
low at (suc k) n zero = byte_small at n
low at (suc k) n (suc i) = low (suc at) k n i

-- ---- what is written of what was read

text_byte : (b : ℕ) → is_text_byte b ≡ true → b < 256
text_byte b e = grind (arith, nat_tests)

texts : (bytes : List ℕ) → list_all is_text_byte bytes ≡ true → AreBytes bytes
unfolding AreBytes
texts [] e i = omega arith
texts (b ∷ bytes) e zero = text_byte b ((both_parts (is_text_byte b) (list_all is_text_byte bytes) e).0)
texts (b ∷ bytes) e (suc i) = texts bytes ((both_parts (is_text_byte b) (list_all is_text_byte bytes) e).1) i

text_read : (field : List ℕ) → AreBytes (text_or_empty field)
text_read field = by_test (is_text (up_to_zero field)) (list_all (λ b. b == 0) (drop (length (up_to_zero field)) field)) refl
  where
    by_test : (a b : Bool) → is_text (up_to_zero field) ≡ a → AreBytes (cond (a && b) (up_to_zero field) [])
    by_test true true e = texts (up_to_zero field) ((both_parts (nat_le (length (up_to_zero field)) 32) (list_all is_text_byte (up_to_zero field)) e).1)
    by_test true false e = zeros 0
    by_test false b e = zeros 0

field_read : (d : Domain) (bytes : List ℕ) → AreBytes (field_bytes d (field_of d bytes))
field_read Int bytes = low 0 2 _
field_read Long bytes = low 0 4 _
field_read Time bytes = low 0 8 _
field_read (Str n) bytes = joined (text_or_empty (take n bytes)) (replicate (n - length (text_or_empty (take n bytes))) 0) (text_read (take n bytes)) (zeros (n - length (text_or_empty (take n bytes))))

fields_read : (attributes : List Attribute) (bytes : List ℕ) → AreBytes (fields_bytes attributes (tuple_of attributes bytes))
fields_read [] bytes = zeros 0
fields_read (a ∷ attributes) bytes =
    joined (field_bytes a.domain (field_of a.domain bytes)) (fields_bytes attributes (tuple_of attributes (drop (width a.domain) bytes)))
    (field_read a.domain bytes) (fields_read attributes (drop (width a.domain) bytes))

marked : (live : Bool) → AreBytes (mark live ∷ [])
unfolding AreBytes
marked true zero = omega arith
marked false zero = omega arith
marked true (suc i) = omega arith
marked false (suc i) = omega arith

row_read : (attributes : List Attribute) (bytes : List ℕ) → AreBytes (row_bytes attributes (row_of attributes bytes))
row_read attributes bytes =
    joined (fields_bytes attributes (tuple_of attributes bytes)) (mark ((row_of attributes bytes).live) ∷ []) (fields_read attributes bytes) (marked ((row_of attributes bytes).live))

rows_read : (attributes : List Attribute) (bytes : List ℕ) (slots : List ℕ) → AreBytes (rows_bytes attributes (map (row_at attributes bytes) slots))
rows_read attributes bytes [] = zeros 0
rows_read attributes bytes (slot ∷ slots) =
    let part = slice_range bytes (row_length attributes * slot) (row_length attributes * slot + row_length attributes) in
    let behind = map (row_at attributes bytes) slots in
    subst (λ (l : List ℕ). AreBytes l) (sym (flat_map-cons (row_bytes attributes) (row_of attributes part) behind))
    (joined (row_bytes attributes (row_of attributes part)) (rows_bytes attributes behind) (row_read attributes part) (rows_read attributes bytes slots))

-- ---- rows

row_suits : (attributes : List Attribute) (bytes : List ℕ) (slot : ℕ) → AreBytes bytes → AllSuit attributes ((row_at attributes bytes slot).tuple)
unfolding AreBytes
row_suits attributes bytes slot h =
    tuple_suits attributes (slice_range bytes (row_length attributes * slot) (row_length attributes * slot + row_length attributes))
    (taken _ _ (dropped (row_length attributes * slot) bytes h))

-- the tuple in each slot suits the attributes
pub rows_suit : (state : State) (t : Tuples) → IsTrue state.tells → HoldsRows state t → (slot : ℕ) → slot < slots state.files t
    → AllSuit t.schema.attributes ((get_or (rows state.files t) slot no_row).tuple)
rows_suit state t told h slot below =
    let attributes = t.schema.attributes in
    let bytes = bytes_at state.files t.file in
    let small : AreBytes bytes = subst (λ (l : List ℕ). AreBytes l) (h.written told) (rows_read attributes bytes (range_with_len 0 (slots state.files t))) in
    subst (λ (r : Row). AllSuit attributes r.tuple) (sym (row_there attributes bytes slot below)) (row_suits attributes bytes slot small)

-- as many rows as slots
pub count_rows : (state : State) (t : Tuples) → slots state.files t ≡ length (rows state.files t)
count_rows state t = sym (length-rows t.schema.attributes (bytes_at state.files t.file))

-- ---- numbers

value_bounds : (d : Domain) (v : Value) → suits d v ≡ true → (lowest ≤ℤ key_of (Some v)) × (key_of (Some v) ≤ℤ highest)
value_bounds Int (Number z) h = (grind (arith, ints), grind (arith, ints))
value_bounds Long (Number z) h = (grind (arith, ints), grind (arith, ints))
value_bounds Time (Number z) h = (grind (arith, ints), grind (arith, ints))
value_bounds (Str n) (Number z) h = absurd (cc)
value_bounds d (Text bytes) h = (grind (arith, ints), grind (arith, ints))

-- each key is a number of 64 bits
pub key_bounds : (attributes : List Attribute) (tuple : List Value) (place : ℕ) → AllSuit attributes tuple → (lowest ≤ℤ key_of (slice_get tuple place)) × (key_of (slice_get tuple place) ≤ℤ highest)
key_bounds [] [] place h = (grind (arith, ints), grind (arith, ints))
key_bounds (a ∷ attributes) (v ∷ values) zero h = value_bounds a.domain v h.0
key_bounds (a ∷ attributes) (v ∷ values) (suc place) h = key_bounds attributes values place h.1
key_bounds [] (v ∷ values) place h = absurd h
key_bounds (a ∷ attributes) [] place h = absurd h

number_value : (d : Domain) (v : Value) → is_number d ≡ true → suits d v ≡ true → v ≡ Number (key_of (Some v))
number_value d (Number z) n h = refl
number_value Int (Text bytes) n h = absurd (cc)
number_value Long (Text bytes) n h = absurd (cc)
number_value Time (Text bytes) n h = absurd (cc)
number_value (Str k) (Text bytes) n h = absurd (cc)

-- at the place of an attribute of numbers stands a number
pub number_there : (attributes : List Attribute) (tuple : List Value) (place : ℕ) → IsNumber attributes place → AllSuit attributes tuple → slice_get tuple place ≡ Some (Number (key_of (slice_get tuple place)))
number_there [] [] place n h = absurd (cc)
number_there (a ∷ attributes) (v ∷ values) zero n h = ap (λ (x : Value). Some x) (number_value a.domain v n h.0)
number_there (a ∷ attributes) (v ∷ values) (suc place) n h = number_there attributes values place n h.1
number_there [] (v ∷ values) place n h = absurd h
number_there (a ∷ attributes) [] place n h = absurd h
