-- Rows, and their bytes in a file.
use Rattle.std.specs.Prelude.{ℕ, ℤ, pos, negsuc, ◌+◌, ◌*◌, ◌/◌, Bool, true, false, ◌&&◌, ◌==◌, List, [], ◌∷◌, ◌++◌, map, length, take, drop, replicate, if◌then◌else◌, nat_le, int_le, slice_index, slice_range, IsTrue, flat_map, ⊤}
use Rattle.std.specs.List.{list_all, range_with_len}
use Rattle.std.specs.Int.{w16, w32, w64, cast_signed, cast_unsigned}
use Rattle.byteorder.specs.Endian.{little_bytes, little_number}
use Rattle.db_model.specs.declared.schemas.Attribute.{Attribute}
use Rattle.db_model.specs.declared.schemas.Domain.{Domain}
use Rattle.db_model.specs.declared.schemas.Domain.TheVariants.{Int, Long, Time, Str}
use Rattle.db_model.specs.declared.values.Value.{Value}
use Rattle.db_model.specs.declared.values.Value.TheVariants.{Number, Text}
use Rattle.db_model.specs.Names.{is_text}
use Rattle.padded.specs.Padded.{padded}

-- a row of a relation; a removed one keeps its slot
pub record Row : Type 0 where
  pub tuple : List Value
  pub live : Bool

-- what stands in a slot that there is not
abbrev pub no_row : Row
no_row = record { tuple = []; live = false }

-- ---- which values a domain has

abbrev pub is_between : ℤ → ℤ → ℤ → Bool
is_between lo hi z = int_le lo z && int_le z hi

abbrev pub suits : Domain → Value → Bool
suits Int (Number z) = is_between (negsuc 32767) (pos 32767) z
suits Long (Number z) = is_between (negsuc 2147483647) (pos 2147483647) z
suits Time (Number z) = is_between (pos 0) (pos 140737488355327) z
suits (Str n) (Text bytes) = nat_le (length bytes) n && is_text bytes
suits _ _ = false

-- each value suits the attribute at its place, and there are as many of one as of the other
abbrev pub AllSuit : List Attribute → List Value → Type 0
AllSuit [] [] = ⊤
AllSuit (a ∷ attributes) (v ∷ values) = IsTrue (suits a.domain v) × AllSuit attributes values
AllSuit _ _ = ⊥

abbrev pub AllRowsSuit : List Attribute → List Row → Type 0
AllRowsSuit attributes [] = ⊤
AllRowsSuit attributes (row ∷ rows) = AllSuit attributes row.tuple × AllRowsSuit attributes rows

-- ---- fields

-- the bytes of a field
abbrev pub width : Domain → ℕ
width Int = 2
width Long = 4
width Time = 8
width (Str n) = n

-- a number in two's complement, the lowest byte first; a text, and zeros after it
abbrev pub field_bytes : Domain → Value → List ℕ
field_bytes Int (Number z) = little_bytes 2 (cast_unsigned w16 z)
field_bytes Long (Number z) = little_bytes 4 (cast_unsigned w32 z)
field_bytes Time (Number z) = little_bytes 8 (cast_unsigned w64 z)
field_bytes (Str n) (Text bytes) = padded n bytes
field_bytes domain _ = replicate (width domain) 0

-- the bytes before the first zero
abbrev pub up_to_zero : List ℕ → List ℕ
up_to_zero [] = []
up_to_zero (b ∷ bytes) = if b == 0 then [] else b ∷ up_to_zero bytes

-- whether a field is a text with zeros after it
abbrev pub is_text_field : List ℕ → Bool
is_text_field field = is_text (up_to_zero field) && list_all (λ b. b == 0) (drop (length (up_to_zero field)) field)

-- the text of a field, the empty text where it has none
abbrev pub text_or_empty : List ℕ → List ℕ
text_or_empty field = if is_text_field field then up_to_zero field else []

-- this number where it is a time, else the least time
abbrev pub time_or_least : ℤ → ℤ
time_or_least z = if suits Time (Number z) then z else pos 0

-- the value of the field that bytes begin with, the least of its domain where they are none
abbrev pub field_of : Domain → List ℕ → Value
field_of Int bytes = Number (cast_signed w16 (little_number 2 bytes))
field_of Long bytes = Number (cast_signed w32 (little_number 4 bytes))
field_of Time bytes = Number (time_or_least (cast_signed w64 (little_number 8 bytes)))
field_of (Str n) bytes = Text (text_or_empty (take n bytes))

-- ---- rows: the fields in attribute order, then a mark

abbrev pub fields_length : List Attribute → ℕ
fields_length [] = 0
fields_length (a ∷ attributes) = width a.domain + fields_length attributes

abbrev pub row_length : List Attribute → ℕ
row_length attributes = fields_length attributes + 1

abbrev pub mark : Bool → ℕ
mark true = 1
mark false = 3

abbrev pub fields_bytes : List Attribute → List Value → List ℕ
fields_bytes (a ∷ attributes) (v ∷ values) = field_bytes a.domain v ++ fields_bytes attributes values
fields_bytes _ _ = []

abbrev pub row_bytes : List Attribute → Row → List ℕ
row_bytes attributes row = fields_bytes attributes row.tuple ++ mark row.live ∷ []

abbrev pub rows_bytes : List Attribute → List Row → List ℕ
rows_bytes attributes rows = flat_map (row_bytes attributes) rows

abbrev pub tuple_of : List Attribute → List ℕ → List Value
tuple_of [] bytes = []
tuple_of (a ∷ attributes) bytes = field_of a.domain bytes ∷ tuple_of attributes (drop (width a.domain) bytes)

abbrev pub row_of : List Attribute → List ℕ → Row
row_of attributes bytes = record { tuple = tuple_of attributes bytes; live = slice_index bytes (fields_length attributes) == 1 }

-- the row in the slot k
abbrev pub row_at : List Attribute → List ℕ → ℕ → Row
row_at attributes bytes k = row_of attributes (slice_range bytes (row_length attributes * k) (row_length attributes * k + row_length attributes))

abbrev pub slots_in_bytes : List Attribute → List ℕ → ℕ
slots_in_bytes attributes bytes = length bytes / row_length attributes

-- the rows that a file's bytes hold, slot by slot
abbrev pub rows_of : List Attribute → List ℕ → List Row
rows_of attributes bytes = map (row_at attributes bytes) (range_with_len 0 (slots_in_bytes attributes bytes))
