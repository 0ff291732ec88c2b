-- Rows of which a part is there, and the removed rows that they are filled to.
use Rattle.std.specs.Prelude.{◌≡◌, ◌⊎◌, ⊤, ℕ, ℤ, pos, negsuc, ◌+◌, ◌-◌, ◌^◌, ◌≤ℤ◌, Bool, true, false, ◌&&◌, List, [], ◌∷◌, ◌++◌, MatchBool, get_or, length, drop, set, nat_lt, slice_range, Option, Some, None, IsTrue}
use Rattle.std.specs.Int.{w16, w64, cast_signed, cast_unsigned, int_rem_euclid}
use Rattle.afl_base.specs.Fields.{i32_at, i64_at, i64_bytes, put_at, u16_at}
use Rattle.afl_base.specs.Files.{Appends, IsNamed, State, Table, bytes_at, file_at}
use Rattle.catalog.specs.Rules.{catalog_bytes_in}
use Rattle.db_model.specs.declared.schemas.Attribute.{Attribute}
use Rattle.db_model.specs.declared.schemas.Domain.{Domain}
use Rattle.db_model.specs.declared.schemas.Domain.TheVariants.{Int, Long, Time, Str}
use Rattle.db_model.specs.declared.values.Value.{Value}
use Rattle.db_model.specs.Database.{Database, Relation}
use Rattle.db_model.specs.Row.{AllSuit, fields_length, row_bytes, row_length, rows_of, width}
use Rattle.padded.specs.Padded.{padded}
use Rattle.space_model.specs.FileNames.{bytes_named}
use Rattle.stored.specs.Mended.{mended_base}
use Rattle.stored_mend.specs.Rows.{MayEndAt, whole_length, whole_rows}
use Rattle.tuple_file.specs.Column.{is_number}

-- ---- numbers

-- a number is this one but for multiples of the base
abbrev pub IsAlike : (base low : ℕ) → ℤ → Type 0
IsAlike base low z = int_rem_euclid z (pos base) ≡ pos low

-- of such numbers it is the least that is not below another
pub record IsLeast (before : ℤ) (base low : ℕ) (least : ℤ) : Type 0 where
  pub alike : IsAlike base low least
  pub above : before ≤ℤ least
  pub first : (z : ℤ) → before ≤ℤ z → IsAlike base low z → least ≤ℤ z

-- the least and the greatest number of a domain
abbrev pub least_number : Domain → ℤ
least_number Int = negsuc 32767
least_number Long = negsuc 2147483647
least_number _ = pos 0

abbrev pub most_number : Domain → ℤ
most_number Int = pos 32767
most_number Long = pos 2147483647
most_number Time = pos 140737488355327
most_number (Str n) = pos 0

-- ---- fields

-- the number in the field at a place
abbrev pub field_number : Domain → List ℕ → ℕ → ℤ
field_number Int bytes at = cast_signed w16 (u16_at bytes at)
field_number Long bytes at = i32_at bytes at
field_number Time bytes at = i64_at bytes at
field_number (Str n) bytes at = pos 0

-- that of the row before, which has no bytes where there is none
abbrev pub number_before : Domain → List ℕ → ℕ → ℤ
number_before domain [] at = least_number domain
number_before domain (b ∷ bytes) at = field_number domain (b ∷ bytes) at

-- a number field of which so many bytes are there, and zeros behind them, gets the other bytes of the least number of its
-- domain that begins with these and is not below another; where there is none it stays
abbrev pub FillsNumber : Domain → ℤ → (there at : ℕ) → (old new : List ℕ) → Type 0
FillsNumber domain before there at old new = let base = 256 ^ there in let low = cast_unsigned w64 (field_number domain old at) in
    ((z : ℤ) × IsLeast before base low z × (z ≤ℤ most_number domain) × (new ≡ put_at old (at + there) (slice_range (i64_bytes z) there (width domain))))
    ⊎ (((z : ℤ) → before ≤ℤ z → z ≤ℤ most_number domain → IsAlike base low z → ⊥) × (new ≡ old))

-- it is so of a number field whose bytes are not all there; all others stay
abbrev pub FillsField : Domain → (before : List ℕ) → (at have : ℕ) → (old new : List ℕ) → Type 0
FillsField domain before at have old new =
    MatchBool (is_number domain && nat_lt have (at + width domain)) (FillsNumber domain (number_before domain before at) (have - at) at old new) (new ≡ old)

-- so is one field after another
abbrev pub FillsFields : List Attribute → (before : List ℕ) → (at have : ℕ) → (old new : List ℕ) → Type 0
FillsFields [] before at have old new = new ≡ old
FillsFields (a ∷ attributes) before at have old new =
    (mid : List ℕ) × FillsField a.domain before at have old mid × FillsFields attributes before (at + width a.domain) have mid new

-- ---- rows

-- the bytes are those of a removed row
pub record IsRemovedRow (attributes : List Attribute) (bytes : List ℕ) : Type 0 where
  pub tuple : List Value
  pub suits : AllSuit attributes tuple
  pub written : bytes ≡ row_bytes attributes (record { tuple = tuple; live = false })

-- what stands behind the whole rows
abbrev pub part_of_row : List Attribute → List ℕ → List ℕ
part_of_row attributes bytes = drop (whole_length attributes bytes) bytes

-- the last whole row, no bytes where there is none
abbrev pub row_before : List Attribute → List ℕ → List ℕ
row_before attributes bytes = slice_range bytes (whole_length attributes bytes - row_length attributes) (whole_length attributes bytes)

-- a row has the bytes of a part, number fields that are filled, zeros, and the mark of a removed row
pub record FillsPart (attributes : List Attribute) (before part row : List ℕ) : Type 0 where
  pub fields : List ℕ
  pub filled : FillsFields attributes before 0 (length part) (padded (row_length attributes) part) fields
  pub marked : row ≡ set fields (fields_length attributes) 3

-- behind the bytes of a file stand others, with which the part of a row at its end is a removed row
pub record IsFilledUp (attributes : List Attribute) (old new : List ℕ) : Type 0 where
  pub rest : List ℕ
  pub behind : new ≡ old ++ rest
  pub removed : IsRemovedRow attributes (part_of_row attributes old ++ rest)
  pub fills : FillsPart attributes (row_before attributes old) (part_of_row attributes old) (part_of_row attributes old ++ rest)

-- bytes are appended to a file: where bytes are told, they fill it up
pub record FillsRow (old new : State) (file : ℕ) (attributes : List Attribute) : Type 0 where
  pub more : List ℕ
  pub appended : Appends old new file more
  pub filled : IsTrue old.tells → IsFilledUp attributes (bytes_at old.files file) (bytes_at new.files file)

-- the file of a name has its whole rows and no more, where it may; or it is filled up
abbrev pub EndsInRow : (old new : Table) → List ℕ → List Attribute → Type 0
EndsInRow old new name attributes = (k : ℕ) → IsNamed old k name → MayEndAt (file_at old k) (whole_length attributes (bytes_at old k))
    → (bytes_at new k ≡ whole_rows attributes (bytes_at old k)) ⊎ IsFilledUp attributes (bytes_at old k) (bytes_at new k)

-- the file of a name has one row more than before, which is removed
abbrev pub HasRemovedMore : (old new : Table) → List ℕ → List Attribute → Type 0
HasRemovedMore old new name attributes =
    (tuple : List Value) × (rows_of attributes (bytes_named name new) ≡ rows_of attributes (bytes_named name old) ++ record { tuple = tuple; live = false } ∷ [])

-- ---- databases

-- a relation that has one row more, which is removed
abbrev pub with_removed : Relation → List Value → Relation
with_removed r tuple = record r { rows = r.rows ++ record { tuple = tuple; live = false } ∷ [] }

-- a slot is as before, or its relation has one row more, which is removed
abbrev pub IsFilledSlot : (old now : Option Relation) → Type 0
IsFilledSlot old now = (now ≡ old) ⊎ ((r : Relation) × (tuple : List Value) × (old ≡ Some r) × (now ≡ Some (with_removed r tuple)))

-- so are some slots, and all else is as before
pub record IsFilledIn (slots : ℕ → Type 0) (old now : Database) : Type 0 where
  pub version : now.version ≡ old.version
  pub indexes : now.indexes ≡ old.indexes
  pub cursors : now.cursors ≡ old.cursors
  pub eight : length now.relations ≡ length old.relations
  pub filled : (slot : ℕ) → IsFilledSlot (get_or old.relations slot None) (get_or now.relations slot None)
  pub others : (slot : ℕ) → (slots slot → ⊥) → get_or now.relations slot None ≡ get_or old.relations slot None

-- relations have one row more, which is removed, and all else is as before
abbrev pub IsFilled : (old now : Database) → Type 0
IsFilled old now = IsFilledIn (λ slot. ⊤) old now

-- the relations of some slots are filled in what files mend to, where bytes are told; the catalog stays
pub record FillsIn (slots : ℕ → Type 0) (old new : State) : Type 0 where
  pub catalog : catalog_bytes_in new.files ≡ catalog_bytes_in old.files
  pub base : IsTrue old.tells → IsFilledIn slots (mended_base old.files) (mended_base new.files)
  pub draft : new.draft ≡ old.draft
  pub tells : new.tells ≡ old.tells
