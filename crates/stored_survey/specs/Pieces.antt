-- What the parts of the survey are asked, of what they are handed.
use Rattle.std.specs.Prelude.{◌≡◌, ◌≢◌, ◌⊎◌, ◌+◌, ◌*◌, ◌%◌, ◌<◌, ◌≤◌, ℕ, Bool, true, false, List, [], ◌∷◌, ◌++◌, get_or, length, Option, Some, None, IfSome, is_some, slice_range}
use Rattle.afl_base.specs.Fields.{u16_at}
use Rattle.afl_base.specs.Files.{Table, bytes_at}
use Rattle.catalog.specs.Rules.{is_stranger}
use Rattle.db_model.specs.declared.schemas.Attribute.{Attribute}
use Rattle.db_model.specs.declared.schemas.Domain.TheVariants.{Time}
use Rattle.db_model.specs.declared.schemas.Schema.{Schema}
use Rattle.db_model.specs.Catalog.{Index, relation_slot_bytes}
use Rattle.db_model.specs.Row.{row_at, row_bytes, row_length}
use Rattle.space_model.specs.FileNames.{bytes_named, is_there, rows_file}
use Rattle.stored.specs.CutTables.{IsEmptiedInPart, IsGrownInPart, IsHalfDone, index_read}
use Rattle.stored.specs.Mended.{has_time}
use Rattle.stored.specs.declared.half.Half.{Half}
use Rattle.stored.specs.declared.half.Half.TheVariants.{Nothing, Emptying, Growing, LoneRows, AddingRow}

-- ---- all files

abbrev pub HasNoStranger : Table → Type 0
HasNoStranger files = (id : ℕ) → is_stranger files id ≡ false

-- of a catalog that has all slots something is half done, or nothing, and all else is sound
abbrev pub IsSomeHalfDone : Table → Type 0
IsSomeHalfDone files = (half : Half) × IsHalfDone files half

-- a file is the one of a name, or there is none
pub record IsFileNamed (files : Table) (name : List ℕ) (file : Option ℕ) : Type 0 where
  pub there : is_some file ≡ is_there name files
  pub bytes : IfSome file (λ id. bytes_at files id ≡ bytes_named name files)

-- ---- slots of relations

-- what is half done of rows of so many bytes
abbrev pub RowsShow : ℕ → Schema → ℕ → Half → Type 0
RowsShow size schema k Nothing = size % row_length schema.attributes ≡ 0
RowsShow size schema k (AddingRow j) = (j ≡ k) × (size % row_length schema.attributes ≢ 0)
RowsShow size schema k _ = ⊥

-- a slot without a relation, of these bytes, and the rows that stand there or not
pub record IsUnusedBeside (half : Half) (k : ℕ) (slot : List ℕ) (there : Bool) : Type 0 where
  pub slot_is : (slot ≡ relation_slot_bytes None) ⊎ ((half ≡ Emptying k) × IsEmptiedInPart k slot)
  pub wanted : half ≡ Emptying k → there ≡ true
  pub lone : there ≡ true → (half ≡ LoneRows k) ⊎ (half ≡ Emptying k)

-- the slot of a relation, whose rows have so many bytes
pub record IsUsedBeside (half : Half) (k : ℕ) (slot : List ℕ) (schema : Schema) (size : ℕ) : Type 0 where
  pub slot_is : (slot ≡ relation_slot_bytes (Some schema)) ⊎ ((half ≡ Growing k) × IsGrownInPart k slot schema)
  pub empty : half ≡ Growing k → size ≡ 0

-- ---- rows

-- the row in a slot has the bytes that stand there
abbrev pub IsRowWritten : List Attribute → List ℕ → ℕ → Type 0
IsRowWritten attributes bytes slot =
    row_bytes attributes (row_at attributes bytes slot)
    ≡ slice_range bytes (row_length attributes * slot) (row_length attributes * slot + row_length attributes)

-- and so have the rows of the first slots
abbrev pub AreWritten : List Attribute → List ℕ → ℕ → Type 0
AreWritten attributes bytes count = (slot : ℕ) → slot < count → IsRowWritten attributes bytes slot

-- ---- the mark

-- of its attributes only the last one is a TIME
pub record HasLastTime (schema : Schema) : Type 0 where
  pub front : List Attribute
  pub last : Attribute
  pub time : (schema.attributes ≡ front ++ last ∷ []) × (last.domain ≡ Time)
  pub before : has_time (Some (record schema { attributes = front })) ≡ false

-- a relation in a slot has a TIME as its last attribute, and no rows
abbrev pub IsLastTime : Table → ℕ → Option Schema → Type 0
IsLastTime files k None = ⊥
IsLastTime files k (Some schema) = HasLastTime schema × (bytes_named (rows_file k) files ≡ [])

-- one relation alone has a TIME, and so
pub record WantsMarkAlone (files : Table) (relations : List (Option Schema)) : Type 0 where
  pub k : ℕ
  pub there : IsLastTime files k (get_or relations k None)
  pub alone : (j : ℕ) → has_time (get_or relations j None) ≡ true → j ≡ k

-- ---- indexes

-- an index is read from a slot
pub record IsReadIndex (files : Table) (i : ℕ) (index : Index) : Type 0 where
  pub below : i < 8
  pub read : index_read files i ≡ Some index

-- no whole pair of some bytes names a slot behind so many
abbrev pub NamesWithin : ℕ → List ℕ → Type 0
NamesWithin slots pairs = (pair : ℕ) → 6 * pair + 6 ≤ length pairs → u16_at pairs (6 * pair + 4) ≤ slots
