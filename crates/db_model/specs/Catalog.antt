-- The catalog of a database, and its bytes in a file.
use Rattle.std.specs.Prelude.{◌≡◌, ℕ, ◌+◌, ◌*◌, ◌≤◌, ◌⊎◌, ⊤, IsTrue, ◌==◌, List, [], ◌∷◌, ◌++◌, map, length, take, drop, replicate, Option, Some, None, if◌then◌else◌, slice_index, slice_range, flat_map}
use Rattle.std.specs.List.{range_with_len, AllByRecursion}
use Rattle.db_model.specs.declared.schemas.Attribute.{Attribute}
use Rattle.db_model.specs.declared.schemas.Domain.{Domain}
use Rattle.db_model.specs.declared.schemas.Domain.TheVariants.{Int, Long, Time, Str}
use Rattle.db_model.specs.declared.schemas.IndexKind.{IndexKind}
use Rattle.db_model.specs.declared.schemas.IndexKind.TheVariants.{Inline, MaxHeap, MemHash}
use Rattle.db_model.specs.declared.schemas.Schema.{Schema}
use Rattle.db_model.specs.Names.{is_name}
use Rattle.padded.specs.Padded.{padded}
use Rattle.db_model.specs.Row.{up_to_zero}

-- an index: its kind, the slot of its relation, and the place of its attribute, counted from 0
pub record Index : Type 0 where
  pub kind : IndexKind
  pub relation : ℕ
  pub attribute : ℕ

-- a version, 1 or 2, eight relation slots and eight index slots
pub record Catalog : Type 0 where
  pub version : ℕ
  pub relations : List (Option Schema)
  pub indexes : List (Option Index)

-- ---- relation slots of 176 bytes

abbrev pub domain_code : Domain → ℕ
domain_code Int = 1
domain_code Long = 2
domain_code (Str n) = 3
domain_code Time = 4

-- the length of a STRING, else 0
abbrev pub domain_length : Domain → ℕ
domain_length (Str n) = n
domain_length _ = 0

abbrev pub domain_from : ℕ → ℕ → Domain
domain_from code n = if code == 1 then Int else (if code == 2 then Long else (if code == 4 then Time else Str n))

-- a name and zeros, 16 bytes in all; the domain; its length
abbrev pub attribute_bytes : Attribute → List ℕ
attribute_bytes a = padded 16 a.name ++ domain_code a.domain ∷ domain_length a.domain ∷ []

abbrev pub attribute_of : List ℕ → Attribute
attribute_of bytes = record { name = up_to_zero (take 16 bytes); domain = domain_from (slice_index bytes 16) (slice_index bytes 17) }

-- the first n attributes
abbrev pub attributes_of : ℕ → List ℕ → List Attribute
attributes_of n bytes = map (λ j. attribute_of (slice_range bytes (18 * j) (18 * j + 18))) (range_with_len 0 n)

-- the name; the attributes; their number; zeros up to the last byte, which is 1
abbrev pub relation_slot_bytes : Option Schema → List ℕ
relation_slot_bytes None = replicate 175 0 ++ 1 ∷ []
relation_slot_bytes (Some schema) =
    padded 16 schema.name ++ padded 144 (flat_map attribute_bytes schema.attributes) ++ padded 15 (length schema.attributes ∷ []) ++ 1 ∷ []

-- the schema in a slot that is used
abbrev pub schema_of : List ℕ → Schema
schema_of bytes = record { name = up_to_zero (take 16 bytes); attributes = attributes_of (slice_index bytes 160) (drop 16 bytes) }

-- a slot is unused where its name is empty
abbrev pub relation_slot_of : List ℕ → Option Schema
relation_slot_of bytes = if slice_index bytes 0 == 0 then None else Some (schema_of bytes)

-- ---- index slots of 8 bytes

abbrev pub kind_code : IndexKind → ℕ
kind_code Inline = 1
kind_code MaxHeap = 2
kind_code MemHash = 3

abbrev pub kind_from : ℕ → IndexKind
kind_from code = if code == 1 then Inline else (if code == 2 then MaxHeap else MemHash)

-- the kind, the relation's slot and the attribute's place; zeros up to the last byte, which is 1
abbrev pub index_slot_bytes : Option Index → List ℕ
index_slot_bytes None = replicate 7 0 ++ 1 ∷ []
index_slot_bytes (Some index) = kind_code index.kind ∷ index.relation ∷ index.attribute ∷ replicate 4 0 ++ 1 ∷ []

abbrev pub index_slot_of : List ℕ → Option Index
index_slot_of bytes =
    if slice_index bytes 0 == 0 then None else Some (record { kind = kind_from (slice_index bytes 0); relation = slice_index bytes 1; attribute = slice_index bytes 2 })

-- ---- the file

-- the eight bytes at the end of version 2
abbrev pub version_mark : List ℕ
version_mark = 2 ∷ 0 ∷ 0 ∷ 0 ∷ 0 ∷ 0 ∷ 0 ∷ 1 ∷ []

abbrev pub version_bytes : ℕ → List ℕ
version_bytes version = if version == 1 then [] else version_mark

-- 1,472 bytes in version 1, 1,480 in version 2
abbrev pub catalog_bytes : Catalog → List ℕ
catalog_bytes catalog = flat_map relation_slot_bytes catalog.relations ++ flat_map index_slot_bytes catalog.indexes ++ version_bytes catalog.version

-- an absent or empty file is of version 2
abbrev pub version_of : List ℕ → ℕ
version_of bytes = if length bytes == 1472 then 1 else 2

abbrev pub relation_at : List ℕ → ℕ → Option Schema
relation_at bytes k = relation_slot_of (slice_range bytes (176 * k) (176 * k + 176))

abbrev pub index_at : List ℕ → ℕ → Option Index
index_at bytes k = index_slot_of (slice_range bytes (1408 + 8 * k) (1408 + 8 * k + 8))

abbrev pub catalog_of : List ℕ → Catalog
catalog_of bytes = record {
  version = version_of bytes;
  relations = map (relation_at bytes) (range_with_len 0 8);
  indexes = map (index_at bytes) (range_with_len 0 8);
}

-- ---- which catalogs are written

abbrev pub IsDomain : Domain → Type 0
IsDomain (Str n) = (1 ≤ n) × (n ≤ 32)
IsDomain _ = ⊤

abbrev pub IsAttribute : Attribute → Type 0
IsAttribute a = IsTrue (is_name a.name) × IsDomain a.domain

abbrev pub IsRelation : Option Schema → Type 0
IsRelation None = ⊤
IsRelation (Some schema) = IsTrue (is_name schema.name) × (length schema.attributes ≤ 8) × AllByRecursion IsAttribute schema.attributes

-- eight slots of each kind, with AQL names and domains
pub record IsCatalog (catalog : Catalog) : Type 0 where
  pub version : (catalog.version ≡ 1) ⊎ (catalog.version ≡ 2)
  pub eight_relations : length catalog.relations ≡ 8
  pub eight_indexes : length catalog.indexes ≡ 8
  pub relations : AllByRecursion IsRelation catalog.relations

-- no relation and no index, in version 2
abbrev pub empty_catalog : Catalog
empty_catalog = record { version = 2; relations = replicate 8 None; indexes = replicate 8 None }

-- the bytes of a catalog of version 2 without relations and indexes
unfoldable pub empty_bytes : List ℕ
empty_bytes = catalog_bytes empty_catalog

-- what a change of a slot makes of the version: the first change of an absent or empty catalog appends the whole of
-- version 2, and one of version 1 appends the eight bytes
abbrev pub in_version_2 : List ℕ → List ℕ
in_version_2 bytes = if length bytes == 0 then empty_bytes else (if length bytes == 1472 then bytes ++ version_mark else bytes)

-- the file's bytes once a relation slot, or an index slot, is replaced
abbrev pub with_slot : List ℕ → ℕ → List ℕ → List ℕ
with_slot bytes at slot = take at (in_version_2 bytes) ++ slot ++ drop (at + length slot) (in_version_2 bytes)

abbrev pub with_relation_slot : List ℕ → ℕ → Option Schema → List ℕ
with_relation_slot bytes k schema = with_slot bytes (176 * k) (relation_slot_bytes schema)

abbrev pub with_index_slot : List ℕ → ℕ → Option Index → List ℕ
with_index_slot bytes k index = with_slot bytes (1408 + 8 * k) (index_slot_bytes index)
