-- Parts of a relation's slot.
use Rattle.std.specs.Prelude.{◌≡◌, ◌⊎◌, ◌<◌, ◌≤◌, ◌+◌, ◌*◌, ◌-◌, ◌/◌, ℕ, List, ◌++◌, IsTrue, drop, length, replicate, slice_range, take, true, Some}
use Rattle.afl_base.specs.Fields.{put_at}
use Rattle.afl_base.specs.Files.{IsNamed, IsUnnamed, Table, size_at}
use Rattle.catalog.specs.Rules.{is_schema}
use Rattle.db_model.specs.declared.schemas.Attribute.{Attribute}
use Rattle.db_model.specs.declared.schemas.Schema.{Schema}
use Rattle.db_model.specs.Catalog.{IsAttribute, IsRelation, attribute_bytes, catalog_bytes, relation_slot_bytes}
use Rattle.db_model.specs.Names.{is_name}
use Rattle.padded.specs.Padded.{padded}
use Rattle.space_model.specs.FileNames.{rows_file, tree_file}
use Rattle.stored.specs.CutTables.{IsEdge, first_catalog, schema_with_attribute}

-- these are the last bytes of a name's field
abbrev pub IsNameEnd : List ℕ → List ℕ → Type 0
IsNameEnd bytes name = IsTrue (is_name name) × (bytes ≡ drop (16 - length bytes) (padded 16 name))

-- these are the first bytes of a name's field
abbrev pub IsNameFront : List ℕ → List ℕ → Type 0
IsNameFront bytes name = IsTrue (is_name name) × (bytes ≡ take (length bytes) (padded 16 name))

-- these are the last bytes of an attribute
abbrev pub IsAttributeEnd : List ℕ → Attribute → Type 0
IsAttributeEnd bytes a = IsAttribute a × (bytes ≡ drop (18 - length bytes) (attribute_bytes a))

-- zeros stand in front, and behind them the rest of a relation's slot
pub record IsSlotEnd (at : ℕ) (slot : List ℕ) (was : Schema) : Type 0 where
  pub valid : IsRelation (Some was)
  pub bytes : slot ≡ replicate at 0 ++ drop at (relation_slot_bytes (Some was))

-- ---- one more attribute

-- the bytes of a slot up to a place lie in regions before that of the number of attributes
abbrev pub EndsBeforeCount : (k end : ℕ) → Type 0
EndsBeforeCount k end = (176 * k + end - 1) / 128 < (176 * k + 160) / 128

-- those bytes of an attribute at the end of a relation's that lie before or behind the begin of a region, or all of them
pub record IsMoreInPart (k : ℕ) (field : List ℕ) (schema : Schema) : Type 0 where
  pub more : Attribute
  pub valid : IsAttribute more
  pub begin : ℕ
  pub upto : ℕ
  pub inside : (begin < upto) × (upto ≤ 18)
  pub first : (begin ≡ 0) ⊎ IsEdge k (16 + 18 * length schema.attributes + begin)
  pub last : (upto ≡ 18) ⊎ IsEdge k (16 + 18 * length schema.attributes + upto)
  pub fits : begin ≡ 0 → upto ≡ 18 → is_schema 2 (schema_with_attribute schema more) ≡ true
  pub apart : EndsBeforeCount k (16 + 18 * length schema.attributes + upto)
  pub bytes : field ≡ put_at (replicate 18 0) begin (slice_range (attribute_bytes more) begin upto)

-- all of them, of an attribute that the relation may be given
pub record IsWholeMore (field : List ℕ) (schema : Schema) : Type 0 where
  pub more : Attribute
  pub valid : IsAttribute more
  pub fits : is_schema 2 (schema_with_attribute schema more) ≡ true
  pub bytes : field ≡ attribute_bytes more

-- those before, or behind, a place in it
pub record IsPartAt (k begin at : ℕ) (field : List ℕ) : Type 0 where
  pub more : Attribute
  pub valid : IsAttribute more
  pub bytes : (EndsBeforeCount k (begin + at) × (field ≡ take at (attribute_bytes more) ++ replicate (18 - at) 0))
      ⊎ (EndsBeforeCount k (begin + 18) × (field ≡ replicate at 0 ++ drop at (attribute_bytes more)))

-- ---- a catalog that was being begun

-- of the rows and trees none is there, but the rows in slot 0, without bytes
pub record HasNoMore (files : Table) : Type 0 where
  pub trees : (slot : ℕ) → slot < 8 → IsUnnamed files (tree_file slot)
  pub rows : (slot : ℕ) → slot < 8 → 0 < slot → IsUnnamed files (rows_file slot)
  pub first : (id : ℕ) → IsNamed files id (rows_file 0) → size_at files id ≡ 0

-- these are the first bytes of a catalog of one relation without attributes
abbrev pub IsCatalogFront : List ℕ → List ℕ → Type 0
IsCatalogFront bytes name = IsTrue (is_name name) × (bytes ≡ take (length bytes) (catalog_bytes (first_catalog name)))
