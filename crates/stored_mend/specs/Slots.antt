-- What a relation slot is read as, where a cut can have left it.
use Rattle.std.specs.Prelude.{◌≡◌, ◌+◌, ◌*◌, ℕ, true, List, length, slice_range, Some}
use Rattle.afl_base.specs.Fields.{put_at}
use Rattle.catalog.specs.Rules.{is_schema}
use Rattle.db_model.specs.declared.schemas.Schema.{Schema}
use Rattle.db_model.specs.Catalog.{relation_slot_bytes}

-- a slot is that of a relation but for what stands behind its attributes, up to their number
pub record IsReadSlot (slot : List ℕ) (schema : Schema) : Type 0 where
  pub valid : is_schema 2 schema ≡ true
  pub bytes : slot ≡ put_at (relation_slot_bytes (Some schema)) (16 + 18 * length schema.attributes) (slice_range slot (16 + 18 * length schema.attributes) 160)
