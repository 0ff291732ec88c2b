-- The bytes of a catalog that breaks no rule are those that it is written for.
use Rattle.std.proofs.Common.{◌≡◌, ℕ, ◌+◌, ◌*◌, ◌<◌, true, false, not, List, length, take, Option, Some, None, arith}
use Rattle.std.specs.Prelude.{slice_range}
use Rattle.std.specs.Str.{bytes_eq}
use Rattle.std.proofs.lemmas.Slice.Eq.{bytes_eq-Decides}
use Rattle.afl_base.specs.Files.{Table}
use Rattle.catalog.specs.Rules.{breaks_index, breaks_relation, catalog_bytes_in, first_broken, has_form, is_behind, is_index_form, is_named_among, is_relation_slot, is_schema, is_sound_index, is_sound_relation}
use Rattle.db_model.specs.declared.schemas.Schema.{Schema}
use Rattle.db_model.specs.Catalog.{Index, catalog_of, index_at, index_slot_bytes, relation_at, relation_slot_bytes, version_mark, version_of}
use Rattle.stored.proofs.FilesOf.{unbroken}
use Rattle.stored.proofs.SoundSlots.{kept, unbroken_slots}
use Rattle.session_model.specs.Running.{IsWritten}
use Rattle.padded.proofs.Facts.{not_not, both_parts}
use Rattle.stored.proofs.HasFiles.{formed}

relation_bytes : (version : ℕ) (slot : List ℕ) (o : Option Schema) → is_relation_slot version slot o ≡ true → slot ≡ relation_slot_bytes o
relation_bytes version slot None e = (bytes_eq-Decides slot (relation_slot_bytes None)).0 e
relation_bytes version slot (Some schema) e = (bytes_eq-Decides slot (relation_slot_bytes (Some schema))).0 (both_parts (is_schema version schema) (bytes_eq slot (relation_slot_bytes (Some schema))) e).1

index_bytes : (slot : List ℕ) (o : Option Index) → is_index_form slot o ≡ true → slot ≡ index_slot_bytes o
index_bytes slot None e = (bytes_eq-Decides slot (index_slot_bytes None)).0 e
index_bytes slot (Some index) e = (bytes_eq-Decides slot (index_slot_bytes (Some index))).0 (both_parts _ (bytes_eq slot (index_slot_bytes (Some index))) e).1

relation_written : (bytes : List ℕ) (k : ℕ) → breaks_relation bytes k ≡ false → slice_range bytes (176 * k) (176 * k + 176) ≡ relation_slot_bytes (relation_at bytes k)
unfolding breaks_relation
relation_written bytes k e =
    let slot : List ℕ = slice_range bytes (176 * k) (176 * k + 176) in
    let before : List (Option Schema) = take k (catalog_of bytes).relations in
    let sound = not_not (is_sound_relation (version_of bytes) slot before) e in
    relation_bytes (version_of bytes) slot (relation_at bytes k) (both_parts (is_relation_slot (version_of bytes) slot (relation_at bytes k)) (not (is_named_among (relation_at bytes k) before)) sound).0

index_written : (bytes : List ℕ) (i : ℕ) → breaks_index bytes i ≡ false → slice_range bytes (1408 + 8 * i) (1408 + 8 * i + 8) ≡ index_slot_bytes (index_at bytes i)
unfolding breaks_index
index_written bytes i e =
    let slot : List ℕ = slice_range bytes (1408 + 8 * i) (1408 + 8 * i + 8) in
    let before : List (Option Index) = take i (catalog_of bytes).indexes in
    let sound = not_not (is_sound_index slot (catalog_of bytes).relations before) e in
    index_bytes slot (index_at bytes i) (both_parts (is_index_form slot (index_at bytes i)) (is_behind (catalog_of bytes).relations before (index_at bytes i)) sound).0

marked : (bytes : List ℕ) → has_form bytes ≡ true → length bytes ≡ 1480 → slice_range bytes 1472 1480 ≡ version_mark
marked bytes e size = (bytes_eq-Decides (slice_range bytes 1472 1480) version_mark).0 (rw size at e)

pub written_of : (files : Table) → first_broken files ≡ None → 0 < length (catalog_bytes_in files) → IsWritten (catalog_bytes_in files)
written_of files e some =
    let bytes = catalog_bytes_in files in
    let u = unbroken files e in
    let slots = unbroken_slots bytes u.inner in
    let used : length bytes ≡ 0 → ⊥ = λ none. absurd (omega (arith, none, some)) in
    record {
      relations = λ k below. relation_written bytes k (kept bytes (breaks_relation bytes) k below used slots.relations);
      indexes = λ i below. index_written bytes i (kept bytes (breaks_index bytes) i below used slots.indexes);
      mark = marked bytes (formed bytes u.inner);
    }
