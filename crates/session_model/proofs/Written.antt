-- Where one slot of a catalog is replaced, all slots are still what is written for them.
use Rattle.std.proofs.Common.{◌≡◌, ◌⊎◌, ℕ, zero, suc, ◌+◌, ◌*◌, ◌<◌, ◌≤◌, List, [], ◌∷◌, ◌++◌, length, take, Option, refl, sym, ap, subst, ◌∙◌, arith, length-append}
use Rattle.std.specs.Prelude.{slice_range}
use Rattle.std.proofs.Math.Logic.{⊎_elim}
use Rattle.std.proofs.lemmas.Bool.{cases_eq}
use Rattle.std.proofs.lemmas.List.{drop_at}
use Rattle.afl_base.specs.Fields.{put_at}
use Rattle.catalog.specs.CatalogFile.{IsCatalogSize}
use Rattle.catalog.proofs.Changes.{long_empty, slot_put}
use Rattle.catalog.proofs.PutRanges.{before_put, behind_put, here_put, other_index_put, other_relation_put}
use Rattle.catalog.proofs.Replaced.{IsReadBack}
use Rattle.db_model.specs.declared.schemas.Schema.{Schema}
use Rattle.db_model.specs.Catalog.{Index, empty_bytes, in_version_2, index_slot_bytes, index_slot_of, relation_slot_bytes, relation_slot_of, version_mark, with_index_slot, with_relation_slot}
use Rattle.db_model.proofs.Catalogs.{index_slot_back, length-index_slot}
use Rattle.padded.proofs.Facts.{slice_of_front}
use Rattle.session_model.specs.Running.{IsWritten, IsWrittenOrEmpty}

-- ---- one slot

-- what these bytes are read as is what they are written for
abbrev IsRelationForm : List ℕ → Type 0
IsRelationForm bytes = bytes ≡ relation_slot_bytes (relation_slot_of bytes)

abbrev IsIndexForm : List ℕ → Type 0
IsIndexForm bytes = bytes ≡ index_slot_bytes (index_slot_of bytes)

-- ---- the catalog in version 2

record Stands (bytes version_2 : List ℕ) : Type 0 where
  is : in_version_2 bytes ≡ version_2
  long : length version_2 ≡ 1480
  written : IsWritten version_2

empty_relations : (k : ℕ) → k < 8 → slice_range empty_bytes (176 * k) (176 * k + 176) ≡ relation_slot_bytes (relation_slot_of (slice_range empty_bytes (176 * k) (176 * k + 176)))
unfolding empty_bytes
empty_relations zero h = refl
empty_relations (suc zero) h = refl
empty_relations (suc (suc zero)) h = refl
empty_relations (suc (suc (suc zero))) h = refl
empty_relations (suc (suc (suc (suc zero)))) h = refl
empty_relations (suc (suc (suc (suc (suc zero))))) h = refl
empty_relations (suc (suc (suc (suc (suc (suc zero)))))) h = refl
empty_relations (suc (suc (suc (suc (suc (suc (suc zero))))))) h = refl
empty_relations (suc (suc (suc (suc (suc (suc (suc (suc k)))))))) h = absurd (omega (arith, h))

empty_indexes : (i : ℕ) → i < 8 → slice_range empty_bytes (1408 + 8 * i) (1408 + 8 * i + 8) ≡ index_slot_bytes (index_slot_of (slice_range empty_bytes (1408 + 8 * i) (1408 + 8 * i + 8)))
unfolding empty_bytes
empty_indexes zero h = refl
empty_indexes (suc zero) h = refl
empty_indexes (suc (suc zero)) h = refl
empty_indexes (suc (suc (suc zero))) h = refl
empty_indexes (suc (suc (suc (suc zero)))) h = refl
empty_indexes (suc (suc (suc (suc (suc zero))))) h = refl
empty_indexes (suc (suc (suc (suc (suc (suc zero)))))) h = refl
empty_indexes (suc (suc (suc (suc (suc (suc (suc zero))))))) h = refl
empty_indexes (suc (suc (suc (suc (suc (suc (suc (suc i)))))))) h = absurd (omega (arith, h))

empty_mark : slice_range empty_bytes 1472 1480 ≡ version_mark
unfolding empty_bytes
empty_mark = refl

empty_written : IsWritten empty_bytes
empty_written = record { relations = empty_relations; indexes = empty_indexes; mark = λ e. empty_mark }

stands_0 : (bytes : List ℕ) → length bytes ≡ 0 → Stands bytes empty_bytes
stands_0 [] size = record { is = refl; long = long_empty; written = empty_written }
stands_0 (b ∷ bytes) size = absurd (omega (arith, size))

stands_1 : (bytes : List ℕ) → length bytes ≡ 1472 → IsWritten bytes → Stands bytes (bytes ++ version_mark)
stands_1 bytes size w = record {
  is = rw size refl;
  long = length-append bytes version_mark ∙ ap (λ n. n + 8) size;
  written = record {
    relations = λ k h. subst IsRelationForm (sym (slice_of_front bytes version_mark (176 * k) (176 * k + 176) (omega arith) (omega (arith, size, h)))) (w.relations k h);
    indexes = λ i h. subst IsIndexForm (sym (slice_of_front bytes version_mark (1408 + 8 * i) (1408 + 8 * i + 8) (omega arith) (omega (arith, size, h)))) (w.indexes i h);
    mark = λ e. ap (take 8) (drop_at bytes version_mark 1472 size);
  };
}

stands_2 : (bytes : List ℕ) → length bytes ≡ 1480 → IsWritten bytes → Stands bytes bytes
stands_2 bytes size w = record { is = rw size refl; long = size; written = w }

by_size : (P : Type 0) (bytes : List ℕ) → IsCatalogSize (length bytes) → IsWrittenOrEmpty bytes → ((version_2 : List ℕ) → Stands bytes version_2 → P) → P
by_size P bytes size w use_it =
    ⊎_elim
    (λ (none : length bytes ≡ 0). use_it empty_bytes (stands_0 bytes none))
    (λ (some : (length bytes ≡ 1472) ⊎ (length bytes ≡ 1480)).
    ⊎_elim
    (λ (first : length bytes ≡ 1472). use_it (bytes ++ version_mark) (stands_1 bytes first (w (omega (arith, first)))))
    (λ (second : length bytes ≡ 1480). use_it bytes (stands_2 bytes second (w (omega (arith, second)))))
    some)
    size

-- ---- a slot is replaced

relation_put : (bytes version_2 : List ℕ) (k : ℕ) (slot : Option Schema) → Stands bytes version_2 → k < 8 → IsReadBack slot → IsWritten (with_relation_slot bytes k slot)
relation_put bytes version_2 k slot stands h back =
    let part : List ℕ = relation_slot_bytes slot in
    let n : length part ≡ 176 = back.0 in
    let at : ℕ = 176 * k in
    let room : at ≤ length version_2 = omega (arith, stands.long, h) in
    let w = stands.written in
    subst IsWritten (sym (slot_put bytes version_2 part at stands.is)) (record {
      relations = λ j inside.
          ⊎_elim
          (λ same. subst IsRelationForm (sym (ap (λ (m : ℕ). slice_range (put_at version_2 at part) (176 * m) (176 * m + 176)) same ∙ here_put version_2 part at 176 n room))
          (ap relation_slot_bytes (sym back.1)))
          (λ differs. subst IsRelationForm (sym (other_relation_put version_2 part j k n differs room)) (w.relations j inside))
          (cases_eq j k);
      indexes = λ i inside.
          subst IsIndexForm (sym (behind_put version_2 part at (1408 + 8 * i) (1408 + 8 * i + 8) (omega (arith, n, h)) room)) (w.indexes i inside);
      mark = λ e. behind_put version_2 part at 1472 1480 (omega (arith, n, h)) room ∙ w.mark stands.long;
    })

index_put : (bytes version_2 : List ℕ) (i : ℕ) (slot : Option Index) → Stands bytes version_2 → i < 8 → IsWritten (with_index_slot bytes i slot)
index_put bytes version_2 i slot stands h =
    let part : List ℕ = index_slot_bytes slot in
    let n : length part ≡ 8 = length-index_slot slot in
    let at : ℕ = 1408 + 8 * i in
    let room : at ≤ length version_2 = omega (arith, stands.long, h) in
    let w = stands.written in
    subst IsWritten (sym (slot_put bytes version_2 part at stands.is)) (record {
      relations = λ k inside.
          subst IsRelationForm (sym (before_put version_2 part at (176 * k) (176 * k + 176) (omega arith) (omega (arith, inside)) room)) (w.relations k inside);
      indexes = λ j inside.
          ⊎_elim
          (λ same. subst IsIndexForm (sym (ap (λ (m : ℕ). slice_range (put_at version_2 at part) (1408 + 8 * m) (1408 + 8 * m + 8)) same ∙ here_put version_2 part at 8 n room))
          (ap index_slot_bytes (sym (index_slot_back slot))))
          (λ differs. subst IsIndexForm (sym (other_index_put version_2 part j i n differs room)) (w.indexes j inside))
          (cases_eq j i);
      mark = λ e. behind_put version_2 part at 1472 1480 (omega (arith, n, h)) room ∙ w.mark stands.long;
    })

pub relation_written : (bytes : List ℕ) (k : ℕ) (slot : Option Schema) → IsCatalogSize (length bytes) → k < 8 → IsReadBack slot → IsWrittenOrEmpty bytes → IsWritten (with_relation_slot bytes k slot)
relation_written bytes k slot size h back w = by_size _ bytes size w (λ (version_2 : List ℕ) (stands : Stands bytes version_2). relation_put bytes version_2 k slot stands h back)

pub index_written : (bytes : List ℕ) (i : ℕ) (slot : Option Index) → IsCatalogSize (length bytes) → i < 8 → IsWrittenOrEmpty bytes → IsWritten (with_index_slot bytes i slot)
index_written bytes i slot size h w = by_size _ bytes size w (λ (version_2 : List ℕ) (stands : Stands bytes version_2). index_put bytes version_2 i slot stands h)
