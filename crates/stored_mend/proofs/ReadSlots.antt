-- A relation slot as it is read: with zeros in the place of what stands behind its attributes.
use Rattle.std.proofs.Common.{◌≡◌, inl, inr, ℕ, ◌+◌, ◌-◌, ◌*◌, ◌≤◌, ◌<◌, true, false, List, [], length, take, drop, replicate, Option, Some, None, refl, sym, ap, subst, ◌∙◌, arith}
use Rattle.std.specs.Prelude.{◌==◌, if◌then◌else◌, IfNone, IfSome, slice_index, slice_range}
use Rattle.std.specs.Str.{bytes_eq}
use Rattle.std.proofs.lemmas.List.{length-replicate, take-replicate}
use Rattle.std.proofs.lemmas.Slice.Eq.{bytes_eq-Decides}
use Rattle.afl_base.specs.Fields.{put_at}
use Rattle.afl_base.proofs.PutLaws.{put_at_nothing, take-put_at}
use Rattle.catalog.specs.Rules.{is_relation_slot, is_schema}
use Rattle.catalog.proofs.Choices.{none_if, some_if}
use Rattle.catalog.proofs.Decoding.{length-attributes, used_slot}
use Rattle.catalog.proofs.Puts.{put_at_all}
use Rattle.db_model.specs.declared.schemas.Schema.{Schema}
use Rattle.db_model.specs.Catalog.{attribute_bytes, relation_slot_bytes, relation_slot_of, schema_of}
use Rattle.db_model.specs.Row.{row_length}
use Rattle.db_model.proofs.Catalogs.{length-relation_slot}
use Rattle.padded.proofs.Facts.{both_parts, both_true, true_le, yes_no}
use Rattle.stored.specs.CutTables.{IsGrownInPart, IsSlot}
use Rattle.stored.specs.declared.half.Half.{Half}
use Rattle.stored.proofs.CatalogParts.{same_reading}
use Rattle.stored_mend.specs.Slots.{IsReadSlot}
use Rattle.stored_mend.proofs.PutOver.{drop_behind, length-range, put_over, put_same}
use Rattle.stored_mend.proofs.SlotShape.{length-attribute, relation_of, schema_in_2, slot_zeros, sound_of}

-- what is put together of a slot and zeros
pub zeros_put : (old slot one two : List ℕ) (m n k : ℕ) → length slot ≡ length old → one ≡ put_at old 0 slot → two ≡ put_at one m (take n (replicate k 0)) → n ≤ k → two ≡ put_at slot m (replicate n 0)
zeros_put old slot one two m n k long first second few =
    second ∙ ap (λ (xs : List ℕ). put_at xs m (take n (replicate k 0))) (first ∙ put_at_all old slot long) ∙ ap (λ (xs : List ℕ). put_at slot m xs) (take-replicate n k 0 few)

-- the slot with zeros behind so many attributes
abbrev pub cleared : List ℕ → ℕ → List ℕ
cleared slot count = put_at slot (16 + 18 * count) (replicate (144 - 18 * count) 0)

-- bytes that are put behind the attributes of a relation are gone
cleared_of : (version : ℕ) (schema : Schema) (slot part : List ℕ) (at : ℕ) → is_schema version schema ≡ true → 16 + 18 * length schema.attributes ≤ at → at + length part ≤ 160
    → slot ≡ put_at (relation_slot_bytes (Some schema)) at part → cleared slot (length schema.attributes) ≡ relation_slot_bytes (Some schema)
cleared_of version schema slot part at e low high is =
    let n : ℕ = length schema.attributes in
    let good = relation_of version schema e in
    let zeros : List ℕ = replicate (144 - 18 * n) 0 in
    let many : length zeros ≡ 144 - 18 * n = length-replicate {A = ℕ} (144 - 18 * n) 0 in
    let few : length schema.attributes ≤ 8 = good.1 in
    let size : length (relation_slot_bytes (Some schema)) ≡ 176 = length-relation_slot (Some schema) good in
    let end : 16 + 18 * n + (144 - 18 * n) ≡ 160 = omega (arith, few) in
    let there : zeros ≡ slice_range (relation_slot_bytes (Some schema)) (16 + 18 * n) (16 + 18 * n + (144 - 18 * n)) =
    sym (ap (λ (b : ℕ). slice_range (relation_slot_bytes (Some schema)) (16 + 18 * n) b) end ∙ slot_zeros schema good) in
    ap (λ (xs : List ℕ). put_at xs (16 + 18 * n) zeros) is
    ∙ put_over (relation_slot_bytes (Some schema)) part zeros at (16 + 18 * n) low (omega (arith, many, few, high)) (omega (arith, size, high))
    ∙ put_same (relation_slot_bytes (Some schema)) zeros (16 + 18 * n) (144 - 18 * n) (omega (arith, size, few)) there

module _ (slot : List ℕ) (size : length slot ≡ 176) (used : (slice_index slot 0 == 0) ≡ false) where
  abbrev schema : Schema
  schema = schema_of slot

  count_is : length schema.attributes ≡ slice_index slot 160
  count_is = length-attributes (slice_index slot 160) (drop 16 slot)

  read_is : relation_slot_of slot ≡ Some schema
  read_is = used_slot slot used

  -- a slot that a cut can have left has few attributes, and is that of a relation once they are all
  pub cut_slot : (half : Half) (version k : ℕ) (o : Option Schema) → o ≡ Some schema → IsSlot half version k slot o → (is_schema 2 schema ≡ true) × (cleared slot (length schema.attributes) ≡ relation_slot_bytes (Some schema))
  cut_slot half version k None e s = absurd (let n : ⊥ = cc in n)
  cut_slot half version k (Some other) e (inl written) =
      let same : other ≡ schema = cc in
      let form = subst (λ (x : Schema). is_relation_slot version slot (Some x) ≡ true) same written in
      let parts = both_parts (is_schema version schema) (bytes_eq slot (relation_slot_bytes (Some schema))) form in
      let is : slot ≡ relation_slot_bytes (Some schema) = (bytes_eq-Decides slot (relation_slot_bytes (Some schema))).0 parts.1 in
      let few = (sound_of version schema parts.0).few in (
        schema_in_2 version schema parts.0,
        cleared_of version schema slot [] (16 + 18 * length schema.attributes) parts.0 (omega arith) (omega (arith, few))
            (is ∙ sym (put_at_nothing (relation_slot_bytes (Some schema)) (16 + 18 * length schema.attributes))),
      )
  cut_slot half version k (Some other) e (inr grown) =
      let same : other ≡ schema = cc in
      let valid = subst (λ (x : Schema). is_schema version x ≡ true) same grown.1 in
      by_parts valid (subst (IsGrownInPart k slot) same grown.2)
    where
      by_parts : is_schema version schema ≡ true → IsGrownInPart k slot schema → (is_schema 2 schema ≡ true) × (cleared slot (length schema.attributes) ≡ relation_slot_bytes (Some schema))
      by_parts valid g =
          let part : List ℕ = slice_range (attribute_bytes g.more) g.begin g.upto in
          let whole : g.begin + (g.upto - g.begin) ≡ g.upto = omega (arith, g.inside.0) in
          let long : length part ≡ g.upto - g.begin =
          ap (λ (b : ℕ). length (slice_range (attribute_bytes g.more) g.begin b)) (sym whole)
          ∙ length-range (attribute_bytes g.more) g.begin (g.upto - g.begin) (omega (arith, length-attribute g.more g.valid, g.inside.0, g.inside.1)) in (
            schema_in_2 version schema valid,
            cleared_of version schema slot part (16 + 18 * length schema.attributes + g.begin) valid (omega arith) (omega (arith, long, g.room, g.inside.0, g.inside.1)) g.bytes,
          )

  -- too many attributes
  pub too_many : 8 < slice_index slot 160 → (half : Half) (version k : ℕ) → IsSlot half version k slot (relation_slot_of slot) → ⊥
  too_many more half version k s =
      let few = (sound_of 2 schema (cut_slot half version k (relation_slot_of slot) read_is s).0).few in
      absurd (omega (arith, few, count_is, more))

  -- what was read of the slot with zeros behind its attributes
  module _ (few : slice_index slot 160 ≤ 8) (bytes : List ℕ) (is : bytes ≡ cleared slot (slice_index slot 160)) where
    zeros_many : length (replicate {A = ℕ} (144 - 18 * slice_index slot 160) 0) ≡ 144 - 18 * slice_index slot 160
    zeros_many = length-replicate {A = ℕ} (144 - 18 * slice_index slot 160) 0

    reads_same : relation_slot_of bytes ≡ relation_slot_of slot
    reads_same =
        let c : ℕ = slice_index slot 160 in
        let zeros : List ℕ = replicate (144 - 18 * c) 0 in
        ap relation_slot_of is
        ∙ same_reading (cleared slot c) slot c
        (take-put_at slot zeros (16 + 18 * c) (16 + 18 * c) (omega arith) (omega (arith, size, few)))
        (drop_behind slot zeros (16 + 18 * c) 160 (omega (arith, zeros_many, few)) (omega (arith, size, few)))
        refl

    form_is : is_relation_slot 2 bytes (relation_slot_of bytes) ≡ is_relation_slot 2 (cleared slot (length schema.attributes)) (Some schema)
    form_is =
        ap (λ (o : Option Schema). is_relation_slot 2 bytes o) (reads_same ∙ read_is)
        ∙ ap (λ (xs : List ℕ). is_relation_slot 2 xs (Some schema)) (is ∙ ap (cleared slot) (sym count_is))

    read_slot : is_schema 2 schema ≡ true → cleared slot (length schema.attributes) ≡ relation_slot_bytes (Some schema) → IsReadSlot slot schema
    read_slot valid e = record {
      valid = valid;
      bytes =
          let n : ℕ = length schema.attributes in
          let middle : List ℕ = slice_range slot (16 + 18 * n) 160 in
          let end : 16 + 18 * n + (144 - 18 * n) ≡ 160 = omega (arith, few, count_is) in
          let long : length middle ≡ 144 - 18 * n = ap (λ (b : ℕ). length (slice_range slot (16 + 18 * n) b)) (sym end) ∙ length-range slot (16 + 18 * n) (144 - 18 * n) (omega (arith, few, count_is, size)) in
          let zeros : length (replicate {A = ℕ} (144 - 18 * n) 0) ≡ 144 - 18 * n = length-replicate {A = ℕ} (144 - 18 * n) 0 in
          sym (ap (λ (xs : List ℕ). put_at xs (16 + 18 * n) middle) (sym e)
          ∙ put_over slot (replicate (144 - 18 * n) 0) middle (16 + 18 * n) (16 + 18 * n) (omega arith) (omega (arith, zeros, long)) (omega (arith, size, few, count_is))
          ∙ put_same slot middle (16 + 18 * n) (144 - 18 * n) (omega (arith, size, few, count_is)) (ap (λ (b : ℕ). slice_range slot (16 + 18 * n) b) (sym end)));
    }

    module _ (o : Option (Option Schema)) (read : o ≡ (if is_relation_slot 2 bytes (relation_slot_of bytes) then Some (relation_slot_of bytes) else None)) where
      pub is_read : IfSome o (λ relation. relation ≡ relation_slot_of slot)
      is_read = by_cases o read
        where
          by_cases : (o : Option (Option Schema)) → o ≡ (if is_relation_slot 2 bytes (relation_slot_of bytes) then Some (relation_slot_of bytes) else None) → IfSome o (λ relation. relation ≡ relation_slot_of slot)
          by_cases None e = tt
          by_cases (Some r) e = (some_if (is_relation_slot 2 bytes (relation_slot_of bytes)) r (relation_slot_of bytes) e).1 ∙ reads_same

      pub is_formed : IfSome o (λ relation. IfSome relation (λ s. IsReadSlot slot s))
      is_formed = by_cases o read
        where
          by_schema : (r : Option Schema) → r ≡ Some schema → is_relation_slot 2 (cleared slot (length schema.attributes)) (Some schema) ≡ true → IfSome r (λ s. IsReadSlot slot s)
          by_schema None e form = tt
          by_schema (Some s) e form =
              let same : schema ≡ s = cc in
              let parts = both_parts (is_schema 2 schema) (bytes_eq (cleared slot (length schema.attributes)) (relation_slot_bytes (Some schema))) form in
              subst (IsReadSlot slot) same (read_slot parts.0 ((bytes_eq-Decides (cleared slot (length schema.attributes)) (relation_slot_bytes (Some schema))).0 parts.1))

          by_cases : (o : Option (Option Schema)) → o ≡ (if is_relation_slot 2 bytes (relation_slot_of bytes) then Some (relation_slot_of bytes) else None) → IfSome o (λ relation. IfSome relation (λ s. IsReadSlot slot s))
          by_cases None e = tt
          by_cases (Some r) e =
              let found = some_if (is_relation_slot 2 bytes (relation_slot_of bytes)) r (relation_slot_of bytes) e in
              by_schema r (found.1 ∙ reads_same ∙ read_is) (sym form_is ∙ found.0)

      pub is_none : IfNone o ((half : Half) (version k : ℕ) → IsSlot half version k slot (relation_slot_of slot) → ⊥)
      is_none = by_cases o read
        where
          by_cases : (o : Option (Option Schema)) → o ≡ (if is_relation_slot 2 bytes (relation_slot_of bytes) then Some (relation_slot_of bytes) else None)
              → IfNone o ((half : Half) (version k : ℕ) → IsSlot half version k slot (relation_slot_of slot) → ⊥)
          by_cases (Some r) e = tt
          by_cases None e = λ half version k s.
              let cut = cut_slot half version k (relation_slot_of slot) read_is s in
              let form : is_relation_slot 2 (cleared slot (length schema.attributes)) (Some schema) ≡ true =
              both_true (is_schema 2 schema) (bytes_eq (cleared slot (length schema.attributes)) (relation_slot_bytes (Some schema))) cut.0
              ((bytes_eq-Decides (cleared slot (length schema.attributes)) (relation_slot_bytes (Some schema))).1 cut.1) in
              yes_no (is_relation_slot 2 bytes (relation_slot_of bytes)) (form_is ∙ form) (none_if (is_relation_slot 2 bytes (relation_slot_of bytes)) (relation_slot_of bytes) e)

-- a slot that is read has a short row
pub is_short : (slot : List ℕ) (o : Option (Option Schema)) → IfSome o (λ relation. IfSome relation (λ s. IsReadSlot slot s)) → IfSome o (λ relation. IfSome relation (λ s. row_length s.attributes ≤ 128))
is_short slot None h = tt
is_short slot (Some None) h = tt
is_short slot (Some (Some s)) h = true_le (row_length s.attributes) 128 (both_parts _ _ (sound_of 2 s h.valid).row).0
