-- A catalog in which the slot of one index is made unused.
use Rattle.std.proofs.Common.{◌≡◌, ◌≢◌, ◌⊎◌, inl, inr, ⊎_elim, ℕ, zero, suc, ◌+◌, ◌*◌, ◌<◌, ◌≤◌, Bool, true, false, not, ◌&&◌, ◌||◌, ◌==◌, List, [], ◌∷◌, length, map, take, get_or, Option, Some, None, if◌then◌else◌, refl, ap, sym, subst, ◌∙◌, arith}
use Rattle.std.specs.Prelude.{⊤, nat_le, slice_range}
use Rattle.std.specs.List.{list_any, range_with_len}
use Rattle.std.specs.Str.{bytes_eq}
use Rattle.std.proofs.lemmas.Bool.{cases_eq}
use Rattle.afl_base.specs.Fields.{put_at}
use Rattle.afl_base.proofs.FieldLaws.{length-put_at}
use Rattle.catalog.specs.Rules.{breaks_index, breaks_relation, has_form, how_many, is_behind, is_index_form, is_same_place, is_sound_index, is_sound_relation, is_table, is_surplus_table, stands_on}
use Rattle.catalog.proofs.PutRanges.{before_put, behind_put, here_put, other_index_put}
use Rattle.db_model.specs.declared.schemas.Schema.{Schema}
use Rattle.db_model.specs.Catalog.{Index, catalog_of, index_at, index_slot_bytes, index_slot_of, relation_at, relation_slot_of, version_mark, version_of}
use Rattle.db_model.specs.Database.{is_hash_table, most_tables}
use Rattle.padded.proofs.Facts.{both_parts, both_true, false_by, le_true, neither, not_not, true_le, untrue}
use Rattle.stored.proofs.MendedBase.{slots_same}

-- ---- lists in which some slots are made unused

abbrev pub IsThinned : (now old : List (Option Index)) → Type 0
IsThinned [] [] = ⊤
IsThinned (x ∷ now) (y ∷ old) = ((x ≡ y) ⊎ (x ≡ None)) × IsThinned now old
IsThinned [] (y ∷ old) = ⊥
IsThinned (x ∷ now) [] = ⊥

thinned_map : (f g : ℕ → Option Index) (from n : ℕ) → ((k : ℕ) → k < from + n → (f k ≡ g k) ⊎ (f k ≡ None)) → IsThinned (map f (range_with_len from n)) (map g (range_with_len from n))
thinned_map f g from zero each = tt
thinned_map f g from (suc n) each = (each from (omega arith), thinned_map f g (from + 1) n (λ k below. each k (omega (arith, below))))

thinned_take : (n : ℕ) (now old : List (Option Index)) → IsThinned now old → IsThinned (take n now) (take n old)
thinned_take zero now old h = tt
thinned_take (suc n) [] [] h = tt
thinned_take (suc n) (x ∷ now) (y ∷ old) h = (h.0, thinned_take n now old h.1)
thinned_take (suc n) [] (y ∷ old) h = absurd h
thinned_take (suc n) (x ∷ now) [] h = absurd h

-- none that is left is on the attribute of an index
thinned_alone : (index : Index) (now old : List (Option Index)) → IsThinned now old → list_any (is_same_place index) old ≡ false → list_any (is_same_place index) now ≡ false
thinned_alone index [] [] h e = refl
thinned_alone index (x ∷ now) (y ∷ old) h e =
    let parts = neither (is_same_place index y) (list_any (is_same_place index) old) e in
    let rest = thinned_alone index now old h.1 parts.1 in
    ⊎_elim
    (λ (same : x ≡ y). rw (ap (is_same_place index) same ∙ parts.0) rest)
    (λ (none : x ≡ None). rw (ap (is_same_place index) none) rest)
    h.0
thinned_alone index [] (y ∷ old) h e = absurd h
thinned_alone index (x ∷ now) [] h e = absurd h

-- hash tables are no more
thinned_tables : (now old : List (Option Index)) → IsThinned now old → how_many is_table now ≤ how_many is_table old
thinned_tables [] [] h = omega arith
thinned_tables (x ∷ now) (y ∷ old) h =
    let rest = thinned_tables now old h.1 in
    ⊎_elim
    (λ (same : x ≡ y). subst (λ (z : Option Index). how_many is_table (z ∷ now) ≤ how_many is_table (y ∷ old)) (sym same) (by_test (is_table y) rest))
    (λ (none : x ≡ None). subst (λ (z : Option Index). how_many is_table (z ∷ now) ≤ how_many is_table (y ∷ old)) (sym none) (by_less (is_table y) rest))
    h.0
  where
    by_test : (b : Bool) → how_many is_table now ≤ how_many is_table old → (if b then how_many is_table now + 1 else how_many is_table now) ≤ (if b then how_many is_table old + 1 else how_many is_table old)
    by_test true h = omega (arith, h)
    by_test false h = h

    by_less : (b : Bool) → how_many is_table now ≤ how_many is_table old → how_many is_table now ≤ (if b then how_many is_table old + 1 else how_many is_table old)
    by_less true h = omega (arith, h)
    by_less false h = h
thinned_tables [] (y ∷ old) h = absurd h
thinned_tables (x ∷ now) [] h = absurd h

thinned_third : (index : Index) (now old : List (Option Index)) → IsThinned now old → is_surplus_table old index ≡ false → is_surplus_table now index ≡ false
thinned_third index now old h e =
    let few = thinned_tables now old h in
    false_by (is_surplus_table now index) (λ third.
    let parts = both_parts (is_hash_table index) (nat_le most_tables (how_many is_table now)) third in
    let two = true_le most_tables (how_many is_table now) parts.1 in
    let no : false ≡ true = sym e ∙ both_true (is_hash_table index) (nat_le most_tables (how_many is_table old)) parts.0 (le_true most_tables (how_many is_table old) (omega (arith, two, few))) in
    let n : ⊥ = cc in n)

-- an index may stand after fewer
thinned_behind : (relations : List (Option Schema)) (now old : List (Option Index)) (o : Option Index) → IsThinned now old → is_behind relations old o ≡ true → is_behind relations now o ≡ true
thinned_behind relations now old None h e = refl
thinned_behind relations now old (Some index) h e =
    let stands : Bool = stands_on index (get_or relations index.relation None) in
    let a = both_parts (stands && not (list_any (is_same_place index) old)) (not (is_surplus_table old index)) e in
    let b = both_parts stands (not (list_any (is_same_place index) old)) a.0 in
    let alone = thinned_alone index now old h (untrue (list_any (is_same_place index) old) b.1) in
    let few = thinned_third index now old h (untrue (is_surplus_table old index) a.1) in
    both_true (stands && not (list_any (is_same_place index) now)) (not (is_surplus_table now index))
    (both_true stands (not (list_any (is_same_place index) now)) b.0 (ap not alone))
    (ap not few)

-- ---- the bytes of a catalog

module _ (bytes : List ℕ) (slot : ℕ) (long : 1472 ≤ length bytes) (below : slot < 8) where
  abbrev pub blanked : List ℕ
  blanked = put_at bytes (1408 + 8 * slot) (index_slot_bytes None)

  room : 1408 + 8 * slot ≤ length bytes
  room = omega (arith, long, below)

  pub blanked_size : length blanked ≡ length bytes
  blanked_size = length-put_at bytes (index_slot_bytes None) (1408 + 8 * slot) (omega (arith, long, below))

  pub blanked_version : version_of blanked ≡ version_of bytes
  blanked_version = ap (λ (n : ℕ). if n == 1472 then 1 else 2) blanked_size

  pub blanked_form : has_form blanked ≡ has_form bytes
  blanked_form =
      let mark : slice_range blanked 1472 1480 ≡ slice_range bytes 1472 1480 = behind_put bytes (index_slot_bytes None) (1408 + 8 * slot) 1472 1480 (omega (arith, below)) room in
      ap (λ (n : ℕ). n == 0 || n == 1472 || (n == 1480 && bytes_eq (slice_range blanked 1472 1480) version_mark)) blanked_size
      ∙ ap (λ (xs : List ℕ). length bytes == 0 || length bytes == 1472 || (length bytes == 1480 && bytes_eq xs version_mark)) mark

  -- ---- relations

  pub blanked_slot : (k : ℕ) → k < 8 → slice_range blanked (176 * k) (176 * k + 176) ≡ slice_range bytes (176 * k) (176 * k + 176)
  blanked_slot k inside = before_put bytes (index_slot_bytes None) (1408 + 8 * slot) (176 * k) (176 * k + 176) (omega arith) (omega (arith, inside)) room

  pub blanked_relations : (catalog_of blanked).relations ≡ (catalog_of bytes).relations
  blanked_relations = slots_same (relation_at blanked) (relation_at bytes) 0 8 (λ k low inside. ap relation_slot_of (blanked_slot k inside))

  pub blanked_relation : (k : ℕ) → k < 8 → breaks_relation blanked k ≡ breaks_relation bytes k
  unfolding breaks_relation
  blanked_relation k inside =
      ap (λ (v : ℕ). not (is_sound_relation v (slice_range blanked (176 * k) (176 * k + 176)) (take k (catalog_of blanked).relations))) blanked_version
      ∙ ap (λ (xs : List ℕ). not (is_sound_relation (version_of bytes) xs (take k (catalog_of blanked).relations))) (blanked_slot k inside)
      ∙ ap (λ (rs : List (Option Schema)). not (is_sound_relation (version_of bytes) (slice_range bytes (176 * k) (176 * k + 176)) (take k rs))) blanked_relations

  -- ---- indexes

  here_slot : slice_range blanked (1408 + 8 * slot) (1408 + 8 * slot + 8) ≡ index_slot_bytes None
  here_slot = here_put bytes (index_slot_bytes None) (1408 + 8 * slot) 8 refl room

  pub blanked_here : index_at blanked slot ≡ None
  blanked_here = ap index_slot_of here_slot

  other_slot : (i : ℕ) → i ≢ slot → slice_range blanked (1408 + 8 * i) (1408 + 8 * i + 8) ≡ slice_range bytes (1408 + 8 * i) (1408 + 8 * i + 8)
  other_slot i differs = other_index_put bytes (index_slot_bytes None) i slot refl differs room

  pub blanked_other : (i : ℕ) → i ≢ slot → index_at blanked i ≡ index_at bytes i
  blanked_other i differs = ap index_slot_of (other_slot i differs)

  pub blanked_thinned : IsThinned (catalog_of blanked).indexes (catalog_of bytes).indexes
  blanked_thinned = thinned_map (index_at blanked) (index_at bytes) 0 8 (λ i inside. ⊎_elim
      (λ (same : i ≡ slot). inr (subst (λ (j : ℕ). index_at blanked j ≡ None) (sym same) blanked_here))
      (λ (differs : i ≢ slot). inl (blanked_other i differs))
      (cases_eq i slot))

  -- an index slot that broke no rule breaks none
  pub blanked_index : (i : ℕ) → breaks_index bytes i ≡ false → breaks_index blanked i ≡ false
  unfolding breaks_index
  blanked_index i sound = ⊎_elim
      (λ (same : i ≡ slot). subst (λ (j : ℕ). not (is_sound_index (slice_range blanked (1408 + 8 * j) (1408 + 8 * j + 8)) (catalog_of blanked).relations (take j (catalog_of blanked).indexes)) ≡ false) (sym same)
      (ap (λ (xs : List ℕ). not (is_sound_index xs (catalog_of blanked).relations (take slot (catalog_of blanked).indexes))) here_slot))
      (λ (differs : i ≢ slot).
      let slot_bytes : List ℕ = slice_range bytes (1408 + 8 * i) (1408 + 8 * i + 8) in
      let before : List (Option Index) = take i (catalog_of bytes).indexes in
      let relations : List (Option Schema) = (catalog_of bytes).relations in
      let parts = both_parts (is_index_form slot_bytes (index_slot_of slot_bytes)) (is_behind relations before (index_slot_of slot_bytes)) (not_not (is_sound_index slot_bytes relations before) sound) in
      let behind = thinned_behind relations (take i (catalog_of blanked).indexes) before (index_slot_of slot_bytes) (thinned_take i (catalog_of blanked).indexes (catalog_of bytes).indexes blanked_thinned) parts.1 in
      ap (λ (xs : List ℕ). not (is_sound_index xs (catalog_of blanked).relations (take i (catalog_of blanked).indexes))) (other_slot i differs)
      ∙ ap (λ (rs : List (Option Schema)). not (is_sound_index slot_bytes rs (take i (catalog_of blanked).indexes))) blanked_relations
      ∙ ap not (both_true (is_index_form slot_bytes (index_slot_of slot_bytes)) (is_behind relations (take i (catalog_of blanked).indexes) (index_slot_of slot_bytes)) parts.0 behind))
      (cases_eq i slot)
