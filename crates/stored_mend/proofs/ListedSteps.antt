-- Steps that repair the catalog of files that a cut left.
use Rattle.std.proofs.Common.{◌≡◌, ◌≢◌, inl, inr, ⊎_elim, ℕ, ◌+◌, ◌*◌, ◌<◌, ◌≤◌, true, false, List, length, Option, Some, None, IsTrue, ap, sym, subst, ◌∙◌, arith}
use Rattle.std.specs.Prelude.{slice_range}
use Rattle.std.specs.Str.{bytes_eq}
use Rattle.std.proofs.lemmas.Bool.{cases_eq}
use Rattle.afl_base.specs.Files.{State, Table, bytes_at}
use Rattle.catalog.specs.Rules.{catalog_bytes_in, is_relation_slot, is_schema, is_stranger}
use Rattle.db_model.specs.declared.schemas.Schema.{Schema}
use Rattle.db_model.specs.Catalog.{catalog_of, relation_at, relation_slot_bytes}
use Rattle.padded.proofs.Facts.{both_parts, both_true, bytes_eq_same}
use Rattle.space_model.specs.FileNames.{bytes_in_file, bytes_named, catalog_file, file_named, rows_file}
use Rattle.stored.specs.CutTables.{HasMark, IsBehindSlot, IsCutTable, IsHalfDone, IsMarkedInPart, IsSlot, IsTimed, relation, slot_bytes}
use Rattle.stored.specs.Mended.{mended_base, mended_catalog, whole_catalog}
use Rattle.stored.specs.declared.half.Half.{Half}
use Rattle.stored.specs.declared.half.Half.TheVariants.{Nothing}
use Rattle.stored.proofs.MendedBase.{slots_same, whole_long}
use Rattle.stored_mend.specs.Listed.{HasWrittenCatalog, IsBeyond, IsBare, IsDoneTo, IsListedTo, IsMarked, IsMarkedTo, IsTakenBack, Reach, relations_below}
use Rattle.stored_mend.specs.Mending.{IsWholeCatalog}
use Rattle.stored_mend.specs.Trees.{SparesButOne}
use Rattle.stored_mend.proofs.CatalogKept.{catalog_before}
use Rattle.stored_mend.proofs.HalfKept.{edited, index_at_slot, relation_at_slot, relation_same, slot_same, timed_same, version_same}
use Rattle.stored_mend.proofs.HalfSettled.{IsWritten, relation_settled, written_slot}
use Rattle.stored_mend.proofs.IndexGone.{formed_size, known_kind}
use Rattle.stored_mend.proofs.OneFile.{catalog_no_rows}
use Rattle.stored_mend.proofs.SlotEdits.{DifferIn, breaks_same, form_same, index_at_same, version_of_same}

-- ---- which catalogs are written

long_some : (bytes : List ℕ) → 1472 ≤ length bytes → length bytes ≡ 0 → ⊥
long_some bytes long none = omega (arith, long, none)

-- of a catalog with all slots
marked_most : (files : Table) → 1472 ≤ length (catalog_bytes_in files) → IsMarked files → length (catalog_bytes_in files) ≤ 1480
marked_most files long marked = ⊎_elim
    (λ (first : length (catalog_bytes_in files) ≡ 1472). omega (arith, first))
    (λ (second : length (catalog_bytes_in files) ≡ 1480). omega (arith, second))
    (formed_size (catalog_bytes_in files) marked.0 (long_some (catalog_bytes_in files) long))

pub half_written : (files : Table) (half : Half) → ((id : ℕ) → is_stranger files id ≡ false) → IsHalfDone files half → HasWrittenCatalog files
half_written files half known h = record {
  whole = h.whole;
  most = ⊎_elim
      (λ (marked : IsMarked files). marked_most files h.whole marked)
      (λ rest. ⊎_elim
      (λ (part : IsMarkedInPart (catalog_bytes_in files) × IsBehindSlot half). let size = part.0.size in let few = part.0.some.1 in omega (arith, size, few))
      (λ (timed : IsTimed files × (half ≡ Nothing)). let size = timed.0.short in omega (arith, size))
      rest)
      h.mark;
  kind = λ id inside named. known_kind files id named (known id);
}

-- where none is written there was none
pub taken_unwritten : (files : Table) → IsTakenBack files → (HasWrittenCatalog files → ⊥) → IsListedTo (relations_below 0) files
taken_unwritten files t none = record {
  known = t.known;
  left = ⊎_elim
      (λ (bare : IsBare files 0). inl bare)
      (λ (done : (half : Half) × IsHalfDone files half). absurd (none (half_written files done.0 t.known done.1)))
      t.left;
}

pub listed_unwritten : (files : Table) (reach next : Reach) → reach.rows ≡ next.rows → IsListedTo reach files → (HasWrittenCatalog files → ⊥) → IsListedTo next files
listed_unwritten files reach next same l none = record {
  known = l.known;
  left = ⊎_elim
      (λ (bare : IsBare files reach.rows). inl (subst (IsBare files) same bare))
      (λ (done : (half : Half) × IsDoneTo reach files half). absurd (none (half_written files done.0 l.known done.1.done)))
      l.left;
}

-- where one has all slots something is there
pub whole_not_bare : (files : Table) (cat rows : ℕ) → IsWholeCatalog files cat → IsBare files rows → ⊥
whole_not_bare files cat rows w bare =
    let size : length (bytes_at files cat) ≡ 0 = ap (λ (xs : List ℕ). length xs) (sym (catalog_before files cat w) ∙ bare.none) in
    let long = w.long in
    omega (arith, size, long)

pub done_of : (files : Table) (cat : ℕ) (reach : Reach) → IsWholeCatalog files cat → IsListedTo reach files → (half : Half) × IsDoneTo reach files half
done_of files cat reach w l = ⊎_elim
    (λ (bare : IsBare files reach.rows). absurd (whole_not_bare files cat reach.rows w bare))
    (λ (done : (half : Half) × IsDoneTo reach files half). done)
    l.left

pub half_of : (files : Table) (cat : ℕ) → IsWholeCatalog files cat → IsTakenBack files → (half : Half) × IsHalfDone files half
half_of files cat w t = ⊎_elim
    (λ (bare : IsBare files 0). absurd (whole_not_bare files cat 0 w bare))
    (λ (done : (half : Half) × IsHalfDone files half). done)
    t.left

-- ---- one relation slot is written

-- a slot's relation is valid
slot_valid : (half : Half) (version k : ℕ) (slot now : List ℕ) (o : Option Schema) → IsSlot half version k slot o → now ≡ relation_slot_bytes o → is_relation_slot version now o ≡ true
slot_valid half version k slot now None s e = bytes_eq_same now (relation_slot_bytes None) e
slot_valid half version k slot now (Some schema) s e =
    both_true (is_schema version schema) (bytes_eq now (relation_slot_bytes (Some schema)))
    (⊎_elim
    (λ (written : is_relation_slot version slot (Some schema) ≡ true). (both_parts (is_schema version schema) (bytes_eq slot (relation_slot_bytes (Some schema))) written).0)
    (λ grown. grown.1)
    s)
    (bytes_eq_same now (relation_slot_bytes (Some schema)) e)

module _ (old new : Table) (slot : ℕ) (below : slot < 8) (spares : (n : List ℕ) → n ≢ catalog_file → file_named n new ≡ file_named n old) (base : mended_base new ≡ mended_base old)
    (d : DifferIn (catalog_bytes_in old) (catalog_bytes_in new) slot) (half : Half) (h : IsHalfDone old half) where
  long : 1472 ≤ length (catalog_bytes_in new)
  long = let size = d.size in let was = h.whole in omega (arith, size, was)

  whole_now : whole_catalog new ≡ catalog_bytes_in new
  whole_now = whole_long (catalog_bytes_in new) long

  whole_was : whole_catalog old ≡ catalog_bytes_in old
  whole_was = whole_long (catalog_bytes_in old) h.whole

  used_rows : (k : ℕ) (schema : Schema) → relation old k ≡ Some schema → bytes_named (rows_file k) new ≡ bytes_named (rows_file k) old
  used_rows k schema is = ap bytes_in_file (spares (rows_file k) (λ e. catalog_no_rows k (sym e)))

  marked_now : IsMarked old → IsMarked new
  marked_now marked = (
    form_same (catalog_bytes_in old) (catalog_bytes_in new) slot d ∙ marked.0,
    version_of_same (catalog_bytes_in old) (catalog_bytes_in new) slot d ∙ marked.1 ∙ sym (version_same old new base),
  )

  marked_to : (n : ℕ) → IsMarkedTo old n → IsMarkedTo new n
  marked_to n m = ⊎_elim
      (λ (marked : IsMarked old). inl (marked_now marked))
      (λ (timed : (t : IsTimed old) × (n ≤ t.k)). inr (timed_same old new base d.size used_rows timed.0, timed.1))
      m

  mark_now : (n : ℕ) → IsMarkedTo old n → HasMark new half
  mark_now n m = ⊎_elim
      (λ (marked : IsMarked old). inl (marked_now marked))
      (λ rest. ⊎_elim
      (λ (part : IsMarkedInPart (catalog_bytes_in old) × IsBehindSlot half). absurd (no_part part.0))
      (λ (timed : IsTimed old × (half ≡ Nothing)). inr (inr (timed_same old new base d.size used_rows timed.0, timed.1)))
      rest)
      h.mark
    where
      no_part : IsMarkedInPart (catalog_bytes_in old) → ⊥
      no_part part =
          let size = part.size in
          let more = part.some.0 in
          let less = part.some.1 in
          ⊎_elim
          (λ (marked : IsMarked old). ⊎_elim
          (λ (first : length (catalog_bytes_in old) ≡ 1472). omega (arith, first, size, more))
          (λ (second : length (catalog_bytes_in old) ≡ 1480). omega (arith, second, size, less))
          (formed_size (catalog_bytes_in old) marked.0 (long_some (catalog_bytes_in old) h.whole)))
          (λ (timed : (t : IsTimed old) × (n ≤ t.k)). let short = timed.0.short in omega (arith, short, size, more))
          m

  same_ranges : (i : ℕ) → i < 8 → slice_range (whole_catalog new) (1408 + 8 * i) (1408 + 8 * i + 8) ≡ slice_range (whole_catalog old) (1408 + 8 * i) (1408 + 8 * i + 8)
  same_ranges i inside =
      ap (λ (xs : List ℕ). slice_range xs (1408 + 8 * i) (1408 + 8 * i + 8)) whole_now ∙ d.indexes i inside ∙ ap (λ (xs : List ℕ). slice_range xs (1408 + 8 * i) (1408 + 8 * i + 8)) (sym whole_was)

  relations_now : (catalog_of (whole_catalog new)).relations ≡ (catalog_of (whole_catalog old)).relations
  relations_now = slots_same (relation_at (whole_catalog new)) (relation_at (whole_catalog old)) 0 8 (λ k low inside. slot_same old new base k inside)

  -- the slot is written, or in part where it was under way
  module _ (now : IsSlot half (mended_catalog old).version slot (slot_bytes new slot) (relation old slot)) where
    slots_now : (k : ℕ) → k < 8 → IsSlot half (mended_catalog old).version k (slot_bytes new k) (relation old k)
    slots_now k inside = ⊎_elim
        (λ (same : k ≡ slot). subst (λ (j : ℕ). IsSlot half (mended_catalog old).version j (slot_bytes new j) (relation old j)) (sym same) now)
        (λ (differs : k ≢ slot). subst (λ (xs : List ℕ). IsSlot half (mended_catalog old).version k xs (relation old k))
        (sym (ap (λ (xs : List ℕ). slice_range xs (176 * k) (176 * k + 176)) whole_now ∙ d.slots k inside differs ∙ ap (λ (xs : List ℕ). slice_range xs (176 * k) (176 * k + 176)) (sym whole_was)))
        (h.slots k inside))
        (cases_eq k slot)

    pub half_slot : (n : ℕ) → IsMarkedTo old n → IsHalfDone new half
    half_slot n m =
        edited old new base half h spares long (mark_now n m) slots_now
        (λ i inside. breaks_same (whole_catalog old) (whole_catalog new) same_ranges relations_now i inside ∙ h.indexes i inside)
        (λ i inside. inl (index_at_slot new i inside ∙ index_at_same (whole_catalog old) (whole_catalog new) same_ranges i inside ∙ sym (index_at_slot old i inside)))

  module _ (written : slot_bytes new slot ≡ relation_slot_bytes (relation old slot)) where
    pub half_written_slot : (n : ℕ) → IsMarkedTo old n → IsHalfDone new half
    half_written_slot =
        half_slot (written_slot half (mended_catalog old).version slot (slot_bytes new slot) (relation old slot)
        (slot_valid half (mended_catalog old).version slot (slot_bytes old slot) (slot_bytes new slot) (relation old slot) (h.slots slot below) written))

    is_written : IsWritten new slot
    is_written =
        subst (λ (v : ℕ). is_relation_slot v (slot_bytes new slot) (relation new slot) ≡ true) (sym (version_same old new base))
        (subst (λ (o : Option Schema). is_relation_slot (mended_catalog old).version (slot_bytes new slot) o ≡ true) (sym (relation_same old new base slot))
        (slot_valid half (mended_catalog old).version slot (slot_bytes old slot) (slot_bytes new slot) (relation old slot) (h.slots slot below) written))

    pub slot_done : IsBeyond (relations_below slot) half → IsMarkedTo old (slot + 1) → (after : Half) × IsDoneTo (relations_below (slot + 1)) new after
    slot_done ahead m = relation_settled new slot is_written (marked_to (slot + 1) m) half (half_written_slot (slot + 1) m) ahead

-- ---- in the words of a step

-- what a step that changes the bytes of the catalog alone keeps
pub record KeepsFiles (old new : State) : Type 0 where
  pub spares : SparesButOne old new catalog_file
  pub known : (id : ℕ) → is_stranger new.files id ≡ is_stranger old.files id
  pub base : IsTrue old.tells → mended_base new.files ≡ mended_base old.files

pub slot_listed : (old new : State) (cat slot : ℕ) → slot < 8 → IsTrue old.tells → IsWholeCatalog old.files cat → KeepsFiles old new → DifferIn (catalog_bytes_in old.files) (catalog_bytes_in new.files) slot
    → slot_bytes new.files slot ≡ relation_slot_bytes (relation_at (whole_catalog old.files) slot) → IsListedTo (relations_below slot) old.files → IsMarkedTo old.files (slot + 1)
    → IsListedTo (relations_below (slot + 1)) new.files
slot_listed old new cat slot below told w k d written l m =
    let done = done_of old.files cat (relations_below slot) w l in
    record {
      known = λ id. k.known id ∙ l.known id;
      left = inr (slot_done old.files new.files slot below k.spares.files (k.base told) d done.0 done.1.done
          (written ∙ ap relation_slot_bytes (sym (relation_at_slot old.files slot below))) done.1.ahead m);
    }

-- so is a slot that is written, or in part where it was under way
pub slot_cut : (old new : State) (cat slot : ℕ) (reach : Reach) → slot < 8 → IsTrue old.tells → IsWholeCatalog old.files cat → KeepsFiles old new → DifferIn (catalog_bytes_in old.files) (catalog_bytes_in new.files) slot
    → (l : IsListedTo reach old.files)
    → ((half : Half) → IsHalfDone old.files half → IsSlot half (mended_catalog old.files).version slot (slot_bytes new.files slot) (relation old.files slot))
    → IsCutTable new.files
slot_cut old new cat slot reach below told w k d l now =
    let done = done_of old.files cat reach w l in
    record {
      known = λ id. k.known id ∙ l.known id;
      done = inr (done.0, half_slot old.files new.files slot below k.spares.files (k.base told) d done.0 done.1.done (now done.0 done.1.done) reach.relations done.1.mark);
    }
