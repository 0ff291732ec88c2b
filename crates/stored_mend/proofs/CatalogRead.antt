-- What a catalog is read as where its mark is completed, and where bytes behind attributes are taken back.
use Rattle.std.proofs.Common.{◌≡◌, ◌≢◌, ℕ, ◌+◌, ◌-◌, ◌*◌, ◌<◌, ◌≤◌, ◌==◌, Bool, true, false, List, ◌++◌, length, take, drop, Option, Some, None, if◌then◌else◌, refl, ap, sym, subst, ◌∙◌, arith, length-append}
use Rattle.std.specs.Prelude.{slice_index, slice_range}
use Rattle.std.specs.List.{list_any}
use Rattle.std.proofs.Math.Logic.{⊎_elim}
use Rattle.std.proofs.lemmas.Bool.{cases_eq, cases_lt}
use Rattle.std.proofs.lemmas.List.{drop-drop, drop-take, get_or-drop, get_or-take, take-take}
use Rattle.std.proofs.lemmas.List.Folds.{list_any_at}
use Rattle.std.proofs.lemmas.List.FromFn.{get_or-map-range_with_len, length-map-range_with_len}
use Rattle.afl_base.specs.Fields.{put_at}
use Rattle.catalog.specs.Rules.{is_tree}
use Rattle.catalog.proofs.Choices.{not_equal}
use Rattle.catalog.proofs.PutRanges.{before_put, behind_put}
use Rattle.db_model.specs.declared.schemas.IndexKind.TheVariants.{Inline, MaxHeap, MemHash}
use Rattle.db_model.specs.declared.schemas.Schema.{Schema}
use Rattle.db_model.specs.Catalog.{catalog_of, index_at, index_slot_of, kind_from, relation_at, relation_slot_of, schema_of, version_of}
use Rattle.stored.specs.Mended.{has_time, mended_version, whole_bytes}
use Rattle.stored.proofs.CatalogParts.{same_reading}
use Rattle.stored.proofs.MendedBase.{slots_same, whole_long}
use Rattle.stored.proofs.MendedTables.{ReadsSame}
use Rattle.padded.proofs.Facts.{slice_of_front as range_append}

-- ---- the first byte of a slot

pub slot_byte : (bytes : List ℕ) (a b : ℕ) → a < b → slice_index (slice_range bytes a b) 0 ≡ slice_index bytes a
slot_byte bytes a b h =
    let same : a + 0 ≡ a = omega arith in
    get_or-take (b - a) (drop a bytes) 0 0 (omega (arith, h)) ∙ get_or-drop a bytes 0 0 ∙ ap (slice_index bytes) same

-- a relation without a name is none
pub unused_at : (bytes : List ℕ) (k : ℕ) → slice_index bytes (176 * k) ≡ 0 → relation_at bytes k ≡ None
unused_at bytes k e =
    let slot : List ℕ = slice_range bytes (176 * k) (176 * k + 176) in
    ap (λ (n : ℕ). if n == 0 then None else Some (schema_of slot)) (slot_byte bytes (176 * k) (176 * k + 176) (omega arith) ∙ e)

-- only code 2 has a tree
code_without_tree : (code relation attribute : ℕ) → code ≢ 2 → is_tree (if code == 0 then None else Some (record { kind = kind_from code; relation = relation; attribute = attribute })) ≡ false
code_without_tree code relation attribute differs = by_tests (code == 0) (code == 1) (code == 2) (not_equal code 2 differs)
  where
    by_tests : (p q s : Bool) → s ≡ false → is_tree (if p then None else Some (record { kind = if q then Inline else (if s then MaxHeap else MemHash); relation = relation; attribute = attribute })) ≡ false
    by_tests true q s e = refl
    by_tests false true s e = refl
    by_tests false false false e = refl
    by_tests false false true e = cc

pub no_tree_at : (bytes : List ℕ) (i : ℕ) → slice_index bytes (1408 + 8 * i) ≢ 2 → is_tree (index_at bytes i) ≡ false
no_tree_at bytes i differs =
    let slot : List ℕ = slice_range bytes (1408 + 8 * i) (1408 + 8 * i + 8) in
    code_without_tree (slice_index slot 0) (slice_index slot 1) (slice_index slot 2) (λ e. differs (sym (slot_byte bytes (1408 + 8 * i) (1408 + 8 * i + 8) (omega arith)) ∙ e))

pub tree_at : (bytes : List ℕ) (i : ℕ) → slice_index (slice_range bytes (1408 + 8 * i) (1408 + 8 * i + 8)) 0 ≡ 2 → is_tree (index_at bytes i) ≡ true
tree_at bytes i e =
    let slot : List ℕ = slice_range bytes (1408 + 8 * i) (1408 + 8 * i + 8) in
    ap (λ (n : ℕ). is_tree (if n == 0 then None else Some (record { kind = kind_from n; relation = slice_index slot 1; attribute = slice_index slot 2 }))) e

-- ---- the version

-- the same relations, in catalogs of one version
pub version_by : (a b : List ℕ) → ((k : ℕ) → k < 8 → relation_at a k ≡ relation_at b k) → version_of a ≡ version_of b → mended_version a ≡ mended_version b
version_by a b relations version =
    let same : (catalog_of a).relations ≡ (catalog_of b).relations = slots_same (relation_at a) (relation_at b) 0 8 (λ k low below. relations k below) in
    ap (λ (rs : List (Option Schema)). if list_any has_time rs then 2 else version_of a) same ∙ ap (λ (v : ℕ). if list_any has_time (catalog_of b).relations then 2 else v) version

-- a relation with a time wants version 2
pub version_timed : (bytes : List ℕ) (k : ℕ) → k < 8 → has_time (relation_at bytes k) ≡ true → mended_version bytes ≡ 2
version_timed bytes k below e =
    let here = get_or-map-range_with_len (relation_at bytes) 0 8 k k None below (omega arith) in
    let eight : length (catalog_of bytes).relations ≡ 8 = length-map-range_with_len (relation_at bytes) 0 8 in
    let any : list_any has_time (catalog_of bytes).relations ≡ true = list_any_at has_time (catalog_of bytes).relations k None (omega (arith, eight, below)) (ap has_time here ∙ e) in
    ap (λ (b : Bool). if b then 2 else version_of bytes) any

-- and so does a part of the mark
pub version_marked : (bytes : List ℕ) → length bytes ≢ 1472 → mended_version bytes ≡ 2
version_marked bytes differs =
    let second : version_of bytes ≡ 2 = ap (λ (b : Bool). if b then 1 else 2) (not_equal (length bytes) 1472 differs) in
    by_test (list_any has_time (catalog_of bytes).relations) second
  where
    by_test : (b : Bool) → version_of bytes ≡ 2 → (if b then 2 else version_of bytes) ≡ 2
    by_test true e = refl
    by_test false e = e

-- ---- bytes behind the slots

pub appended_reads : (old more : List ℕ) → 1472 ≤ length old → ReadsSame old (old ++ more)
appended_reads old more long =
    let size : length (old ++ more) ≡ length old + length more = length-append old more in
    let whole : whole_bytes (old ++ more) ≡ old ++ more = whole_long (old ++ more) (omega (arith, size, long)) in
    let before : whole_bytes old ≡ old = whole_long old long in
    record {
      relations = λ k below.
          ap (λ (bytes : List ℕ). relation_at bytes k) whole
          ∙ ap relation_slot_of (range_append old more (176 * k) (176 * k + 176) (omega arith) (omega (arith, below, long)))
          ∙ ap (λ (bytes : List ℕ). relation_at bytes k) (sym before);
      indexes = λ i below.
          ap (λ (bytes : List ℕ). index_at bytes i) whole
          ∙ ap index_slot_of (range_append old more (1408 + 8 * i) (1408 + 8 * i + 8) (omega arith) (omega (arith, below, long)))
          ∙ ap (λ (bytes : List ℕ). index_at bytes i) (sym before);
    }

-- ---- bytes behind the attributes of a relation

slot_front : (xs : List ℕ) (at m : ℕ) → m ≤ 176 → take m (slice_range xs at (at + 176)) ≡ slice_range xs at (at + m)
slot_front xs at m few =
    let width : m ≡ at + m - at = omega arith in
    take-take m (at + 176 - at) (drop at xs) (omega (arith, few)) ∙ ap (λ (n : ℕ). take n (drop at xs)) width

slot_end : (xs : List ℕ) (at m : ℕ) → m ≤ 176 → drop m (slice_range xs at (at + 176)) ≡ slice_range xs (at + m) (at + 176)
slot_end xs at m few =
    let rest : ℕ = at + 176 - (at + m) in
    let width : at + 176 - at ≡ m + rest = omega (arith, few) in
    ap (λ (n : ℕ). drop m (take n (drop at xs))) width ∙ drop-take m rest (drop at xs) ∙ ap (take rest) (drop-drop m at xs)

-- what is written from the end of the attributes up to their number is not read
pub taken_back : (old part : List ℕ) (slot count : ℕ) → 1472 ≤ length old → slot < 8 → slice_index (slice_range old (176 * slot) (176 * slot + 176)) 160 ≡ count
    → 18 * count + length part ≤ 144 → (at : ℕ) → at ≡ 176 * slot + (16 + 18 * count) → length (put_at old at part) ≡ length old → ReadsSame old (put_at old at part)
taken_back old part slot count long below is fills at there same =
    let now : List ℕ = put_at old at part in
    let first : ℕ = 176 * slot in
    let room : at ≤ length old = omega (arith, there, below, fills, long) in
    let whole : whole_bytes now ≡ now = whole_long now (omega (arith, same, long)) in
    let before : whole_bytes old ≡ old = whole_long old long in
    let here : relation_slot_of (slice_range now first (first + 176)) ≡ relation_slot_of (slice_range old first (first + 176)) =
    same_reading (slice_range now first (first + 176)) (slice_range old first (first + 176)) count
    (slot_front now first (16 + 18 * count) (omega (arith, fills))
    ∙ before_put old part at first (first + (16 + 18 * count)) (omega arith) (omega (arith, there)) room
    ∙ sym (slot_front old first (16 + 18 * count) (omega (arith, fills))))
    (slot_end now first 160 (omega arith)
    ∙ behind_put old part at (first + 160) (first + 176) (omega (arith, there, fills)) room
    ∙ sym (slot_end old first 160 (omega arith)))
    is in
    record {
      relations = λ k inside.
          ap (λ (bytes : List ℕ). relation_at bytes k) whole
          ∙ ⊎_elim
          (λ (e : k ≡ slot). subst (λ (j : ℕ). relation_at now j ≡ relation_at old j) (sym e) here)
          (λ (differs : k ≢ slot). ap relation_slot_of (⊎_elim
          (λ (less : k < slot). before_put old part at (176 * k) (176 * k + 176) (omega arith) (omega (arith, less, there)) room)
          (λ (more : slot ≤ k). behind_put old part at (176 * k) (176 * k + 176) (omega (arith, there, fills, more, differs)) room)
          (cases_lt k slot)))
          (cases_eq k slot)
          ∙ ap (λ (bytes : List ℕ). relation_at bytes k) (sym before);
      indexes = λ i inside.
          ap (λ (bytes : List ℕ). index_at bytes i) whole
          ∙ ap index_slot_of (behind_put old part at (1408 + 8 * i) (1408 + 8 * i + 8) (omega (arith, there, fills, below)) room)
          ∙ ap (λ (bytes : List ℕ). index_at bytes i) (sym before);
    }
