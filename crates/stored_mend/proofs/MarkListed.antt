-- A catalog whose mark is completed.
use Rattle.std.proofs.Common.{◌≡◌, inl, ⊎_elim, ℕ, ◌+◌, ◌-◌, ◌*◌, ◌<◌, ◌≤◌, Bool, true, ◌&&◌, ◌||◌, ◌==◌, List, ◌++◌, length, take, drop, if◌then◌else◌, IsTrue, ap, sym, subst, ◌∙◌, arith, length-append}
use Rattle.std.specs.Prelude.{slice_range}
use Rattle.std.specs.Str.{bytes_eq}
use Rattle.std.proofs.lemmas.List.{take-append-drop, take_all, nil_from_length, length-drop}
use Rattle.std.proofs.lemmas.Slice.Eq.{bytes_eq-Decides}
use Rattle.afl_base.specs.Files.{Appends, State, Table, size_at}
use Rattle.catalog.specs.Rules.{catalog_bytes_in, has_form}
use Rattle.db_model.specs.Catalog.{catalog_of, relation_at, version_mark}
use Rattle.db_model.specs.Database.{Database}
use Rattle.padded.proofs.Facts.{both_parts, both_true, bytes_eq_same, either_part, either_right, eq_true, slice_of_front, true_eq}
use Rattle.stored.specs.CutTables.{HasMark, IsBehindSlot, IsHalfDone, IsMarkedInPart, IsSlot, IsTimed, relation}
use Rattle.stored.specs.Mended.{mended_base, mended_catalog, mended_version, whole_catalog}
use Rattle.stored.specs.declared.half.Half.{Half}
use Rattle.stored.specs.declared.half.Half.TheVariants.{Nothing}
use Rattle.stored.proofs.MendedBase.{slots_same, version_mended, whole_long}
use Rattle.stored_mend.specs.Listed.{IsMarked}
use Rattle.stored_mend.specs.Mending.{IsWholeCatalog, WantsMark}
use Rattle.stored_mend.proofs.CatalogKept.{after, catalog_before}
use Rattle.stored_mend.proofs.HalfKept.{edited, index_at_slot, slot_same, version_is}
use Rattle.stored_mend.proofs.IndexGone.{formed_size, spares_catalog}
use Rattle.stored_mend.proofs.PutOver.{drop_joined}
use Rattle.stored_mend.proofs.SlotEdits.{breaks_same, index_at_same}

-- ---- what stands behind the slots

-- a front part of the mark, which may be none or all of it
pub record IsMarkFront (bytes : List ℕ) : Type 0 where
  pub n : ℕ
  pub few : n ≤ 8
  pub size : length bytes ≡ 1472 + n
  pub front : drop 1472 bytes ≡ take n version_mark

pub completed_size : (bytes more : List ℕ) (f : IsMarkFront bytes) → more ≡ drop f.n version_mark → length bytes + length more ≡ 1480
completed_size bytes more f is =
    let few = f.few in
    let size = f.size in
    let rest : length more ≡ 8 - f.n = ap (λ (xs : List ℕ). length xs) is ∙ length-drop f.n version_mark in
    omega (arith, rest, size, few)

-- with the rest of it the catalog has the form
pub completed_form : (bytes more : List ℕ) (f : IsMarkFront bytes) → more ≡ drop f.n version_mark → has_form (bytes ++ more) ≡ true
completed_form bytes more f is =
    let n : ℕ = f.n in
    let all : List ℕ = bytes ++ more in
    let few = f.few in
    let size = f.size in
    let long : length (bytes ++ more) ≡ 1480 = length-append bytes more ∙ completed_size bytes more f is in
    let joined : drop 1472 (bytes ++ more) ≡ version_mark =
    drop_joined 1472 bytes more
    ∙ ap (λ (k : ℕ). drop 1472 bytes ++ drop k more) (let e : 1472 - length bytes ≡ 0 = omega (arith, size) in e)
    ∙ ap (λ (xs : List ℕ). xs ++ more) f.front
    ∙ ap (λ (xs : List ℕ). take n version_mark ++ xs) is
    ∙ take-append-drop n version_mark in
    let mark : slice_range (bytes ++ more) 1472 1480 ≡ version_mark = ap (take 8) joined in
    either_right ((length all == 0) || (length all == 1472)) (length all == 1480 && bytes_eq (slice_range all 1472 1480) version_mark)
    (both_true (length all == 1480) (bytes_eq (slice_range all 1472 1480) version_mark) (eq_true (length all) 1480 long) (bytes_eq_same (slice_range all 1472 1480) version_mark mark))

-- what a cut leaves where version 2 is wanted
pub front_of : (files : Table) (half : Half) → IsHalfDone files half → mended_version (whole_catalog files) ≡ 2 → IsMarkFront (catalog_bytes_in files)
front_of files half h wants = ⊎_elim
    (λ (marked : IsMarked files). by_form marked)
    (λ rest. ⊎_elim
    (λ (part : IsMarkedInPart (catalog_bytes_in files) × IsBehindSlot half).
    let less = part.0.some.1 in record { n = part.0.n; few = omega (arith, less); size = part.0.size; front = part.0.front })
    (λ (timed : IsTimed files × (half ≡ Nothing)). bare (timed.0.short))
    rest)
    h.mark
  where
    bytes : List ℕ
    bytes = catalog_bytes_in files

    bare : length (catalog_bytes_in files) ≡ 1472 → IsMarkFront (catalog_bytes_in files)
    bare short = record {
      n = 0;
      few = omega arith;
      size = omega (arith, short);
      front = nil_from_length (drop 1472 (catalog_bytes_in files)) (length-drop 1472 (catalog_bytes_in files) ∙ omega (arith, short));
    }

    whole_mark : (length (catalog_bytes_in files) ≡ 1480) → has_form (catalog_bytes_in files) ≡ true → IsMarkFront (catalog_bytes_in files)
    whole_mark long form = record {
      n = 8;
      few = omega arith;
      size = omega (arith, long);
      front =
          let n : ℕ = length (catalog_bytes_in files) in
          let second : Bool = n == 1480 && bytes_eq (slice_range (catalog_bytes_in files) 1472 1480) version_mark in
          ⊎_elim
          (λ (t : ((n == 0) || (n == 1472)) ≡ true). absurd (⊎_elim
          (λ (z : (n == 0) ≡ true). let none = true_eq n 0 z in omega (arith, long, none))
          (λ (z : (n == 1472) ≡ true). let first = true_eq n 1472 z in omega (arith, long, first))
          (either_part (n == 0) (n == 1472) t)))
          (λ (t : second ≡ true).
          let e : slice_range (catalog_bytes_in files) 1472 1480 ≡ version_mark = (bytes_eq-Decides (slice_range (catalog_bytes_in files) 1472 1480) version_mark).0 (both_parts (n == 1480) (bytes_eq (slice_range (catalog_bytes_in files) 1472 1480) version_mark) t).1 in
          sym (take_all 8 (drop 1472 (catalog_bytes_in files)) (omega (arith, length-drop 1472 (catalog_bytes_in files), long))) ∙ e)
          (either_part ((n == 0) || (n == 1472)) second form);
    }

    by_form : IsMarked files → IsMarkFront (catalog_bytes_in files)
    by_form marked = ⊎_elim
        (λ (first : length (catalog_bytes_in files) ≡ 1472). bare first)
        (λ (second : length (catalog_bytes_in files) ≡ 1480). whole_mark second marked.0)
        (formed_size (catalog_bytes_in files) marked.0 (λ none. let long = h.whole in omega (arith, long, none)))

-- ---- the mark is appended

module _ (old new : State) (cat : ℕ) (more : List ℕ) (w : IsWholeCatalog old.files cat) (told : IsTrue old.tells) (a : Appends old new cat more) (base : mended_base new.files ≡ mended_base old.files)
    (wants : WantsMark old) (half : Half) (h : IsHalfDone old.files half) where
  was : List ℕ
  was = catalog_bytes_in old.files

  now_is : catalog_bytes_in new.files ≡ catalog_bytes_in old.files ++ more
  now_is = after old new cat _ _ w a told ∙ ap (λ (xs : List ℕ). xs ++ more) (sym (catalog_before old.files cat w))

  long : 1472 ≤ length (catalog_bytes_in new.files)
  long = let size = ap (λ (xs : List ℕ). length xs) now_is ∙ length-append (catalog_bytes_in old.files) more in let many = h.whole in omega (arith, size, many)

  whole_now : whole_catalog new.files ≡ catalog_bytes_in old.files ++ more
  whole_now = whole_long (catalog_bytes_in new.files) long ∙ now_is

  whole_was : whole_catalog old.files ≡ catalog_bytes_in old.files
  whole_was = whole_long (catalog_bytes_in old.files) h.whole

  front_same : (a b : ℕ) → a ≤ b → b ≤ 1472 → slice_range (whole_catalog new.files) a b ≡ slice_range (whole_catalog old.files) a b
  front_same a b order inside =
      let many = h.whole in
      ap (λ (xs : List ℕ). slice_range xs a b) whole_now ∙ slice_of_front (catalog_bytes_in old.files) more a b order (omega (arith, inside, many)) ∙ ap (λ (xs : List ℕ). slice_range xs a b) (sym whole_was)

  relations_now : (catalog_of (whole_catalog new.files)).relations ≡ (catalog_of (whole_catalog old.files)).relations
  relations_now = slots_same (relation_at (whole_catalog new.files)) (relation_at (whole_catalog old.files)) 0 8 (λ k low inside. slot_same old.files new.files base k inside)

  pub marked_whole : more ≡ drop (size_at old.files cat - 1472) version_mark → IsMarked new.files
  marked_whole is =
      let f : IsMarkFront (catalog_bytes_in old.files) = front_of old.files half h (wants told) in
      let size = f.size in
      let there : size_at old.files cat ≡ length (catalog_bytes_in old.files) = ap (λ (xs : List ℕ). length xs) (sym (catalog_before old.files cat w)) in
      let n_is : size_at old.files cat - 1472 ≡ f.n = omega (arith, there, size) in
      let form : has_form (catalog_bytes_in new.files) ≡ true = ap has_form now_is ∙ completed_form (catalog_bytes_in old.files) more f (is ∙ ap (λ (k : ℕ). drop k version_mark) n_is) in
      let version : (mended_catalog new.files).version ≡ 2 = version_is new.files ∙ ap (λ (db : Database). db.version) base ∙ version_mended old.files ∙ wants told in
      let many : length (catalog_bytes_in new.files) ≡ 1480 =
      ap (λ (xs : List ℕ). length xs) now_is ∙ length-append (catalog_bytes_in old.files) more ∙ completed_size (catalog_bytes_in old.files) more f (is ∙ ap (λ (k : ℕ). drop k version_mark) n_is) in
      (form, ap (λ (n : ℕ). if n == 1472 then 1 else 2) many ∙ sym version)

  -- what is half done stays so
  pub marked_with : HasMark new.files half → IsHalfDone new.files half
  marked_with mark =
      edited old.files new.files base half h (spares_catalog old new cat _ _ w.named a).files long mark
      (λ k inside. subst (λ (xs : List ℕ). IsSlot half (mended_catalog old.files).version k xs (relation old.files k)) (sym (front_same (176 * k) (176 * k + 176) (omega arith) (omega (arith, inside)))) (h.slots k inside))
      (λ i inside. breaks_same (whole_catalog old.files) (whole_catalog new.files) ranges relations_now i inside ∙ h.indexes i inside)
      (λ i inside. inl (index_at_slot new.files i inside ∙ index_at_same (whole_catalog old.files) (whole_catalog new.files) ranges i inside ∙ sym (index_at_slot old.files i inside)))
    where
      ranges : (i : ℕ) → i < 8 → slice_range (whole_catalog new.files) (1408 + 8 * i) (1408 + 8 * i + 8) ≡ slice_range (whole_catalog old.files) (1408 + 8 * i) (1408 + 8 * i + 8)
      ranges i inside = front_same (1408 + 8 * i) (1408 + 8 * i + 8) (omega arith) (omega (arith, inside))

  pub marked_half : IsMarked new.files → IsHalfDone new.files half
  marked_half marked = marked_with (inl marked)
