-- A catalog in which one relation slot is written anew, or the mark is appended.
use Rattle.std.proofs.Common.{◌≡◌, ◌≢◌, ⊎_elim, ℕ, ◌+◌, ◌-◌, ◌*◌, ◌<◌, ◌≤◌, not, ◌&&◌, ◌||◌, ◌==◌, List, ◌++◌, length, take, drop, Option, if◌then◌else◌, ap, sym, ◌∙◌, arith, append_assoc, length-append}
use Rattle.std.specs.Prelude.{slice_range}
use Rattle.std.specs.Str.{bytes_eq}
use Rattle.std.proofs.lemmas.Bool.{cases_lt}
use Rattle.std.proofs.lemmas.List.{drop-drop, drop-take, length-drop, length-take-le, take-take, take_all}
use Rattle.afl_base.specs.Fields.{put_at}
use Rattle.afl_base.proofs.FieldLaws.{length-put_at}
use Rattle.catalog.specs.Rules.{breaks_index, has_form, is_sound_index}
use Rattle.catalog.proofs.PutRanges.{before_put, behind_put}
use Rattle.db_model.specs.declared.schemas.Schema.{Schema}
use Rattle.db_model.specs.Catalog.{Index, catalog_of, index_at, index_slot_of, version_mark, version_of}
use Rattle.stored.proofs.MendedBase.{slots_same}
use Rattle.stored_mend.proofs.PutOver.{drop_joined, take_joined}

-- ---- bytes that are put into a range

-- they stand in what is read of it
pub range_put : (xs w : List ℕ) (a m n : ℕ) → m + length w ≤ n → a + n ≤ length xs → slice_range (put_at xs (a + m) w) a (a + n) ≡ put_at (slice_range xs a (a + n)) m w
unfolding put_at
range_put xs w a m n fits room =
    let width : a + n - a ≡ n = omega arith in
    let ys : List ℕ = drop a xs in
    let end : ℕ = m + length w in
    let rest : List ℕ = drop (a + m + length w) xs in
    let long : length (take (a + m) xs) ≡ a + m = length-take-le (a + m) xs (omega (arith, fits, room)) in
    let some : length ys ≡ length xs - a = length-drop a xs in
    let front : drop a (take (a + m) xs) ≡ take m ys = drop-take a m xs in
    let zero_left : a - length (take (a + m) xs) ≡ 0 = omega (arith, long) in
    let behind : rest ≡ drop end ys = (let e : a + m + length w ≡ a + end = omega arith in ap (λ (k : ℕ). drop k xs) e ∙ sym (drop-drop end a xs)) in
    let dropped : drop a (take (a + m) xs ++ w ++ rest) ≡ take m ys ++ w ++ drop end ys =
    ap (drop a) (append_assoc (take (a + m) xs) w rest)
    ∙ drop_joined a (take (a + m) xs) (w ++ rest)
    ∙ ap (λ (zs : List ℕ). zs ++ drop (a - length (take (a + m) xs)) (w ++ rest)) front
    ∙ ap (λ (k : ℕ). take m ys ++ drop k (w ++ rest)) zero_left
    ∙ sym (append_assoc (take m ys) w rest)
    ∙ ap (λ (zs : List ℕ). take m ys ++ w ++ zs) behind in
    let head : ℕ = length (take m ys ++ w) in
    let head_is : length (take m ys ++ w) ≡ end = length-append (take m ys) w ∙ ap (λ (k : ℕ). k + length w) (length-take-le m ys (omega (arith, some, fits, room))) in
    let more : ℕ = n - end in
    let sum : n ≡ end + more = omega (arith, fits) in
    let left : n - length (take m ys ++ w) ≡ more = omega (arith, head_is) in
    let past : take n (take m ys ++ w) ≡ take m ys ++ w = take_all n (take m ys ++ w) (omega (arith, head_is, fits)) in
    let inner : take m (take n ys) ≡ take m ys = take-take m n ys (omega (arith, fits)) in
    let outer : drop end (take n ys) ≡ take more (drop end ys) = ap (λ (k : ℕ). drop end (take k ys)) sum ∙ drop-take end more ys in
    ap (λ (k : ℕ). take k (drop a (take (a + m) xs ++ w ++ rest))) width
    ∙ ap (take n) dropped
    ∙ take_joined n (take m ys ++ w) (drop end ys)
    ∙ ap (λ (zs : List ℕ). zs ++ take (n - length (take m ys ++ w)) (drop end ys)) past
    ∙ ap (λ (k : ℕ). take m ys ++ w ++ take k (drop end ys)) left
    ∙ ap (λ (zs : List ℕ). take m ys ++ w ++ zs) (sym outer)
    ∙ ap (λ (zs : List ℕ). zs ++ w ++ drop end (take n ys)) (sym inner)
    ∙ ap (λ (k : ℕ). take m (take k ys) ++ w ++ drop end (take k ys)) (sym width)

-- ---- catalogs that differ in one relation slot

pub record DifferIn (was now : List ℕ) (k : ℕ) : Type 0 where
  pub size : length now ≡ length was
  pub mark : slice_range now 1472 1480 ≡ slice_range was 1472 1480
  pub slots : (j : ℕ) → j < 8 → j ≢ k → slice_range now (176 * j) (176 * j + 176) ≡ slice_range was (176 * j) (176 * j + 176)
  pub indexes : (i : ℕ) → i < 8 → slice_range now (1408 + 8 * i) (1408 + 8 * i + 8) ≡ slice_range was (1408 + 8 * i) (1408 + 8 * i + 8)

pub differ_not : (was now : List ℕ) (k : ℕ) → now ≡ was → DifferIn was now k
differ_not was now k same = record {
  size = ap length same;
  mark = ap (λ (xs : List ℕ). slice_range xs 1472 1480) same;
  slots = λ j below differs. ap (λ (xs : List ℕ). slice_range xs (176 * j) (176 * j + 176)) same;
  indexes = λ i below. ap (λ (xs : List ℕ). slice_range xs (1408 + 8 * i) (1408 + 8 * i + 8)) same;
}

pub differ_put : (was part : List ℕ) (at k : ℕ) → 1472 ≤ length was → k < 8 → 176 * k ≤ at → at + length part ≤ 176 * k + 176 → DifferIn was (put_at was at part) k
differ_put was part at k long below low high =
    let room : at ≤ length was = omega (arith, long, below, high) in
    record {
      size = length-put_at was part at (omega (arith, long, below, high));
      mark = behind_put was part at 1472 1480 (omega (arith, below, high)) room;
      slots = λ j inside differs. ⊎_elim
          (λ (less : j < k). before_put was part at (176 * j) (176 * j + 176) (omega arith) (omega (arith, less, low)) room)
          (λ (more : k ≤ j). behind_put was part at (176 * j) (176 * j + 176) (omega (arith, more, differs, high)) room)
          (cases_lt j k);
      indexes = λ i inside. behind_put was part at (1408 + 8 * i) (1408 + 8 * i + 8) (omega (arith, below, high)) room;
    }

module _ (was now : List ℕ) (k : ℕ) (d : DifferIn was now k) where
  pub form_same : has_form now ≡ has_form was
  form_same =
      ap (λ (n : ℕ). n == 0 || n == 1472 || (n == 1480 && bytes_eq (slice_range now 1472 1480) version_mark)) d.size
      ∙ ap (λ (xs : List ℕ). length was == 0 || length was == 1472 || (length was == 1480 && bytes_eq xs version_mark)) d.mark

  pub version_of_same : version_of now ≡ version_of was
  version_of_same = ap (λ (n : ℕ). if n == 1472 then 1 else 2) d.size

-- ---- index slots of the same bytes

module _ (was now : List ℕ) (same : (i : ℕ) → i < 8 → slice_range now (1408 + 8 * i) (1408 + 8 * i + 8) ≡ slice_range was (1408 + 8 * i) (1408 + 8 * i + 8)) where
  pub index_at_same : (i : ℕ) → i < 8 → index_at now i ≡ index_at was i
  index_at_same i below = ap index_slot_of (same i below)

  pub index_list_same : (catalog_of now).indexes ≡ (catalog_of was).indexes
  index_list_same = slots_same (index_at now) (index_at was) 0 8 (λ i low below. index_at_same i below)

  pub breaks_same : (catalog_of now).relations ≡ (catalog_of was).relations → (i : ℕ) → i < 8 → breaks_index now i ≡ breaks_index was i
  unfolding breaks_index
  breaks_same relations i below =
      ap (λ (xs : List ℕ). not (is_sound_index xs (catalog_of now).relations (take i (catalog_of now).indexes))) (same i below)
      ∙ ap (λ (rs : List (Option Schema)). not (is_sound_index (slice_range was (1408 + 8 * i) (1408 + 8 * i + 8)) rs (take i (catalog_of now).indexes))) relations
      ∙ ap (λ (xs : List (Option Index)). not (is_sound_index (slice_range was (1408 + 8 * i) (1408 + 8 * i + 8)) (catalog_of was).relations (take i xs))) index_list_same
