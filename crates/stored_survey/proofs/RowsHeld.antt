-- Rows that a file holds are those that are written as they are read.
use Rattle.std.proofs.Common.{◌≡◌, ◌≢◌, ◌⊎◌, inl, inr, ⊎_elim, ℕ, ◌+◌, ◌*◌, ◌/◌, ◌%◌, ◌<◌, ◌≤◌, ◌-◌, List, [], ◌++◌, length, take, drop, ap, sym, subst, ◌∙◌, arith}
use Rattle.std.specs.Prelude.{slice_range}
use Rattle.std.proofs.Math.Nat.{div-add-mod}
use Rattle.std.proofs.lemmas.List.{length-take-le, take-append-drop, take_all}
use Rattle.db_model.specs.declared.schemas.Attribute.{Attribute}
use Rattle.db_model.specs.Row.{row_bytes, row_length, row_of, rows_bytes, rows_of, slots_in_bytes}
use Rattle.db_model.specs.Step.{slots_limit}
use Rattle.db_model.proofs.Rows.{slot_same}
use Rattle.stored.specs.CutTables.{HoldsRowsOr}
use Rattle.stored.specs.declared.half.Half.{Half}
use Rattle.stored.specs.declared.half.Half.TheVariants.{AddingRow}
use Rattle.tuple_file.proofs.Slots.{slots_of_whole}
use Rattle.tuple_file.proofs.Written.{written_each, written_first, written_from}
use Rattle.stored_survey.specs.Pieces.{AreWritten}
use Rattle.stored_survey.proofs.HalfShown.{whole_rows}

-- all that is asked of rows, one by one
pub record HoldsEach (half : Half) (version k : ℕ) (attributes : List Attribute) (bytes : List ℕ) : Type 0 where
  pub written : AreWritten attributes bytes (slots_in_bytes attributes bytes)
  pub few : slots_in_bytes attributes bytes ≤ slots_limit version
  pub some : attributes ≡ [] → bytes ≡ []
  pub whole : (length bytes % row_length attributes ≡ 0) ⊎ (half ≡ AddingRow k)

module _ (attributes : List Attribute) (bytes : List ℕ) where
  abbrev count : ℕ
  count = slots_in_bytes attributes bytes

  abbrev taken : List ℕ
  taken = take (row_length attributes * count) bytes

  inside : row_length attributes * count ≤ length bytes
  inside = omega (arith, div-add-mod (length bytes) (row_length attributes))

  taken_size : length taken ≡ row_length attributes * count
  taken_size = length-take-le (row_length attributes * count) bytes inside

  taken_slots : slots_in_bytes attributes taken ≡ count
  taken_slots = slots_of_whole attributes taken count taken_size

  -- the bytes of a slot are the same among those of all whole slots
  slot_taken : (k : ℕ) → k < count
      → slice_range taken (row_length attributes * k) (row_length attributes * k + row_length attributes) ≡ slice_range bytes (row_length attributes * k) (row_length attributes * k + row_length attributes)
  slot_taken k below =
      sym (slot_same (row_length attributes) k count taken (drop (row_length attributes * count) bytes) taken_size below)
      ∙ ap (λ (xs : List ℕ). slice_range xs (row_length attributes * k) (row_length attributes * k + row_length attributes)) (take-append-drop (row_length attributes * count) bytes)

  taken_written : AreWritten attributes bytes count → AreWritten attributes taken count
  taken_written each k below = subst (λ (xs : List ℕ). row_bytes attributes (row_of attributes xs) ≡ xs) (sym (slot_taken k below)) (each k below)

  bytes_written : AreWritten attributes taken count → AreWritten attributes bytes count
  bytes_written each k below = subst (λ (xs : List ℕ). row_bytes attributes (row_of attributes xs) ≡ xs) (slot_taken k below) (each k below)

-- whole rows are written as they are read
each_written : (attributes : List Attribute) (bytes : List ℕ) (n : ℕ) → length bytes ≡ row_length attributes * n → rows_bytes attributes (rows_of attributes bytes) ≡ bytes → AreWritten attributes bytes n
each_written attributes bytes n long all k below = written_each attributes bytes n k long below (written_first attributes bytes n k long (omega (arith, below)) all) all

-- a relation without attributes has rows of one byte
all_taken : (attributes : List Attribute) (bytes : List ℕ) → attributes ≡ [] → take (row_length attributes * slots_in_bytes attributes bytes) bytes ≡ bytes
all_taken attributes bytes none =
    let one : row_length attributes ≡ 1 = ap row_length none in
    let all = div-add-mod (length bytes) (row_length attributes) in
    let count : slots_in_bytes attributes bytes ≡ length bytes / 1 = ap (λ (n : ℕ). length bytes / n) one in
    let size : row_length attributes * slots_in_bytes attributes bytes ≡ length bytes = ap (λ (n : ℕ). n * (length bytes / n)) one ∙ omega arith in
    take_all (row_length attributes * slots_in_bytes attributes bytes) bytes (omega (arith, size))

pub nothing_taken : (n : ℕ) → take {A = ℕ} n [] ≡ []
nothing_taken n = take_all {A = ℕ} n [] (omega arith)

pub rows_held : (half : Half) (version k : ℕ) (attributes : List Attribute) (bytes : List ℕ) → HoldsEach half version k attributes bytes → HoldsRowsOr half version k attributes bytes
rows_held half version k attributes bytes each = ⊎_elim
    (λ (none : length bytes % row_length attributes ≡ 0).
    let all = div-add-mod (length bytes) (row_length attributes) in
    inl (record { whole = written_from attributes bytes (slots_in_bytes attributes bytes) (omega (arith, all, none)) each.written; few = each.few; some = each.some }))
    (λ (e : half ≡ AddingRow k).
    let front : List ℕ = take (row_length attributes * slots_in_bytes attributes bytes) bytes in
    inr (
      e,
      record {
        whole = written_from attributes front (slots_in_bytes attributes bytes) (taken_size attributes bytes) (taken_written attributes bytes each.written);
        few = subst (λ (n : ℕ). n ≤ slots_limit version) (sym (taken_slots attributes bytes)) each.few;
        some = λ none. ap (λ (xs : List ℕ). take (row_length attributes * slots_in_bytes attributes xs) xs) (each.some none) ∙ nothing_taken (row_length attributes * slots_in_bytes attributes []);
      },
    ))
    each.whole

pub held_each : (half : Half) (version k : ℕ) (attributes : List Attribute) (bytes : List ℕ) → HoldsRowsOr half version k attributes bytes → HoldsEach half version k attributes bytes
held_each half version k attributes bytes (inl rows) =
    let none = whole_rows version attributes bytes rows in
    let all = div-add-mod (length bytes) (row_length attributes) in
    record {
      written = each_written attributes bytes (slots_in_bytes attributes bytes) (omega (arith, all, none)) rows.whole;
      few = rows.few;
      some = rows.some;
      whole = inl none;
    }
held_each half version k attributes bytes (inr part) =
    let rows = part.1 in
    record {
      written = bytes_written attributes bytes (each_written attributes (take (row_length attributes * slots_in_bytes attributes bytes) bytes) (slots_in_bytes attributes bytes) (taken_size attributes bytes) rows.whole);
      few = subst (λ (n : ℕ). n ≤ slots_limit version) (taken_slots attributes bytes) rows.few;
      some = λ none. sym (all_taken attributes bytes none) ∙ rows.some none;
      whole = inr part.0;
    }

-- ---- numbers of bytes and of slots

pub count_is : (attributes : List Attribute) (bytes : List ℕ) (size long : ℕ) → size ≡ length bytes → long ≡ row_length attributes → size / long ≡ slots_in_bytes attributes bytes
count_is attributes bytes size long same row = ap (λ (n : ℕ). n / long) same ∙ ap (λ (n : ℕ). length bytes / n) row

rest_is : (attributes : List Attribute) (bytes : List ℕ) (size long : ℕ) → size ≡ length bytes → long ≡ row_length attributes → size % long ≡ length bytes % row_length attributes
rest_is attributes bytes size long same row = ap (λ (n : ℕ). n % long) same ∙ ap (λ (n : ℕ). length bytes % n) row

pub whole_by : {B : Type 0} (attributes : List Attribute) (bytes : List ℕ) (size long : ℕ) → size ≡ length bytes → long ≡ row_length attributes
    → (length bytes % row_length attributes ≡ 0) ⊎ B → (size % long ≡ 0) ⊎ B
whole_by attributes bytes size long same row (inl none) = inl (rest_is attributes bytes size long same row ∙ none)
whole_by attributes bytes size long same row (inr b) = inr b

pub by_whole : {B : Type 0} (attributes : List Attribute) (bytes : List ℕ) (size long : ℕ) → size ≡ length bytes → long ≡ row_length attributes
    → (size % long ≡ 0) ⊎ B → (length bytes % row_length attributes ≡ 0) ⊎ B
by_whole attributes bytes size long same row (inl none) = inl (sym (rest_is attributes bytes size long same row) ∙ none)
by_whole attributes bytes size long same row (inr b) = inr b
