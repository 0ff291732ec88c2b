-- Rows that are written as they were read, from the first slot on.
use Rattle.std.proofs.Common.{◌≡◌, refl, sym, ap, subst, ◌∙◌, ℕ, zero, suc, ◌+◌, ◌-◌, ◌*◌, ◌<◌, ◌≤◌, List, [], ◌∷◌, ◌++◌, length, take, drop, get_or, arith, add-one, mul-suc}
use Rattle.std.specs.Prelude.{IsTrue, map, slice_range}
use Rattle.std.specs.List.{range_with_len}
use Rattle.std.proofs.lemmas.Grind.{flat_map-append}
use Rattle.std.proofs.lemmas.List.{append-nil, drop-take, length-append, length-take-le, drop_at, take_at, take-append-drop, take-take}
use Rattle.std.proofs.Math.Seq.{take-length}
use Rattle.std.proofs.lemmas.List.FromFn.{length-range_with_len, get_or-map-range_with_len, length-map-range_with_len, map-range_with_len_more, take-map-range_with_len}
use Rattle.db_model.specs.declared.schemas.Attribute.{Attribute}
use Rattle.db_model.specs.Row.{AllSuit, Row, row_at, row_bytes, row_length, rows_bytes, rows_of, slots_in_bytes}
use Rattle.db_model.proofs.Decoded.{length-row_read}
use Rattle.db_model.proofs.Rows.{rows_of-insert, slot_inside}
use Rattle.afl_base.specs.Files.{State, bytes_at}
use Rattle.tuple_file.specs.declared.tuples.Tuples.{Tuples}
use Rattle.tuple_file.specs.Tuples.{HoldsRows, row, row_slot_bytes, slots}
use Rattle.tuple_file.proofs.Slots.{length-rows, slots_of_whole}
use Rattle.std.proofs.lemmas.Grind.{common_steps}
use Rattle.padded.proofs.Facts.{drop_item}

-- the rows of the first k slots
unfoldable pub first_rows : List Attribute → List ℕ → ℕ → List Row
first_rows attributes bytes k = map (row_at attributes bytes) (range_with_len 0 k)

-- and of one slot more
pub more_rows : (attributes : List Attribute) (bytes : List ℕ) (k : ℕ) → first_rows attributes bytes (k + 1) ≡ first_rows attributes bytes k ++ row_at attributes bytes k ∷ []
unfolding first_rows
more_rows attributes bytes k = map-range_with_len_more (row_at attributes bytes) 0 k k (omega arith)

pub length-first_rows : (attributes : List Attribute) (bytes : List ℕ) (k : ℕ) → length (first_rows attributes bytes k) ≡ k
unfolding first_rows
length-first_rows attributes bytes k = length-map-range_with_len (row_at attributes bytes) 0 k

-- there are no rows before the first slot, and all rows before the end
pub no_rows : (attributes : List Attribute) (bytes : List ℕ) → first_rows attributes bytes 0 ≡ []
unfolding first_rows
no_rows attributes bytes = refl

pub all_rows : (attributes : List Attribute) (bytes : List ℕ) → first_rows attributes bytes (slots_in_bytes attributes bytes) ≡ rows_of attributes bytes
unfolding first_rows
all_rows attributes bytes = refl

-- a part of bytes, and the part behind it
take_more : (xs : List ℕ) (a n : ℕ) → take a xs ++ take n (drop a xs) ≡ take (a + n) xs
take_more xs a n = rw (sym (take-take a (a + n) xs (omega arith)), sym (drop-take a n xs)) (take-append-drop a (take (a + n) xs))

-- none is written before the first slot
pub written_none : (attributes : List Attribute) (bytes : List ℕ) → rows_bytes attributes (first_rows attributes bytes 0) ≡ take (row_length attributes * 0) bytes
unfolding first_rows
written_none attributes bytes = let none : 0 ≡ row_length attributes * 0 = omega arith in ap (λ (n : ℕ). take n bytes) none

-- the rows of the first slots, and then one more, are written as they were read
pub written_more : (attributes : List Attribute) (bytes : List ℕ) (k : ℕ) → rows_bytes attributes (first_rows attributes bytes k) ≡ take (row_length attributes * k) bytes
    → row_bytes attributes (row_at attributes bytes k) ≡ slice_range bytes (row_length attributes * k) (row_length attributes * k + row_length attributes)
    → rows_bytes attributes (first_rows attributes bytes (k + 1)) ≡ take (row_length attributes * (k + 1)) bytes
written_more attributes bytes k front one = grind (arith, common_steps, more_rows, flat_map-append, append-nil, take_more)

-- then all are, at the last slot
pub written_all : (attributes : List Attribute) (bytes : List ℕ) (n : ℕ) → length bytes ≡ row_length attributes * n → rows_bytes attributes (first_rows attributes bytes n) ≡ take (row_length attributes * n) bytes
    → rows_bytes attributes (rows_of attributes bytes) ≡ bytes
unfolding first_rows
written_all attributes bytes n long front =
    ap (λ (m : ℕ). rows_bytes attributes (map (row_at attributes bytes) (range_with_len 0 m))) (slots_of_whole attributes bytes n long)
    ∙ front ∙ ap (λ (m : ℕ). take m bytes) (sym long) ∙ take-length bytes

-- where all are, each is
pub written_each : (attributes : List Attribute) (bytes : List ℕ) (n k : ℕ) → length bytes ≡ row_length attributes * n → k < n → rows_bytes attributes (first_rows attributes bytes k) ≡ take (row_length attributes * k) bytes
    → rows_bytes attributes (rows_of attributes bytes) ≡ bytes
    → row_bytes attributes (row_at attributes bytes k) ≡ slice_range bytes (row_length attributes * k) (row_length attributes * k + row_length attributes)
unfolding first_rows
written_each attributes bytes n k long below front all =
    let size = row_length attributes in
    let at = size * k in
    let inside = slot_inside size k n below in
    let rows : List Row = rows_of attributes bytes in
    let row : Row = row_at attributes bytes k in
    let count : slots_in_bytes attributes bytes ≡ n = slots_of_whole attributes bytes n long in
    let few : k < slots_in_bytes attributes bytes = omega (arith, below, count) in
    let many : length rows ≡ slots_in_bytes attributes bytes = length-rows attributes bytes in
    let rest = rows_bytes attributes (drop (k + 1) rows) in
    let before : take k rows ≡ first_rows attributes bytes k = take-map-range_with_len (row_at attributes bytes) 0 (slots_in_bytes attributes bytes) k (omega (arith, few)) in
    let at_k : row ≡ get_or rows k row = sym (get_or-map-range_with_len (row_at attributes bytes) 0 (slots_in_bytes attributes bytes) k k row few (omega arith)) in
    let behind : drop k rows ≡ row ∷ drop (k + 1) rows = drop_item rows k row (omega (arith, few, many)) at_k in
    let split : rows ≡ first_rows attributes bytes k ++ (row ∷ drop (k + 1) rows) = sym (take-append-drop k rows) ∙ ap (λ (xs : List Row). xs ++ drop k rows) before ∙ ap (λ (xs : List Row). first_rows attributes bytes k ++ xs) behind in
    let whole : bytes ≡ take at bytes ++ (row_bytes attributes row ++ rest) =
    sym all ∙ ap (rows_bytes attributes) split ∙ flat_map-append (row_bytes attributes) (first_rows attributes bytes k) (row ∷ drop (k + 1) rows)
    ∙ ap (λ (xs : List ℕ). xs ++ (row_bytes attributes row ++ rest)) front in
    let wide : length (take at bytes) ≡ at = length-take-le at bytes (omega (arith, long, inside)) in
    let left : drop at bytes ≡ row_bytes attributes row ++ rest = ap (drop at) whole ∙ drop_at (take at bytes) (row_bytes attributes row ++ rest) at wide in
    sym (ap (take (at + size - at)) left ∙ take_at (row_bytes attributes row) rest (at + size - at) (length-row_read attributes _ ∙ omega arith))

-- as many bytes are written as the slots have
pub length-written : (attributes : List Attribute) (bytes : List ℕ) → length (rows_bytes attributes (rows_of attributes bytes)) ≡ row_length attributes * slots_in_bytes attributes bytes
length-written attributes bytes =
    each (range_with_len 0 (slots_in_bytes attributes bytes)) ∙ ap (λ (m : ℕ). row_length attributes * m) (length-range_with_len 0 (slots_in_bytes attributes bytes))
  where
    one : (k : ℕ) (ks : List ℕ) → length (rows_bytes attributes (map (row_at attributes bytes) ks)) ≡ row_length attributes * length ks
        → length (rows_bytes attributes (map (row_at attributes bytes) (k ∷ ks))) ≡ row_length attributes * length (k ∷ ks)
    one k ks rest =
        let row = row_bytes attributes (row_at attributes bytes k) in
        let more : row_length attributes * suc (length ks) ≡ row_length attributes * length ks + row_length attributes = mul-suc (row_length attributes) (length ks) in
        let first : length row ≡ row_length attributes = length-row_read attributes _ in
        length-append row (rows_bytes attributes (map (row_at attributes bytes) ks)) ∙ omega (arith, first, rest, more)

    each : (ks : List ℕ) → length (rows_bytes attributes (map (row_at attributes bytes) ks)) ≡ row_length attributes * length ks
    each [] = omega arith
    each (k ∷ ks) = one k ks (each ks)

-- where all rows are written as they were read, so are the first ones
pub written_first : (attributes : List Attribute) (bytes : List ℕ) (n k : ℕ) → length bytes ≡ row_length attributes * n → k ≤ n → rows_bytes attributes (rows_of attributes bytes) ≡ bytes
    → rows_bytes attributes (first_rows attributes bytes k) ≡ take (row_length attributes * k) bytes
written_first attributes bytes n zero long few all = written_none attributes bytes
written_first attributes bytes n (suc k) long few all =
    let front = written_first attributes bytes n k long (omega (arith, few)) all in
    let one = written_each attributes bytes n k long (omega (arith, few)) front all in
    let more = written_more attributes bytes k front one in
    subst (λ (m : ℕ). rows_bytes attributes (first_rows attributes bytes m) ≡ take (row_length attributes * m) bytes) (add-one k) more

-- and where each row is, all are
pub written_from : (attributes : List Attribute) (bytes : List ℕ) (n : ℕ) → length bytes ≡ row_length attributes * n
    → ((k : ℕ) → k < n → row_bytes attributes (row_at attributes bytes k) ≡ slice_range bytes (row_length attributes * k) (row_length attributes * k + row_length attributes))
    → rows_bytes attributes (rows_of attributes bytes) ≡ bytes
written_from attributes bytes n long each = written_all attributes bytes n long (first n (omega arith))
  where
    step : (k : ℕ) → suc k ≤ n → rows_bytes attributes (first_rows attributes bytes k) ≡ take (row_length attributes * k) bytes → rows_bytes attributes (first_rows attributes bytes (suc k)) ≡ take (row_length attributes * suc k) bytes
    step k few front = subst (λ (m : ℕ). rows_bytes attributes (first_rows attributes bytes m) ≡ take (row_length attributes * m) bytes) (add-one k) (written_more attributes bytes k front (each k (omega (arith, few))))

    first : (k : ℕ) → k ≤ n → rows_bytes attributes (first_rows attributes bytes k) ≡ take (row_length attributes * k) bytes
    first zero few = written_none attributes bytes
    first (suc k) few = step k few (first k (omega (arith, few)))

-- one row more that is written behind them
pub written_insert : (attributes : List Attribute) (row : Row) (n : ℕ) (bytes : List ℕ) → length bytes ≡ row_length attributes * n → AllSuit attributes row.tuple → rows_bytes attributes (rows_of attributes bytes) ≡ bytes
    → rows_bytes attributes (rows_of attributes (bytes ++ row_bytes attributes row)) ≡ bytes ++ row_bytes attributes row
written_insert attributes row n bytes long suit all = grind (arith, common_steps, rows_of-insert, flat_map-append, append-nil)

-- the bytes of each slot of a relation's file are those of its row
pub written_slot : (state : State) (tuples : Tuples) (slot : ℕ) → HoldsRows state tuples → IsTrue state.tells → slot < slots state.files tuples
    → row_bytes tuples.schema.attributes (row state.files tuples slot) ≡ row_slot_bytes state.files tuples slot
written_slot state tuples slot holds told below =
    let attributes = tuples.schema.attributes in
    let bytes = bytes_at state.files tuples.file in
    let n = slots state.files tuples in
    written_each attributes bytes n slot holds.whole below (written_first attributes bytes n slot holds.whole (omega (arith, below)) (holds.written told)) (holds.written told)
