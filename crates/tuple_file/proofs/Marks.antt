-- One byte of a row's slot is written: the other slots stay, and so do the fields of this one.
use Rattle.std.proofs.Common.{◌≡◌, ◌≢◌, refl, sym, ap, subst, ◌∙◌, ℕ, ◌+◌, ◌-◌, ◌*◌, ◌<◌, ◌≤◌, false, List, [], ◌∷◌, ◌++◌, length, take, drop, get_or, set, arith}
use Rattle.std.specs.Prelude.{slice_index, slice_range}
use Rattle.afl_base.specs.Fields.{put_at}
use Rattle.db_model.specs.declared.schemas.Attribute.{Attribute}
use Rattle.db_model.specs.Row.{Row, fields_bytes, fields_length, mark, row_at, row_bytes, row_length, row_of, rows_bytes, rows_of, slots_in_bytes}
use Rattle.db_model.proofs.Decoded.{length-row_read, tuple_front}
use Rattle.std.proofs.Math.Logic.{⊎_elim}
use Rattle.std.proofs.lemmas.Bool.{cases_eq, cases_lt}
use Rattle.std.proofs.lemmas.List.{get_or-drop, get_or-set_other, get_or-set_same, get_or-take, length-append, length-drop, length-set, length-take-le, same_lists, take-take, take_at, take_more}
use Rattle.std.proofs.Math.Seq.{take-length}
use Rattle.std.proofs.lemmas.List.FromFn.{get_or-map-range_with_len}
use Rattle.afl_base.proofs.FieldLaws.{length-put_at}
use Rattle.tuple_file.proofs.Puts.{before-put_at, behind-put_at, byte-put_at}
use Rattle.tuple_file.proofs.Written.{written_each, written_first, written_from}
use Rattle.tuple_file.proofs.Slots.{length-rows, slots_of_whole}
use Rattle.db_model.proofs.Rows.{slot_inside}

-- the bytes of a slot
unfoldable slot_of : List Attribute → List ℕ → ℕ → List ℕ
slot_of attributes bytes k = slice_range bytes (row_length attributes * k) (row_length attributes * k + row_length attributes)

-- bytes with the one behind the fields of a slot made 3
unfoldable marked_at : List Attribute → List ℕ → ℕ → List ℕ
marked_at attributes bytes k = put_at bytes (row_length attributes * k + fields_length attributes) (3 ∷ [])

-- the slot's fields stay
slot-fields : (attributes : List Attribute) (bytes : List ℕ) (n k : ℕ) → length bytes ≡ row_length attributes * n → k < n
    → take (fields_length attributes) (slot_of attributes (marked_at attributes bytes k) k) ≡ take (fields_length attributes) (slot_of attributes bytes k)
unfolding slot_of marked_at
slot-fields attributes bytes n k long below =
    let size = row_length attributes in
    let fields = fields_length attributes in
    let from = size * k in
    let at = from + fields in
    let inside = slot_inside size k n below in
    let cut : (xs : List ℕ) → take fields (take (from + size - from) (drop from xs)) ≡ take fields (drop from xs) = λ xs. take-take fields (from + size - from) (drop from xs) (omega arith) in
    cut (put_at bytes at (3 ∷ [])) ∙ before-put_at bytes (3 ∷ []) at from fields (omega arith) (omega (arith, long, inside)) ∙ sym (cut bytes)

-- and its mark is 3
slot-mark : (attributes : List Attribute) (bytes : List ℕ) (n k : ℕ) → length bytes ≡ row_length attributes * n → k < n
    → slice_index (slot_of attributes (marked_at attributes bytes k) k) (fields_length attributes) ≡ 3
unfolding slot_of marked_at
slot-mark attributes bytes n k long below =
    let size = row_length attributes in
    let fields = fields_length attributes in
    let from = size * k in
    let new : List ℕ = put_at bytes (from + fields) (3 ∷ []) in
    let inside = slot_inside size k n below in
    get_or-take (from + size - from) (drop from new) fields 0 (omega arith) ∙ get_or-drop from new fields 0 ∙ byte-put_at bytes (from + fields) 3 (omega (arith, long, inside))

-- the row in the slot then
row_at-mark : (attributes : List Attribute) (bytes : List ℕ) (n k : ℕ) → length bytes ≡ row_length attributes * n → k < n
    → row_at attributes (put_at bytes (row_length attributes * k + fields_length attributes) (3 ∷ [])) k ≡ record (row_at attributes bytes k) { live = false }
unfolding slot_of marked_at
row_at-mark attributes bytes n k long below =
    let new : List ℕ = marked_at attributes bytes k in
    let mark : slice_index (slot_of attributes new k) (fields_length attributes) ≡ 3 = slot-mark attributes bytes n k long below in
    rw (tuple_front attributes (slot_of attributes new k) (slot_of attributes bytes k) (slot-fields attributes bytes n k long below), mark) refl

-- the bytes of another slot stay
slot-other : (attributes : List Attribute) (bytes : List ℕ) (n k i : ℕ) → length bytes ≡ row_length attributes * n → k < n → i ≢ k
    → slice_range (put_at bytes (row_length attributes * k + fields_length attributes) (3 ∷ [])) (row_length attributes * i) (row_length attributes * i + row_length attributes)
    ≡ slice_range bytes (row_length attributes * i) (row_length attributes * i + row_length attributes)
slot-other attributes bytes n k i long below other =
    let size = row_length attributes in
    let at = size * k + fields_length attributes in
    let inside = slot_inside size k n below in
    ⊎_elim
    (λ (lower : i < k). let e = slot_inside size i k lower in before-put_at bytes (3 ∷ []) at (size * i) (size * i + size - size * i) (omega (arith, e)) (omega (arith, long, inside)))
    (λ (upper : k ≤ i). let e = slot_inside size k i (omega (arith, upper, other)) in ap (take (size * i + size - size * i)) (behind-put_at bytes (3 ∷ []) at (size * i) (omega (arith, e)) (omega (arith, long, inside))))
    (cases_lt i k)

-- and in another slot
row_at-other : (attributes : List Attribute) (bytes : List ℕ) (n k i : ℕ) → length bytes ≡ row_length attributes * n → k < n → i ≢ k
    → row_at attributes (put_at bytes (row_length attributes * k + fields_length attributes) (3 ∷ [])) i ≡ row_at attributes bytes i
row_at-other attributes bytes n k i long below other = ap (row_of attributes) (slot-other attributes bytes n k i long below other)

pub rows-mark : (attributes : List Attribute) (bytes : List ℕ) (n k : ℕ) → length bytes ≡ row_length attributes * n → k < n
    → rows_of attributes (put_at bytes (row_length attributes * k + fields_length attributes) (3 ∷ [])) ≡ set (rows_of attributes bytes) k (record (row_at attributes bytes k) { live = false })
rows-mark attributes bytes n k long below =
    let at = row_length attributes * k + fields_length attributes in
    let inside = slot_inside (row_length attributes) k n below in
    let new : List ℕ = put_at bytes at (3 ∷ []) in
    let marked : Row = record (row_at attributes bytes k) { live = false } in
    let size : length new ≡ row_length attributes * n = length-put_at bytes (3 ∷ []) at (omega (arith, long, inside)) ∙ long in
    let olds = slots_of_whole attributes bytes n long in
    let news = slots_of_whole attributes new n size in
    let old_rows = length-rows attributes bytes in
    let new_rows = length-rows attributes new in
    let set_rows = length-set (rows_of attributes bytes) k marked in
    let old_at : (i : ℕ) (d : Row) → i < n → get_or (rows_of attributes bytes) i d ≡ row_at attributes bytes i =
    λ i d few. get_or-map-range_with_len (row_at attributes bytes) 0 (slots_in_bytes attributes bytes) i i d (omega (arith, few, olds)) (omega arith) in
    let new_at : (i : ℕ) (d : Row) → i < n → get_or (rows_of attributes new) i d ≡ row_at attributes new i =
    λ i d few. get_or-map-range_with_len (row_at attributes new) 0 (slots_in_bytes attributes new) i i d (omega (arith, few, news)) (omega arith) in
    same_lists (rows_of attributes new) (set (rows_of attributes bytes) k marked) (omega (arith, new_rows, news, set_rows, old_rows, olds))
    (λ i d few. let less : i < n = omega (arith, few, new_rows, news) in ⊎_elim
    (λ (here : i ≡ k). new_at i d less ∙ ap (row_at attributes new) here ∙ row_at-mark attributes bytes n k long below ∙ sym (get_or-set_same (rows_of attributes bytes) k marked d (omega (arith, old_rows, olds, below))) ∙ ap (λ (j : ℕ). get_or (set (rows_of attributes bytes) k marked) j d) (sym here))
    (λ (other : i ≢ k). new_at i d less ∙ row_at-other attributes bytes n k i long below other ∙ sym (old_at i d less) ∙ sym (get_or-set_other (rows_of attributes bytes) k i marked d other))
    (cases_eq i k))

-- a row that is written as it was read is so too with its mark
written_here : (attributes : List Attribute) (bytes : List ℕ) (n k : ℕ) → length bytes ≡ row_length attributes * n → k < n
    → row_bytes attributes (row_at attributes bytes k) ≡ slice_range bytes (row_length attributes * k) (row_length attributes * k + row_length attributes)
    → row_bytes attributes (row_at attributes (put_at bytes (row_length attributes * k + fields_length attributes) (3 ∷ [])) k)
    ≡ slice_range (put_at bytes (row_length attributes * k + fields_length attributes) (3 ∷ [])) (row_length attributes * k) (row_length attributes * k + row_length attributes)
unfolding slot_of marked_at
written_here attributes bytes n k long below one =
    let size = row_length attributes in
    let fields = fields_length attributes in
    let from = size * k in
    let row : Row = row_at attributes bytes k in
    let written : List ℕ = fields_bytes attributes row.tuple in
    let new : List ℕ = slot_of attributes (marked_at attributes bytes k) k in
    let wide : length written ≡ fields = omega (arith, length-append written (mark row.live ∷ []), length-row_read attributes (slot_of attributes bytes k)) in
    let front : take fields new ≡ written = slot-fields attributes bytes n k long below ∙ ap (take fields) (sym one) ∙ take_at written (mark row.live ∷ []) fields wide in
    let inside = slot_inside size k n below in
    let room : length (drop from (put_at bytes (from + fields) (3 ∷ []))) ≡ length bytes - from = length-drop from (put_at bytes (from + fields) (3 ∷ [])) ∙ ap (λ (m : ℕ). m - from) (length-put_at bytes (3 ∷ []) (from + fields) (omega (arith, long, inside))) in
    let many : length new ≡ fields + 1 = length-take-le (from + size - from) (drop from (put_at bytes (from + fields) (3 ∷ []))) (omega (arith, room, long, inside)) ∙ omega arith in
    let all : take (fields + 1) new ≡ new = subst (λ (m : ℕ). take m new ≡ new) many (take-length new) in
    ap (row_bytes attributes) (row_at-mark attributes bytes n k long below)
    ∙ ap (λ (xs : List ℕ). xs ++ 3 ∷ []) (sym front)
    ∙ ap (λ (m : ℕ). take fields new ++ m ∷ []) (sym (slot-mark attributes bytes n k long below))
    ∙ sym (take_more new fields 0 (omega (arith, many)))
    ∙ all

pub written-mark : (attributes : List Attribute) (bytes : List ℕ) (n k : ℕ) → length bytes ≡ row_length attributes * n → k < n → rows_bytes attributes (rows_of attributes bytes) ≡ bytes
    → rows_bytes attributes (rows_of attributes (put_at bytes (row_length attributes * k + fields_length attributes) (3 ∷ []))) ≡ put_at bytes (row_length attributes * k + fields_length attributes) (3 ∷ [])
written-mark attributes bytes n k long below all =
    let at = row_length attributes * k + fields_length attributes in
    let inside = slot_inside (row_length attributes) k n below in
    let new : List ℕ = put_at bytes at (3 ∷ []) in
    let size : length new ≡ row_length attributes * n = length-put_at bytes (3 ∷ []) at (omega (arith, long, inside)) ∙ long in
    let old : (i : ℕ) → i < n → row_bytes attributes (row_at attributes bytes i) ≡ slice_range bytes (row_length attributes * i) (row_length attributes * i + row_length attributes) =
    λ i less. written_each attributes bytes n i long less (written_first attributes bytes n i long (omega (arith, less)) all) all in
    written_from attributes new n size
    (λ i less. ⊎_elim
    (λ (here : i ≡ k). subst (λ (j : ℕ). row_bytes attributes (row_at attributes new j) ≡ slice_range new (row_length attributes * j) (row_length attributes * j + row_length attributes)) (sym here)
    (written_here attributes bytes n k long below (old k below)))
    (λ (other : i ≢ k). ap (row_bytes attributes) (row_at-other attributes bytes n k i long below other) ∙ old i less ∙ sym (slot-other attributes bytes n k i long below other))
    (cases_eq i k))
