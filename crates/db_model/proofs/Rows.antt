-- What was written of rows is read back.
use Rattle.std.proofs.Common.{◌≡◌, refl, sym, ap, subst, ◌∙◌, ℕ, zero, suc, ◌+◌, ◌-◌, ◌*◌, ◌/◌, ◌^◌, ◌<◌, ◌≤◌, ℤ, pos, negsuc, Bool, true, false, List, [], ◌∷◌, ◌++◌, length, take, drop, SFits, w16, w32, w64, of_z, arith, append_assoc, append-nil, length-append}
use Rattle.std.proofs.lemmas.Bool.{leb-true}
use Rattle.std.proofs.lemmas.Bool.Decides.{nat_tests}
use Rattle.std.proofs.lemmas.List.{length-replicate, length-drop, take-append-le, drop-append-le}
use Rattle.std.proofs.Math.Facts.{Fits-of_z}
use Rattle.std.proofs.Math.Seq.{take-append_seam, take-length, drop-append_seam, get_or-append_seam}
use Rattle.std.proofs.Math.Nat.{mul-le-mul_left, mul-suc, mul-div_cancel_left, zero-div}
use Rattle.std.proofs.lemmas.List.FromFn.{map-range_with_len_more}
use Rattle.std.specs.Prelude.{leb, replicate, slice_range, slice_index, map, nat_le, ◌==◌}
use Rattle.std.specs.List.{list_all, range_with_len}
use Rattle.std.specs.Int.Signed.{mag}
use Rattle.std.specs.Int.{Width, cast_signed, cast_unsigned}
use Rattle.std.proofs.lemmas.Int.{to_z-of_z}
use Rattle.byteorder.specs.Endian.{little_bytes, little_number}
use Rattle.byteorder.specs.Numbers.{little_number-reads_back}
use Rattle.db_model.specs.declared.schemas.Attribute.{Attribute}
use Rattle.db_model.specs.declared.schemas.Domain.{Domain}
use Rattle.db_model.specs.declared.schemas.Domain.TheVariants.{Int, Long, Time, Str}
use Rattle.db_model.specs.declared.values.Value.{Value}
use Rattle.db_model.specs.declared.values.Value.TheVariants.{Number, Text}
use Rattle.db_model.specs.Names.{is_text, is_text_byte}
use Rattle.padded.specs.Padded.{padded}
use Rattle.db_model.specs.Row.{Row, suits, is_between, AllSuit, AllRowsSuit, width, field_bytes, field_of, time_or_least, up_to_zero, text_or_empty, fields_length, row_length, mark, fields_bytes, row_bytes, rows_bytes, tuple_of, row_of, row_at, rows_of}
use Rattle.padded.proofs.Facts.{both_parts, all_zeros}

-- ---- numbers

below : (h : ℕ) (z : ℤ) → is_between (negsuc h) (pos h) z ≡ true → mag z ≤ h
below h (pos n) e = leb-true n h (both_parts true (leb n h) e).1
below h (negsuc n) e = leb-true n h (both_parts (leb n h) true e).0

pub at_most : (lo h : ℕ) (z : ℤ) → is_between (pos lo) (pos h) z ≡ true → mag z ≤ h
at_most lo h (pos n) e = leb-true n h (both_parts (leb lo n) (leb n h) e).1
at_most lo h (negsuc n) e = cc

number_back : (n : ℕ) (w : Width) (z : ℤ) (rest : List ℕ) → SFits w z → of_z w z < 256 ^ n → cast_signed w (little_number n (little_bytes n (cast_unsigned w z) ++ rest)) ≡ z
number_back n w z rest fits small = ap (cast_signed w) (little_number-reads_back n (of_z w z) rest small) ∙ to_z-of_z w z fits

-- ---- texts

-- the zeros behind a text are cut off
up_to_zero-text : (bytes : List ℕ) (k : ℕ) → list_all is_text_byte bytes ≡ true → up_to_zero (bytes ++ replicate k 0) ≡ bytes
up_to_zero-text [] zero e = refl
up_to_zero-text [] (suc k) e = refl
up_to_zero-text (b ∷ bytes) k e =
    let passes : (is_text_byte b ≡ true) × (list_all is_text_byte bytes ≡ true) = both_parts (is_text_byte b) (list_all is_text_byte bytes) e in
    rw (not_zero b passes.0, up_to_zero-text bytes k passes.1) refl
  where
    not_zero : (b : ℕ) → is_text_byte b ≡ true → (b == 0) ≡ false
    not_zero zero e = cc
    not_zero (suc b) e = grind (arith, nat_tests)

-- the front of two lists, by its length
pub take_front : {A : Type 0} (n : ℕ) (xs ys : List A) → length xs ≡ n → take n (xs ++ ys) ≡ xs
take_front n xs ys e = subst (λ m. take m (xs ++ ys) ≡ xs) e (take-append_seam xs ys)

pub drop_front : {A : Type 0} (n : ℕ) (xs ys : List A) → length xs ≡ n → drop n (xs ++ ys) ≡ ys
drop_front n xs ys e = subst (λ m. drop m (xs ++ ys) ≡ ys) e (drop-append_seam xs ys)

pub length-padded : (n : ℕ) (bytes : List ℕ) → length bytes ≤ n → length (padded n bytes) ≡ n
length-padded n bytes short =
    let zeros : length (replicate {A = ℕ} (n - length bytes) 0) ≡ n - length bytes = length-replicate {A = ℕ} (n - length bytes) 0 in
    length-append bytes (replicate (n - length bytes) 0) ∙ omega (arith, zeros, short)

text_back : (n : ℕ) (bytes rest : List ℕ) → length bytes ≤ n → is_text bytes ≡ true → text_or_empty (take n (padded n bytes ++ rest)) ≡ bytes
text_back n bytes rest short e =
    let cut : take n (padded n bytes ++ rest) ≡ padded n bytes = take_front n (padded n bytes) rest (length-padded n bytes short) in
    let texts : (nat_le (length bytes) 32 ≡ true) × (list_all is_text_byte bytes ≡ true) = both_parts (nat_le (length bytes) 32) (list_all is_text_byte bytes) e in
    let zeros : list_all (λ b. b == 0) (drop (length bytes) (padded n bytes)) ≡ true =
    ap (list_all (λ b. b == 0)) (drop-append_seam bytes (replicate (n - length bytes) 0)) ∙ all_zeros (n - length bytes) in
    rw (cut, up_to_zero-text bytes (n - length bytes) texts.1, e, zeros) refl

-- ---- fields

pub field_back : (d : Domain) (v : Value) (rest : List ℕ) → suits d v ≡ true → field_of d (field_bytes d v ++ rest) ≡ v
field_back Int (Number z) rest e =
    let fits : SFits w16 z = record { sfits = omega (arith, below 32767 z e) } in
    ap (λ z. Number z) (number_back 2 w16 z rest fits ((Fits-of_z fits).fits))
field_back Long (Number z) rest e =
    let fits : SFits w32 z = record { sfits = omega (arith, below 2147483647 z e) } in
    ap (λ z. Number z) (number_back 4 w32 z rest fits ((Fits-of_z fits).fits))
field_back Time (Number z) rest e =
    let fits : SFits w64 z = record { sfits = omega (arith, at_most 0 140737488355327 z e) } in
    let back = number_back 8 w64 z rest fits ((Fits-of_z fits).fits) in
    ap (λ z. Number (time_or_least z)) back ∙ rw e refl
field_back (Str n) (Text bytes) rest e =
    let each : (nat_le (length bytes) n ≡ true) × (is_text bytes ≡ true) = both_parts (nat_le (length bytes) n) (is_text bytes) e in
    ap (λ bytes. Text bytes) (text_back n bytes rest (leb-true (length bytes) n each.0) each.1)
field_back Int (Text bytes) rest e = cc
field_back Long (Text bytes) rest e = cc
field_back Time (Text bytes) rest e = cc
field_back (Str n) (Number z) rest e = cc

pub length-field : (d : Domain) (v : Value) → suits d v ≡ true → length (field_bytes d v) ≡ width d
length-field Int (Number z) e = refl
length-field Long (Number z) e = refl
length-field Time (Number z) e = refl
length-field (Str n) (Text bytes) e = length-padded n bytes (leb-true (length bytes) n (both_parts (nat_le (length bytes) n) (is_text bytes) e).0)
length-field Int (Text bytes) e = cc
length-field Long (Text bytes) e = cc
length-field Time (Text bytes) e = cc
length-field (Str n) (Number z) e = cc

-- ---- tuples

pub length-fields : (attributes : List Attribute) (values : List Value) → AllSuit attributes values → length (fields_bytes attributes values) ≡ fields_length attributes
length-fields [] [] s = refl
length-fields [] (v ∷ values) s = absurd s
length-fields (a ∷ attributes) [] s = absurd s
length-fields (a ∷ attributes) (v ∷ values) s =
    let first = length-field a.domain v s.0 in
    let rest = length-fields attributes values s.1 in
    length-append (field_bytes a.domain v) (fields_bytes attributes values) ∙ omega (arith, first, rest)

pub tuple_back : (attributes : List Attribute) (values : List Value) (rest : List ℕ) → AllSuit attributes values → tuple_of attributes (fields_bytes attributes values ++ rest) ≡ values
tuple_back [] [] rest s = refl
tuple_back [] (v ∷ values) rest s = absurd s
tuple_back (a ∷ attributes) [] rest s = absurd s
tuple_back (a ∷ attributes) (v ∷ values) rest s =
    let front = field_bytes a.domain v in
    let behind = fields_bytes attributes values in
    let group : front ++ behind ++ rest ≡ front ++ (behind ++ rest) = append_assoc front behind rest in
    let past : drop (width a.domain) (front ++ (behind ++ rest)) ≡ behind ++ rest = drop_front (width a.domain) front (behind ++ rest) (length-field a.domain v s.0) in
    rw (group, past, field_back a.domain v (behind ++ rest) s.0, tuple_back attributes values rest s.1) refl

-- ---- rows

pub length-row : (attributes : List Attribute) (row : Row) → AllSuit attributes row.tuple → length (row_bytes attributes row) ≡ row_length attributes
length-row attributes row s =
    let fields = length-fields attributes row.tuple s in
    length-append (fields_bytes attributes row.tuple) (mark row.live ∷ []) ∙ omega (arith, fields)

mark_back : (live : Bool) → (mark live == 1) ≡ live
mark_back true = refl
mark_back false = refl

pub row_back : (attributes : List Attribute) (row : Row) (rest : List ℕ) → AllSuit attributes row.tuple → row_of attributes (row_bytes attributes row ++ rest) ≡ row
row_back attributes row rest s =
    let fields = fields_bytes attributes row.tuple in
    let group : fields ++ mark row.live ∷ [] ++ rest ≡ fields ++ (mark row.live ∷ rest) = append_assoc fields (mark row.live ∷ []) rest in
    let marked : slice_index (fields ++ (mark row.live ∷ rest)) (fields_length attributes) ≡ mark row.live = seam fields (mark row.live) rest (fields_length attributes) (length-fields attributes row.tuple s) in
    rw (group, marked, tuple_back attributes row.tuple (mark row.live ∷ rest) s, mark_back row.live) refl
  where
    seam : (xs : List ℕ) (y : ℕ) (ys : List ℕ) (n : ℕ) → length xs ≡ n → slice_index (xs ++ y ∷ ys) n ≡ y
    seam xs y ys n e = subst (λ m. slice_index (xs ++ y ∷ ys) m ≡ y) e (get_or-append_seam xs y ys 0)

-- ---- lists of rows

pub map_range_same : {X : Type 0} (f g : ℕ → X) (a n : ℕ) → ((k : ℕ) → a ≤ k → k < a + n → f k ≡ g k) → map f (range_with_len a n) ≡ map g (range_with_len a n)
map_range_same f g a zero same = refl
map_range_same f g a (suc n) same =
    rw (same a (omega arith) (omega arith), map_range_same f g (a + 1) n (λ k low high. same k (omega (arith, low)) (omega (arith, high)))) refl

-- slot k of n slots ends inside them
pub slot_inside : (size k n : ℕ) → k < n → size * k + size ≤ size * n
slot_inside size k n below = let e : size * suc k ≤ size * n = mul-le-mul_left size below in rw (← mul-suc size k) e

-- the bytes of slot k stay where more bytes come behind all n slots
pub slot_same : (size k n : ℕ) (xs ys : List ℕ) → length xs ≡ size * n → k < n → slice_range (xs ++ ys) (size * k) (size * k + size) ≡ slice_range xs (size * k) (size * k + size)
slot_same size k n xs ys long below =
    let inside = slot_inside size k n below in
    let at : drop (size * k) (xs ++ ys) ≡ drop (size * k) xs ++ ys = drop-append-le (size * k) xs ys (omega (arith, long, inside)) in
    let left = length-drop (size * k) xs in
    rw at (take-append-le (size * k + size - size * k) (drop (size * k) xs) ys (omega (arith, left, long, inside)))

-- the last slot is what came behind the others
slot_last : (size n : ℕ) (xs ys : List ℕ) → length xs ≡ size * n → length ys ≡ size → slice_range (xs ++ ys) (size * n) (size * n + size) ≡ ys
slot_last size n xs ys long whole =
    let past : drop (size * n) (xs ++ ys) ≡ ys = drop_front (size * n) xs ys long in
    rw past (all_of (size * n + size - size * n) ys (omega (arith, whole)))
  where
    all_of : (m : ℕ) (ys : List ℕ) → length ys ≡ m → take m ys ≡ ys
    all_of m ys e = subst (λ m. take m ys ≡ ys) e (take-length ys)

count_slots : (size n : ℕ) (xs : List ℕ) → 0 < size → length xs ≡ size * n → length xs / size ≡ n
count_slots size n xs some long = rw long (mul-div_cancel_left n some)

-- one slot more, read by f
slots-insert : {X : Type 0} (f : List ℕ → X) (size n : ℕ) (xs ys : List ℕ) → 0 < size → length xs ≡ size * n → length ys ≡ size
    → map (λ k. f (slice_range (xs ++ ys) (size * k) (size * k + size))) (range_with_len 0 (length (xs ++ ys) / size))
    ≡ map (λ k. f (slice_range xs (size * k) (size * k + size))) (range_with_len 0 (length xs / size)) ++ f ys ∷ []
slots-insert {X} f size n xs ys some long whole =
    let more : size * suc n ≡ size * n + size = mul-suc size n in
    let longer : length (xs ++ ys) ≡ size * (n + 1) = length-append xs ys ∙ omega (arith, long, whole, more) in
    let new : ℕ → X = λ k. f (slice_range (xs ++ ys) (size * k) (size * k + size)) in
    let old : ℕ → X = λ k. f (slice_range xs (size * k) (size * k + size)) in
    ap (λ m. map new (range_with_len 0 m)) (count_slots size (n + 1) (xs ++ ys) some longer)
    ∙ map-range_with_len_more new 0 n n (omega arith)
    ∙ ap (λ front. front ++ new n ∷ []) (map_range_same new old 0 n (λ k low high. ap f (slot_same size k n xs ys long (omega (arith, high)))))
    ∙ ap (λ last. map old (range_with_len 0 n) ++ last ∷ []) (ap f (slot_last size n xs ys long whole))
    ∙ ap (λ m. map old (range_with_len 0 m) ++ f ys ∷ []) (sym (count_slots size n xs some long))

-- a row written behind whole slots is one row more
pub rows_of-insert : (attributes : List Attribute) (row : Row) (n : ℕ) (bytes : List ℕ) → length bytes ≡ row_length attributes * n → AllSuit attributes row.tuple → rows_of attributes (bytes ++ row_bytes attributes row) ≡ rows_of attributes bytes ++ row ∷ []
rows_of-insert attributes row n bytes long s =
    slots-insert (row_of attributes) (row_length attributes) n bytes (row_bytes attributes row) (omega arith) long (length-row attributes row s)
    ∙ ap (λ last. rows_of attributes bytes ++ last ∷ []) (ap (row_of attributes) (sym (append-nil (row_bytes attributes row))) ∙ row_back attributes row [] s)

rows_of-append : (attributes : List Attribute) (rows : List Row) (n : ℕ) (bytes : List ℕ) → length bytes ≡ row_length attributes * n → AllRowsSuit attributes rows → rows_of attributes (bytes ++ rows_bytes attributes rows) ≡ rows_of attributes bytes ++ rows
rows_of-append attributes [] n bytes long s = ap (rows_of attributes) (append-nil bytes) ∙ sym (append-nil (rows_of attributes bytes))
rows_of-append attributes (row ∷ rows) n bytes long s =
    let size = row_length attributes in
    let first = row_bytes attributes row in
    let one = length-row attributes row s.0 in
    let more : size * suc n ≡ size * n + size = mul-suc size n in
    let longer : length (bytes ++ first) ≡ size * suc n = length-append bytes first ∙ omega (arith, long, one, more) in
    ap (rows_of attributes) (sym (append_assoc bytes first (rows_bytes attributes rows)))
    ∙ rows_of-append attributes rows (suc n) (bytes ++ first) longer s.1
    ∙ ap (λ front. front ++ rows) (rows_of-insert attributes row n bytes long s.0)
    ∙ append_assoc (rows_of attributes bytes) (row ∷ []) rows

-- rows are read back from their bytes
pub rows_back : (attributes : List Attribute) (rows : List Row) → AllRowsSuit attributes rows → rows_of attributes (rows_bytes attributes rows) ≡ rows
rows_back attributes rows s =
    let none : rows_of attributes [] ≡ [] = ap (λ m. map (row_at attributes []) (range_with_len 0 m)) (zero-div (row_length attributes)) in
    rows_of-append attributes rows 0 [] (omega arith) s ∙ ap (λ front. front ++ rows) none
