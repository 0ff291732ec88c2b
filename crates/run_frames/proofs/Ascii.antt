-- Each byte of a reply is below 128, where its texts are texts.
use Rattle.std.proofs.Common.{◌≡◌, refl, sym, ap, subst, ◌∙◌, ℕ, ◌+◌, ◌<◌, ◌/◌, ◌%◌, Bool, true, false, List, [], ◌∷◌, ◌++◌, length, map, flat_map, arith, cond, Option, Some, None, pos, negsuc, zero, suc}
use Rattle.std.specs.Prelude.{ℤ, codes, decimal, IsTrue, nat_lt, nat_le, ◌&&◌, ◌==◌, if◌then◌else◌}
use Rattle.std.specs.Fmt.{digits, digits_onto, digit_glyph, signed_decimal}
use Rattle.std.specs.List.{list_all, join_with_byte, AllByRecursion}
use Rattle.std.proofs.lemmas.Bool.Decides.{nat_tests}
use Rattle.std.proofs.lemmas.List.Folds.{list_all-append}
use Rattle.std.proofs.lemmas.List.Concat.{flat_map-cons}
use Rattle.db_model.specs.declared.refusals.Pool.{Pool}
use Rattle.db_model.specs.declared.refusals.Pool.TheVariants as pool
use Rattle.db_model.specs.declared.refusals.Refusal.{Refusal}
use Rattle.db_model.specs.declared.refusals.Refusal.TheVariants as no
use Rattle.db_model.specs.declared.values.Value.{Value}
use Rattle.db_model.specs.declared.values.Value.TheVariants as value
use Rattle.db_model.specs.Names.{is_text_byte}
use Rattle.db_model.specs.ReplyText.{line, value_text, row_text, number_text, numbers_text, count_text, ok_text, pool_text, reason_text, refusal_text, text}
use Rattle.db_model.specs.Step.{Reply, Fine, Rows, Numbers, Removed, Refused}
use Rattle.run_frames.proofs.Textual.{AreTextual, IsTextual, IsTextualReply}
use Rattle.padded.proofs.Facts.{second_part}

-- bytes below 128
abbrev pub are_ascii : List ℕ → Bool
are_ascii bytes = list_all (λ b. nat_lt b 128) bytes

abbrev pub AreAscii : List ℕ → Type 0
AreAscii bytes = IsTrue (are_ascii bytes)

ascii-append : (xs ys : List ℕ) → AreAscii xs → AreAscii ys → AreAscii (xs ++ ys)
ascii-append xs ys h i = list_all-append (λ b. nat_lt b 128) xs ys ∙ ap (λ t. t && are_ascii ys) h ∙ i

pub ascii-cons : (b : ℕ) (xs : List ℕ) → b < 128 → AreAscii xs → AreAscii (b ∷ xs)
ascii-cons b xs h i = let e : nat_lt b 128 ≡ true = grind (arith, nat_tests) in ap (λ t. t && are_ascii xs) e ∙ i

ascii_digits : (k n : ℕ) (acc : List ℕ) → AreAscii acc → AreAscii (digits_onto k 10 false n acc)
ascii_digits zero n acc h = h
ascii_digits (suc k) n acc h = by_test (n / 10 == 0) (digits_onto k 10 false (n / 10) (digit_glyph false (n % 10) ∷ acc)) (digit_glyph false (n % 10) ∷ acc) (ascii_digits k (n / 10) (digit_glyph false (n % 10) ∷ acc) front) front
  where
    small : n % 10 < 10
    small = omega arith

    glyph : digit_glyph false (n % 10) ≡ 48 + n % 10
    glyph = let s : nat_lt (n % 10) 10 ≡ true = grind (arith, nat_tests) in ap (λ t. if t then 48 + n % 10 else 87 + n % 10) s

    front : AreAscii (digit_glyph false (n % 10) ∷ acc)
    front = ascii-cons (digit_glyph false (n % 10)) acc (let g = glyph in let s = small in omega (arith, g, s)) h

    by_test : (t : Bool) (ys xs : List ℕ) → AreAscii ys → AreAscii xs → AreAscii (cond t xs ys)
    by_test true ys xs i j = j
    by_test false ys xs i j = i

ascii_decimal : (n : ℕ) → AreAscii (decimal n)
unfolding digits
ascii_decimal n = ascii_digits 64 n [] refl

ascii_signed : (z : ℤ) → AreAscii (signed_decimal z)
ascii_signed (pos n) = ascii_decimal n
ascii_signed (negsuc n) = ascii_decimal (suc n)

-- ---- values

ascii_text : (bytes : List ℕ) → IsTrue (list_all is_text_byte bytes) → AreAscii bytes
ascii_text [] h = refl
ascii_text (b ∷ bytes) h = by_test (is_text_byte b) refl h (λ i. ascii_text bytes i)
  where
    by_test : (t : Bool) → is_text_byte b ≡ t → IsTrue (t && list_all is_text_byte bytes) → (IsTrue (list_all is_text_byte bytes) → AreAscii bytes) → AreAscii (b ∷ bytes)
    by_test true e i rest = ascii-cons b bytes (grind (arith, nat_tests)) (rest i)
    by_test false e i rest = cc

ascii_value : (v : Value) → IsTextual v → AreAscii (value_text v)
ascii_value (value.Number z) h = ascii_signed z
ascii_value (value.Text bytes) h = ascii-append bytes (39 ∷ []) (ascii_text bytes (second_part (nat_le (length bytes) 32) (list_all is_text_byte bytes) h)) refl

ascii_joined : (texts : List (List ℕ)) → AllByRecursion AreAscii texts → AreAscii (join_with_byte 44 texts)
ascii_joined [] h = refl
ascii_joined (t ∷ []) h = h.0
ascii_joined (t ∷ u ∷ texts) h = ascii-append t (44 ∷ join_with_byte 44 (u ∷ texts)) h.0 (ascii_joined (u ∷ texts) h.1)

ascii_line : (bytes : List ℕ) → AreAscii bytes → AreAscii (line bytes)
ascii_line bytes h = ascii-append bytes (10 ∷ []) h refl

all_values : (values : List Value) → AreTextual values → AllByRecursion AreAscii (map value_text values)
all_values [] h = tt
all_values (v ∷ values) h = (ascii_value v h.0, all_values values h.1)

ascii_row : (values : List Value) → AreTextual values → AreAscii (row_text values)
unfolding row_text
ascii_row values h = ascii_line (join_with_byte 44 (map value_text values)) (ascii_joined (map value_text values) (all_values values h))

ascii_rows : (rows : List (List Value)) → AllByRecursion AreTextual rows → AreAscii (flat_map row_text rows)
ascii_rows [] h = refl
ascii_rows (row ∷ rows) h = subst AreAscii (sym (flat_map-cons row_text row rows)) (ascii-append (row_text row) (flat_map row_text rows) (ascii_row row h.0) (ascii_rows rows h.1))

ascii_count : (n : ℕ) → AreAscii (count_text n)
unfolding count_text
ascii_count n = ascii_line (codes "rows " ++ decimal n) (ascii_decimal n)

ascii_ok : AreAscii ok_text
unfolding ok_text
ascii_ok = refl

ascii_number : (n : Option ℤ) → AreAscii (number_text n)
ascii_number None = refl
ascii_number (Some z) = ascii_signed z

all_numbers : (ns : List (Option ℤ)) → AllByRecursion AreAscii (map number_text ns)
all_numbers [] = tt
all_numbers (n ∷ ns) = (ascii_number n, all_numbers ns)

ascii_numbers : (ns : List (Option ℤ)) → AreAscii (numbers_text ns)
unfolding numbers_text
ascii_numbers ns = ascii_line (join_with_byte 44 (map number_text ns)) (ascii_joined (map number_text ns) (all_numbers ns))

ascii_pool : (p : Pool) → AreAscii (pool_text p)
ascii_pool pool.Relations = refl
ascii_pool pool.Attributes = refl
ascii_pool pool.RowBytes = refl
ascii_pool pool.Slots = refl
ascii_pool pool.Indexes = refl
ascii_pool pool.HashTables = refl
ascii_pool pool.HashEntries = refl
ascii_pool pool.Nodes = refl

ascii_reason : (r : Refusal) → AreAscii (reason_text r)
ascii_reason (no.Syntax at) = ascii_decimal at
ascii_reason no.Long = refl
ascii_reason no.Unfinished = refl
ascii_reason no.NoRelation = refl
ascii_reason (no.NoAttribute nth) = ascii_decimal nth
ascii_reason no.Exists = refl
ascii_reason no.NotEmpty = refl
ascii_reason (no.Value nth) = ascii_decimal nth
ascii_reason (no.IllTyped nth) = ascii_decimal nth
ascii_reason no.Domain = refl
ascii_reason (no.Full p limit) = ascii-append (codes "full " ++ pool_text p ++ codes " ") (decimal limit) (ascii-append (codes "full " ++ pool_text p) (codes " ") (ascii_pool p) refl) (ascii_decimal limit)
ascii_reason (no.NotOrdered last) = ascii_signed last
ascii_reason (no.InUse cursor) = ascii_decimal cursor
ascii_reason no.HasIndex = refl
ascii_reason no.NoIndex = refl
ascii_reason no.NoCursor = refl
ascii_reason no.CursorOpen = refl
ascii_reason (no.Space need) = ascii_decimal need
ascii_reason no.Frame = refl

ascii_refusal : (r : Refusal) → AreAscii (refusal_text r)
unfolding refusal_text
ascii_refusal r = ascii_line (codes "no " ++ reason_text r) (ascii_reason r)

-- ---- replies

pub ascii_reply : (reply : Reply) → IsTextualReply reply → AreAscii (text reply)
unfolding text
ascii_reply Fine h = ascii_ok
ascii_reply (Rows rows) h = ascii-append (flat_map row_text rows) (count_text (length rows)) (ascii_rows rows h) (ascii_count (length rows))
ascii_reply (Numbers ns) h = ascii-append (numbers_text ns) (count_text 1) (ascii_numbers ns) (ascii_count 1)
ascii_reply (Removed n) h = ascii_count n
ascii_reply (Refused r) h = ascii_refusal r
