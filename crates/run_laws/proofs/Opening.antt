-- How the texts of replies begin: that of a refusal with an n, and no other.
use Rattle.std.proofs.Common.{◌≡◌, refl, sym, subst, ℕ, ◌<◌, ◌/◌, ◌%◌, Bool, true, false, List, [], ◌∷◌, ◌++◌, length, map, flat_map, arith, cond, Option, Some, None, pos, negsuc, zero, suc}
use Rattle.std.specs.Prelude.{ℤ, decimal, not, ◌==◌}
use Rattle.std.specs.Fmt.{digits, digits_onto, digit_glyph, signed_decimal}
use Rattle.std.specs.List.{join_with_byte, AllByRecursion}
use Rattle.std.proofs.lemmas.Bool.Decides.{nat_tests}
use Rattle.std.proofs.lemmas.List.Concat.{flat_map-cons}
use Rattle.db_model.specs.declared.refusals.Refusal.TheVariants as no
use Rattle.db_model.specs.declared.values.Value.{Value}
use Rattle.db_model.specs.declared.values.Value.TheVariants as value
use Rattle.db_model.specs.Ahead.{is_refused}
use Rattle.db_model.specs.ReplyText.{line, value_text, row_text, number_text, numbers_text, count_text, ok_text, refusal_text, text}
use Rattle.db_model.specs.Step.{Reply, Fine, Rows, Numbers, Removed, Refused}

-- whether there is a first byte, and it is no n
abbrev pub is_other : List ℕ → Bool
is_other [] = false
is_other (b ∷ bytes) = not (b == 110)

abbrev pub IsOther : List ℕ → Type 0
IsOther bytes = is_other bytes ≡ true

pub other-append : (xs ys : List ℕ) → IsOther xs → IsOther (xs ++ ys)
other-append [] ys h = cc
other-append (b ∷ xs) ys h = h

-- ---- numbers

glyph_other : (d : ℕ) (bytes : List ℕ) → d < 10 → IsOther (digit_glyph false d ∷ bytes)
glyph_other d bytes h = grind (arith, nat_tests)

small : (n : ℕ) → n % 10 < 10
small n = omega arith

digits_other : (k n : ℕ) (acc : List ℕ) → IsOther acc → IsOther (digits_onto k 10 false n acc)
digits_other zero n acc h = h
digits_other (suc k) n acc h =
    by_test (n / 10 == 0) (digit_glyph false (n % 10) ∷ acc) (digits_onto k 10 false (n / 10) (digit_glyph false (n % 10) ∷ acc)) front
    (digits_other k (n / 10) (digit_glyph false (n % 10) ∷ acc) front)
  where
    front : IsOther (digit_glyph false (n % 10) ∷ acc)
    front = glyph_other (n % 10) acc (small n)

    by_test : (t : Bool) (xs ys : List ℕ) → IsOther xs → IsOther ys → IsOther (cond t xs ys)
    by_test true xs ys i j = i
    by_test false xs ys i j = j

decimal_other : (n : ℕ) → IsOther (decimal n)
unfolding digits
decimal_other n =
    by_test (n / 10 == 0) (digit_glyph false (n % 10) ∷ []) (digits_onto 63 10 false (n / 10) (digit_glyph false (n % 10) ∷ [])) front
    (digits_other 63 (n / 10) (digit_glyph false (n % 10) ∷ []) front)
  where
    front : IsOther (digit_glyph false (n % 10) ∷ [])
    front = glyph_other (n % 10) [] (small n)

    by_test : (t : Bool) (xs ys : List ℕ) → IsOther xs → IsOther ys → IsOther (cond t xs ys)
    by_test true xs ys i j = i
    by_test false xs ys i j = j

signed_other : (z : ℤ) → IsOther (signed_decimal z)
signed_other (pos n) = decimal_other n
signed_other (negsuc n) = refl

-- ---- rows

value_other : (v : Value) → IsOther (value_text v)
value_other (value.Number z) = signed_other z
value_other (value.Text bytes) = refl

number_other : (n : Option ℤ) → IsOther (number_text n)
number_other None = refl
number_other (Some z) = signed_other z

-- a line of none is its LF
joined_other : (texts : List (List ℕ)) → AllByRecursion IsOther texts → IsOther (line (join_with_byte 44 texts))
joined_other [] h = refl
joined_other (t ∷ []) h = other-append t (10 ∷ []) h.0
joined_other (t ∷ u ∷ texts) h =
    other-append (t ++ (44 ∷ join_with_byte 44 (u ∷ texts))) (10 ∷ []) (other-append t (44 ∷ join_with_byte 44 (u ∷ texts)) h.0)

values_other : (values : List Value) → AllByRecursion IsOther (map value_text values)
values_other [] = tt
values_other (v ∷ values) = (value_other v, values_other values)

all_numbers_other : (numbers : List (Option ℤ)) → AllByRecursion IsOther (map number_text numbers)
all_numbers_other [] = tt
all_numbers_other (n ∷ numbers) = (number_other n, all_numbers_other numbers)

row_other : (values : List Value) → IsOther (row_text values)
unfolding row_text
row_other values = joined_other (map value_text values) (values_other values)

numbers_other : (numbers : List (Option ℤ)) → IsOther (numbers_text numbers)
unfolding numbers_text
numbers_other numbers = joined_other (map number_text numbers) (all_numbers_other numbers)

count_other : (n : ℕ) → IsOther (count_text n)
unfolding count_text
count_other n = refl

ok_other : IsOther ok_text
unfolding ok_text
ok_other = refl

rows_other : (rows : List (List Value)) (n : ℕ) → IsOther (flat_map row_text rows ++ count_text n)
rows_other [] n = count_other n
rows_other (row ∷ rows) n =
    subst (λ front. IsOther (front ++ count_text n)) (sym (flat_map-cons row_text row rows))
    (other-append (row_text row ++ flat_map row_text rows) (count_text n) (other-append (row_text row) (flat_map row_text rows) (row_other row)))

-- ---- replies

pub reply_other : (reply : Reply) → is_refused reply ≡ false → IsOther (text reply)
unfolding text
reply_other Fine h = ok_other
reply_other (Rows rows) h = rows_other rows (length rows)
reply_other (Numbers numbers) h = other-append (numbers_text numbers) (count_text 1) (numbers_other numbers)
reply_other (Removed n) h = count_other n
reply_other (Refused refusal) h = cc

pub space_not_other : (n : ℕ) (bytes : List ℕ) → is_other (refusal_text (no.Space n) ++ bytes) ≡ false
unfolding refusal_text
space_not_other n bytes = refl

-- so a reply that is no refusal begins no text that there is no space
pub apart : (reply : Reply) (n : ℕ) (us vs : List ℕ) → is_refused reply ≡ false → text reply ++ us ≡ refusal_text (no.Space n) ++ vs → ⊥
apart reply n us vs accepted same =
    let one : is_other (text reply ++ us) ≡ true = other-append (text reply) us (reply_other reply accepted) in
    let other : is_other (refusal_text (no.Space n) ++ vs) ≡ false = space_not_other n vs in
    let here : is_other (refusal_text (no.Space n) ++ vs) ≡ true = subst (λ bytes. is_other bytes ≡ true) same one in
    let n : ⊥ = cc in n
