-- Rows that are written as they were read suit their attributes.
use Rattle.std.proofs.Common.{◌≡◌, ℕ, zero, suc, ◌+◌, ◌*◌, ◌<◌, ◌≤◌, Bool, true, false, ◌&&◌, List, [], ◌∷◌, ◌++◌, length, map, take, drop, get_or, replicate, refl, ap, sym, subst, ◌∙◌, arith}
use Rattle.std.specs.Prelude.{if◌then◌else◌, slice_range, ◌==◌, nat_le, not, ⊤}
use Rattle.std.specs.Int.{is_in_range}
use Rattle.std.specs.Int.{bytes_low_first}
use Rattle.std.specs.List.{list_all, range_with_len}
use Rattle.std.proofs.lemmas.Bool.Decides.{nat_tests}
use Rattle.db_model.specs.declared.schemas.Attribute.{Attribute}
use Rattle.db_model.specs.declared.schemas.Domain.{Domain}
use Rattle.db_model.specs.declared.schemas.Domain.TheVariants.{Int, Long, Time, Str}
use Rattle.db_model.specs.Names.{is_text, is_text_byte}
use Rattle.db_model.specs.Row.{AllRowsSuit, AllSuit, field_bytes, field_of, fields_bytes, mark, row_at, row_bytes, row_length, row_of, rows_of, slots_in_bytes, text_or_empty, tuple_of, up_to_zero, width}
use Rattle.db_model.proofs.Decoded.{tuple_suits}
use Rattle.tuple_file.specs.Tuples.{AreRows}
use Rattle.tuple_file.proofs.Slots.{length-rows}
use Rattle.tuple_file.proofs.Written.{length-written, written_each, written_first}
use Rattle.padded.proofs.Facts.{both_parts, byte_small}

AreSmall : List ℕ → Type 0
AreSmall [] = ⊤
AreSmall (b ∷ bytes) = (b < 256) × AreSmall bytes

small_at : (bytes : List ℕ) → AreSmall bytes → (i : ℕ) → get_or bytes i 0 < 256
unfolding AreSmall
small_at [] h i = omega arith
small_at (b ∷ bytes) h zero = h.0
small_at (b ∷ bytes) h (suc i) = small_at bytes h.1 i

small_both : (xs ys : List ℕ) → AreSmall xs → AreSmall ys → AreSmall (xs ++ ys)
unfolding AreSmall
small_both [] ys h k = k
small_both (x ∷ xs) ys h k = (h.0, small_both xs ys h.1 k)

small_zeros : (n : ℕ) → AreSmall (replicate n 0)
unfolding AreSmall
small_zeros zero = tt
small_zeros (suc n) = (omega arith, small_zeros n)

small_number : (s n x : ℕ) → AreSmall (bytes_low_first s n x)
unfolding AreSmall
small_number s zero x = tt
small_number s (suc n) x = (byte_small s x, small_number (suc s) n x)

small_byte : (b : ℕ) → is_in_range 32 126 b ≡ true → b < 256
small_byte b e = let parts = both_parts (nat_le 32 b) (nat_le b 126) e in let most = true_le b 126 parts.1 in omega (arith, most)
  where
    true_le : (a b : ℕ) → nat_le a b ≡ true → a ≤ b
    true_le a b h = grind (arith, nat_tests)

small_text_bytes : (bytes : List ℕ) → list_all is_text_byte bytes ≡ true → AreSmall bytes
unfolding AreSmall
small_text_bytes [] e = tt
small_text_bytes (b ∷ bytes) e =
    let parts = both_parts (is_text_byte b) (list_all is_text_byte bytes) e in
    let here = both_parts (is_in_range 32 126 b) (not (b == 39)) parts.0 in
    (small_byte b here.0, small_text_bytes bytes parts.1)

small_text : (bytes : List ℕ) → is_text bytes ≡ true → AreSmall bytes
small_text bytes e = small_text_bytes bytes (both_parts (nat_le (length bytes) 32) (list_all is_text_byte bytes) e).1

-- what is read of a field is written in small bytes
small_read_text : (field : List ℕ) → AreSmall (text_or_empty field)
unfolding AreSmall
small_read_text field = by_test (is_text (up_to_zero field)) (list_all (λ b. b == 0) (drop (length (up_to_zero field)) field)) refl
  where
    by_test : (a b : Bool) → is_text (up_to_zero field) ≡ a → AreSmall (if a && b then up_to_zero field else [])
    by_test true true e = small_text (up_to_zero field) e
    by_test true false e = tt
    by_test false b e = tt

small_field : (d : Domain) (bytes : List ℕ) → AreSmall (field_bytes d (field_of d bytes))
small_field Int bytes = small_number 0 2 _
small_field Long bytes = small_number 0 4 _
small_field Time bytes = small_number 0 8 _
small_field (Str n) bytes = small_both (text_or_empty (take n bytes)) _ (small_read_text (take n bytes)) (small_zeros _)

small_fields : (attributes : List Attribute) (bytes : List ℕ) → AreSmall (fields_bytes attributes (tuple_of attributes bytes))
unfolding AreSmall
small_fields [] bytes = tt
small_fields (a ∷ attributes) bytes =
    small_both (field_bytes a.domain (field_of a.domain bytes)) (fields_bytes attributes (tuple_of attributes (drop (width a.domain) bytes)))
    (small_field a.domain bytes) (small_fields attributes (drop (width a.domain) bytes))

small_mark : (live : Bool) → mark live < 256
small_mark true = omega arith
small_mark false = omega arith

small_row : (attributes : List Attribute) (bytes : List ℕ) → AreSmall (row_bytes attributes (row_of attributes bytes))
unfolding AreSmall
small_row attributes bytes = small_both (fields_bytes attributes (tuple_of attributes bytes)) _ (small_fields attributes bytes) (small_mark _, tt)

-- rows that are written as they were read
module _ (version : ℕ) (attributes : List Attribute) (bytes : List ℕ) (r : AreRows version attributes bytes) where
  whole : length bytes ≡ row_length attributes * slots_in_bytes attributes bytes
  whole = sym (ap length r.whole) ∙ length-written attributes bytes

  suits_at : (k : ℕ) → k < slots_in_bytes attributes bytes → AllSuit attributes (row_at attributes bytes k).tuple
  suits_at k below =
      let slot : List ℕ = slice_range bytes (row_length attributes * k) (row_length attributes * k + row_length attributes) in
      let one : row_bytes attributes (row_of attributes slot) ≡ slot =
      written_each attributes bytes (slots_in_bytes attributes bytes) k whole below (written_first attributes bytes (slots_in_bytes attributes bytes) k whole (omega (arith, below)) r.whole) r.whole in
      let small : AreSmall slot = subst AreSmall one (small_row attributes slot) in
      tuple_suits attributes slot (small_at slot small)

  all_suit : (from n : ℕ) → from + n ≤ slots_in_bytes attributes bytes → AllRowsSuit attributes (map (row_at attributes bytes) (range_with_len from n))
  all_suit from zero h = tt
  all_suit from (suc n) h = (suits_at from (omega (arith, h)), all_suit (from + 1) n (omega (arith, h)))

  pub rows_suit : AllRowsSuit attributes (rows_of attributes bytes)
  rows_suit = all_suit 0 (slots_in_bytes attributes bytes) (omega arith)

  pub rows_count : length (rows_of attributes bytes) ≡ slots_in_bytes attributes bytes
  rows_count = length-rows attributes bytes
