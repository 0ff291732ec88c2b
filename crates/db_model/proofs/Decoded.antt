-- What is read of bytes, whatever they are: it suits its attributes, is written in as many bytes, and depends on the bytes
-- of its fields alone.
use Rattle.std.proofs.Common.{◌≡◌, refl, sym, ap, subst, ◌∙◌, ℕ, zero, suc, ◌+◌, ◌<◌, ◌≤◌, ℤ, pos, negsuc, Bool, true, false, ◌&&◌, List, [], ◌∷◌, ◌++◌, length, take, drop, get_or, w16, w32, w64, Fits, SFits, arith}
use Rattle.std.specs.Prelude.{Some, slice_get, if◌then◌else◌, ◌==◌}
use Rattle.std.specs.Int.Signed.{mag}
use Rattle.std.specs.Int.{cast_signed, cast_unsigned}
use Rattle.std.proofs.Math.Facts.{Fits-of_z, sfits_to_z}
use Rattle.std.proofs.lemmas.Int.{to_z-of_z}
use Rattle.std.proofs.lemmas.Bool.{le-leb}
use Rattle.std.proofs.lemmas.Grind.{common_steps}
use Rattle.std.proofs.lemmas.List.{append-nil, drop-drop, drop-take, get_or-drop, length-append, take-take}
use Rattle.byteorder.specs.Endian.{little_bytes, little_number}
use Rattle.byteorder.specs.Numbers.{little_from-lt, little_from-take, little_number-reads_back}
use Rattle.db_model.proofs.Rows.{at_most, drop_front, length-padded, take_front}
use Rattle.db_model.specs.declared.schemas.Attribute.{Attribute}
use Rattle.db_model.specs.declared.schemas.Domain.{Domain}
use Rattle.db_model.specs.declared.schemas.Domain.TheVariants.{Int, Long, Time, Str}
use Rattle.db_model.specs.declared.values.Value.{Value}
use Rattle.db_model.specs.declared.values.Value.TheVariants.{Number, Text}
use Rattle.std.specs.List.{list_all}
use Rattle.db_model.specs.Names.{is_text}
use Rattle.db_model.specs.Row.{AllSuit, field_bytes, field_of, fields_bytes, fields_length, is_between, is_text_field, mark, row_bytes, row_length, row_of, suits, text_or_empty, time_or_least, tuple_of, up_to_zero, width}

AreBytes : List ℕ → Type 0
AreBytes bytes = (i : ℕ) → get_or bytes i 0 < 256

-- ---- numbers

between : (h : ℕ) (z : ℤ) → mag z ≤ h → is_between (negsuc h) (pos h) z ≡ true
between h (pos n) few = le-leb n h few
between h (negsuc n) few = rw (le-leb n h few) refl

time_suits : (z : ℤ) → suits Time (Number (time_or_least z)) ≡ true
time_suits z = either (suits Time (Number z)) refl
  where
    either : (b : Bool) → suits Time (Number z) ≡ b → suits Time (Number (if b then z else pos 0)) ≡ true
    either true e = e
    either false e = refl

-- ---- texts

pub cut : (bytes : List ℕ) → length (up_to_zero bytes) ≤ length bytes
cut [] = omega arith
cut (b ∷ bytes) = either (b == 0) (cut bytes)
  where
    either : (here : Bool) → length (up_to_zero bytes) ≤ length bytes → length (if here then [] else b ∷ up_to_zero bytes) ≤ length (b ∷ bytes)
    either true short = omega arith
    either false short = omega (arith, short)

short : (n : ℕ) (bytes : List ℕ) → length (up_to_zero (take n bytes)) ≤ n
short n bytes = let most : length (take n bytes) ≤ n = grind (arith, common_steps) in omega (arith, cut (take n bytes), most)

text_suits : (n : ℕ) (field : List ℕ) → length (up_to_zero field) ≤ n → suits (Str n) (Text (text_or_empty field)) ≡ true
text_suits n field few = either (is_text (up_to_zero field)) (list_all (λ b. b == 0) (drop (length (up_to_zero field)) field)) refl
  where
    either : (a b : Bool) → is_text (up_to_zero field) ≡ a → suits (Str n) (Text (if a && b then up_to_zero field else [])) ≡ true
    either true true e = rw (le-leb (length (up_to_zero field)) n few, e) refl
    either true false e = rw (le-leb 0 n (omega arith)) refl
    either false b e = rw (le-leb 0 n (omega arith)) refl

pub number_front : (n : ℕ) (xs ys : List ℕ) → take n xs ≡ take n ys → little_number n xs ≡ little_number n ys
number_front n xs ys e = sym (little_from-take 0 n n xs (omega arith)) ∙ ap (little_number n) e ∙ little_from-take 0 n n ys (omega arith)

-- ---- fields and tuples

field_suits : (d : Domain) (bytes : List ℕ) → AreBytes bytes → suits d (field_of d bytes) ≡ true
unfolding AreBytes
field_suits Int bytes small =
    let fits : Fits w16 (little_number 2 bytes) = record { fits = little_from-lt 0 2 bytes small } in
    between 32767 (cast_signed w16 (little_number 2 bytes)) (omega (arith, (sfits_to_z {w = w16} fits).sfits))
field_suits Long bytes small =
    let fits : Fits w32 (little_number 4 bytes) = record { fits = little_from-lt 0 4 bytes small } in
    between 2147483647 (cast_signed w32 (little_number 4 bytes)) (omega (arith, (sfits_to_z {w = w32} fits).sfits))
field_suits Time bytes small = time_suits (cast_signed w64 (little_number 8 bytes))
field_suits (Str n) bytes small = text_suits n (take n bytes) (short n bytes)

pub tuple_suits : (attributes : List Attribute) (bytes : List ℕ) → ((i : ℕ) → get_or bytes i 0 < 256) → AllSuit attributes (tuple_of attributes bytes)
unfolding AreBytes
tuple_suits [] bytes small = tt
tuple_suits (a ∷ attributes) bytes small =
    (field_suits a.domain bytes small, tuple_suits attributes (drop (width a.domain) bytes) (λ i. rw (get_or-drop (width a.domain) bytes i 0) (small (width a.domain + i))))

pub length-suits : (attributes : List Attribute) (values : List Value) → AllSuit attributes values → length values ≡ length attributes
length-suits [] [] s = refl
length-suits [] (v ∷ values) s = absurd s
length-suits (a ∷ attributes) [] s = absurd s
length-suits (a ∷ attributes) (v ∷ values) s = ap suc (length-suits attributes values s.1)

-- ---- lengths

length-field_read : (d : Domain) (bytes : List ℕ) → length (field_bytes d (field_of d bytes)) ≡ width d
length-field_read Int bytes = refl
length-field_read Long bytes = refl
length-field_read Time bytes = refl
length-field_read (Str n) bytes = length-padded n (text_or_empty (take n bytes)) (either (is_text_field (take n bytes)))
  where
    either : (b : Bool) → length (if b then up_to_zero (take n bytes) else []) ≤ n
    either true = short n bytes
    either false = omega arith

length-fields_read : (attributes : List Attribute) (bytes : List ℕ) → length (fields_bytes attributes (tuple_of attributes bytes)) ≡ fields_length attributes
length-fields_read [] bytes = refl
length-fields_read (a ∷ attributes) bytes =
    let rest = drop (width a.domain) bytes in
    let first = length-field_read a.domain bytes in
    let others = length-fields_read attributes rest in
    length-append (field_bytes a.domain (field_of a.domain bytes)) (fields_bytes attributes (tuple_of attributes rest)) ∙ omega (arith, first, others)

pub length-row_read : (attributes : List Attribute) (bytes : List ℕ) → length (row_bytes attributes (row_of attributes bytes)) ≡ row_length attributes
length-row_read attributes bytes =
    let row = row_of attributes bytes in
    let fields = length-fields_read attributes bytes in
    length-append (fields_bytes attributes row.tuple) (mark row.live ∷ []) ∙ omega (arith, fields)

-- ---- the bytes of the fields alone

field_front : (d : Domain) (xs ys : List ℕ) → take (width d) xs ≡ take (width d) ys → field_of d xs ≡ field_of d ys
field_front Int xs ys e = ap (λ (n : ℕ). Number (cast_signed w16 n)) (number_front 2 xs ys e)
field_front Long xs ys e = ap (λ (n : ℕ). Number (cast_signed w32 n)) (number_front 4 xs ys e)
field_front Time xs ys e = ap (λ (n : ℕ). Number (time_or_least (cast_signed w64 n))) (number_front 8 xs ys e)
field_front (Str n) xs ys e = ap (λ (field : List ℕ). Text (text_or_empty field)) e

pub tuple_front : (attributes : List Attribute) (xs ys : List ℕ) → take (fields_length attributes) xs ≡ take (fields_length attributes) ys → tuple_of attributes xs ≡ tuple_of attributes ys
tuple_front [] xs ys e = refl
tuple_front (a ∷ attributes) xs ys e =
    let w = width a.domain in
    let n = fields_length attributes in
    let first : take w xs ≡ take w ys = sym (take-take w (w + n) xs (omega arith)) ∙ ap (take w) e ∙ take-take w (w + n) ys (omega arith) in
    let rest : take n (drop w xs) ≡ take n (drop w ys) = sym (drop-take w n xs) ∙ ap (drop w) e ∙ drop-take w n ys in
    rw (field_front a.domain xs ys first, tuple_front attributes (drop w xs) (drop w ys) rest) refl

-- ---- one attribute's field

-- a field ends inside its row's fields
pub field_inside : (attributes : List Attribute) (k : ℕ) (a : Attribute) → slice_get attributes k ≡ Some a → fields_length (take k attributes) + width a.domain ≤ fields_length attributes
field_inside [] k a is = absurd (cc)
field_inside (b ∷ attributes) zero a is = let same : b ≡ a = cc in omega (arith, ap (λ (x : Attribute). width x.domain) same)
field_inside (b ∷ attributes) (suc k) a is = omega (arith, field_inside attributes k a is)

-- the value of a row's attribute
pub value_read : (attributes : List Attribute) (bytes : List ℕ) (k : ℕ) (a : Attribute) → slice_get attributes k ≡ Some a
    → slice_get (tuple_of attributes bytes) k ≡ Some (field_of a.domain (drop (fields_length (take k attributes)) bytes))
value_read [] bytes k a is = absurd (cc)
value_read (b ∷ attributes) bytes zero a is = let same : b ≡ a = cc in ap (λ (x : Attribute). Some (field_of x.domain bytes)) same
value_read (b ∷ attributes) bytes (suc k) a is =
    value_read attributes (drop (width b.domain) bytes) k a is
    ∙ ap (λ (xs : List ℕ). Some (field_of a.domain xs)) (drop-drop (fields_length (take k attributes)) (width b.domain) bytes)

-- and its bytes, in what is written of the row
pub field_written : (attributes : List Attribute) (bytes : List ℕ) (k : ℕ) (a : Attribute) → slice_get attributes k ≡ Some a
    → take (width a.domain) (drop (fields_length (take k attributes)) (fields_bytes attributes (tuple_of attributes bytes))) ≡ field_bytes a.domain (field_of a.domain (drop (fields_length (take k attributes)) bytes))
field_written [] bytes k a is = absurd (cc)
field_written (b ∷ attributes) bytes zero a is =
    let same : b ≡ a = cc in
    let own : (x : Attribute) → b ≡ x → take (width x.domain) (field_bytes b.domain (field_of b.domain bytes) ++ fields_bytes attributes (tuple_of attributes (drop (width b.domain) bytes))) ≡ field_bytes x.domain (field_of x.domain bytes) =
    λ x e. subst (λ (y : Attribute). take (width y.domain) (field_bytes b.domain (field_of b.domain bytes) ++ fields_bytes attributes (tuple_of attributes (drop (width b.domain) bytes))) ≡ field_bytes y.domain (field_of y.domain bytes)) e
    (take_front (width b.domain) (field_bytes b.domain (field_of b.domain bytes)) (fields_bytes attributes (tuple_of attributes (drop (width b.domain) bytes))) (length-field_read b.domain bytes)) in
    own a same
field_written (b ∷ attributes) bytes (suc k) a is =
    let w = width b.domain in
    let m = fields_length (take k attributes) in
    let first : List ℕ = field_bytes b.domain (field_of b.domain bytes) in
    let rest : List ℕ = fields_bytes attributes (tuple_of attributes (drop w bytes)) in
    ap (take (width a.domain)) (sym (drop-drop m w (first ++ rest)) ∙ ap (drop m) (drop_front w first rest (length-field_read b.domain bytes)))
    ∙ field_written attributes (drop w bytes) k a is
    ∙ ap (λ (xs : List ℕ). field_bytes a.domain (field_of a.domain xs)) (drop-drop m w bytes)

-- the number in a time's bytes is the time, where these are the bytes of what is read of them
pub time_written : (bytes : List ℕ) → take 8 bytes ≡ field_bytes Time (field_of Time bytes) → cast_signed w64 (little_number 8 bytes) ≡ time_or_least (cast_signed w64 (little_number 8 bytes))
time_written bytes is =
    let z : ℤ = time_or_least (cast_signed w64 (little_number 8 bytes)) in
    let fits : SFits w64 z = record { sfits = omega (arith, at_most 0 140737488355327 z (time_suits (cast_signed w64 (little_number 8 bytes)))) } in
    let number : little_number 8 bytes ≡ cast_unsigned w64 z =
    sym (little_from-take 0 8 8 bytes (omega arith)) ∙ ap (little_number 8) (is ∙ sym (append-nil (little_bytes 8 (cast_unsigned w64 z)))) ∙ little_number-reads_back 8 (cast_unsigned w64 z) [] ((Fits-of_z {w = w64} {z = z} fits).fits) in
    ap (cast_signed w64) number ∙ to_z-of_z w64 z fits
