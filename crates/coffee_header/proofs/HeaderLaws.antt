-- Laws of headers and their bytes.
use Rattle.std.proofs.Common.{◌≡◌, bit_or, ℕ, zero, suc, ◌/◌, ◌%◌, subst, ◌+◌, ◌-◌, ◌*◌, ◌<◌, Bool, true, false, ◌&&◌, ◌==◌, List, [], ◌∷◌, ◌++◌, length, take, drop, replicate, slice_index, get_or, Some, None, if◌then◌else◌, refl, ap, sym, ◌∙◌, arith}
use Rattle.std.specs.List.{list_all, prefix_len}
use Rattle.std.proofs.lemmas.Bool.Decides.{nat_tests}
use Rattle.std.proofs.lemmas.List.{length-drop, take-append-drop, take_at, drop_at}
use Rattle.std.proofs.lemmas.List.Folds.{length-prefix_len}
use Rattle.afl_base.specs.Fields.{u16_at, u16_bytes}
use Rattle.afl_base.specs.Image.{or_at, or_front}
use Rattle.afl_base.specs.Names.{is_file_name, is_name_byte}
use Rattle.padded.proofs.Facts.{all_zeros, both_parts}
use Rattle.padded.specs.Padded.{padded}
use Rattle.coffee_header.specs.Headers.{header_of, header_bytes, is_kind, is_flags, is_name_field, is_header, name_of_field, fields, IsValid}
use Rattle.coffee_header.specs.declared.header.Header.{Header}
use Rattle.afl_base.proofs.Bits.{or_front_nothing}

with_name : (t : Bool) (h : Header) (xs name : List ℕ) → (if t then Some xs else None) ≡ Some name → (if t then Some (record h { name = xs }) else None) ≡ Some (record h { name = name })
with_name true h xs name e = let same : xs ≡ name = cc in ap (λ n. Some (record h { name = n })) same
with_name false h xs name e = cc

-- a header is there where kind, flags and name field are of its form
pub header_from : (bytes name : List ℕ) → is_kind (slice_index bytes 8) ≡ true → is_flags (slice_index bytes 9) ≡ true → (if is_name_field (drop 10 bytes) then Some (name_of_field (drop 10 bytes)) else None) ≡ Some name → Some (record (fields bytes) { name = name }) ≡ header_of bytes
unfolding header_of
header_from bytes name k f e = sym (rw (k, f) (with_name (is_name_field (drop 10 bytes)) (fields bytes) (name_of_field (drop 10 bytes)) name e))

-- what a chosen value says of the choice
pub chosen : {A : Type 0} (t : Bool) (x y : A) → (if t then Some x else None) ≡ Some y → (t ≡ true) × (x ≡ y)
chosen true x y e = (refl, cc)
chosen false x y e = cc

cons_same : (x y : ℕ) (xs ys : List ℕ) → x ≡ y → xs ≡ ys → x ∷ xs ≡ y ∷ ys
cons_same x y xs ys e f = cc

-- the front of a text that zeros end
prefix-zeros : (name : List ℕ) (n : ℕ) → list_all is_name_byte name ≡ true → prefix_len is_name_byte (name ++ replicate n 0) ≡ length name
prefix-zeros [] zero all = refl
prefix-zeros [] (suc n) all = refl
prefix-zeros (x ∷ xs) n all =
    let h = both_parts (is_name_byte x) (list_all is_name_byte xs) all in
    rw h.0 (ap (λ k. 1 + k) (prefix-zeros xs n h.1) ∙ omega arith)

is_zero : (x : ℕ) → x == 0 ≡ true → x ≡ 0
is_zero x e = grind (arith, nat_tests)

-- what is all zero is so many zeros
zeros_are : (xs : List ℕ) → list_all (λ b. b == 0) xs ≡ true → xs ≡ replicate (length xs) 0
zeros_are [] all = refl
zeros_are (x ∷ xs) all =
    let h = both_parts (x == 0) (list_all (λ b. b == 0) xs) all in
    cons_same x 0 xs _ (is_zero x h.0) (zeros_are xs h.1)

pub number_back : (n : ℕ) → n < 65536 → n % 256 + 256 * (n / 256 % 256 + 256 * 0) ≡ n
number_back n small = omega arith

field_back : (name : List ℕ) (n : ℕ) → is_file_name name ≡ true → (name_of_field (name ++ replicate n 0) ≡ name) × (is_name_field (name ++ replicate n 0) ≡ true)
field_back name n good =
    let all : list_all is_name_byte name ≡ true = (both_parts _ _ good).1 in
    let size = prefix-zeros name n all in
    let here : name_of_field (name ++ replicate n 0) ≡ name = ap (λ k. take k (name ++ replicate n 0)) size ∙ take_at name (replicate n 0) (length name) refl in
    let rest : list_all (λ b. b == 0) (drop (prefix_len is_name_byte (name ++ replicate n 0)) (name ++ replicate n 0)) ≡ true =
    rw (size, drop_at name (replicate n 0) (length name) refl) (all_zeros n) in
    (here, rw (here, rest, good) refl)

-- a header is read as it was written
pub header_back : (h : Header) → IsValid h → header_of (header_bytes h) ≡ Some h
unfolding header_of header_bytes u16_bytes u16_at
header_back h v =
    let f = field_back h.name (22 - length h.name) v.name in
    rw (v.kind, v.flags, f.1, f.0, number_back h.log_page v.log_page, number_back h.log_records v.log_records, number_back h.log_record_size v.log_record_size, number_back h.max_pages v.max_pages) refl

name_back : (field : List ℕ) → is_name_field field ≡ true → padded (length field) (name_of_field field) ≡ field
name_back field good =
    let n = prefix_len is_name_byte field in
    let zeros : list_all (λ b. b == 0) (drop (prefix_len is_name_byte field) field) ≡ true = (both_parts (is_file_name (name_of_field field)) (list_all (λ b. b == 0) (drop (prefix_len is_name_byte field) field)) good).1 in
    let size : length (name_of_field field) ≡ n = length-prefix_len is_name_byte field in
    ap (λ t. name_of_field field ++ t) (ap (λ k. replicate k 0) (omega (arith, length-drop n field)) ∙ sym (zeros_are (drop n field) zeros)) ∙ take-append-drop n field

-- the two bytes of the number that two bytes are
number_bytes : (a b : ℕ) (xs ys : List ℕ) → a < 256 → b < 256 → xs ≡ ys → (a + 256 * (b + 256 * 0)) % 256 ∷ ((a + 256 * (b + 256 * 0)) / 256 % 256) ∷ xs ≡ a ∷ b ∷ ys
number_bytes a b xs ys low high same =
    let first : (a + 256 * (b + 256 * 0)) % 256 ≡ a = omega arith in
    let second : (a + 256 * (b + 256 * 0)) / 256 % 256 ≡ b = omega arith in
    cons_same _ a _ (b ∷ ys) first (cons_same _ b xs ys second same)

-- bytes are written as they were read
ten_back : (b0 b1 b2 b3 b4 b5 b6 b7 b8 b9 : ℕ) (field : List ℕ) (h : Header) → length field ≡ 22 → (b0 < 256) × (b1 < 256) × (b2 < 256) × (b3 < 256) × (b4 < 256) × (b5 < 256) × (b6 < 256) × (b7 < 256)
    → header_of (b0 ∷ b1 ∷ b2 ∷ b3 ∷ b4 ∷ b5 ∷ b6 ∷ b7 ∷ b8 ∷ b9 ∷ field) ≡ Some h → header_bytes h ≡ b0 ∷ b1 ∷ b2 ∷ b3 ∷ b4 ∷ b5 ∷ b6 ∷ b7 ∷ b8 ∷ b9 ∷ field
unfolding header_of header_bytes u16_bytes u16_at
ten_back b0 b1 b2 b3 b4 b5 b6 b7 b8 b9 field h long small e =
    let bytes = b0 ∷ b1 ∷ b2 ∷ b3 ∷ b4 ∷ b5 ∷ b6 ∷ b7 ∷ b8 ∷ b9 ∷ field in
    let c = chosen (is_header bytes) (fields bytes) h e in
    let name : padded 22 (name_of_field field) ≡ field = ap (λ n. padded n (name_of_field field)) (sym long) ∙ name_back field (both_parts _ _ c.0).1 in
    subst (λ g. header_bytes g ≡ bytes) c.1
    (number_bytes b0 b1 _ _ small.0 small.1 (number_bytes b2 b3 _ _ small.2 small.3 (number_bytes b4 b5 _ _ small.4 small.5 (number_bytes b6 b7 _ _ small.6 small.7
    (cons_same b8 b8 _ _ refl (cons_same b9 b9 _ _ refl name))))))

pub bytes_back : (bytes : List ℕ) (h : Header) → length bytes ≡ 32 → ((i : ℕ) → get_or bytes i 0 < 256) → header_of bytes ≡ Some h → header_bytes h ≡ bytes
bytes_back (b0 ∷ b1 ∷ b2 ∷ b3 ∷ b4 ∷ b5 ∷ b6 ∷ b7 ∷ b8 ∷ b9 ∷ field) h long small e =
    ten_back b0 b1 b2 b3 b4 b5 b6 b7 b8 b9 field h (omega arith) (small 0, small 1, small 2, small 3, small 4, small 5, small 6, small 7) e
bytes_back bytes h long small e = absurd (omega arith)

-- more flags are programmed into a header
ten_flags : (b0 b1 b2 b3 b4 b5 b6 b7 b8 b9 b : ℕ) (field : List ℕ) (h : Header) → header_of (b0 ∷ b1 ∷ b2 ∷ b3 ∷ b4 ∷ b5 ∷ b6 ∷ b7 ∷ b8 ∷ b9 ∷ field) ≡ Some h → is_flags (bit_or h.flags b) ≡ true
    → header_of (or_at (b0 ∷ b1 ∷ b2 ∷ b3 ∷ b4 ∷ b5 ∷ b6 ∷ b7 ∷ b8 ∷ b9 ∷ field) 9 (b ∷ [])) ≡ Some (record h { flags = bit_or h.flags b })
unfolding header_of u16_at or_at
ten_flags b0 b1 b2 b3 b4 b5 b6 b7 b8 b9 b field h e good =
    let bytes = b0 ∷ b1 ∷ b2 ∷ b3 ∷ b4 ∷ b5 ∷ b6 ∷ b7 ∷ b8 ∷ b9 ∷ field in
    let c = chosen (is_header bytes) (fields bytes) h e in
    let form : (is_kind b8 && is_flags b9 ≡ true) × (is_name_field field ≡ true) = both_parts (is_kind b8 && is_flags b9) (is_name_field field) c.0 in
    let kind : is_kind b8 ≡ true = (both_parts (is_kind b8) (is_flags b9) form.0).0 in
    let flags : is_flags (bit_or b9 b) ≡ true = subst (λ g. is_flags (bit_or g.flags b) ≡ true) (sym c.1) good in
    subst (λ g. header_of (b0 ∷ b1 ∷ b2 ∷ b3 ∷ b4 ∷ b5 ∷ b6 ∷ b7 ∷ b8 ∷ bit_or b9 b ∷ or_front field []) ≡ Some (record g { flags = bit_or g.flags b })) c.1
    (rw (or_front_nothing field, kind, flags, form.1) refl)

pub header_flags : (bytes : List ℕ) (h : Header) (b : ℕ) → length bytes ≡ 32 → header_of bytes ≡ Some h → is_flags (bit_or h.flags b) ≡ true → header_of (or_at bytes 9 (b ∷ [])) ≡ Some (record h { flags = bit_or h.flags b })
header_flags (b0 ∷ b1 ∷ b2 ∷ b3 ∷ b4 ∷ b5 ∷ b6 ∷ b7 ∷ b8 ∷ b9 ∷ field) h b long e good = ten_flags b0 b1 b2 b3 b4 b5 b6 b7 b8 b9 b field h e good
header_flags bytes h b long e good = absurd (omega arith)
