-- Rows that are written as they were read, field by field.
use Rattle.std.proofs.Common.{◌≡◌, refl, sym, ap, ◌∙◌, ℕ, zero, suc, ◌-◌, ◌≤◌, Bool, true, false, List, [], ◌∷◌, ◌++◌, length, take, drop, get_or, arith, length-append}
use Rattle.std.specs.Prelude.{◌==◌, ◌||◌, ◌↔◌, replicate}
use Rattle.std.specs.List.{list_all}
use Rattle.std.proofs.lemmas.Bool.Decides.{nat_tests}
use Rattle.std.proofs.lemmas.List.{get_or-drop, length-take-le, take-append-drop}
use Rattle.db_model.specs.declared.schemas.Attribute.{Attribute}
use Rattle.db_model.specs.declared.schemas.Domain.{Domain}
use Rattle.db_model.specs.declared.schemas.Domain.TheVariants.{Str}
use Rattle.db_model.specs.Row.{field_bytes, field_of, is_text_field, mark, row_bytes, row_of, up_to_zero, width}
use Rattle.db_model.proofs.Decoded.{length-row_read}
use Rattle.db_model.proofs.Rows.{drop_front, take_front}
use Rattle.padded.proofs.Facts.{all_zeros, second_part, suc_not_zero}
use Rattle.padded.specs.Padded.{padded}
use Rattle.std.proofs.lemmas.Grind.{common_steps}

-- the field that bytes begin with is written as it was read
abbrev pub IsField : Domain → List ℕ → Type 0
IsField d bytes = field_bytes d (field_of d bytes) ≡ take (width d) bytes

-- and so is a row
abbrev pub IsRow : List Attribute → List ℕ → Type 0
IsRow attributes bytes = row_bytes attributes (row_of attributes bytes) ≡ bytes

-- ---- texts

are_zeros : (xs : List ℕ) → list_all (λ b. b == 0) xs ≡ true → replicate (length xs) 0 ≡ xs
are_zeros [] e = refl
are_zeros (zero ∷ xs) e = ap (λ (ys : List ℕ). 0 ∷ ys) (are_zeros xs e)
are_zeros (suc b ∷ xs) e = let none : false ≡ true = (rw (suc_not_zero b) at e) in absurd (cc)

-- a text and the zeros behind it are the field
text_and_zeros : (field : List ℕ) → list_all (λ b. b == 0) (drop (length (up_to_zero field)) field) ≡ true → padded (length field) (up_to_zero field) ≡ field
text_and_zeros [] e = refl
text_and_zeros (zero ∷ field) e =
    let same : suc (length field) - 0 ≡ suc (length field) = omega arith in
    ap (λ (n : ℕ). replicate n 0) same ∙ are_zeros (0 ∷ field) e
text_and_zeros (suc b ∷ field) e =
    let front : List ℕ = up_to_zero field in
    let same : suc (length field) - suc (length front) ≡ length field - length front = omega arith in
    rw (suc_not_zero b) (ap (λ (n : ℕ). suc b ∷ (front ++ replicate n 0)) same ∙ ap (λ (xs : List ℕ). suc b ∷ xs) (text_and_zeros field (rw (suc_not_zero b) at e)))

zeros_are_text : (n : ℕ) → is_text_field (replicate n 0) ≡ true
zeros_are_text zero = refl
zeros_are_text (suc n) = all_zeros n

pub text_field : (n : ℕ) (bytes : List ℕ) → n ≤ length bytes → is_text_field (take n bytes) ≡ true → IsField (Str n) bytes
text_field n bytes room is = grind (arith, common_steps, length-take-le, second_part, text_and_zeros)

pub text_is : (n : ℕ) (bytes : List ℕ) → IsField (Str n) bytes → is_text_field (take n bytes) ≡ true
text_is n bytes is = either (is_text_field (take n bytes)) refl
  where
    either : (b : Bool) → is_text_field (take n bytes) ≡ b → is_text_field (take n bytes) ≡ true
    either true e = e
    either false e =
        let same : n ≡ n - 0 = omega arith in
        let zeros : replicate n 0 ≡ take n bytes = ap (λ (m : ℕ). replicate m 0) same ∙ (rw e at is) in
        ap is_text_field (sym zeros) ∙ zeros_are_text n

-- ---- rows

length-field : (a : Attribute) (bytes : List ℕ) → length (field_bytes a.domain (field_of a.domain bytes)) ≡ width a.domain
length-field a bytes =
    let field : List ℕ = field_bytes a.domain (field_of a.domain bytes) in
    let m : ℕ = mark (row_of (a ∷ []) bytes).live in
    omega (arith, length-row_read (a ∷ []) bytes, length-append (field ++ []) (m ∷ []), length-append field [])

-- a row is its first field and the row behind it
row_more : (a : Attribute) (attributes : List Attribute) (bytes : List ℕ) → row_bytes (a ∷ attributes) (row_of (a ∷ attributes) bytes)
    ≡ field_bytes a.domain (field_of a.domain bytes) ++ row_bytes attributes (row_of attributes (drop (width a.domain) bytes))
row_more a attributes bytes = grind (arith, common_steps, get_or-drop)

pub field_first : (a : Attribute) (attributes : List Attribute) (bytes : List ℕ) → IsRow (a ∷ attributes) bytes → IsField a.domain bytes
field_first a attributes bytes is = grind (arith, common_steps, take_front, length-field, row_more)

pub row_behind : (a : Attribute) (attributes : List Attribute) (bytes : List ℕ) → IsRow (a ∷ attributes) bytes → IsRow attributes (drop (width a.domain) bytes)
row_behind a attributes bytes is = grind (arith, common_steps, drop_front, length-field, row_more)

pub row_whole : (a : Attribute) (attributes : List Attribute) (bytes : List ℕ) → IsField a.domain bytes → IsRow attributes (drop (width a.domain) bytes) → IsRow (a ∷ attributes) bytes
row_whole a attributes bytes first rest = grind (arith, common_steps, row_more, take-append-drop)

-- a row of no fields is its mark
pub mark_row : (bytes : List ℕ) → length bytes ≡ 1 → ((get_or bytes 0 0 == 1) || (get_or bytes 0 0 == 3)) ≡ true ↔ IsRow [] bytes
mark_row [] one = absurd (omega (arith, one))
mark_row (a ∷ b ∷ bytes) one = absurd (omega (arith, one))
mark_row (zero ∷ []) one = ((λ e. absurd (cc)), (λ is. absurd (omega (arith, ap (λ (xs : List ℕ). get_or xs 0 0) is))))
mark_row (suc zero ∷ []) one = ((λ e. refl), (λ is. refl))
mark_row (suc (suc zero) ∷ []) one = ((λ e. absurd (cc)), (λ is. absurd (omega (arith, ap (λ (xs : List ℕ). get_or xs 0 0) is))))
mark_row (suc (suc (suc zero)) ∷ []) one = ((λ e. refl), (λ is. refl))
mark_row (suc (suc (suc (suc b))) ∷ []) one = grind (arith, common_steps, nat_tests)
