-- What a bit that is programmed into byte 9 of a header makes of the header, and of the unit that it begins.
use Rattle.std.proofs.Common.{◌≡◌, ℕ, ◌+◌, ◌*◌, ◌≤◌, ⊎_elim, Bool, true, false, ◌||◌, ◌==◌, List, [], ◌∷◌, length, take, get_or, slice_index, Option, Some, None, if◌then◌else◌, refl, ap, sym, subst, ◌∙◌, arith, bit_and, bit_or}
use Rattle.std.specs.Option.{option_map}
use Rattle.std.proofs.lemmas.List.{length-take-le}
use Rattle.std.proofs.lemmas.List.Folds.{list_all_at}
use Rattle.padded.proofs.Facts.{both_parts, either_part, true_eq}
use Rattle.afl_base.specs.Image.{or_at, page_bytes}
use Rattle.afl_base.proofs.Images.{length_or_at, length_range, or_at_page}
use Rattle.coffee_header.specs.Headers.{fields, header_of, is_flags, is_header}
use Rattle.padded.specs.Zeros.{is_zeros}
use Rattle.coffee_header.specs.declared.header.Header.{Header}
use Rattle.coffee_header.proofs.HeaderLaws.{header_flags, chosen}
use Rattle.coffee_layout.specs.Units.{unit_at, unit_of}
use Rattle.coffee_layout.specs.declared.unit.Unit.TheVariants.{Free, Isolated, Extent}
use Rattle.afl_base.proofs.Bits.{or_front_nothing}

-- FLAGS

-- what holds of each of the flags
pub of_flags : (P : ℕ → Type 0) → P 2 → P 3 → P 11 → P 19 → P 7 → P 15 → P 23 → (f : ℕ) → is_flags f ≡ true → P f
of_flags P a b c d e g h f is =
    ⊎_elim
    (λ (s : (f == 2 || f == 3 || f == 11 || f == 19 || f == 7 || f == 15) ≡ true). ⊎_elim
    (λ (s : (f == 2 || f == 3 || f == 11 || f == 19 || f == 7) ≡ true). ⊎_elim
    (λ (s : (f == 2 || f == 3 || f == 11 || f == 19) ≡ true). ⊎_elim
    (λ (s : (f == 2 || f == 3 || f == 11) ≡ true). ⊎_elim
    (λ (s : (f == 2 || f == 3) ≡ true). ⊎_elim
    (λ (s : f == 2 ≡ true). subst P (sym (true_eq f 2 s)) a)
    (λ (s : f == 3 ≡ true). subst P (sym (true_eq f 3 s)) b)
    (either_part (f == 2) (f == 3) s))
    (λ (s : f == 11 ≡ true). subst P (sym (true_eq f 11 s)) c)
    (either_part (f == 2 || f == 3) (f == 11) s))
    (λ (s : f == 19 ≡ true). subst P (sym (true_eq f 19 s)) d)
    (either_part (f == 2 || f == 3 || f == 11) (f == 19) s))
    (λ (s : f == 7 ≡ true). subst P (sym (true_eq f 7 s)) e)
    (either_part (f == 2 || f == 3 || f == 11 || f == 19) (f == 7) s))
    (λ (s : f == 15 ≡ true). subst P (sym (true_eq f 15 s)) g)
    (either_part (f == 2 || f == 3 || f == 11 || f == 19 || f == 7) (f == 15) s))
    (λ (s : f == 23 ≡ true). subst P (sym (true_eq f 23 s)) h)
    (either_part (f == 2 || f == 3 || f == 11 || f == 19 || f == 7 || f == 15) (f == 23) is)

-- flags are no isolated page's, and not 0
pub flags_whole : (f : ℕ) → is_flags f ≡ true → bit_and f 34 == 34 ≡ false
flags_whole f is = of_flags (λ f. bit_and f 34 == 34 ≡ false) refl refl refl refl refl refl refl f is

pub flags_some : (f : ℕ) → is_flags f ≡ true → f == 0 ≡ false
flags_some f is = of_flags (λ f. f == 0 ≡ false) refl refl refl refl refl refl refl f is

-- HEADERS AND UNITS

-- byte 9 of a header is its flags, and they are of its form
pub header_ninth : (bytes : List ℕ) (h : Header) → header_of bytes ≡ Some h → (get_or bytes 9 0 ≡ h.flags) × (is_flags h.flags ≡ true)
unfolding header_of
header_ninth bytes h e =
    let c = chosen (is_header bytes) (fields bytes) h e in
    let form = (both_parts _ _ (both_parts _ _ c.0).0).1 in
    (ap (λ g. g.flags) c.1, subst (λ g. is_flags g.flags ≡ true) c.1 form)

unit_by : (bytes : List ℕ) (h : Header) → is_zeros bytes ≡ false → bit_and (slice_index bytes 9) 34 == 34 ≡ false → header_of bytes ≡ Some h → unit_of bytes ≡ Some (Extent h)
unfolding unit_of
unit_by bytes h some whole e = rw (some, whole, e) refl

-- a header begins an extent
pub header_unit : (bytes : List ℕ) (h : Header) → 10 ≤ length bytes → header_of bytes ≡ Some h → unit_of bytes ≡ Some (Extent h)
header_unit bytes h long e =
    let n = header_ninth bytes h e in
    unit_by bytes h
    (list_all_at (λ b. b == 0) bytes 9 0 (omega arith) (ap (λ f. f == 0) n.0 ∙ flags_some h.flags n.1))
    (ap (λ f. bit_and f 34 == 34) n.0 ∙ flags_whole h.flags n.1) e

unit_turn : (zeros isolated : Bool) (o : Option Header) (h : Header) → (if zeros then Some Free else (if isolated then Some Isolated else option_map Extent o)) ≡ Some (Extent h) → o ≡ Some h
unit_turn true isolated o h e = cc
unit_turn false true o h e = cc
unit_turn false false None h e = cc
unit_turn false false (Some g) h e = let same : g ≡ h = cc in ap Some same

-- and an extent begins with its header
pub unit_header : (bytes : List ℕ) (h : Header) → unit_of bytes ≡ Some (Extent h) → header_of bytes ≡ Some h
unfolding unit_of
unit_header bytes h e = unit_turn (is_zeros bytes) (bit_and (slice_index bytes 9) 34 == 34) (header_of bytes) h e

-- A MARK

-- the front of a page that is marked is the marked front
ten_front : (b0 b1 b2 b3 b4 b5 b6 b7 b8 b9 b : ℕ) (rest : List ℕ)
    → take 32 (or_at (b0 ∷ b1 ∷ b2 ∷ b3 ∷ b4 ∷ b5 ∷ b6 ∷ b7 ∷ b8 ∷ b9 ∷ rest) 9 (b ∷ [])) ≡ or_at (take 32 (b0 ∷ b1 ∷ b2 ∷ b3 ∷ b4 ∷ b5 ∷ b6 ∷ b7 ∷ b8 ∷ b9 ∷ rest)) 9 (b ∷ [])
unfolding or_at
ten_front b0 b1 b2 b3 b4 b5 b6 b7 b8 b9 b rest = rw (or_front_nothing rest, or_front_nothing (take 22 rest)) refl

marked_front : (bytes : List ℕ) (b : ℕ) → 10 ≤ length bytes → take 32 (or_at bytes 9 (b ∷ [])) ≡ or_at (take 32 bytes) 9 (b ∷ [])
marked_front (b0 ∷ b1 ∷ b2 ∷ b3 ∷ b4 ∷ b5 ∷ b6 ∷ b7 ∷ b8 ∷ b9 ∷ rest) b long = ten_front b0 b1 b2 b3 b4 b5 b6 b7 b8 b9 b rest
marked_front bytes b long = absurd (omega arith)

-- an extent whose header is marked has the header with more flags
pub marked_unit : (image : List ℕ) (page : ℕ) (h : Header) (b : ℕ) → 256 * page + 256 ≤ length image → unit_at image page ≡ Some (Extent h) → is_flags (bit_or h.flags b) ≡ true
    → unit_at (or_at image (256 * page + 9) (b ∷ [])) page ≡ Some (Extent (record h { flags = bit_or h.flags b }))
marked_unit image page h b exists is good =
    let long : length (page_bytes image page) ≡ 256 = length_range image (256 * page) (256 * page + 256) exists ∙ omega arith in
    let size : length (take 32 (page_bytes image page)) ≡ 32 = length-take-le 32 (page_bytes image page) (omega arith) in
    let front : take 32 (page_bytes (or_at image (256 * page + 9) (b ∷ [])) page) ≡ or_at (take 32 (page_bytes image page)) 9 (b ∷ []) =
    ap (take 32) (or_at_page image page 9 (b ∷ []) exists (omega arith)) ∙ marked_front (page_bytes image page) b (omega arith) in
    let header : header_of (take 32 (page_bytes (or_at image (256 * page + 9) (b ∷ [])) page)) ≡ Some (record h { flags = bit_or h.flags b }) =
    ap header_of front ∙ header_flags (take 32 (page_bytes image page)) h b size (unit_header (take 32 (page_bytes image page)) h is) good in
    header_unit (take 32 (page_bytes (or_at image (256 * page + 9) (b ∷ [])) page)) (record h { flags = bit_or h.flags b })
    (let all = ap length front ∙ length_or_at (take 32 (page_bytes image page)) 9 (b ∷ []) ∙ size in omega arith) header
