-- The page of a log comes into the header of a file that has none.
use Rattle.std.proofs.Common.{◌≡◌, ◌≢◌, ℕ, ◌+◌, ◌*◌, ◌/◌, ◌%◌, ◌≤◌, ◌<◌, inl, inr, ⊎_elim, Bool, true, false, ◌&&◌, List, [], ◌∷◌, ◌++◌, length, take, get_or, Some, refl, ap, sym, subst, ◌∙◌, arith}
use Rattle.std.proofs.lemmas.List.{length-take-le}
use Rattle.padded.proofs.Facts.{both_parts}
use Rattle.afl_base.specs.Fields.{put_at, u16_at, u16_bytes}
use Rattle.afl_base.specs.Image.{or_at, page_bytes}
use Rattle.afl_base.proofs.Images.{length_or_at, length_range, or_at_page, or_at_range}
use Rattle.coffee_header.specs.Headers.{fields, header_of, is_flags, is_header, is_kind, is_name_field}
use Rattle.padded.specs.Zeros.{is_zeros}
use Rattle.coffee_header.specs.declared.header.Header.{Header}
use Rattle.coffee_layout.specs.Tiling.{IsTiled, KeepRules, broken_unit, units_of}
use Rattle.coffee_layout.specs.Units.{pages_of, total, unit_at}
use Rattle.coffee_layout.specs.declared.unit.Unit.{Unit}
use Rattle.coffee_layout.specs.declared.unit.Unit.TheVariants.{Extent}
use Rattle.coffee_layout.proofs.Frames.{ends_free, keep_rest, replaced, total-append}
use Rattle.coffee_layout.proofs.Tilings.{kept_some, units_tiled}
use Rattle.flash_range.proofs.Ranges.{or_outside}
use Rattle.flash_range.specs.Range.{Outside}
use Rattle.coffee_merge.specs.Begun.{unit_begun}
use Rattle.coffee_merge.proofs.Begun.{begun_other, begun_split, have_pages, split_begun}
use Rattle.coffee_merge.proofs.HeaderMarks.{header_unit, unit_header}
use Rattle.afl_base.proofs.Bits.{or_front_nothing, length_u16_bytes}
use Rattle.coffee_header.proofs.HeaderLaws.{chosen, number_back}

-- HEADERS

ten_number : (b2 b3 b4 b5 b6 b7 b8 b9 n : ℕ) (field : List ℕ) (h : Header) → n < 65536 → header_of (0 ∷ 0 ∷ b2 ∷ b3 ∷ b4 ∷ b5 ∷ b6 ∷ b7 ∷ b8 ∷ b9 ∷ field) ≡ Some h
    → header_of (or_at (0 ∷ 0 ∷ b2 ∷ b3 ∷ b4 ∷ b5 ∷ b6 ∷ b7 ∷ b8 ∷ b9 ∷ field) 0 (u16_bytes n)) ≡ Some (record h { log_page = n })
unfolding header_of u16_at u16_bytes or_at
ten_number b2 b3 b4 b5 b6 b7 b8 b9 n field h small e =
    let bytes = 0 ∷ 0 ∷ b2 ∷ b3 ∷ b4 ∷ b5 ∷ b6 ∷ b7 ∷ b8 ∷ b9 ∷ field in
    let c = chosen (is_header bytes) (fields bytes) h e in
    let form : (is_kind b8 && is_flags b9 ≡ true) × (is_name_field field ≡ true) = both_parts (is_kind b8 && is_flags b9) (is_name_field field) c.0 in
    let kind : is_kind b8 ≡ true = (both_parts (is_kind b8) (is_flags b9) form.0).0 in
    let flags : is_flags b9 ≡ true = (both_parts (is_kind b8) (is_flags b9) form.0).1 in
    subst (λ g. header_of (n % 256 ∷ (n / 256 % 256) ∷ b2 ∷ b3 ∷ b4 ∷ b5 ∷ b6 ∷ b7 ∷ b8 ∷ b9 ∷ field) ≡ Some (record g { log_page = n })) c.1
    (rw (kind, flags, form.1, number_back n small) refl)

-- the number of a header's log is in its first two bytes
no_number : (b0 b1 b2 b3 b4 b5 b6 b7 b8 b9 : ℕ) (field : List ℕ) (h : Header) → h.log_page ≡ 0 → header_of (b0 ∷ b1 ∷ b2 ∷ b3 ∷ b4 ∷ b5 ∷ b6 ∷ b7 ∷ b8 ∷ b9 ∷ field) ≡ Some h → (b0 ≡ 0) × (b1 ≡ 0)
unfolding header_of u16_at
no_number b0 b1 b2 b3 b4 b5 b6 b7 b8 b9 field h none e =
    let bytes = b0 ∷ b1 ∷ b2 ∷ b3 ∷ b4 ∷ b5 ∷ b6 ∷ b7 ∷ b8 ∷ b9 ∷ field in
    let c = chosen (is_header bytes) (fields bytes) h e in
    let sum : b0 + 256 * (b1 + 256 * 0) ≡ 0 = ap (λ (g : Header). g.log_page) c.1 ∙ none in
    (omega arith, omega arith)

-- a header without a log names the log that is programmed into it
pub header_number : (bytes : List ℕ) (h : Header) (n : ℕ) → length bytes ≡ 32 → n < 65536 → h.log_page ≡ 0 → header_of bytes ≡ Some h → header_of (or_at bytes 0 (u16_bytes n)) ≡ Some (record h { log_page = n })
header_number (b0 ∷ b1 ∷ b2 ∷ b3 ∷ b4 ∷ b5 ∷ b6 ∷ b7 ∷ b8 ∷ b9 ∷ field) h n long small none e =
    let z = no_number b0 b1 b2 b3 b4 b5 b6 b7 b8 b9 field h none e in
    subst (λ b. header_of (b ∷ b1 ∷ b2 ∷ b3 ∷ b4 ∷ b5 ∷ b6 ∷ b7 ∷ b8 ∷ b9 ∷ field) ≡ Some h → header_of (or_at (b ∷ b1 ∷ b2 ∷ b3 ∷ b4 ∷ b5 ∷ b6 ∷ b7 ∷ b8 ∷ b9 ∷ field) 0 (u16_bytes n)) ≡ Some (record h { log_page = n })) (sym z.0)
    (subst (λ b. header_of (0 ∷ b ∷ b2 ∷ b3 ∷ b4 ∷ b5 ∷ b6 ∷ b7 ∷ b8 ∷ b9 ∷ field) ≡ Some h → header_of (or_at (0 ∷ b ∷ b2 ∷ b3 ∷ b4 ∷ b5 ∷ b6 ∷ b7 ∷ b8 ∷ b9 ∷ field) 0 (u16_bytes n)) ≡ Some (record h { log_page = n })) (sym z.1)
    (ten_number b2 b3 b4 b5 b6 b7 b8 b9 n field h small)) e
header_number bytes h n long small none e = absurd (omega arith)

-- THE UNIT

two_front : (b0 b1 c0 c1 : ℕ) (rest : List ℕ) → take 32 (or_at (b0 ∷ b1 ∷ rest) 0 (c0 ∷ c1 ∷ [])) ≡ or_at (take 32 (b0 ∷ b1 ∷ rest)) 0 (c0 ∷ c1 ∷ [])
unfolding or_at
two_front b0 b1 c0 c1 rest = rw (or_front_nothing rest, or_front_nothing (take 30 rest)) refl

numbered_front : (bytes : List ℕ) (n : ℕ) → 2 ≤ length bytes → take 32 (or_at bytes 0 (u16_bytes n)) ≡ or_at (take 32 bytes) 0 (u16_bytes n)
unfolding u16_bytes
numbered_front (b0 ∷ b1 ∷ rest) n long = two_front b0 b1 (n % 256) (n / 256 % 256) rest
numbered_front bytes n long = absurd (omega arith)

pub put_number : (n : ℕ) → put_at (0 ∷ 0 ∷ []) 0 (u16_bytes n) ≡ u16_bytes n
unfolding put_at u16_bytes
put_number n = refl

-- the image with the number of a log in the header at a page
abbrev pub numbered : List ℕ → (page n : ℕ) → List ℕ
numbered image page n = or_at image (256 * page) (u16_bytes n)

numbered_page : (image : List ℕ) (page n : ℕ) → 256 * page + 256 ≤ length image → page_bytes (numbered image page n) page ≡ or_at (page_bytes image page) 0 (u16_bytes n)
numbered_page image page n exists =
    let place : 256 * page ≡ 256 * page + 0 = omega arith in
    ap (λ k. page_bytes (or_at image k (u16_bytes n)) page) place ∙ or_at_page image page 0 (u16_bytes n) exists (omega (arith, length_u16_bytes n))

numbered_unit : (image : List ℕ) (page : ℕ) (h : Header) (n : ℕ) → 256 * page + 256 ≤ length image → unit_at image page ≡ Some (Extent h) → h.log_page ≡ 0 → n < 65536 → unit_at (numbered image page n) page ≡ Some (Extent (record h { log_page = n }))
numbered_unit image page h n exists is none small =
    let long : length (page_bytes image page) ≡ 256 = length_range image (256 * page) (256 * page + 256) exists ∙ omega arith in
    let size : length (take 32 (page_bytes image page)) ≡ 32 = length-take-le 32 (page_bytes image page) (omega arith) in
    let front : take 32 (page_bytes (numbered image page n) page) ≡ or_at (take 32 (page_bytes image page)) 0 (u16_bytes n) =
    ap (take 32) (numbered_page image page n exists) ∙ numbered_front (page_bytes image page) n (omega arith) in
    let header : header_of (take 32 (page_bytes (numbered image page n) page)) ≡ Some (record h { log_page = n }) =
    ap header_of front ∙ header_number (take 32 (page_bytes image page)) h n size small none (unit_header (take 32 (page_bytes image page)) h is) in
    header_unit (take 32 (page_bytes (numbered image page n) page)) (record h { log_page = n })
    (let all = ap length front ∙ length_or_at (take 32 (page_bytes image page)) 0 (u16_bytes n) ∙ size in omega arith) header

-- The header of one extent has another number: the units tile, all others begin as they did, and all
-- bytes but two stay.
pub record Renumbers (building : ℕ → Bool) (old new : List ℕ) (page : ℕ) (h : Header) : Type 0 where
  pub tiled : IsTiled building new (units_of new)
  pub here : unit_begun (units_of new) 0 page ≡ Some (Extent h)
  pub others : (q : ℕ) → q ≢ page → unit_begun (units_of new) 0 q ≡ unit_begun (units_of old) 0 q
  pub bytes : (k : ℕ) → Outside (256 * page) 2 k → get_or new k 0 ≡ get_or old k 0

-- a rule of an extent looks at the flags and the pages
same_rules : (building zeros now : Bool) (pages page : ℕ) (free : Bool) (h : Header) (n : ℕ) → broken_unit building now pages page free (Some (Extent (record h { log_page = n }))) ≡ broken_unit building zeros pages page free (Some (Extent h))
same_rules building zeros now pages page free h n = refl

numbered_split : (building : ℕ → Bool) (old : List ℕ) (front rest : List Unit) (h : Header) (n : ℕ) → units_of old ≡ front ++ (Extent h ∷ rest) → IsTiled building old (front ++ (Extent h ∷ rest)) → h.log_page ≡ 0 → n < 65536
    → Renumbers building old (numbered old (total front) n) (total front) (record h { log_page = n })
numbered_split building old front rest h n units tiled none small =
    let new = numbered old (total front) n in
    let k : Header = record h { log_page = n } in
    let at : KeepRules building old (total front) (ends_free false front) (Extent h ∷ rest) = keep_rest building old front (Extent h ∷ rest) 0 (total front) false (omega arith) tiled.keep in
    let some : 1 ≤ h.max_pages = kept_some building old (total front) (ends_free false front) (Extent h) at.0 at.1 in
    let whole : 256 * (total front + (h.max_pages + total rest)) ≡ length old = ap (λ m. 256 * m) (sym (total-append front (Extent h ∷ rest))) ∙ tiled.whole in
    let long : length new ≡ length old = length_or_at old (256 * total front) (u16_bytes n) in
    let two = length_u16_bytes n in
    let is : unit_at new (total front) ≡ Some (Extent k) = numbered_unit old (total front) h n (omega arith) at.0 none small in
    let all : IsTiled building new (front ++ (Extent k ∷ rest)) =
    replaced building building old new front (Extent h ∷ []) rest (Extent k) tiled long
    (λ q out. or_at_range old (256 * total front) (u16_bytes n) (256 * q) (256 * q + 256) (⊎_elim (λ (a : q < total front). inl (omega arith)) (λ (a : total front + (h.max_pages + 0) ≤ q). inr (omega arith)) out))
    (λ q out. refl)
    (omega arith) refl is
    (ap (λ o. broken_unit (building (total front)) (is_zeros (page_bytes new (total front))) (pages_of new) (total front) (ends_free false front) o) is
    ∙ ap (λ m. broken_unit (building (total front)) (is_zeros (page_bytes new (total front))) (m / 256) (total front) (ends_free false front) (Some (Extent k))) long
    ∙ same_rules (building (total front)) (is_zeros (page_bytes old (total front))) (is_zeros (page_bytes new (total front))) (pages_of old) (total front) (ends_free false front) h n
    ∙ sym (ap (broken_unit (building (total front)) (is_zeros (page_bytes old (total front))) (pages_of old) (total front) (ends_free false front)) at.0) ∙ at.1) in
    let now = units_tiled building new (front ++ (Extent k ∷ rest)) all in
    record {
      tiled = subst (IsTiled building new) (sym now) all;
      here = ap (λ us. unit_begun us 0 (total front)) now
          ∙ split_begun (front ++ (Extent k ∷ rest)) (total front) (Extent k) (have_pages building new (front ++ (Extent k ∷ rest)) all) (record { front = front; rest = rest; whole = refl; place = refl });
      others = λ q differ. ap (λ us. unit_begun us 0 q) now ∙ begun_other front rest (Extent k) (Extent h) 0 q refl (λ e. differ (omega arith)) ∙ ap (λ us. unit_begun us 0 q) (sym units);
      bytes = λ j out. or_outside old (256 * total front) (u16_bytes n) j (λ a b. out a (omega arith));
    }

-- the page of a log comes into the header of an extent that names none
pub numbered_extent : (building : ℕ → Bool) (old : List ℕ) (page : ℕ) (h : Header) (n : ℕ) → IsTiled building old (units_of old) → unit_begun (units_of old) 0 page ≡ Some (Extent h) → h.log_page ≡ 0 → n < 65536
    → Renumbers building old (numbered old page n) page (record h { log_page = n })
numbered_extent building old page h n tiled begun none small =
    let s = begun_split (units_of old) page (Extent h) begun in
    subst (λ p. Renumbers building old (numbered old p n) p (record h { log_page = n })) s.place (numbered_split building old s.front s.rest h n s.whole (subst (IsTiled building old) s.whole tiled) none small)
