-- What is laid over an image, byte for byte.
use Rattle.std.proofs.Common.{◌≡◌, ◌≢◌, ℕ, ◌+◌, ◌-◌, ◌*◌, ◌<◌, ◌≤◌, ◌⊎◌, inl, inr, ⊎_elim, List, [], ◌∷◌, ◌++◌, length, take, drop, get_or, set, slice_range, bit_or, Option, Some, None, refl, sym, ap, ◌∙◌, arith}
use Rattle.std.proofs.lemmas.Bool.{cases_eq, cases_lt}
use Rattle.std.proofs.lemmas.List.{ext_get_or, length-set, get_or-set_same, get_or-set_other, length-append, take_at, drop_at}
use Rattle.afl_base.specs.Image.{or_at, zeros_at}
use Rattle.std.specs.Option.{option_or}
use Rattle.std.specs.Prelude.{false, is_some}
use Rattle.afl_base.specs.declared.ids.PageId.{PageId}
use Rattle.afl_base.specs.declared.ids.SectorId.{SectorId}
use Rattle.afl_base.proofs.Images.{length_or_at, length_range, length_zeros_at, or_at_before, or_at_behind, or_at_inside, range_at, range_same, zeros_at_before, zeros_at_behind, zeros_at_inside}
use Rattle.flash_views.specs.declared.overlay.Mark.{Mark}
use Rattle.flash_views.specs.declared.overlay.Overlay.{Overlay}
use Rattle.flash_views.specs.declared.overlay.Two.{Two}
use Rattle.flash_views.specs.Views.{IsView, FitsImage, StandAt, blank_code, blanked, cleared, code, emptied, mark_code, with_mark, overlaid, sector_code, spoilt, two_code}

-- ---- lengths

pub length_marked : (image : List ℕ) (m : Option Mark) → length (with_mark image m) ≡ length image
length_marked image None = refl
length_marked image (Some m) = length_or_at image (256 * m.page.0 + 9) (m.bits ∷ [])

pub length_emptied : (image : List ℕ) (s : Option SectorId) → ((x : SectorId) → s ≡ Some x → 4096 * x.0 + 4096 ≤ length image) → length (emptied image s) ≡ length image
length_emptied image None inside = refl
length_emptied image (Some s) inside = length_zeros_at image (4096 * s.0) 4096 (inside s refl)

pub length_blanked : (image : List ℕ) (b : Option ℕ) → ((x : ℕ) → b ≡ Some x → x + 128 ≤ length image) → length (blanked image b) ≡ length image
length_blanked image None inside = refl
length_blanked image (Some p) inside = length_zeros_at image p 128 (inside p refl)

pub length_marks : (image : List ℕ) (o : Overlay) → length (with_mark (with_mark image o.first) o.second) ≡ length image
length_marks image o = length_marked (with_mark image o.first) o.second ∙ length_marked image o.first

pub length_written : (image : List ℕ) (o : Overlay) → FitsImage (length image) o → length (emptied (with_mark (with_mark image o.first) o.second) o.sector) ≡ length image
length_written image o i =
    length_emptied (with_mark (with_mark image o.first) o.second) o.sector (λ s e. let l = i.sector s e in omega (arith, l, length_marks image o)) ∙ length_marks image o

pub length_cleared : (image : List ℕ) (o : Option Two) → ((t : Two) → o ≡ Some t → t.records + 256 ≤ length image) → ((t : Two) → o ≡ Some t → t.number + 2 ≤ length image) → length (cleared image o) ≡ length image
length_cleared image None records number = refl
length_cleared image (Some t) records number =
    let long = length_zeros_at image t.records 256 (records t refl) in
    let n = number t refl in
    length_zeros_at (zeros_at image t.records 256) t.number 2 (omega (arith, long, n)) ∙ long

pub length_beside : (image : List ℕ) (o : Overlay) → FitsImage (length image) o → length (blanked (emptied (with_mark (with_mark image o.first) o.second) o.sector) o.blank) ≡ length image
length_beside image o i =
    length_blanked (emptied (with_mark (with_mark image o.first) o.second) o.sector) o.blank (λ p e. let l = i.blank p e in omega (arith, l, length_written image o i)) ∙ length_written image o i

pub length_overlaid : (image : List ℕ) (o : Overlay) → FitsImage (length image) o → length (overlaid image o) ≡ length image
length_overlaid image o i =
    length_cleared (blanked (emptied (with_mark (with_mark image o.first) o.second) o.sector) o.blank) o.two
    (λ t e. let l = i.records t e in omega (arith, l, length_beside image o i)) (λ t e. let l = i.number t e in omega (arith, l, length_beside image o i))
    ∙ length_beside image o i

-- ---- bytes that stand in an image

pub stand_read : (image bytes : List ℕ) (place n : ℕ) → length bytes ≡ n → place + n ≤ length image → bytes ≡ slice_range image place (place + n) → StandAt image place bytes
stand_read image bytes place n long inside is = record {
  inside = omega (arith, long, inside);
  same = λ k less. ap (λ xs. get_or xs k 0) is ∙ range_at image place (place + n) k (omega (arith, less, long));
}

pub stand_is : (image bytes : List ℕ) (place n : ℕ) → length bytes ≡ n → StandAt image place bytes → bytes ≡ slice_range image place (place + n)
stand_is image bytes place n long s =
    let inside = s.inside in
    ext_get_or 0 bytes (slice_range image place (place + n)) (long ∙ sym (length_range image place (place + n) (omega (arith, inside, long)) ∙ omega arith))
    (λ k less. s.same k less ∙ sym (range_at image place (place + n) k (omega (arith, less, long))))

module _ (image into : List ℕ) (place : ℕ) (s : StandAt image place into) where
  -- bits more in a byte
  pub bits_there : (byte bits : ℕ) → place ≤ byte → byte - place < length into → StandAt (or_at image byte (bits ∷ [])) place (set into (byte - place) (bit_or (get_or into (byte - place) 0) bits))
  bits_there byte bits low high =
      let inside = s.inside in
      let at : place + (byte - place) ≡ byte = omega (arith, low) in
      let long : length (set into (byte - place) (bit_or (get_or into (byte - place) 0) bits)) ≡ length into = length-set into (byte - place) (bit_or (get_or into (byte - place) 0) bits) in
      record {
        inside = omega (arith, inside, long, length_or_at image byte (bits ∷ []));
        same = λ k less. ⊎_elim
            (λ (e : k ≡ byte - place).
            let same : place + k ≡ byte + 0 = omega (arith, e, low) in
            ap (λ j. get_or (set into (byte - place) (bit_or (get_or into (byte - place) 0) bits)) j 0) e
            ∙ get_or-set_same into (byte - place) (bit_or (get_or into (byte - place) 0) bits) 0 high
            ∙ ap (λ x. bit_or x bits) (s.same (byte - place) high ∙ ap (λ j. get_or image j 0) (at ∙ omega arith))
            ∙ sym (or_at_inside image byte (bits ∷ []) 0 (omega (arith, inside, high, low)) (omega arith))
            ∙ ap (λ j. get_or (or_at image byte (bits ∷ [])) j 0) (sym same))
            (λ (e : k ≢ byte - place).
            get_or-set_other into (byte - place) k (bit_or (get_or into (byte - place) 0) bits) 0 e
            ∙ s.same k (omega (arith, less, long))
            ∙ sym (other k byte bits (λ f. e (omega (arith, f)))))
            (cases_eq k (byte - place));
      }
    where
      other : (k byte bits : ℕ) → (place + k ≡ byte → ⊥) → get_or (or_at image byte (bits ∷ [])) (place + k) 0 ≡ get_or image (place + k) 0
      other k byte bits e = ⊎_elim
          (λ (l : place + k < byte). or_at_before image byte (bits ∷ []) (place + k) l)
          (λ (l : byte ≤ place + k). ⊎_elim
          (λ (m : byte < place + k). or_at_behind image byte (bits ∷ []) (place + k) (omega (arith, m)))
          (λ (m : place + k ≤ byte). absurd (e (omega (arith, l, m))))
          (cases_lt byte (place + k)))
          (cases_lt (place + k) byte)

  pub bits_elsewhere : (byte bits : ℕ) → (byte < place) ⊎ (place + length into ≤ byte) → StandAt (or_at image byte (bits ∷ [])) place into
  bits_elsewhere byte bits out =
      let inside = s.inside in
      record {
        inside = omega (arith, inside, length_or_at image byte (bits ∷ []));
        same = λ k less. s.same k less ∙ sym (⊎_elim
            (λ (l : byte < place). or_at_behind image byte (bits ∷ []) (place + k) (omega (arith, l)))
            (λ (l : place + length into ≤ byte). or_at_before image byte (bits ∷ []) (place + k) (omega (arith, l, less)))
            out);
      }

  -- zeros
  pub zeros_there : (now : List ℕ) (from count : ℕ) → from + count ≤ length image → length now ≡ length into
      → ((k : ℕ) → k < length into → from ≤ place + k → place + k < from + count → get_or now k 0 ≡ 0)
      → ((k : ℕ) → (place + k < from) ⊎ (from + count ≤ place + k) → get_or now k 0 ≡ get_or into k 0)
      → StandAt (zeros_at image from count) place now
  zeros_there now from count fits size zero other =
      let inside = s.inside in
      record {
        inside = omega (arith, inside, size, length_zeros_at image from count fits);
        same = λ k less.
            let few : k < length into = omega (arith, less, size) in
            ⊎_elim
            (λ (l : place + k < from). other k (inl l) ∙ s.same k few ∙ sym (zeros_at_before image from count (place + k) fits l))
            (λ (l : from ≤ place + k). ⊎_elim
            (λ (h : place + k < from + count). zero k few l h ∙ sym (zeros_at_inside image from count (place + k) fits l h))
            (λ (h : from + count ≤ place + k). other k (inr h) ∙ s.same k few ∙ sym (zeros_at_behind image from count (place + k) fits h))
            (cases_lt (place + k) (from + count)))
            (cases_lt (place + k) from);
      }

-- ---- two lists one behind the other

pub fronts_same : (a b c d : List ℕ) → a ++ b ≡ c ++ d → length c ≡ length a → (a ≡ c) × (b ≡ d)
fronts_same a b c d same long = (
  sym (take_at a b (length c) (sym long)) ∙ ap (take (length c)) same ∙ take_at c d (length c) refl,
  sym (drop_at a b (length c) (sym long)) ∙ ap (drop (length c)) same ∙ drop_at c d (length c) refl,
)

-- ---- views

pub length_spoilt : (image : List ℕ) (o : Option PageId) → length (spoilt image o) ≡ length image
length_spoilt image None = refl
length_spoilt image (Some p) = length-set image (256 * p.0) (get_or image (256 * p.0) 0 + 1)

pub length_view : (image : List ℕ) (o : Overlay) (s : Option PageId) → FitsImage (length image) o → length (spoilt (overlaid image o) s) ≡ length image
length_view image o s inside = length_spoilt (overlaid image o) s ∙ length_overlaid image o inside

-- an image of which a page is spoilt is another one
pub unspoilt : (image : List ℕ) (o : Option PageId) → ((p : PageId) → o ≡ Some p → 256 * p.0 + 256 ≤ length image) → spoilt image o ≡ image → o ≡ None
unspoilt image None inside same = refl
unspoilt image (Some p) inside same =
    let less = inside p refl in
    let more : get_or image (256 * p.0) 0 + 1 ≡ get_or image (256 * p.0) 0 =
    sym (get_or-set_same image (256 * p.0) (get_or image (256 * p.0) 0 + 1) 0 (omega (arith, less))) ∙ ap (λ xs. get_or xs (256 * p.0) 0) same in
    absurd (omega (arith, more))

pub not_some : {A : Type 0} (o : Option A) → is_some o ≡ false → o ≡ None
not_some None e = refl
not_some (Some x) e = cc

-- a range that has no byte of the page's front is as it was
pub spoilt_range : (image : List ℕ) (o : Option PageId) (page : PageId) (a b : ℕ) → ((k : ℕ) → a ≤ k → k < b → k ≢ 256 * page.0)
    → slice_range (spoilt image (option_or o (Some page))) a b ≡ slice_range (spoilt image o) a b
spoilt_range image (Some p) page a b out = refl
spoilt_range image None page a b out =
    range_same (set image (256 * page.0) (get_or image (256 * page.0) 0 + 1)) image a b (length-set image (256 * page.0) (get_or image (256 * page.0) 0 + 1))
    (λ k low high. get_or-set_other image (256 * page.0) k (get_or image (256 * page.0) 0 + 1) 0 (out k low high))

-- ---- overlays as numbers

length_mark : (m : Option Mark) → length (mark_code m) ≡ 3
length_mark None = refl
length_mark (Some m) = refl

length_sector : (s : Option SectorId) → length (sector_code s) ≡ 2
length_sector None = refl
length_sector (Some s) = refl

mark_same : (m n : Option Mark) → mark_code m ≡ mark_code n → m ≡ n
mark_same None None e = refl
mark_same None (Some n) e = cc
mark_same (Some m) None e = cc
mark_same (Some m) (Some n) e =
    let page : m.page.0 ≡ n.page.0 = cc in
    let bits : m.bits ≡ n.bits = cc in
    ap (λ x. Some (record { page = record { 0 = x }; bits = m.bits })) page ∙ ap (λ x. Some (record { page = n.page; bits = x })) bits

sector_same : (s t : Option SectorId) → sector_code s ≡ sector_code t → s ≡ t
sector_same None None e = refl
sector_same None (Some t) e = cc
sector_same (Some s) None e = cc
sector_same (Some s) (Some t) e =
    let same : s.0 ≡ t.0 = cc in
    ap (λ x. Some (record { 0 = x })) same

blank_same : (s t : Option ℕ) → blank_code s ≡ blank_code t → s ≡ t
blank_same None None e = refl
blank_same None (Some t) e = cc
blank_same (Some s) None e = cc
blank_same (Some s) (Some t) e = cc

two_same : (s t : Option Two) → two_code s ≡ two_code t → s ≡ t
two_same None None e = refl
two_same None (Some t) e = cc
two_same (Some s) None e = cc
two_same (Some s) (Some t) e =
    let records : s.records ≡ t.records = cc in
    let number : s.number ≡ t.number = cc in
    ap (λ x. Some (record { records = x; number = s.number })) records ∙ ap (λ x. Some (record { records = t.records; number = x })) number

length_blank : (s : Option ℕ) → length (blank_code s) ≡ 2
length_blank None = refl
length_blank (Some s) = refl

length_two : (s : Option Two) → length (two_code s) ≡ 3
length_two None = refl
length_two (Some s) = refl

pub code_same : (o p : Overlay) → code o ≡ code p → o ≡ p
code_same o p e =
    let first = fronts_same (mark_code o.first) (mark_code o.second ++ (sector_code o.sector ++ (blank_code o.blank ++ two_code o.two))) (mark_code p.first) (mark_code p.second ++ (sector_code p.sector ++ (blank_code p.blank ++ two_code p.two))) e (length_mark p.first ∙ sym (length_mark o.first)) in
    let second = fronts_same (mark_code o.second) (sector_code o.sector ++ (blank_code o.blank ++ two_code o.two)) (mark_code p.second) (sector_code p.sector ++ (blank_code p.blank ++ two_code p.two)) first.1 (length_mark p.second ∙ sym (length_mark o.second)) in
    let sector = fronts_same (sector_code o.sector) (blank_code o.blank ++ two_code o.two) (sector_code p.sector) (blank_code p.blank ++ two_code p.two) second.1 (length_sector p.sector ∙ sym (length_sector o.sector)) in
    let blank = fronts_same (blank_code o.blank) (two_code o.two) (blank_code p.blank) (two_code p.two) sector.1 (length_blank p.blank ∙ sym (length_blank o.blank)) in
    let a : o.first ≡ p.first = mark_same o.first p.first first.0 in
    let b : o.second ≡ p.second = mark_same o.second p.second second.0 in
    let c : o.sector ≡ p.sector = sector_same o.sector p.sector sector.0 in
    let d : o.blank ≡ p.blank = blank_same o.blank p.blank blank.0 in
    let f : o.two ≡ p.two = two_same o.two p.two blank.1 in
    ap (λ x. record { first = x; second = o.second; sector = o.sector; blank = o.blank; two = o.two }) a
    ∙ ap (λ x. record { first = p.first; second = x; sector = o.sector; blank = o.blank; two = o.two }) b
    ∙ ap (λ x. record { first = p.first; second = p.second; sector = x; blank = o.blank; two = o.two }) c
    ∙ ap (λ x. record { first = p.first; second = p.second; sector = p.sector; blank = x; two = o.two }) d
    ∙ ap (λ x. record { first = p.first; second = p.second; sector = p.sector; blank = p.blank; two = x }) f

code_long : (o : Overlay) → length (code o) ≡ 13
code_long o =
    omega (
      arith,
      length-append (mark_code o.first) (mark_code o.second ++ (sector_code o.sector ++ (blank_code o.blank ++ two_code o.two))),
      length-append (mark_code o.second) (sector_code o.sector ++ (blank_code o.blank ++ two_code o.two)),
      length-append (sector_code o.sector) (blank_code o.blank ++ two_code o.two),
      length-append (blank_code o.blank) (two_code o.two),
      length_mark o.first,
      length_mark o.second,
      length_sector o.sector,
      length_blank o.blank,
      length_two o.two,
    )

pub length_code : (o p : Overlay) → length (code o) ≡ length (code p)
length_code o p = code_long o ∙ sym (code_long p)

-- ---- the flash in a view

-- what a view shows of its flash and its overlay, where it reads as another flash with an overlay
pub record IsShown (image lent : List ℕ) (o : Overlay) (s : Option PageId) (refused : ℕ) (other held : List ℕ) : Type 0 where
  pub image_is : image ≡ other
  pub lent_is : lent ≡ held
  pub unrefused : refused ≡ 0

pub shown : (image lent other held : List ℕ) (o p : Overlay) (s : Option PageId) (refused : ℕ) → IsView (length image) o s refused → FitsImage (length other) p
    → spoilt (overlaid image o) s ≡ overlaid other p → code o ++ (image ++ lent) ≡ code p ++ (other ++ held) → IsShown image lent o s refused other held
shown image lent other held o p s refused v inside same borrowed =
    let parts = fronts_same (code o) (image ++ lent) (code p) (other ++ held) borrowed (length_code p o) in
    let over : o ≡ p = code_same o p parts.0 in
    let long : length other ≡ length image =
    sym (length_overlaid other p inside) ∙ ap length (sym same) ∙ length_spoilt (overlaid image o) s ∙ length_overlaid image o v.inside in
    let both = fronts_same image lent other held parts.1 long in
    let plain : spoilt (overlaid image o) s ≡ overlaid image o = same ∙ ap (λ i. overlaid i p) (sym both.0) ∙ ap (overlaid image) (sym over) in
    record {
      image_is = both.0;
      lent_is = both.1;
      unrefused = v.unspoilt (unspoilt (overlaid image o) s (λ q e. let h = v.page q e in omega (arith, h, length_overlaid image o v.inside)) plain);
    }
