-- Images that differ in flags alone: what begins at their pages, and the walks over both.
use Rattle.std.proofs.Common.{◌≡◌, ◌≢◌, ⊎_elim, ℕ, ◌+◌, ◌*◌, ◌/◌, ◌<◌, ◌≤◌, Bool, true, false, ◌==◌, List, [], ◌∷◌, length, take, drop, get_or, Option, Some, None, if◌then◌else◌, refl, ap, sym, subst, ◌∙◌, arith, bit_and, bit_or}
use Rattle.std.specs.Prelude.{slice_index}
use Rattle.std.specs.Option.{option_map}
use Rattle.std.proofs.lemmas.Bool.{cases_eq, cases_lt}
use Rattle.std.proofs.lemmas.List.{ext_get_or, get_or-drop, get_or-take, get_or_past, length-drop, length-take-le}
use Rattle.std.proofs.lemmas.Nat.{and_or_apart, and_or_self}
use Rattle.afl_base.specs.Fields.{u16_at}
use Rattle.afl_base.specs.Image.{page_bytes}
use Rattle.afl_base.proofs.Images.{length_or_at, length_range, or_at_inside, or_at_other_page, range_at}
use Rattle.coffee_header.specs.Headers.{fields, header_of, is_flags, name_of_field}
use Rattle.coffee_header.specs.declared.header.Header.{Header}
use Rattle.coffee_layout.specs.Tiling.{IsTiled, nowhere, units_of}
use Rattle.coffee_layout.specs.Units.{pages_of, size_of, unit_at, unit_of}
use Rattle.coffee_layout.specs.declared.unit.Unit.{Unit}
use Rattle.coffee_layout.specs.declared.unit.Unit.TheVariants.{Extent, Free, Isolated}
use Rattle.coffee_log.proofs.RecordLaws.{two_bytes}
use Rattle.coffee_merge.specs.Begun.{unit_begun}
use Rattle.coffee_merge.specs.Flags.{flagged}
use Rattle.coffee_merge.proofs.HeaderMarks.{flags_whole, header_ninth, unit_header}
use Rattle.coffee_merge.proofs.Marked.{flagged_bytes}
use Rattle.padded.specs.Zeros.{is_zeros}
use Rattle.padded.proofs.Facts.{true_eq, yes_no}
use Rattle.coffee_cuts.proofs.HeaderFronts.{fields_are}
use Rattle.coffee_cuts.proofs.Reached.{IsReached, begun_at, sizes_reach}
use Rattle.coffee_cuts.proofs.ZeroPages.{zero_part}
use Rattle.coffee_cuts.proofs.ZeroedHeads.{marked_ninth}

-- ---- PAGES

-- byte 9 of a page: the flags, where a header stands there
abbrev pub ninth : List ℕ → ℕ → ℕ
ninth image page = get_or image (256 * page + 9) 0

-- a page of the new image is that of the old one but for byte 9, in which there may be further flags
pub record IsMarkedAt (old new : List ℕ) (page : ℕ) : Type 0 where
  pub others : (k : ℕ) → k < 256 → k ≢ 9 → get_or new (256 * page + k) 0 ≡ get_or old (256 * page + k) 0
  pub bits : bit_and (ninth new page) 34 ≡ bit_and (ninth old page) 34
  pub none : ninth old page ≡ 0 → is_flags (ninth new page) ≡ false
  pub zero : ninth new page ≡ 0 → ninth old page ≡ 0

-- two pages are alike but for the flags in byte 9
pub record AreAlikeAt (a b : List ℕ) (page : ℕ) : Type 0 where
  pub others : (k : ℕ) → k < 256 → k ≢ 9 → get_or a (256 * page + k) 0 ≡ get_or b (256 * page + k) 0
  pub bits : bit_and (ninth a page) 34 ≡ bit_and (ninth b page) 34
  pub left : ninth a page ≡ 0 → is_flags (ninth b page) ≡ false
  pub right : ninth b page ≡ 0 → is_flags (ninth a page) ≡ false

pub both_marked : (old a b : List ℕ) (page : ℕ) → IsMarkedAt old a page → IsMarkedAt old b page → AreAlikeAt a b page
both_marked old a b page m n = record {
  others = λ k low other. m.others k low other ∙ sym (n.others k low other);
  bits = m.bits ∙ sym n.bits;
  left = λ z. n.none (m.zero z);
  right = λ z. m.none (n.zero z);
}

pub marked_alike : (old new : List ℕ) (page : ℕ) → IsMarkedAt old new page → AreAlikeAt old new page
marked_alike old new page m = record {
  others = λ k low other. sym (m.others k low other);
  bits = sym m.bits;
  left = m.none;
  right = λ z. ap is_flags (m.zero z);
}

pub page_byte : (image : List ℕ) (page k : ℕ) → k < 256 → get_or (page_bytes image page) k 0 ≡ get_or image (256 * page + k) 0
page_byte image page k low = range_at image (256 * page) (256 * page + 256) k (omega (arith, low))

pub same_byte : (a b : List ℕ) (page k : ℕ) → page_bytes a page ≡ page_bytes b page → k < 256 → get_or a (256 * page + k) 0 ≡ get_or b (256 * page + k) 0
same_byte a b page k same low = sym (page_byte a page k low) ∙ ap (λ xs. get_or xs k 0) same ∙ page_byte b page k low

pub same_marked : (old new : List ℕ) (page : ℕ) → page_bytes new page ≡ page_bytes old page → IsMarkedAt old new page
same_marked old new page same =
    let nine : ninth new page ≡ ninth old page = same_byte new old page 9 same (omega arith) in
    record {
      others = λ k low other. same_byte new old page k same low;
      bits = ap (λ n. bit_and n 34) nine;
      none = λ z. ap is_flags (nine ∙ z);
      zero = λ z. sym nine ∙ z;
    }

-- a flag that is none by itself, and no bit of an isolated page
pub record IsMark (flag : ℕ) : Type 0 where
  pub apart : bit_and flag 34 ≡ 0
  pub alone : is_flags flag ≡ false
  pub some : bit_and 0 flag ≡ flag → ⊥
  pub or_none : bit_or 0 flag ≡ flag

pub other_page : (image : List ℕ) (page flag q : ℕ) → q ≢ page → page_bytes (flagged image page flag) q ≡ page_bytes image q
other_page image page flag q other = or_at_other_page image page 9 (flag ∷ []) q (omega arith) other

pub flagged_ninth : (image : List ℕ) (page flag : ℕ) → 256 * page + 9 < length image → ninth (flagged image page flag) page ≡ bit_or (ninth image page) flag
flagged_ninth image page flag inside =
    let e : 256 * page + 9 + 0 ≡ 256 * page + 9 = omega arith in
    ap (λ k. get_or (flagged image page flag) k 0) (sym e)
    ∙ or_at_inside image (256 * page + 9) (flag ∷ []) 0 (omega (arith, inside)) (omega arith)
    ∙ ap (λ k. bit_or (get_or image k 0) flag) e

pub other_ninth : (image : List ℕ) (page flag q : ℕ) → q ≢ page → ninth (flagged image page flag) q ≡ ninth image q
other_ninth image page flag q other = same_byte (flagged image page flag) image q 9 (other_page image page flag q other) (omega arith)

past_page : (image : List ℕ) (page flag : ℕ) → length image ≤ 256 * page + 9 → ninth (flagged image page flag) page ≡ ninth image page
past_page image page flag past =
    let long = length_or_at image (256 * page + 9) (flag ∷ []) in
    get_or_past (flagged image page flag) (256 * page + 9) 0 (omega (arith, past, long)) ∙ sym (get_or_past image (256 * page + 9) 0 past)

flagged_others : (image : List ℕ) (page flag k : ℕ) → k < 256 → k ≢ 9 → get_or (flagged image page flag) (256 * page + k) 0 ≡ get_or image (256 * page + k) 0
flagged_others image page flag k low other = flagged_bytes image page flag (256 * page + k) (λ e. other (omega (arith, e)))

pub flagged_marked : (image : List ℕ) (page flag q : ℕ) → IsMark flag → IsMarkedAt image (flagged image page flag) q
flagged_marked image page flag q mark = ⊎_elim
    (λ (here : q ≡ page). subst (IsMarkedAt image (flagged image page flag)) (sym here) (⊎_elim
    (λ (inside : 256 * page + 9 < length image).
    let nine = flagged_ninth image page flag inside in
    record {
      others = flagged_others image page flag;
      bits = ap (λ n. bit_and n 34) nine ∙ and_or_apart 34 (ninth image page) flag mark.apart;
      none = λ z. ap is_flags (nine ∙ ap (λ n. bit_or n flag) z ∙ mark.or_none) ∙ mark.alone;
      zero = λ z. absurd (mark.some (ap (λ n. bit_and n flag) (sym z ∙ nine) ∙ and_or_self flag (ninth image page)));
    })
    (λ (past : length image ≤ 256 * page + 9).
    let nine = past_page image page flag past in
    record {
      others = flagged_others image page flag;
      bits = ap (λ n. bit_and n 34) nine;
      none = λ z. ap is_flags (nine ∙ z);
      zero = λ z. sym nine ∙ z;
    })
    (cases_lt (256 * page + 9) (length image))))
    (λ (there : q ≢ page). same_marked image (flagged image page flag) q (other_page image page flag q there))
    (cases_eq q page)

-- ---- UNITS

pub head_byte : (image : List ℕ) (page k : ℕ) → k < 32 → get_or (take 32 (page_bytes image page)) k 0 ≡ get_or image (256 * page + k) 0
head_byte image page k low = get_or-take 32 (page_bytes image page) k 0 low ∙ page_byte image page k (omega (arith, low))

zeros_turn : (a b : Bool) (o : Option Header) → (if a then Some Free else (if b then Some Isolated else option_map Extent o)) ≡ Some Free → a ≡ true
zeros_turn true b o e = refl
zeros_turn false true o e = cc
zeros_turn false false None e = cc
zeros_turn false false (Some h) e = cc

free_zeros : (bytes : List ℕ) → unit_of bytes ≡ Some Free → is_zeros bytes ≡ true
unfolding unit_of
free_zeros bytes e = zeros_turn (is_zeros bytes) (bit_and (slice_index bytes 9) 34 == 34) (header_of bytes) e

pub free_ninth : (image : List ℕ) (page : ℕ) → unit_at image page ≡ Some Free → ninth image page ≡ 0
free_ninth image page is = sym (head_byte image page 9 (omega arith)) ∙ zero_part (take 32 (page_bytes image page)) 9 (free_zeros (take 32 (page_bytes image page)) is)

pub isolated_ninth : (image : List ℕ) (page : ℕ) → unit_at image page ≡ Some Isolated → bit_and (ninth image page) 34 ≡ 34
isolated_ninth image page is = ap (λ n. bit_and n 34) (sym (head_byte image page 9 (omega arith))) ∙ true_eq (bit_and (get_or (take 32 (page_bytes image page)) 9 0) 34) 34 (marked_ninth (take 32 (page_bytes image page)) is)

pub extent_ninth : (image : List ℕ) (page : ℕ) (h : Header) → unit_at image page ≡ Some (Extent h) → (ninth image page ≡ h.flags) × (is_flags (ninth image page) ≡ true)
extent_ninth image page h is =
    let n = header_ninth (take 32 (page_bytes image page)) h (unit_header (take 32 (page_bytes image page)) h is) in
    let nine : ninth image page ≡ h.flags = sym (head_byte image page 9 (omega arith)) ∙ n.0 in
    (nine, ap is_flags nine ∙ n.1)

-- with other flags, where it is an extent
abbrev pub turned : Unit → ℕ → Unit
turned Free flags = Free
turned Isolated flags = Isolated
turned (Extent h) flags = Extent (record h { flags = flags })

pub turned_size : (u : Unit) (flags : ℕ) → size_of (turned u flags) ≡ size_of u
turned_size Free flags = refl
turned_size Isolated flags = refl
turned_size (Extent h) flags = refl

made : (a b c d e f : ℕ) (name : List ℕ) → Header
made a b c d e f name = record { log_page = a; log_records = b; log_record_size = c; max_pages = d; kind = e; flags = f; name = name }

made_same : (a b c d e f p q r s t u : ℕ) (name other : List ℕ) → a ≡ p → b ≡ q → c ≡ r → d ≡ s → e ≡ t → f ≡ u → name ≡ other → made a b c d e f name ≡ made p q r s t u other
made_same a b c d e f p q r s t u name other h i j k l m n = cc

number_same : (xs ys : List ℕ) (i : ℕ) → get_or xs i 0 ≡ get_or ys i 0 → get_or xs (i + 1) 0 ≡ get_or ys (i + 1) 0 → u16_at xs i ≡ u16_at ys i
number_same xs ys i low high =
    let a = two_bytes xs i in
    let b = two_bytes ys i in
    omega (arith, a, b, low, high)

fields_turned : (xs ys : List ℕ) → length xs ≡ length ys → ((k : ℕ) → k < length xs → k ≢ 9 → get_or xs k 0 ≡ get_or ys k 0) → 32 ≤ length xs → fields ys ≡ record (fields xs) { flags = get_or ys 9 0 }
unfolding made
fields_turned xs ys long same size =
    let first = length-drop 10 xs in
    let second = length-drop 10 ys in
    let name : drop 10 ys ≡ drop 10 xs = ext_get_or 0 (drop 10 ys) (drop 10 xs) (omega (arith, first, second, long))
    (λ k less. get_or-drop 10 ys k 0 ∙ sym (same (10 + k) (omega (arith, less, second, long)) (omega arith)) ∙ sym (get_or-drop 10 xs k 0)) in
    let at : (k : ℕ) → k < 9 → get_or ys k 0 ≡ get_or xs k 0 = λ k low. sym (same k (omega (arith, low, size)) (omega (arith, low))) in
    made_same (u16_at ys 0) (u16_at ys 2) (u16_at ys 4) (u16_at ys 6) (get_or ys 8 0) (get_or ys 9 0) (u16_at xs 0) (u16_at xs 2) (u16_at xs 4) (u16_at xs 6) (get_or xs 8 0) (get_or ys 9 0)
    (name_of_field (drop 10 ys)) (name_of_field (drop 10 xs))
    (number_same ys xs 0 (at 0 (omega arith)) (at 1 (omega arith))) (number_same ys xs 2 (at 2 (omega arith)) (at 3 (omega arith))) (number_same ys xs 4 (at 4 (omega arith)) (at 5 (omega arith)))
    (number_same ys xs 6 (at 6 (omega arith)) (at 7 (omega arith))) (at 8 (omega arith)) refl (ap name_of_field name)

pub thirty_four : (n m : ℕ) → n ≡ 34 → m ≡ 0 → n ≡ m → ⊥
thirty_four n m a b e = absurd (omega (arith, a, b, e))

module _ (a b : List ℕ) (page : ℕ) (long : length b ≡ length a) (alike : AreAlikeAt a b page) (inside : 256 * page + 256 ≤ length a) where
  head : List ℕ → List ℕ
  head image = take 32 (page_bytes image page)

  head_long : (image : List ℕ) → length image ≡ length a → length (take 32 (page_bytes image page)) ≡ 32
  head_long image same =
      let all = length_range image (256 * page) (256 * page + 256) (omega (arith, same, inside)) in
      length-take-le 32 (page_bytes image page) (omega (arith, all))

  extents_alike : (g h : Header) → unit_at a page ≡ Some (Extent g) → unit_at b page ≡ Some (Extent h) → h ≡ record g { flags = ninth b page }
  extents_alike g h is other =
      let xs : List ℕ = take 32 (page_bytes a page) in
      let ys : List ℕ = take 32 (page_bytes b page) in
      let f = fields_are xs g (unit_header xs g is) in
      let k = fields_are ys h (unit_header ys h other) in
      let la : length xs ≡ 32 = head_long a refl in
      let lb : length ys ≡ 32 = head_long b long in
      sym k.1
      ∙ fields_turned xs ys (la ∙ sym lb) (λ i low differ. head_byte a page i (omega (arith, low, la)) ∙ alike.others i (omega (arith, low, la)) differ ∙ sym (head_byte b page i (omega (arith, low, la)))) (omega (arith, la))
      ∙ ap (λ (x : Header). record x { flags = get_or ys 9 0 }) f.1
      ∙ ap (λ n. record g { flags = n }) (head_byte b page 9 (omega arith))

  free_isolated : unit_at a page ≡ Some Free → unit_at b page ≡ Some Isolated → ⊥
  free_isolated is other =
      let z : bit_and (ninth a page) 34 ≡ 0 = ap (λ n. bit_and n 34) (free_ninth a page is) in
      thirty_four (bit_and (ninth b page) 34) (bit_and (ninth a page) 34) (isolated_ninth b page other) z (sym alike.bits)

  isolated_free : unit_at a page ≡ Some Isolated → unit_at b page ≡ Some Free → ⊥
  isolated_free is other =
      let z : bit_and (ninth b page) 34 ≡ 0 = ap (λ n. bit_and n 34) (free_ninth b page other) in
      thirty_four (bit_and (ninth a page) 34) (bit_and (ninth b page) 34) (isolated_ninth a page is) z alike.bits

  -- what begins at one of them begins at the other, with the flags there
  pub units_alike : (u v : Unit) → unit_at a page ≡ Some u → unit_at b page ≡ Some v → v ≡ turned u (ninth b page)
  units_alike Free Free is other = refl
  units_alike Free Isolated is other = absurd (free_isolated is other)
  units_alike Free (Extent h) is other = yes_no (is_flags (ninth b page)) (extent_ninth b page h other).1 (alike.left (free_ninth a page is))
  units_alike Isolated Free is other = absurd (isolated_free is other)
  units_alike Isolated Isolated is other = refl
  units_alike Isolated (Extent h) is other =
      let whole = flags_whole (ninth b page) (extent_ninth b page h other).1 in
      let bits : bit_and (ninth b page) 34 ≡ 34 = sym alike.bits ∙ isolated_ninth a page is in
      yes_no (bit_and (ninth b page) 34 == 34) (ap (λ n. n == 34) bits) whole
  units_alike (Extent g) Free is other = yes_no (is_flags (ninth a page)) (extent_ninth a page g is).1 (alike.right (free_ninth b page other))
  units_alike (Extent g) Isolated is other =
      let whole = flags_whole (ninth a page) (extent_ninth a page g is).1 in
      let bits : bit_and (ninth a page) 34 ≡ 34 = alike.bits ∙ isolated_ninth b page other in
      yes_no (bit_and (ninth a page) 34 == 34) (ap (λ n. n == 34) bits) whole
  units_alike (Extent g) (Extent h) is other = ap (λ (x : Header). Extent x) (extents_alike g h is other)

-- ---- WALKS

-- a walk over an image that is alike before a page comes to it
pub alike_reach : (image other : List ℕ) (page : ℕ) (u : Unit) → length other ≡ length image → IsTiled nowhere image (units_of image)
    → ((p : ℕ) (v w : Unit) → p < page → unit_at other p ≡ Some v → unit_at image p ≡ Some w → size_of v ≡ size_of w)
    → unit_begun (units_of other) 0 page ≡ Some u → IsReached image (units_of image) 0 page
unfolding units_of
alike_reach image other page u long tiled sizes e =
    let same : pages_of other ≡ pages_of image = ap (λ n. n / 256) long in
    let at = begun_at (pages_of other) other 0 page u e in
    let inside = at.1 in
    let all = tiled.whole in
    sizes_reach image other (units_of image) (pages_of other) 0 page false u inside sizes tiled.keep (omega (arith, all)) (omega (arith, inside, same)) (omega arith) e

-- what begins in an image stands in it
pub stands_at : (image : List ℕ) (page : ℕ) (u : Unit) → unit_begun (units_of image) 0 page ≡ Some u → (256 * page + 256 ≤ length image) × (unit_at image page ≡ Some u)
unfolding units_of
stands_at image page u e = let at = begun_at (pages_of image) image 0 page u e in let inside = at.1 in (omega (arith, inside), at.2)

-- what begins in one of two images that are alike begins in the other
pub across : (a b : List ℕ) (page : ℕ) (u : Unit) → length b ≡ length a → ((q : ℕ) → AreAlikeAt a b q) → IsTiled nowhere b (units_of b) → unit_begun (units_of a) 0 page ≡ Some u
    → unit_begun (units_of b) 0 page ≡ Some (turned u (ninth b page))
across a b page u long alike tiled e =
    let at = stands_at a page u e in
    let inside = at.0 in
    let r = alike_reach b a page u (sym long) tiled (λ p v w less is other.
    sym (turned_size v (ninth b p)) ∙ ap size_of (sym (units_alike a b p long (alike p) (omega (arith, inside, less)) v w is other))) e in
    r.begun ∙ ap Some (units_alike a b page long (alike page) inside u r.unit at.1 r.there)
