-- Frames: what stays of the units and the files of an image where its bytes stay.
use Rattle.std.proofs.Common.{◌≡◌, ℕ, zero, suc, ◌+◌, ◌-◌, ◌*◌, ◌/◌, ◌%◌, ◌≤◌, ◌<◌, ◌⊎◌, inl, inr, Bool, true, false, not, ◌&&◌, ◌||◌, ◌==◌, nat_lt, List, [], ◌∷◌, ◌++◌, length, map, take, get_or, Option, None, Some, if◌then◌else◌, refl, ap, sym, subst, ◌∙◌, arith}
use Rattle.std.specs.Prelude.{⊤}
use Rattle.std.specs.List.{range_with_len}
use Rattle.afl_base.specs.Image.{page_bytes}
use Rattle.afl_base.specs.declared.ids.PageId.{PageId}
use Rattle.afl_base.proofs.Images.{range_in_page, range_same}
use Rattle.coffee_header.specs.declared.header.Header.{Header}
use Rattle.coffee_layout.specs.FileBytes.{file_byte, file_bytes, last_in, extent_place, number_in, place_or, record_place, table_of, trimmed}
use Rattle.coffee_layout.specs.Tiling.{KeepRules, IsTiled, broken_at, broken_suffix, broken_unit}
use Rattle.padded.specs.Zeros.{is_zeros}
use Rattle.coffee_layout.specs.Units.{is_free, pages_of, size_of, total, unit_at, unit_of}
use Rattle.coffee_layout.specs.declared.unit.Unit.{Unit}
use Rattle.coffee_layout.proofs.Tests.{none_else}
use Rattle.coffee_layout.proofs.Tilings.{kept_some}
use Rattle.coffee_layout.specs.declared.unit.Unit.TheVariants.{Free, Isolated, Extent}

-- PAGES

-- the unit at a page is that of the page's bytes
pub unit_at_same : (old new : List ℕ) (page : ℕ) → page_bytes new page ≡ page_bytes old page → unit_at new page ≡ unit_at old page
unit_at_same old new page same = ap (λ bytes. unit_of (take 32 bytes)) same

-- and so is the rule that it breaks
pub broken_at_same : (building : ℕ → Bool) (old new : List ℕ) (page : ℕ) (after_free : Bool) → length new ≡ length old → page_bytes new page ≡ page_bytes old page
    → broken_at building new page after_free ≡ broken_at building old page after_free
broken_at_same building old new page after_free long same =
    ap (λ bytes. broken_unit (building page) (is_zeros bytes) (pages_of new) page after_free (unit_of (take 32 bytes))) same
    ∙ ap (λ n. broken_unit (building page) (is_zeros (page_bytes old page)) (n / 256) page after_free (unit_at old page)) long

-- UNITS

-- an image keeps what a unit is: the front of its first page, and all of a free page
pub record KeepsUnit (old new : List ℕ) (page : ℕ) (u : Unit) : Type 0 where
  pub head : take 32 (page_bytes new page) ≡ take 32 (page_bytes old page)
  pub free : is_free u ≡ true → page_bytes new page ≡ page_bytes old page

abbrev pub KeepsUnits : (old new : List ℕ) → ℕ → List Unit → Type 0
KeepsUnits old new page [] = ⊤
KeepsUnits old new page (u ∷ us) = KeepsUnit old new page u × KeepsUnits old new (page + size_of u) us

-- only a free page is asked whether it is all zero
zeros_only : (building a b : Bool) (pages page : ℕ) (after_free : Bool) (u : Unit) → (is_free u ≡ true → a ≡ b) → broken_unit building a pages page after_free (Some u) ≡ broken_unit building b pages page after_free (Some u)
zeros_only building a b pages page after_free Free same = ap (λ z. broken_unit building z pages page after_free (Some Free)) (same refl)
zeros_only building a b pages page after_free Isolated same = refl
zeros_only building a b pages page after_free (Extent h) same = refl

unit_kept : (building : ℕ → Bool) (old new : List ℕ) (page : ℕ) (after_free : Bool) (u : Unit) → length new ≡ length old → KeepsUnit old new page u → unit_at old page ≡ Some u
    → (unit_at new page ≡ Some u) × (broken_at building new page after_free ≡ broken_at building old page after_free)
unit_kept building old new page after_free u long keeps is =
    let here : unit_at new page ≡ Some u = ap unit_of keeps.head ∙ is in (
      here,
      ap (λ o. broken_unit (building page) (is_zeros (page_bytes new page)) (pages_of new) page after_free o) here
          ∙ ap (λ n. broken_unit (building page) (is_zeros (page_bytes new page)) (n / 256) page after_free (Some u)) long
          ∙ zeros_only (building page) (is_zeros (page_bytes new page)) (is_zeros (page_bytes old page)) (pages_of old) page after_free u (λ f. ap is_zeros (keeps.free f))
          ∙ ap (λ o. broken_unit (building page) (is_zeros (page_bytes old page)) (pages_of old) page after_free o) (sym is),
    )

-- units that an image keeps keep the rules
pub keep_units : (building : ℕ → Bool) (old new : List ℕ) (us : List Unit) (page : ℕ) (after_free : Bool) → length new ≡ length old → KeepsUnits old new page us → KeepRules building old page after_free us → KeepRules building new page after_free us
keep_units building old new [] page after_free long same k = tt
keep_units building old new (u ∷ us) page after_free long same k =
    let here = unit_kept building old new page after_free u long same.0 k.0 in
    (here.0, here.1 ∙ k.1, keep_units building old new us (page + size_of u) (is_free u) long same.1 k.2)

-- units whose pages all stay are kept
pub keeps_pages : (building : ℕ → Bool) (old new : List ℕ) (us : List Unit) (page : ℕ) (after_free : Bool) → KeepRules building old page after_free us → ((q : ℕ) → page ≤ q → q < page + total us → page_bytes new q ≡ page_bytes old q) → KeepsUnits old new page us
keeps_pages building old new [] page after_free k same = tt
keeps_pages building old new (u ∷ us) page after_free k same =
    let some = kept_some building old page after_free u k.0 k.1 in
    let here = same page (omega arith) (omega arith) in
    (record { head = ap (take 32) here; free = λ f. here }, keeps_pages building old new us (page + size_of u) (is_free u) k.2 (λ q a b. same q (omega arith) (omega arith)))

pub keep_same : (building : ℕ → Bool) (old new : List ℕ) (us : List Unit) (page : ℕ) (after_free : Bool) → length new ≡ length old
    → ((q : ℕ) → page ≤ q → q < page + total us → page_bytes new q ≡ page_bytes old q) → KeepRules building old page after_free us → KeepRules building new page after_free us
keep_same building old new us page after_free long same k = keep_units building old new us page after_free long (keeps_pages building old new us page after_free k same) k

-- whether the last unit is a free page, or that before the first where there is none
abbrev pub ends_free : Bool → List Unit → Bool
ends_free free [] = free
ends_free free (u ∷ us) = ends_free (is_free u) us

pub total-append : (us vs : List Unit) → total (us ++ vs) ≡ total us + total vs
total-append [] vs = omega arith
total-append (u ∷ us) vs = omega (arith, total-append us vs)

-- a front part, and what follows it
pub keep_front : (building : ℕ → Bool) (image : List ℕ) (front rest : List Unit) (page : ℕ) (free : Bool) → KeepRules building image page free (front ++ rest) → KeepRules building image page free front
keep_front building image [] rest page free k = tt
keep_front building image (u ∷ us) rest page free k = (k.0, k.1, keep_front building image us rest (page + size_of u) (is_free u) k.2)

pub keep_rest : (building : ℕ → Bool) (image : List ℕ) (front rest : List Unit) (page end : ℕ) (free : Bool) → end ≡ page + total front → KeepRules building image page free (front ++ rest) → KeepRules building image end (ends_free free front) rest
keep_rest building image [] rest page end free e k = let s : page ≡ end = omega arith in subst (λ p. KeepRules building image p free rest) s k
keep_rest building image (u ∷ us) rest page end free e k = keep_rest building image us rest (page + size_of u) end (is_free u) (omega arith) k.2

pub keep-append : (building : ℕ → Bool) (image : List ℕ) (front rest : List Unit) (page end : ℕ) (free : Bool) → end ≡ page + total front → KeepRules building image page free front → KeepRules building image end (ends_free free front) rest → KeepRules building image page free (front ++ rest)
keep-append building image [] rest page end free e k l = let s : end ≡ page = omega arith in subst (λ p. KeepRules building image p free rest) s l
keep-append building image (u ∷ us) rest page end free e k l = (k.0, k.1, keep-append building image us rest (page + size_of u) end (is_free u) (omega arith) k.2 l)

-- rule 4 asks for less behind a unit that is no free page
after_none : (page : ℕ) → broken_suffix page false ≡ None
after_none page = refl

after_one : (building zeros : Bool) (pages page : ℕ) (free : Bool) (o : Option Unit) → broken_unit building zeros pages page free o ≡ None → broken_unit building zeros pages page false o ≡ None
after_one building zeros pages page free None e = e
after_one building zeros pages page free (Some Free) e = e
after_one building zeros pages page free (Some Isolated) e = refl
after_one building zeros pages page free (Some (Extent h)) e =
    let one = none_else (h.flags == 2 && not building) 1 (if h.max_pages == 0 || nat_lt pages (page + h.max_pages) then Some 2 else broken_suffix page free) e in
    let two = none_else (h.max_pages == 0 || nat_lt pages (page + h.max_pages)) 2 (broken_suffix page free) one.1 in
    rw (one.0, two.0) refl

pub after_used : (building : ℕ → Bool) (image : List ℕ) (us : List Unit) (page : ℕ) (free : Bool) → KeepRules building image page free us → KeepRules building image page false us
after_used building image [] page free k = tt
after_used building image (u ∷ us) page free k = (k.0, after_one (building page) (is_zeros (page_bytes image page)) (pages_of image) page free (unit_at image page) k.1, k.2)

-- where as much may be under construction
keep_other : (building other : ℕ → Bool) (image : List ℕ) (us : List Unit) (page : ℕ) (free : Bool) → ((q : ℕ) → page ≤ q → q < page + total us → building q ≡ other q) → KeepRules building image page free us → KeepRules other image page free us
keep_other building other image [] page free same k = tt
keep_other building other image (u ∷ us) page free same k =
    let some = kept_some building image page free u k.0 k.1 in (
      k.0,
      ap (λ b. broken_unit b (is_zeros (page_bytes image page)) (pages_of image) page free (unit_at image page)) (sym (same page (omega arith) (omega arith))) ∙ k.1,
      keep_other building other image us (page + size_of u) (is_free u) (λ q a b. same q (omega arith) (omega arith)) k.2,
    )

-- A block of units gives way to one unit that is no free page, and all other pages stay: a new extent
-- in a free run, or a header that gets further flags.
pub replaced : (building other : ℕ → Bool) (old new : List ℕ) (front block rest : List Unit) (u : Unit) → IsTiled building old (front ++ (block ++ rest)) → length new ≡ length old
    → ((q : ℕ) → q < total front ⊎ total front + total block ≤ q → page_bytes new q ≡ page_bytes old q)
    → ((q : ℕ) → q < total front ⊎ total front + total block ≤ q → building q ≡ other q)
    → size_of u ≡ total block → is_free u ≡ false → unit_at new (total front) ≡ Some u → broken_at other new (total front) (ends_free false front) ≡ None
    → IsTiled other new (front ++ (u ∷ rest))
replaced building other old new front block rest u tiled long same allowed size used here kept =
    let p = total front in
    let before : KeepRules building old 0 false front = keep_front building old front (block ++ rest) 0 false tiled.keep in
    let behind : KeepRules building old (total front + total block) (ends_free (ends_free false front) block) rest =
    keep_rest building old block rest (total front) (total front + total block) (ends_free false front) refl (keep_rest building old front (block ++ rest) 0 (total front) false (omega arith) tiled.keep) in
    let whole : 256 * (total front + (total block + total rest)) ≡ length old = ap (λ n. 256 * n) (sym (total-append front (block ++ rest) ∙ ap (λ n. total front + n) (total-append block rest))) ∙ tiled.whole in
    record {
      keep = keep-append other new front (u ∷ rest) 0 (total front) false (omega arith)
          (keep_other building other new front 0 false (λ q a b. allowed q (inl (omega arith))) (keep_same building old new front 0 false long (λ q a b. same q (inl (omega arith))) before)) (
            here,
            kept,
            subst (λ n. KeepRules other new (total front + n) (is_free u) rest) (sym size) (subst (λ f. KeepRules other new (total front + total block) f rest) (sym used)
                (after_used other new rest (total front + total block) (ends_free (ends_free false front) block)
                (keep_other building other new rest (total front + total block) (ends_free (ends_free false front) block) (λ q a b. allowed q (inr a))
                (keep_same building old new rest (total front + total block) (ends_free (ends_free false front) block) long (λ q a b. same q (inr a)) behind)))),
          );
      whole = omega (arith, total-append front (u ∷ rest));
    }

-- FILES

-- an image keeps the bytes of a file: those of its extent, and those of its log
pub record KeepsFile (old new : List ℕ) (page pages : ℕ) (log : Option PageId) : Type 0 where
  pub extent : (k : ℕ) → 256 * page ≤ k → k < 256 * (page + pages) → get_or new k 0 ≡ get_or old k 0
  pub logged : (l : PageId) → log ≡ Some l → (k : ℕ) → 256 * l.0 ≤ k → k < 256 * l.0 + 4096 → get_or new k 0 ≡ get_or old k 0

table_same : (old new : List ℕ) (l : ℕ) → length new ≡ length old → ((k : ℕ) → 256 * l ≤ k → k < 256 * l + 4096 → get_or new k 0 ≡ get_or old k 0) → table_of new l ≡ table_of old l
table_same old new l long same = range_same new old (256 * l + 32) (256 * l + 92) long (λ k a b. same k (omega arith) (omega arith))

pub last_bound : (table : List ℕ) (region n i : ℕ) → last_in table region n ≡ Some i → i < n
unfolding last_in
last_bound table region zero i e = cc
last_bound table region (suc n) i e = bound_turn (number_in table n == region + 1) (last_in table region n) n i e (last_bound table region n i)
  where
    bound_turn : (t : Bool) (o : Option ℕ) (n i : ℕ) → (if t then Some n else o) ≡ Some i → (o ≡ Some i → i < n) → i < suc n
    bound_turn true o n i e f = let s : n ≡ i = cc in omega arith
    bound_turn false o n i e f = let l = f e in omega arith

-- the place of a region, and all of its bytes, lie in the extent or in the log
byte_same : (old new : List ℕ) (page pages : ℕ) (l : PageId) (p : ℕ) (o : Option ℕ) → KeepsFile old new page pages (Some l) → p + 32 < 256 * pages → ((i : ℕ) → o ≡ Some i → i < 30)
    → get_or new (place_or (extent_place page (128 * (p / 128))) l.0 o + p % 128) 0 ≡ get_or old (place_or (extent_place page (128 * (p / 128))) l.0 o + p % 128) 0
byte_same old new page pages l p None keeps within few = keeps.extent (extent_place page (128 * (p / 128)) + p % 128) (omega arith) (omega arith)
byte_same old new page pages l p (Some i) keeps within few = let b = few i refl in keeps.logged l refl (record_place l.0 i + p % 128) (omega arith) (omega arith)

pub kept_byte : (old new : List ℕ) (page pages : ℕ) (log : Option PageId) (p : ℕ) → length new ≡ length old → KeepsFile old new page pages log → p + 32 < 256 * pages → file_byte new page log p ≡ file_byte old page log p
kept_byte old new page pages None p long keeps within = keeps.extent (extent_place page (128 * (p / 128)) + p % 128) (omega arith) (omega arith)
kept_byte old new page pages (Some l) p long keeps within =
    ap (λ t. get_or new (place_or (extent_place page (128 * (p / 128))) l.0 (last_in t (p / 128) 30) + p % 128) 0) (table_same old new l.0 long (keeps.logged l refl))
    ∙ byte_same old new page pages l p (last_in (table_of old l.0) (p / 128) 30) keeps within (λ i e. last_bound (table_of old l.0) (p / 128) 30 i e)

pub map_same : (f g : ℕ → ℕ) (a n : ℕ) → ((p : ℕ) → a ≤ p → p < a + n → f p ≡ g p) → map f (range_with_len a n) ≡ map g (range_with_len a n)
map_same f g a zero same = refl
map_same f g a (suc n) same = ap (λ x. x ∷ map f (range_with_len (a + 1) n)) (same a (omega arith) (omega arith)) ∙ ap (λ t. g a ∷ t) (map_same f g (a + 1) n (λ p x y. same p (omega arith) (omega arith)))

-- a file whose bytes are kept has its bytes
pub kept_bytes : (old new : List ℕ) (page pages : ℕ) (log : Option PageId) → length new ≡ length old → KeepsFile old new page pages log → file_bytes new page pages log ≡ file_bytes old page pages log
unfolding file_bytes
kept_bytes old new page pages log long keeps =
    ap trimmed (map_same (file_byte new page log) (file_byte old page log) 0 (256 * pages - 32) (λ p a b. kept_byte old new page pages log p long keeps (omega arith)))

-- CONTENTS

keeps-append : (old new : List ℕ) (us vs : List Unit) (page end : ℕ) → end ≡ page + total us → KeepsUnits old new page us → KeepsUnits old new end vs → KeepsUnits old new page (us ++ vs)
keeps-append old new [] vs page end e k l = let s : end ≡ page = omega arith in subst (λ p. KeepsUnits old new p vs) s l
keeps-append old new (u ∷ us) vs page end e k l = (k.0, keeps-append old new us vs (page + size_of u) end (omega arith) k.1 l)

page_kept : (old new : List ℕ) (q : ℕ) → length new ≡ length old → ((k : ℕ) → 256 * q ≤ k → k < 256 * q + 256 → get_or new k 0 ≡ get_or old k 0) → page_bytes new q ≡ page_bytes old q
page_kept old new q long same = range_same new old (256 * q) (256 * q + 256) long same

head_kept : (old new : List ℕ) (q : ℕ) → length new ≡ length old → 256 * q + 256 ≤ length old → ((k : ℕ) → 256 * q ≤ k → k < 256 * q + 32 → get_or new k 0 ≡ get_or old k 0) → take 32 (page_bytes new q) ≡ take 32 (page_bytes old q)
head_kept old new q long exists same =
    sym (range_in_page new q 0 32 (omega arith) (omega arith) (omega arith)) ∙ range_same new old (256 * q + 0) (256 * q + 32) long (λ k a b. same k (omega arith) (omega arith)) ∙ range_in_page old q 0 32 (omega arith) (omega arith) exists

-- Bytes of one extent that lie behind its header are programmed, and nothing else: the units stay.
pub content_stays : (building : ℕ → Bool) (old new : List ℕ) (front rest : List Unit) (h : Header) → IsTiled building old (front ++ (Extent h ∷ rest)) → length new ≡ length old
    → ((k : ℕ) → k < 256 * total front + 32 ⊎ 256 * (total front + h.max_pages) ≤ k → get_or new k 0 ≡ get_or old k 0)
    → IsTiled building new (front ++ (Extent h ∷ rest))
content_stays building old new front rest h tiled long same =
    let before : KeepRules building old 0 false front = keep_front building old front (Extent h ∷ rest) 0 false tiled.keep in
    let at : KeepRules building old (total front) (ends_free false front) (Extent h ∷ rest) = keep_rest building old front (Extent h ∷ rest) 0 (total front) false (omega arith) tiled.keep in
    let some : 1 ≤ h.max_pages = kept_some building old (total front) (ends_free false front) (Extent h) at.0 at.1 in
    let whole : 256 * (total front + (h.max_pages + total rest)) ≡ length old = ap (λ n. 256 * n) (sym (total-append front (Extent h ∷ rest))) ∙ tiled.whole in
    let fronts : KeepsUnits old new 0 front = keeps_pages building old new front 0 false before (λ q a b. page_kept old new q long (λ k x y. same k (inl (omega arith)))) in
    let here : KeepsUnit old new (total front) (Extent h) = record { head = head_kept old new (total front) long (omega arith) (λ k x y. same k (inl y)); free = λ f. cc } in
    let rests : KeepsUnits old new (total front + h.max_pages) rest = keeps_pages building old new rest (total front + h.max_pages) false at.2 (λ q a b. page_kept old new q long (λ k x y. same k (inr (omega arith)))) in
    record {
      keep = keep_units building old new (front ++ (Extent h ∷ rest)) 0 false long (keeps-append old new front (Extent h ∷ rest) 0 (total front) (omega arith) fronts (here, rests)) tiled.keep;
      whole = tiled.whole ∙ sym long;
    }
