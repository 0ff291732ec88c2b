-- The rules that an image breaks first where flags are missing in headers: the units tile it.
use Rattle.std.proofs.Common.{◌≡◌, ◌≢◌, ◌⊎◌, inl, inr, ⊎_elim, ℕ, zero, suc, ◌+◌, ◌*◌, ◌/◌, ◌<◌, ◌≤◌, Bool, false, not, ◌&&◌, ◌||◌, ◌==◌, nat_lt, List, [], ◌∷◌, length, drop, Option, Some, None, if◌then◌else◌, refl, ap, sym, subst, ◌∙◌, arith}
use Rattle.std.specs.Option.{option_or}
use Rattle.std.specs.List.{Contains}
use Rattle.std.proofs.lemmas.Bool.{cases_eq}
use Rattle.afl_base.specs.Image.{page_bytes}
use Rattle.coffee_header.specs.declared.header.Header.{Header}
use Rattle.coffee_layout.specs.Files.{Placed, files_in}
use Rattle.coffee_layout.specs.Rules.{broken_files, broken_image, first_page, first_repeated}
use Rattle.coffee_layout.specs.Tiling.{KeepRules, at_place, broken_at, broken_from, broken_suffix, broken_tiling, broken_unit, nowhere, units_from, units_of}
use Rattle.coffee_layout.specs.Units.{is_free, pages_of, size_of, total, unit_at}
use Rattle.coffee_layout.specs.declared.unit.BadImage.{BadImage}
use Rattle.coffee_layout.specs.declared.unit.Unit.{Unit}
use Rattle.coffee_layout.specs.declared.unit.Unit.TheVariants.{Extent}
use Rattle.coffee_layout.proofs.Frames.{unit_at_same}
use Rattle.coffee_layout.proofs.Tests.{eq_false, none_else}
use Rattle.coffee_layout.proofs.Tilings.{kept_inside, kept_some, units_end, units_step}
use Rattle.coffee_merge.specs.Flags.{flagged}
use Rattle.coffee_merge.proofs.SoundEntries.{IsAt, among_at, at_same, one_place}
use Rattle.coffee_merge.proofs.SoundUnits.{Among}
use Rattle.padded.specs.Zeros.{is_zeros}
use Rattle.padded.proofs.Facts.{lt_false}
use Rattle.coffee_cuts.specs.Cuts.{IsReplacing, IsSettled}
use Rattle.coffee_cuts.proofs.MarkedPages.{marked_alike, ninth, other_page, stands_at, units_alike}
use Rattle.coffee_cuts.proofs.SettledRules.{KeepsSettled, settled_kept}
use Rattle.coffee_cuts.proofs.TwoMarks.{IsMarked, contains_among as among_contains, file_begins, four, once_marked}
use Rattle.coffee_cuts.proofs.FirstRules.{broken_same, kept_first}

-- ---- A WALK

-- at a page of the image there stands what keeps the rules that the page of the other image keeps
pub record StandsLike (image : List ℕ) (page : ℕ) (free : Bool) (v : Unit) : Type 0 where
  pub unit : Unit
  pub there : unit_at image page ≡ Some unit
  pub size : size_of unit ≡ size_of v
  pub is_free_too : is_free unit ≡ is_free v
  pub kept : broken_at nowhere image page free ≡ None

pub like_walk : (image new : List ℕ) (us : List Unit) (turns from : ℕ) (free : Bool) → pages_of image ≡ pages_of new
    → ((p : ℕ) (f : Bool) (v : Unit) → p < pages_of image → unit_at new p ≡ Some v → broken_at nowhere new p f ≡ None → StandsLike image p f v)
    → KeepRules nowhere new from free us → from + total us ≡ pages_of image → pages_of image ≤ from + turns → broken_from nowhere image from free (units_from turns image from) ≡ None
like_walk image new [] turns from free long like k whole enough =
    ap (broken_from nowhere image from free) (units_end turns image from (omega (arith, whole))) ∙ rw (lt_false from (pages_of image) (omega (arith, whole))) refl
like_walk image new (v ∷ us) turns from free long like k whole enough = by_turns turns enough
    (λ m fuel f e. like_walk image new us m (from + size_of v) f long like (subst (λ g. KeepRules nowhere new (from + size_of v) g us) (sym e) k.2) (omega (arith, whole)) fuel)
  where
    inner : from < pages_of new
    inner = let some = kept_some nowhere new from free v k.0 k.1 in omega (arith, whole, some, long)

    by_turns : (n : ℕ) → pages_of image ≤ from + n
        → ((m : ℕ) → pages_of image ≤ from + size_of v + m → (f : Bool) → f ≡ is_free v → broken_from nowhere image (from + size_of v) f (units_from m image (from + size_of v)) ≡ None)
        → broken_from nowhere image from free (units_from n image from) ≡ None
    by_turns zero fuel next = let i = inner in absurd (omega (arith, fuel, i, long))
    by_turns (suc m) fuel next =
        let i = inner in
        let low : from < pages_of image = omega (arith, i, long) in
        let s = like from free v low k.0 k.1 in
        let some = (kept_inside nowhere image from free s.unit low s.there s.kept).0 in
        let size : size_of s.unit ≡ size_of v = s.size in
        ap (broken_from nowhere image from free) (units_step m image from s.unit low s.there)
        ∙ kept_first image from free s.unit (units_from m image (from + size_of s.unit)) s.kept
        ∙ ap (λ n. broken_from nowhere image (from + n) (is_free s.unit) (units_from m image (from + n))) size
        ∙ next m (omega (arith, fuel, some, size)) (is_free s.unit) s.is_free_too

-- an extent that is not under construction keeps the rules that one of as many pages keeps
extent_kept : (h g : Header) (a b : Bool) (pages page : ℕ) (f : Bool) → (h.flags ≡ 2 → ⊥) → h.max_pages ≡ g.max_pages → broken_unit false b pages page f (Some (Extent g)) ≡ None
    → broken_unit false a pages page f (Some (Extent h)) ≡ None
extent_kept h g a b pages page f other size kept =
    let rest : (if g.max_pages == 0 || nat_lt pages (page + g.max_pages) then Some 2 else broken_suffix page f) ≡ None =
    (none_else (g.flags == 2 && not false) 1 (if g.max_pages == 0 || nat_lt pages (page + g.max_pages) then Some 2 else broken_suffix page f) kept).1 in
    let two : h.flags == 2 ≡ false = eq_false h.flags 2 other in
    ap (λ t. if t && not false then Some 1 else (if h.max_pages == 0 || nat_lt pages (page + h.max_pages) then Some 2 else broken_suffix page f)) two
    ∙ ap (λ n. if n == 0 || nat_lt pages (page + n) then Some 2 else broken_suffix page f) size
    ∙ rest

-- a page is the same in both images, or an extent begins there that is not under construction
abbrev pub IsKnown : (image new : List ℕ) → ℕ → Type 0
IsKnown image new p = (page_bytes new p ≡ page_bytes image p) ⊎ ((h : Header) × (unit_at image p ≡ Some (Extent h)) × (h.flags ≡ 2 → ⊥))

module _ (image new : List ℕ) (m : IsMarked image new) (k : KeepsSettled new) (known : (p : ℕ) → IsKnown image new p) where
  pages_same : pages_of image ≡ pages_of new
  pages_same = ap (λ n. n / 256) (sym m.long)

  like : (p : ℕ) (f : Bool) (v : Unit) → p < pages_of image → unit_at new p ≡ Some v → broken_at nowhere new p f ≡ None → StandsLike image p f v
  like p f v low is kept = by_known v is (known p)
    where
      inside : 256 * p + 256 ≤ length image
      inside = omega (arith, low)

      turned_extent : (h : Header) (v : Unit) → unit_at image p ≡ Some (Extent h) → (h.flags ≡ 2 → ⊥) → unit_at new p ≡ Some v → v ≡ Extent (record h { flags = ninth new p }) → StandsLike image p f v
      turned_extent h v there other is same = record {
        unit = Extent h;
        there = there;
        size = ap size_of (sym same);
        is_free_too = ap is_free (sym same);
        kept =
            let g : Header = record h { flags = ninth new p } in
            let rule : broken_unit false (is_zeros (page_bytes new p)) (pages_of image) p f (Some (Extent g)) ≡ None =
            ap (λ n. broken_unit false (is_zeros (page_bytes new p)) n p f (Some (Extent g))) pages_same
            ∙ ap (broken_unit false (is_zeros (page_bytes new p)) (pages_of new) p f) (sym (is ∙ ap Some same)) ∙ kept in
            ap (broken_unit false (is_zeros (page_bytes image p)) (pages_of image) p f) there
            ∙ extent_kept h g (is_zeros (page_bytes image p)) (is_zeros (page_bytes new p)) (pages_of image) p f other refl rule;
      }

      by_known : (v : Unit) → unit_at new p ≡ Some v → IsKnown image new p → StandsLike image p f v
      by_known v is (inl same) = record {
        unit = v;
        there = sym (unit_at_same image new p same) ∙ is;
        size = refl;
        is_free_too = refl;
        kept = broken_same image new p f pages_same (sym same) ∙ kept;
      }
      by_known v is (inr x) = turned_extent x.0 v x.1 x.2 is (units_alike image new p m.long (marked_alike image new p (m.at p)) inside (Extent x.0) v x.1 is)

  -- so no rule of 1 to 4 is broken
  pub marked_unbroken : broken_tiling nowhere image ≡ None
  unfolding units_of
  marked_unbroken =
      let same = pages_same in
      let whole = k.tiled.whole in
      like_walk image new (units_from (pages_of new) new 0) (pages_of image) 0 false same like k.tiled.keep (omega (arith, whole, same)) (omega arith)

-- ---- TWO FILES OF ONE NAME

-- the rule 5 or 6 is the first that is broken
pub record BreaksNames (broken : Option BadImage) : Type 0 where
  pub rule : ℕ
  pub place : ℕ
  pub which : (rule ≡ 5) ⊎ (rule ≡ 6)
  pub is : broken ≡ Some (record { rule = rule; place = place })

pub by_five : (o p : Option ℕ) (rest : Option BadImage) → (p ≡ None → ⊥) → BreaksNames (option_or (at_place 5 o) (option_or (at_place 6 p) rest))
by_five None None rest some = absurd (some refl)
by_five None (Some q) rest some = record { rule = 6; place = q; which = inr refl; is = refl }
by_five (Some q) p rest some = record { rule = 5; place = q; which = inl refl; is = refl }

module _ (image : List ℕ) (sectors : ℕ) (size : length image ≡ 4096 * sectors) (dropped kept : Placed) (r : IsReplacing image dropped kept)
    (s : IsSettled (flagged image dropped.page 4)) where
  abbrev gone : List ℕ
  gone = flagged image dropped.page 4

  known_pages : (p : ℕ) → IsKnown image gone p
  known_pages p = ⊎_elim
      (λ (here : p ≡ dropped.page).
      let there = (stands_at image dropped.page (Extent dropped.header) (file_begins image dropped r.dropped_there).0).1 in
      let plain = r.plain in
      inr (dropped.header, ap (unit_at image) here ∙ there, λ two. absurd (omega (arith, plain, two))))
      (λ (other : p ≢ dropped.page). inl (other_page image dropped.page 4 p other))
      (cases_eq p dropped.page)

  unbroken : broken_tiling nowhere image ≡ None
  unbroken =
      let m : IsMarked image gone = once_marked image dropped.page 4 four in
      let long = m.long in
      marked_unbroken image gone m (settled_kept gone (omega (arith, long, size)) s) known_pages

  -- two files of one name are found
  repeated : first_repeated [] (files_in (units_of image)) ≡ None → ⊥
  repeated none =
      let fs : List Placed = files_in (units_of image) in
      let i = among_at fs dropped (contained fs dropped r.dropped_there) in
      let j = among_at fs kept (contained fs kept r.kept_there) in
      let same : i.0 ≡ j.0 = one_place fs i.0 j.0 dropped kept none i.1 j.1 r.one_name in
      r.apart (ap (λ (p : Placed). p.page) (at_same fs j.0 dropped kept (subst (λ n. IsAt fs n dropped) same i.1) j.1))
    where
      contained : (fs : List Placed) (f : Placed) → Contains fs f → Among f fs
      contained fs f c = among_contains fs c.0 f c.1 c.2

  pub replacings_break_names : BreaksNames (broken_image image)
  unfolding broken_image
  replacings_break_names =
      let b = by_five (first_page (drop 32 (files_in (units_of image)))) (first_repeated [] (files_in (units_of image))) _ repeated in
      record { rule = b.rule; place = b.place; which = b.which; is = ap (λ o. option_or o (broken_files image (units_of image))) unbroken ∙ b.is }
