-- What was found at a page settles an image as does whatever it mends by there.
use Rattle.std.proofs.Common.{◌≡◌, ◌⊎◌, inl, inr, ℕ, ◌+◌, ◌*◌, ◌/◌, ◌==◌, List, [], ◌∷◌, length, Option, Some, None, if◌then◌else◌, refl, ap, sym, subst, ◌∙◌, arith}
use Rattle.std.specs.Prelude.{IfNone, IfOk, IfSome, Result, Ok, Err}
use Rattle.afl_base.specs.Image.{zeros_at}
use Rattle.afl_base.specs.declared.ids.PageId.{PageId}
use Rattle.afl_base.proofs.Images.{length_or_at}
use Rattle.coffee_header.specs.declared.header.Header.{Header as ExtentHeader}
use Rattle.coffee_layout.specs.Files.{Placed}
use Rattle.coffee_layout.specs.declared.unit.Unit.TheVariants.{Isolated}
use Rattle.coffee_merge.specs.Flags.{flagged}
use Rattle.coffee_cuts.specs.Cuts.{IsActiveAt, IsErasing, IsFound, IsSettled, IsTornHeader, UnderWay as CutWay, Beginning as was_beginning, Building as was_building, Erasing as was_erasing, Naming as was_naming, Nothing as was_nothing, Replacing as was_replacing, Unnamed as was_unnamed, settled}
use Rattle.coffee_cuts.proofs.MarkedPages.{stands_at}
use Rattle.coffee_find.specs.Found.{HasPage, meant}
use Rattle.coffee_find.specs.Guesses.{IsGuess, IsWrong, Means, MendsBy, MissesNoWay, SettlesAs}
use Rattle.coffee_find.specs.Search.{ShowsNoHeader}
use Rattle.coffee_find.specs.declared.finding.Guess.{Guess}
use Rattle.coffee_find.specs.declared.finding.Guess.TheVariants.{Nothing, Header, TornHeader, Erased, Replaced}
use Rattle.coffee_find.specs.declared.trouble.UnderWay.{UnderWay}
use Rattle.coffee_find.specs.declared.trouble.UnderWay.TheVariants.{Beginning}

-- ---- NOTHING

pub misses_nothing : (image : List ℕ) (page : ℕ) (found : UnderWay) → meant found ≡ was_nothing → MissesNoWay image Nothing page (Some found)
misses_nothing image page found is was_nothing g m = ap (settled image) is
misses_nothing image page found is (was_beginning at) g m = let e = g.0 in cc
misses_nothing image page found is (was_building at) g m = let e = g.0 in cc
misses_nothing image page found is (was_erasing sector at) g m = let e = g.0 in cc
misses_nothing image page found is (was_unnamed log) g m = let e = g.0 in cc
misses_nothing image page found is (was_naming at) g m = let e = g.0 in cc
misses_nothing image page found is (was_replacing dropped kept) g m = cc

-- ---- BY A HEADER

-- what is under way where an extent with these flags begins
way_of : (flags page : ℕ) → CutWay
way_of flags page = if flags == 2 then was_building page else (if flags == 3 then was_naming page else was_unnamed page)

record Headed (image : List ℕ) (page : ℕ) (way : CutWay) : Type 0 where
  flags : ℕ
  which : (flags ≡ 2) ⊎ ((flags ≡ 3) ⊎ (flags ≡ 19))
  active : IsActiveAt image page flags
  is : way ≡ way_of flags page

headed : (image : List ℕ) (page : ℕ) (way : CutWay) → IsGuess Header page way → IsFound image way → Headed image page way
unfolding way_of
headed image page was_nothing g f = cc
headed image page (was_beginning at) g f = let e = g.0 in cc
headed image page (was_building at) g f = record { flags = 2; which = inl refl; active = subst (λ p. IsActiveAt image p 2) g.1 f; is = ap was_building g.1 }
headed image page (was_erasing sector at) g f = let e = g.0 in cc
headed image page (was_unnamed log) g f = record { flags = 19; which = inr (inr refl); active = subst (λ p. IsActiveAt image p 19) g.1 f; is = ap was_unnamed g.1 }
headed image page (was_naming at) g f = record { flags = 3; which = inr (inl refl); active = subst (λ p. IsActiveAt image p 3) g.1 f; is = ap was_naming g.1 }
headed image page (was_replacing dropped kept) g f = cc

one_header : (g h : ExtentHeader) → Some g ≡ Some h → g ≡ h
one_header g h e = cc

one_flags : (image : List ℕ) (page m n : ℕ) → IsActiveAt image page m → IsActiveAt image page n → m ≡ n
one_flags image page m n a b =
    sym a.flags_are ∙ ap (λ (h : ExtentHeader). h.flags) (one_header a.header b.header (sym a.there ∙ b.there)) ∙ b.flags_are

same_way : (image : List ℕ) (page : ℕ) (way other : CutWay) → Headed image page way → Headed image page other → way ≡ other
same_way image page way other h k = h.is ∙ ap (λ n. way_of n page) (one_flags image page h.flags k.flags h.active k.active) ∙ sym k.is

pub misses_no_header : {E : Type 0} (image : List ℕ) (page : ℕ) (r : Result (Option UnderWay) E) → IfOk r (λ o. IfSome o (λ u. IsFound image (meant u))) → IfOk r (λ o. IfSome o (λ u. IsGuess Header page (meant u)))
    → IfOk r (λ o. IfNone o (ShowsNoHeader image page)) → IfOk r (MissesNoWay image Header page)
misses_no_header image page (Ok None) found guess none = λ way g m. let h = headed image page way g m.found in none h.flags h.which h.active
misses_no_header image page (Ok (Some u)) found guess none = λ way g m. ap (settled image) (same_way image page (meant u) way (headed image page (meant u) guess found) (headed image page way g m.found))
misses_no_header image page (Err e) found guess none = tt

-- ---- A TORN HEADER

-- which lies inside the flash
torn_inside : (image : List ℕ) (page : ℕ) → IsTornHeader image page → HasPage (length image) page
torn_inside image page t =
    let long = length_or_at image (256 * page + 9) (34 ∷ []) in
    let inside = (stands_at (flagged image page 34) page Isolated t.begins).0 in
    omega (arith, inside, long)

by_torn : (image : List ℕ) (page : PageId) (found : Option UnderWay) → IfSome found (λ u. u ≡ Beginning page) → IfNone found (HasPage (length image) page.0 → IsTornHeader image page.0 → ⊥)
    → (at : ℕ) → at ≡ page.0 → MendsBy image (was_beginning at) → SettlesAs image (was_beginning at) found
by_torn image page None is none at here m = let t = subst (IsTornHeader image) here m.found in none (torn_inside image page.0 t) t
by_torn image page (Some u) is none at here m = ap (λ (v : UnderWay). settled image (meant v)) is ∙ ap (λ p. settled image (was_beginning p)) (sym here)

torn_way : (image : List ℕ) (page : PageId) (found : Option UnderWay) → IfSome found (λ u. u ≡ Beginning page) → IfNone found (HasPage (length image) page.0 → IsTornHeader image page.0 → ⊥)
    → MissesNoWay image TornHeader page.0 found
torn_way image page found is none was_nothing g m = cc
torn_way image page found is none (was_beginning at) g m = by_torn image page found is none at g.1 m
torn_way image page found is none (was_building at) g m = let e = g.0 in cc
torn_way image page found is none (was_erasing sector at) g m = let e = g.0 in cc
torn_way image page found is none (was_unnamed log) g m = let e = g.0 in cc
torn_way image page found is none (was_naming at) g m = let e = g.0 in cc
torn_way image page found is none (was_replacing dropped kept) g m = cc

pub misses_no_torn_header : {E : Type 0} (image : List ℕ) (page : PageId) (r : Result (Option UnderWay) E) → IfOk r (λ o. IfSome o (λ u. u ≡ Beginning page))
    → IfOk r (λ o. IfNone o (HasPage (length image) page.0 → IsTornHeader image page.0 → ⊥)) → IfOk r (MissesNoWay image TornHeader page.0)
misses_no_torn_header image page (Ok o) is none = torn_way image page o is none
misses_no_torn_header image page (Err e) is none = tt

-- ---- A SECTOR

-- what is settled where a sector was being erased
erased_as : (image : List ℕ) (page : ℕ) (way : CutWay) → IsGuess Erased page way → settled image way ≡ zeros_at image (4096 * (page / 16)) 4096
erased_as image page was_nothing g = cc
erased_as image page (was_beginning at) g = let e = g.0 in cc
erased_as image page (was_building at) g = let e = g.0 in cc
erased_as image page (was_erasing sector at) g = ap (λ s. zeros_at image (4096 * s) 4096) g.1
erased_as image page (was_unnamed log) g = let e = g.0 in cc
erased_as image page (was_naming at) g = let e = g.0 in cc
erased_as image page (was_replacing dropped kept) g = cc

-- and the page at which it is left
erased_found : (image : List ℕ) (page : ℕ) (way : CutWay) → IsGuess Erased page way → IsFound image way → (p : ℕ) × IsErasing image (page / 16) p
erased_found image page was_nothing g f = cc
erased_found image page (was_beginning at) g f = let e = g.0 in cc
erased_found image page (was_building at) g f = let e = g.0 in cc
erased_found image page (was_erasing sector at) g f = (at, subst (λ s. IsErasing image s at) g.1 f)
erased_found image page (was_unnamed log) g f = let e = g.0 in cc
erased_found image page (was_naming at) g f = let e = g.0 in cc
erased_found image page (was_replacing dropped kept) g f = cc

pub misses_no_sector : {E : Type 0} (image : List ℕ) (page : ℕ) (r : Result (Option UnderWay) E) → IfOk r (λ o. IfSome o (λ u. IsGuess Erased page (meant u)))
    → IfOk r (λ o. IfNone o ((p : ℕ) → IsErasing image (page / 16) p → IsSettled (zeros_at image (4096 * (page / 16)) 4096) → ⊥)) → IfOk r (MissesNoWay image Erased page)
misses_no_sector image page (Ok None) guess none = λ way g m. let f = erased_found image page way g m.found in none f.0 f.1 (subst IsSettled (erased_as image page way g) m.settles)
misses_no_sector image page (Ok (Some u)) guess none = λ way g m. erased_as image page (meant u) guess ∙ sym (erased_as image page way g)
misses_no_sector image page (Err e) guess none = tt

-- ---- TWO FILES OF ONE NAME

means_settles : (image : List ℕ) (way : CutWay) (found : Option UnderWay) → Means way found → SettlesAs image way found
means_settles image way None e = e
means_settles image way (Some u) e = ap (settled image) e

replaced_way : (image : List ℕ) (page : ℕ) (found : Option UnderWay) → ((dropped kept : Placed) → MendsBy image (was_replacing dropped kept) → Means (was_replacing dropped kept) found) → MissesNoWay image Replaced page found
replaced_way image page found all was_nothing g m = cc
replaced_way image page found all (was_beginning at) g m = let e = g.0 in cc
replaced_way image page found all (was_building at) g m = let e = g.0 in cc
replaced_way image page found all (was_erasing sector at) g m = let e = g.0 in cc
replaced_way image page found all (was_unnamed log) g m = let e = g.0 in cc
replaced_way image page found all (was_naming at) g m = let e = g.0 in cc
replaced_way image page found all (was_replacing dropped kept) g m = means_settles image (was_replacing dropped kept) found (all dropped kept m)

pub misses_no_twins : {E : Type 0} (image : List ℕ) (page : ℕ) (r : Result (Option UnderWay) E)
    → IfOk r (λ o. (dropped kept : Placed) → MendsBy image (was_replacing dropped kept) → Means (was_replacing dropped kept) o) → IfOk r (MissesNoWay image Replaced page)
misses_no_twins image page (Ok o) all = replaced_way image page o all
misses_no_twins image page (Err e) all = tt

-- ---- WHAT DOES NOT SETTLE

pub guess_wrong : {T E : Type 0} (image : List ℕ) (page : ℕ) (guess : Guess) (u : UnderWay) (r : Result (Option T) E) → MissesNoWay image guess page (Some u)
    → IfOk r (λ o. IfNone o (IsSettled (settled image (meant u)) → ⊥)) → IfOk r (λ o. IfNone o (IsWrong image page guess))
guess_wrong image page guess u (Ok None) misses none = λ way g m. none (subst IsSettled (sym (misses way g m)) m.settles)
guess_wrong image page guess u (Ok (Some x)) misses none = tt
guess_wrong image page guess u (Err e) misses none = tt
