-- An image mends to one list of files: where two things can be found to have been under way, both settle it to the same files.
use Rattle.std.proofs.Common.{◌≡◌, ◌≢◌, ◌⊎◌, inl, inr, ⊎_elim, ℕ, ◌+◌, ◌*◌, ◌/◌, ◌<◌, List, [], ◌∷◌, length, replicate, get_or, Some, refl, ap, sym, subst, ◌∙◌, arith, bit_and, bit_or}
use Rattle.std.specs.Prelude.{⊤}
use Rattle.std.specs.List.{Contains}
use Rattle.std.proofs.lemmas.Bool.{cases_eq, cases_order}
use Rattle.std.proofs.lemmas.List.{get_or-replicate}
use Rattle.afl_base.specs.Image.{page_bytes, zeros_at}
use Rattle.afl_base.proofs.Images.{erased_other_page, length_or_at, length_zeros_at}
use Rattle.coffee_layout.specs.Files.{NamedFile, Placed, files_of}
use Rattle.coffee_layout.specs.Units.{unit_at}
use Rattle.coffee_layout.specs.declared.unit.Unit.TheVariants.{Extent, Isolated}
use Rattle.coffee_layout.specs.declared.file.FileAt.{FileAt}
use Rattle.coffee_merge.specs.Flags.{flagged}
use Rattle.coffee_merge.specs.Holding.{Entries, IsIn}
use Rattle.coffee_merge.specs.TableFiles.{file_of}
use Rattle.coffee_cuts.specs.Cuts.{IsActiveAt, IsErasing, IsFound, IsReplacing, IsSettled, IsTornHeader, MendsTo, UnderWay, Nothing, Beginning, Building, Erasing, Unnamed, Naming, Replacing, settled}
use Rattle.coffee_cuts.specs.Mending.{MendsToTable}
use Rattle.coffee_cuts.proofs.MarkedPages.{flagged_ninth, isolated_ninth, ninth, other_ninth, other_page, page_byte, same_marked, stands_at, thirty_four}
use Rattle.coffee_cuts.proofs.Reached.{no_unit}
use Rattle.coffee_cuts.proofs.SettledRules.{KeepsSettled, settled_kept}
use Rattle.coffee_cuts.proofs.TornBeginnings.{erased_front, erased_nothing, isolated_or_erased, marked_zero, torn_alone, torn_unmarked, torn_unreached}
use Rattle.coffee_cuts.proofs.TwoMarks.{IsFileFlags, IsMarked, active_ninth, eight, file_ninth, five, four, itself_marked, no_draft_left, no_naming_left, no_two_left, no_unnamed_left, once_marked, one_gone}

-- what is settled by flags in headers, or by nothing
abbrev IsByFlags : UnderWay → Type 0
IsByFlags Nothing = ⊤
IsByFlags (Beginning page) = ⊥
IsByFlags (Building page) = ⊤
IsByFlags (Erasing sector page) = ⊥
IsByFlags (Unnamed log) = ⊤
IsByFlags (Naming page) = ⊤
IsByFlags (Replacing dropped kept) = ⊤

-- an isolated page is not zero
isolated_zeros : (image : List ℕ) (page : ℕ) → unit_at image page ≡ Some Isolated → page_bytes image page ≡ replicate 256 0 → ⊥
isolated_zeros image page is zero =
    let none : ninth image page ≡ 0 = sym (page_byte image page 9 (omega arith)) ∙ ap (λ xs. get_or xs 9 0) zero ∙ get_or-replicate 256 9 0 0 (omega arith) in
    thirty_four (bit_and (ninth image page) 34) (bit_and 0 34) (isolated_ninth image page is) refl (ap (λ n. bit_and n 34) none)

module _ (image : List ℕ) (sectors : ℕ) (size : length image ≡ 4096 * sectors) where
  kept : (new : List ℕ) → length new ≡ length image → IsSettled new → KeepsSettled new
  kept new long s = settled_kept new (omega (arith, long, size)) s

  flagged_long : (page flag : ℕ) → length (flagged image page flag) ≡ length image
  flagged_long page flag = length_or_at image (256 * page + 9) (flag ∷ [])

  marked : (w : UnderWay) → IsByFlags w → IsFound image w → IsMarked image (settled image w)
  marked Nothing by f = itself_marked image
  marked (Beginning page) by f = absurd by
  marked (Building page) by f = once_marked image page 5 five
  marked (Erasing sector page) by f = absurd by
  marked (Unnamed log) by f = once_marked image log 4 four
  marked (Naming page) by f = once_marked image page 8 eight
  marked (Replacing dropped kept) by f = once_marked image dropped.page 4 four

  kept_flags : (w : UnderWay) → IsByFlags w → IsFound image w → IsSettled (settled image w) → KeepsSettled (settled image w)
  kept_flags w by f s = kept (settled image w) (marked w by f).long s

  ninth_at : (page flags : ℕ) → IsActiveAt image page flags → ninth image page ≡ flags
  ninth_at page flags a = (active_ninth image page flags a).2

  -- pages of other flags are others
  apart : (p q m n : ℕ) → IsActiveAt image p m → IsActiveAt image q n → m ≢ n → p ≢ q
  apart p q m n a b other e = other (sym (ninth_at p m a) ∙ ap (ninth image) e ∙ ninth_at q n b)

  -- AN EXTENT UNDER CONSTRUCTION

  no_draft : (n : ℕ) → IsFileFlags n → n ≡ 2 → ⊥
  no_draft n (inl e) is = absurd (omega (arith, e, is))
  no_draft n (inr e) is = absurd (omega (arith, e, is))

  draft_left : (p : ℕ) → IsActiveAt image p 2 → (w : UnderWay) → IsByFlags w → IsFound image w → (ninth (settled image w) p ≡ 2) ⊎ (settled image w ≡ flagged image p 5)
  draft_left p a Nothing by f = inl (ninth_at p 2 a)
  draft_left p a (Beginning q) by f = absurd by
  draft_left p a (Building q) by f = ⊎_elim
      (λ (same : q ≡ p). inr (ap (λ x. flagged image x 5) same))
      (λ (other : q ≢ p). inl (other_ninth image q 5 p (λ e. other (sym e)) ∙ ninth_at p 2 a))
      (cases_eq q p)
  draft_left p a (Erasing sector page) by f = absurd by
  draft_left p a (Unnamed log) by f = inl (other_ninth image log 4 p (apart p log 2 19 a f (λ e. absurd (omega (arith, e)))) ∙ ninth_at p 2 a)
  draft_left p a (Naming q) by f = inl (other_ninth image q 8 p (apart p q 2 3 a f (λ e. absurd (omega (arith, e)))) ∙ ninth_at p 2 a)
  draft_left p a (Replacing dropped kept) by f =
      inl (other_ninth image dropped.page 4 p (λ e. no_draft (ninth image dropped.page) (file_ninth image dropped f.dropped_there).1 (ap (ninth image) (sym e) ∙ ninth_at p 2 a)) ∙ ninth_at p 2 a)

  one_draft : (p : ℕ) → IsActiveAt image p 2 → (w : UnderWay) → IsByFlags w → IsFound image w → IsSettled (settled image w) → flagged image p 5 ≡ settled image w
  one_draft p a w by f s = ⊎_elim
      (λ (left : ninth (settled image w) p ≡ 2). absurd (no_draft_left image (settled image w) (marked w by f) (kept_flags w by f s) p a left))
      (λ (same : settled image w ≡ flagged image p 5). sym same)
      (draft_left p a w by f)

  -- WHAT STAYS

  log_no_file : (n : ℕ) → IsFileFlags n → n ≡ 19 → ⊥
  log_no_file n (inl e) is = absurd (omega (arith, e, is))
  log_no_file n (inr e) is = absurd (omega (arith, e, is))

  -- files keep their flags, so two of one name stay
  two_stay : (new : List ℕ) (dropped other : Placed) → IsReplacing image dropped other → IsMarked image new → KeepsSettled new → ((p : ℕ) → IsFileFlags (ninth image p) → ninth new p ≡ ninth image p) → ⊥
  two_stay new dropped other r m k same =
      let a = file_ninth image dropped r.dropped_there in
      let b = file_ninth image other r.kept_there in
      no_two_left image dropped other r new m k (subst IsFileFlags (sym (same dropped.page a.1)) a.1) (subst IsFileFlags (sym (same other.page b.1)) b.1)

  -- A LOG THAT NO FILE NAMES

  one_unnamed : (l : ℕ) → IsActiveAt image l 19 → IsSettled (flagged image l 4) → (w : UnderWay) → IsByFlags w → IsFound image w → IsSettled (settled image w) → flagged image l 4 ≡ settled image w
  one_unnamed l a s Nothing by f z =
      absurd (no_unnamed_left image l a (kept (flagged image l 4) (flagged_long l 4) s) image (itself_marked image) (kept image refl z) (ninth_at l 19 a) (λ q e. e))
  one_unnamed l a s (Beginning q) by f z = absurd by
  one_unnamed l a s (Building q) by f z = sym (one_draft q f (Unnamed l) tt a s)
  one_unnamed l a s (Erasing sector page) by f z = absurd by
  one_unnamed l a s (Unnamed q) by f z = ⊎_elim
      (λ (same : l ≡ q). ap (λ x. flagged image x 4) same)
      (λ (other : l ≢ q).
      let g = active_ninth image q 19 f in
      let gone : ninth (flagged image q 4) q ≡ 23 = flagged_ninth image q 4 g.1 ∙ ap (λ x. bit_or x 4) g.2 in
      absurd (no_unnamed_left image l a (kept (flagged image l 4) (flagged_long l 4) s) (flagged image q 4) (once_marked image q 4 four) (kept (flagged image q 4) (flagged_long q 4) z)
      (other_ninth image q 4 l other ∙ ninth_at l 19 a)
      (λ p e. ⊎_elim
      (λ (here : p ≡ q). let twenty : ninth (flagged image q 4) p ≡ 23 = ap (ninth (flagged image q 4)) here ∙ gone in absurd (omega (arith, twenty, e)))
      (λ (there : p ≢ q). sym (other_ninth image q 4 p there) ∙ e)
      (cases_eq p q))))
      (cases_eq l q)
  one_unnamed l a s (Naming q) by f z =
      absurd (no_naming_left image q f (kept (flagged image q 8) (flagged_long q 8) z) (flagged image l 4) (once_marked image l 4 four) (kept (flagged image l 4) (flagged_long l 4) s)
      (other_ninth image l 4 q (apart q l 3 19 f a (λ e. absurd (omega (arith, e)))) ∙ ninth_at q 3 f))
  one_unnamed l a s (Replacing dropped other) by f z = absurd (two_stay (flagged image l 4) dropped other f (once_marked image l 4 four) (kept (flagged image l 4) (flagged_long l 4) s)
      (λ p flags. other_ninth image l 4 p (λ e. log_no_file (ninth image p) flags (ap (ninth image) e ∙ ninth_at l 19 a))))

  -- A FILE THAT WAS BEING GIVEN ITS LOG

  named_flags : (n : ℕ) → IsFileFlags n → IsFileFlags (bit_or n 8)
  named_flags n (inl e) = inr (ap (λ x. bit_or x 8) e)
  named_flags n (inr e) = inr (ap (λ x. bit_or x 8) e)

  named_file_flags : (q p : ℕ) → 256 * q + 9 < length image → IsFileFlags (ninth image p) → IsFileFlags (ninth (flagged image q 8) p)
  named_file_flags q p inside flags = ⊎_elim
      (λ (here : p ≡ q). subst (λ x. IsFileFlags (ninth (flagged image q 8) x)) (sym here) (subst IsFileFlags (sym (flagged_ninth image q 8 inside)) (named_flags (ninth image q) (subst (λ x. IsFileFlags (ninth image x)) here flags))))
      (λ (there : p ≢ q). subst IsFileFlags (sym (other_ninth image q 8 p there)) flags)
      (cases_eq p q)

  one_naming : (q : ℕ) → IsActiveAt image q 3 → IsSettled (flagged image q 8) → (w : UnderWay) → IsByFlags w → IsFound image w → IsSettled (settled image w) → flagged image q 8 ≡ settled image w
  one_naming q a s Nothing by f z =
      absurd (no_naming_left image q a (kept (flagged image q 8) (flagged_long q 8) s) image (itself_marked image) (kept image refl z) (ninth_at q 3 a))
  one_naming q a s (Beginning p) by f z = absurd by
  one_naming q a s (Building p) by f z = sym (one_draft p f (Naming q) tt a s)
  one_naming q a s (Erasing sector page) by f z = absurd by
  one_naming q a s (Unnamed l) by f z = sym (one_unnamed l f z (Naming q) tt a s)
  one_naming q a s (Naming p) by f z = ⊎_elim
      (λ (same : q ≡ p). ap (λ x. flagged image x 8) same)
      (λ (other : q ≢ p). absurd (no_naming_left image q a (kept (flagged image q 8) (flagged_long q 8) s) (flagged image p 8) (once_marked image p 8 eight) (kept (flagged image p 8) (flagged_long p 8) z)
      (other_ninth image p 8 q other ∙ ninth_at q 3 a)))
      (cases_eq q p)
  one_naming q a s (Replacing dropped other) by f z =
      let g = active_ninth image q 3 a in
      let first = file_ninth image dropped f.dropped_there in
      let second = file_ninth image other f.kept_there in
      absurd (no_two_left image dropped other f (flagged image q 8) (once_marked image q 8 eight) (kept (flagged image q 8) (flagged_long q 8) s)
      (named_file_flags q dropped.page g.1 first.1) (named_file_flags q other.page g.1 second.1))

  -- A FILE IN TWO EXTENTS

  one_replacing : (dropped other : Placed) → IsReplacing image dropped other → IsSettled (flagged image dropped.page 4) → (w : UnderWay) → IsByFlags w → IsFound image w → IsSettled (settled image w) → flagged image dropped.page 4 ≡ settled image w
  one_replacing dropped other r s Nothing by f z = absurd (two_stay image dropped other r (itself_marked image) (kept image refl z) (λ p flags. refl))
  one_replacing dropped other r s (Beginning p) by f z = absurd by
  one_replacing dropped other r s (Building p) by f z = sym (one_draft p f (Replacing dropped other) tt r s)
  one_replacing dropped other r s (Erasing sector page) by f z = absurd by
  one_replacing dropped other r s (Unnamed l) by f z = sym (one_unnamed l f z (Replacing dropped other) tt r s)
  one_replacing dropped other r s (Naming q) by f z = sym (one_naming q f z (Replacing dropped other) tt r s)
  one_replacing dropped other r s (Replacing gone stays) by f z = ap (λ p. flagged image p 4)
      (one_gone image dropped other gone stays r f (kept (flagged image dropped.page 4) (flagged_long dropped.page 4) s) (kept (flagged image gone.page 4) (flagged_long gone.page 4) z))

  one_nothing : IsSettled image → (w : UnderWay) → IsByFlags w → IsFound image w → IsSettled (settled image w) → image ≡ settled image w
  one_nothing s Nothing by f z = refl
  one_nothing s (Beginning p) by f z = absurd by
  one_nothing s (Building p) by f z = sym (one_draft p f Nothing tt tt s)
  one_nothing s (Erasing sector page) by f z = absurd by
  one_nothing s (Unnamed l) by f z = sym (one_unnamed l f z Nothing tt tt s)
  one_nothing s (Naming q) by f z = sym (one_naming q f z Nothing tt tt s)
  one_nothing s (Replacing dropped other) by f z = sym (one_replacing dropped other f z Nothing tt tt s)

  -- A HEADER THAT IS TORN

  torn_flags : (page : ℕ) → IsTornHeader image page → IsSettled (flagged image page 34) → (w : UnderWay) → IsByFlags w → IsFound image w → IsSettled (settled image w) → ⊥
  torn_flags page t s w by f z = by_page w by f (torn_unmarked image page t (settled image w) (marked w by f) (kept_flags w by f z).tiled)
    where
      not_torn : (p flags : ℕ) → IsActiveAt image p flags → page ≢ p
      not_torn p flags a e =
          let b = (active_ninth image p flags a).0 in
          no_unit (Extent a.header) (sym t.torn ∙ ap (unit_at image) e ∙ (stands_at image p (Extent a.header) b).1)

      by_page : (w : UnderWay) → IsByFlags w → IsFound image w → (page_bytes (settled image w) page ≡ page_bytes image page → ⊥) → ⊥
      by_page Nothing by f none = none refl
      by_page (Beginning p) by f none = absurd by
      by_page (Building p) by f none = none (other_page image p 5 page (not_torn p 2 f))
      by_page (Erasing sector p) by f none = absurd by
      by_page (Unnamed l) by f none = none (other_page image l 4 page (not_torn l 19 f))
      by_page (Naming p) by f none = none (other_page image p 8 page (not_torn p 3 f))
      by_page (Replacing dropped other) by f none = torn_alone image page t (kept (flagged image page 34) (flagged_long page 34) s) dropped other f

  below_torn : (page other : ℕ) → IsTornHeader image page → IsSettled (flagged image other 34) → page < other → ⊥
  below_torn page other t s less =
      torn_unreached image page t (flagged image other 34) (flagged_long other 34) (kept (flagged image other 34) (flagged_long other 34) s).tiled
      (λ p low. other_page image other 34 p (λ e. absurd (omega (arith, e, low, less))))

  one_torn : (page other : ℕ) → IsTornHeader image page → IsTornHeader image other → IsSettled (flagged image page 34) → IsSettled (flagged image other 34) → flagged image page 34 ≡ flagged image other 34
  one_torn page other t u s z = ⊎_elim
      (λ (same : page ≡ other). ap (λ x. flagged image x 34) same)
      (λ (order : (page < other) ⊎ (other < page)). ⊎_elim
      (λ (less : page < other). absurd (below_torn page other t z less))
      (λ (less : other < page). absurd (below_torn other page u s less))
      order)
      (cases_order page other)

  -- A SECTOR

  abbrev cleared : ℕ → List ℕ
  cleared sector = zeros_at image (4096 * sector) 4096

  cleared_long : (sector page : ℕ) → IsErasing image sector page → length (cleared sector) ≡ length image
  cleared_long sector page e = length_zeros_at image (4096 * sector) 4096 e.inside

  erased_flags : (sector page : ℕ) → IsErasing image sector page → (w : UnderWay) → IsByFlags w → IsFound image w → IsSettled (settled image w) → cleared sector ≡ image
  erased_flags sector page e w by f z =
      let m = marked w by f in
      let inside = e.inside in
      erased_nothing image sectors size sector page e (settled image w) m.long (kept_flags w by f z).tiled (λ p low. m.at p)
      (λ p here zero. marked_zero image (settled image w) p (omega (arith, here, inside)) (m.at p) zero)

  same_flags : (sector page : ℕ) → IsErasing image sector page → IsSettled (cleared sector) → (w : UnderWay) → IsByFlags w → IsFound image w → IsSettled (settled image w) → cleared sector ≡ settled image w
  same_flags sector page e s w by f z =
      let same = erased_flags sector page e w by f z in
      same ∙ one_nothing (subst IsSettled same s) w by f z

  -- the one in front erases nothing
  erased_first : (sector page other behind : ℕ) → IsErasing image sector page → IsErasing image other behind → IsSettled (cleared sector) → IsSettled (cleared other) → sector < other → cleared sector ≡ cleared other
  erased_first sector page other behind e f s z less =
      let within = e.within in
      let inside = f.inside in
      let long = cleared_long other behind f in
      let k = kept (cleared other) long z in
      let front : (p : ℕ) → p / 16 < other → page_bytes (cleared other) p ≡ page_bytes image p = λ p low. erased_other_page image other p inside (λ h. absurd (omega (arith, h, low))) in
      let same : cleared sector ≡ image = erased_nothing image sectors size sector page e (cleared other) long k.tiled
      (λ p low. same_marked image (cleared other) p (front p (omega (arith, low, within, less))))
      (λ p here zero. sym (front p (omega (arith, here, less))) ∙ zero) in
      same ∙ sym (erased_flags other behind f Nothing tt tt (subst IsSettled same s))

  one_erased : (sector page other behind : ℕ) → IsErasing image sector page → IsErasing image other behind → IsSettled (cleared sector) → IsSettled (cleared other) → cleared sector ≡ cleared other
  one_erased sector page other behind e f s z = ⊎_elim
      (λ (same : sector ≡ other). ap cleared same)
      (λ (order : (sector < other) ⊎ (other < sector)). ⊎_elim
      (λ (less : sector < other). erased_first sector page other behind e f s z less)
      (λ (less : other < sector). sym (erased_first other behind sector page f e z s less))
      order)
      (cases_order sector other)

  -- a sector and a torn header: the header stands at the page, and both leave the same files
  erased_torn : (sector page torn : ℕ) → IsErasing image sector page → IsTornHeader image torn → IsSettled (cleared sector) → IsSettled (flagged image torn 34) → files_of (cleared sector) ≡ files_of (flagged image torn 34)
  erased_torn sector page torn e t s z = ⊎_elim
      (λ (same : torn ≡ page). sym (isolated_or_erased image sector torn (subst (IsErasing image sector) (sym same) e) t (kept (cleared sector) (cleared_long sector page e) s)))
      (λ (order : (torn < page) ⊎ (page < torn)). ⊎_elim
      (λ (less : torn < page). absurd (torn_unreached image torn t (cleared sector) (cleared_long sector page e) (kept (cleared sector) (cleared_long sector page e) s).tiled
      (λ p low. erased_front image sectors size sector page e p (omega (arith, low, less)))))
      (λ (less : page < torn).
      let k = kept (flagged image torn 34) (flagged_long torn 34) z in
      let isolated = stands_at (flagged image torn 34) torn Isolated t.begins in
      let same : cleared sector ≡ image = erased_nothing image sectors size sector page e (flagged image torn 34) (flagged_long torn 34) k.tiled
      (λ p low. same_marked image (flagged image torn 34) p (other_page image torn 34 p (λ h. absurd (omega (arith, h, low, less)))))
      (λ p here zero. ⊎_elim
      (λ (at : p ≡ torn). absurd (isolated_zeros (flagged image torn 34) torn isolated.1 (subst (λ x. page_bytes (flagged image torn 34) x ≡ replicate 256 0) at zero)))
      (λ (out : p ≢ torn). sym (other_page image torn 34 p out) ∙ zero)
      (cases_eq p torn)) in
      absurd (torn_flags torn t z Nothing tt tt (subst IsSettled same s)))
      order)
      (cases_order torn page)

  -- IN EACH CASE

  of_flags : (v : UnderWay) → IsByFlags v → ((w : UnderWay) → IsByFlags w → IsFound image w → IsSettled (settled image w) → settled image v ≡ settled image w) → IsFound image v → IsSettled (settled image v)
      → (w : UnderWay) → IsFound image w → IsSettled (settled image w) → files_of (settled image v) ≡ files_of (settled image w)
  of_flags v by same f s Nothing g z = ap files_of (same Nothing tt g z)
  of_flags v by same f s (Beginning page) g z = absurd (torn_flags page g z v by f s)
  of_flags v by same f s (Building page) g z = ap files_of (same (Building page) tt g z)
  of_flags v by same f s (Erasing sector page) g z = ap files_of (sym (same_flags sector page g z v by f s))
  of_flags v by same f s (Unnamed log) g z = ap files_of (same (Unnamed log) tt g z)
  of_flags v by same f s (Naming page) g z = ap files_of (same (Naming page) tt g z)
  of_flags v by same f s (Replacing dropped other) g z = ap files_of (same (Replacing dropped other) tt g z)

  of_torn : (page : ℕ) → IsTornHeader image page → IsSettled (flagged image page 34) → (w : UnderWay) → IsFound image w → IsSettled (settled image w) → files_of (flagged image page 34) ≡ files_of (settled image w)
  of_torn page t s Nothing g z = absurd (torn_flags page t s Nothing tt g z)
  of_torn page t s (Beginning other) g z = ap files_of (one_torn page other t g s z)
  of_torn page t s (Building p) g z = absurd (torn_flags page t s (Building p) tt g z)
  of_torn page t s (Erasing sector p) g z = sym (erased_torn sector p page g t z s)
  of_torn page t s (Unnamed log) g z = absurd (torn_flags page t s (Unnamed log) tt g z)
  of_torn page t s (Naming p) g z = absurd (torn_flags page t s (Naming p) tt g z)
  of_torn page t s (Replacing dropped other) g z = absurd (torn_flags page t s (Replacing dropped other) tt g z)

  of_erased : (sector page : ℕ) → IsErasing image sector page → IsSettled (cleared sector) → (w : UnderWay) → IsFound image w → IsSettled (settled image w) → files_of (cleared sector) ≡ files_of (settled image w)
  of_erased sector page e s Nothing g z = ap files_of (same_flags sector page e s Nothing tt g z)
  of_erased sector page e s (Beginning torn) g z = erased_torn sector page torn e g s z
  of_erased sector page e s (Building p) g z = ap files_of (same_flags sector page e s (Building p) tt g z)
  of_erased sector page e s (Erasing other behind) g z = ap files_of (one_erased sector page other behind e g s z)
  of_erased sector page e s (Unnamed log) g z = ap files_of (same_flags sector page e s (Unnamed log) tt g z)
  of_erased sector page e s (Naming p) g z = ap files_of (same_flags sector page e s (Naming p) tt g z)
  of_erased sector page e s (Replacing dropped other) g z = ap files_of (same_flags sector page e s (Replacing dropped other) tt g z)

  same_files : (v w : UnderWay) → IsFound image v → IsSettled (settled image v) → IsFound image w → IsSettled (settled image w) → files_of (settled image v) ≡ files_of (settled image w)
  same_files Nothing w f s g z = of_flags Nothing tt (one_nothing s) f s w g z
  same_files (Beginning page) w f s g z = of_torn page f s w g z
  same_files (Building page) w f s g z = of_flags (Building page) tt (one_draft page f) f s w g z
  same_files (Erasing sector page) w f s g z = of_erased sector page f s w g z
  same_files (Unnamed log) w f s g z = of_flags (Unnamed log) tt (one_unnamed log f s) f s w g z
  same_files (Naming page) w f s g z = of_flags (Naming page) tt (one_naming page f s) f s w g z
  same_files (Replacing dropped other) w f s g z = of_flags (Replacing dropped other) tt (one_replacing dropped other f s) f s w g z

-- an image of whole sectors mends to one list of files
pub one_list : (image : List ℕ) (files others : List NamedFile) (sectors : ℕ) → length image ≡ 4096 * sectors → MendsTo image files → MendsTo image others → files ≡ others
one_list image files others sectors size m n =
    m.files_are ∙ same_files image sectors size m.under_way n.under_way m.found m.settles n.found n.settles ∙ sym n.files_are

-- and so to the files of one table
pub one_table : (image first second : List ℕ) (table other : Entries) (sectors : ℕ) → length image ≡ 4096 * sectors → MendsToTable image first table → MendsToTable image second other
    → (i : ℕ) (e : FileAt) → IsIn table i e → (k : ℕ) × (f : FileAt) × IsIn other k f × (file_of first e ≡ file_of second f)
one_table image first second table other sectors size m n i e is =
    n.only (file_of first e) (subst (λ fs. Contains fs (file_of first e)) (one_list image m.files n.files sectors size m.mends n.mends) (m.each i e is))
