-- An image that may be settled by flags in its headers in two ways: one of them cannot be, or both are one.
use Rattle.std.proofs.Common.{◌≡◌, ◌≢◌, ◌⊎◌, inl, inr, ⊎_elim, ℕ, zero, suc, ◌+◌, ◌*◌, ◌<◌, ◌≤◌, true, ◌||◌, ◌==◌, List, [], ◌∷◌, length, get_or, Option, Some, None, refl, ap, sym, subst, ◌∙◌, arith, bit_or}
use Rattle.std.specs.List.{Contains}
use Rattle.std.proofs.lemmas.Bool.{cases_eq, cases_lt}
use Rattle.afl_base.specs.declared.ids.PageId.{PageId}
use Rattle.afl_base.proofs.Images.{length_or_at}
use Rattle.coffee_header.specs.Headers.{is_flags}
use Rattle.coffee_header.specs.declared.header.Header.{Header}
use Rattle.coffee_layout.specs.Files.{Placed, extents, files_in, is_file, log_of}
use Rattle.coffee_layout.specs.Tiling.{units_from, units_of}
use Rattle.coffee_layout.specs.Units.{pages_of, size_of, unit_at}
use Rattle.coffee_layout.specs.declared.unit.Unit.{Unit}
use Rattle.coffee_layout.specs.declared.unit.Unit.TheVariants.{Extent, Free, Isolated}
use Rattle.coffee_layout.proofs.Tilings.{units_end, units_step}
use Rattle.coffee_merge.specs.Begun.{unit_begun}
use Rattle.coffee_merge.specs.Flags.{flagged}
use Rattle.coffee_merge.specs.Holding.{log_number}
use Rattle.coffee_merge.proofs.Begun.{active_begun, begun_here, begun_there}
use Rattle.coffee_merge.proofs.SoundEntries.{log_back}
use Rattle.coffee_merge.proofs.SoundRules.{file_flags_are}
use Rattle.coffee_merge.proofs.SoundUnits.{Among, filter_among}
use Rattle.coffee_cuts.specs.Cuts.{IsActiveAt, IsOver, IsReplacing}
use Rattle.coffee_cuts.proofs.MarkedPages.{IsMark, IsMarkedAt, across, both_marked, extent_ninth, flagged_marked, flagged_ninth, marked_alike, ninth, other_ninth, same_marked, stands_at}
use Rattle.coffee_cuts.proofs.Reached.{begun_at, units_stop}
use Rattle.coffee_cuts.proofs.SettledRules.{KeepsSettled, begins, file_there, log_there, none_building, none_logged, one_named, some_logged}

-- ---- THE EXTENTS OF A WALK

among_none : (e : Placed) (us : List Unit) (from : ℕ) → us ≡ [] → Among e (extents from us) → ⊥
among_none e us from none a = subst (λ vs. Among e (extents from vs)) none a

-- each extent that a walk lists begins in it, also where the image is not tiled
extents_begun : (turns : ℕ) (image : List ℕ) (from : ℕ) (e : Placed) → Among e (extents from (units_from turns image from)) → unit_begun (units_from turns image from) from e.page ≡ Some (Extent e.header)
extents_begun zero image from e a = absurd a
extents_begun (suc n) image from e a = ⊎_elim
    (λ (before : from < pages_of image). by_unit before (unit_at image from) refl (λ next b. extents_begun n image next e b))
    (λ (behind : pages_of image ≤ from). absurd (among_none e (units_from (suc n) image from) from (units_end (suc n) image from behind) a))
    (cases_lt from (pages_of image))
  where
    later : (v : Unit) → unit_at image from ≡ Some v → unit_begun (units_from n image (from + size_of v)) (from + size_of v) e.page ≡ Some (Extent e.header)
        → unit_begun (v ∷ units_from n image (from + size_of v)) from e.page ≡ Some (Extent e.header)
    later v is b = ⊎_elim
        (λ (here : from ≡ e.page).
        let at = begun_at n image (from + size_of v) e.page (Extent e.header) b in
        begun_here v (units_from n image (from + size_of v)) from e.page here ∙ sym is ∙ ap (unit_at image) here ∙ at.2)
        (λ (there : from ≢ e.page). begun_there v (units_from n image (from + size_of v)) from e.page there ∙ b)
        (cases_eq from e.page)

    first : (v : Unit) → unit_at image from ≡ Some v → ((next : ℕ) → Among e (extents next (units_from n image next)) → unit_begun (units_from n image next) next e.page ≡ Some (Extent e.header))
        → Among e (extents from (v ∷ units_from n image (from + size_of v))) → unit_begun (v ∷ units_from n image (from + size_of v)) from e.page ≡ Some (Extent e.header)
    first Free is rest b = later Free is (rest (from + 1) b)
    first Isolated is rest b = later Isolated is (rest (from + 1) b)
    first (Extent h) is rest (inl s) =
        begun_here (Extent h) (units_from n image (from + h.max_pages)) from e.page (ap (λ (p : Placed). p.page) s) ∙ ap (λ (p : Placed). Some (Extent p.header)) s
    first (Extent h) is rest (inr b) = later (Extent h) is (rest (from + h.max_pages) b)

    by_unit : from < pages_of image → (o : Option Unit) → unit_at image from ≡ o → ((next : ℕ) → Among e (extents next (units_from n image next)) → unit_begun (units_from n image next) next e.page ≡ Some (Extent e.header))
        → unit_begun (units_from (suc n) image from) from e.page ≡ Some (Extent e.header)
    by_unit before None is rest = absurd (among_none e (units_from (suc n) image from) from (units_stop n image from before is) a)
    by_unit before (Some v) is rest =
        let step = units_step n image from v before is in
        ap (λ us. unit_begun us from e.page) step ∙ first v is rest (subst (λ us. Among e (extents from us)) step a)

pub contains_among : (fs : List Placed) (i : ℕ) (f : Placed) → i < length fs → get_or fs i f ≡ f → Among f fs
contains_among [] i f less e = absurd (omega (arith, less))
contains_among (x ∷ xs) zero f less e = inl e
contains_among (x ∷ xs) (suc i) f less e = inr (contains_among xs i f (omega (arith, less)) e)

-- a file of an image begins in it
pub file_begins : (image : List ℕ) (f : Placed) → Contains (files_in (units_of image)) f → begins image f.page f.header × (is_file f ≡ true)
unfolding units_of
file_begins image f c =
    let a = filter_among is_file f (extents 0 (units_of image)) (contains_among (files_in (units_of image)) c.0 f c.1 c.2) in
    (extents_begun (pages_of image) image 0 f a.0, a.1)

-- ---- MARKED IMAGES

pub record IsMarked (old new : List ℕ) : Type 0 where
  pub long : length new ≡ length old
  pub at : (page : ℕ) → IsMarkedAt old new page

not_same : (flag : ℕ) → 1 ≤ flag → ◌≡◌ {A = ℕ} 0 flag → ⊥
not_same flag some e = absurd (omega (arith, some, e))

pub four : IsMark 4
four = record { apart = refl; alone = refl; some = λ e. not_same 4 (omega arith) e; or_none = refl }

pub five : IsMark 5
five = record { apart = refl; alone = refl; some = λ e. not_same 5 (omega arith) e; or_none = refl }

pub eight : IsMark 8
eight = record { apart = refl; alone = refl; some = λ e. not_same 8 (omega arith) e; or_none = refl }

pub itself_marked : (image : List ℕ) → IsMarked image image
itself_marked image = record { long = refl; at = λ page. same_marked image image page refl }

pub once_marked : (image : List ℕ) (page flag : ℕ) → IsMark flag → IsMarked image (flagged image page flag)
once_marked image page flag mark = record { long = length_or_at image (256 * page + 9) (flag ∷ []); at = λ q. flagged_marked image page flag q mark }

-- ---- WHAT CANNOT BE

abbrev pub IsFileFlags : ℕ → Type 0
IsFileFlags n = (n ≡ 3) ⊎ (n ≡ 11)

pub file_test : (n : ℕ) → IsFileFlags n → (n == 3 || n == 11) ≡ true
file_test n (inl a) = ap (λ x. x == 3 || x == 11) a
file_test n (inr a) = ap (λ x. x == 3 || x == 11) a

module _ (image : List ℕ) where
  pub active_ninth : (page flags : ℕ) → (a : IsActiveAt image page flags) → begins image page a.header × (256 * page + 9 < length image) × (ninth image page ≡ flags)
  active_ninth page flags a =
      let b = (active_begun (units_of image) page a.header a.there).0 in
      let at = stands_at image page (Extent a.header) b in
      let inside = at.0 in
      (b, omega (arith, inside), (extent_ninth image page a.header at.1).0 ∙ a.flags_are)

  -- what begins in the image begins in a settled one, with the flags there
  pub turned_begins : (new : List ℕ) → IsMarked image new → KeepsSettled new → (page : ℕ) (h : Header) → begins image page h → begins new page (record h { flags = ninth new page })
  turned_begins new m k page h b = across image new page (Extent h) m.long (λ q. marked_alike image new q (m.at q)) k.tiled b

  -- an extent under construction
  pub no_draft_left : (new : List ℕ) → IsMarked image new → KeepsSettled new → (page : ℕ) → IsActiveAt image page 2 → ninth new page ≡ 2 → ⊥
  no_draft_left new m k page a two =
      none_building new k page (record a.header { flags = ninth new page }) (turned_begins new m k page a.header (active_ninth page 2 a).0) two

  -- a file that was being given its log
  pub no_naming_left : (page : ℕ) → IsActiveAt image page 3 → KeepsSettled (flagged image page 8) → (new : List ℕ) → IsMarked image new → KeepsSettled new → ninth new page ≡ 3 → ⊥
  no_naming_left page a j new m k three =
      let f = active_ninth page 3 a in
      let eleven : ninth (flagged image page 8) page ≡ 11 = flagged_ninth image page 8 f.1 ∙ ap (λ n. bit_or n 8) f.2 in
      let b = turned_begins new m k page a.header f.0 in
      let c = turned_begins (flagged image page 8) (once_marked image page 8 eight) j page a.header f.0 in
      let none : a.header.log_page ≡ 0 = none_logged new k page (record a.header { flags = ninth new page }) b three in
      let some : 1 ≤ a.header.log_page = some_logged (flagged image page 8) j page (record a.header { flags = ninth (flagged image page 8) page }) c eleven in
      absurd (omega (arith, none, some))

  -- a log that no file names
  pub no_unnamed_left : (log : ℕ) → IsActiveAt image log 19 → KeepsSettled (flagged image log 4) → (new : List ℕ) → IsMarked image new → KeepsSettled new → ninth new log ≡ 19 → ((q : ℕ) → ninth new q ≡ 11 → ninth image q ≡ 11) → ⊥
  no_unnamed_left log a j new m k nineteen same =
      let f = active_ninth log 19 a in
      let old : List ℕ = flagged image log 4 in
      let n = once_marked image log 4 four in
      let b = turned_begins new m k log a.header f.0 in
      let r = file_there new k log (record a.header { flags = ninth new log }) b nineteen in
      let page : ℕ = r.0 in
      let g : Header = r.1 in
      let there : begins new page g = r.2 in
      let flags : ninth new page ≡ 11 = (extent_ninth new page g (stands_at new page (Extent g) there).1).0 ∙ r.3 in
      let apart : page ≢ log = λ e. let s : ninth new page ≡ ninth new log = ap (ninth new) e in absurd (omega (arith, s, flags, nineteen)) in
      let eleven : ninth old page ≡ 11 = other_ninth image log 4 page apart ∙ same page flags in
      let c = across new old page (Extent g) (n.long ∙ sym m.long) (λ q. both_marked image new old q (m.at q) (n.at q)) j.tiled there in
      let named : g.log_page ≡ log + 1 = r.4 in
      let l = log_there old j page log (record g { flags = ninth old page }) c (ap (λ x. x == 3 || x == 11) eleven) named in
      let left : ninth old log ≡ 19 = (extent_ninth old log l.0 (stands_at old log (Extent l.0) l.1).1).0 ∙ l.2 in
      let gone : ninth old log ≡ 23 = flagged_ninth image log 4 f.1 ∙ ap (λ x. bit_or x 4) f.2 in
      absurd (omega (arith, left, gone))

  -- two files of one name
  pub no_two_left : (dropped kept : Placed) → IsReplacing image dropped kept → (new : List ℕ) → IsMarked image new → KeepsSettled new → IsFileFlags (ninth new dropped.page) → IsFileFlags (ninth new kept.page) → ⊥
  no_two_left dropped kept r new m k first second =
      let f = file_begins image dropped r.dropped_there in
      let g = file_begins image kept r.kept_there in
      let b = turned_begins new m k dropped.page dropped.header f.0 in
      let c = turned_begins new m k kept.page kept.header g.0 in
      r.apart (one_named new k dropped.page kept.page (record dropped.header { flags = ninth new dropped.page }) (record kept.header { flags = ninth new kept.page }) b c
      (file_test (ninth new dropped.page) first) (file_test (ninth new kept.page) second) r.one_name)

  pub file_ninth : (f : Placed) → Contains (files_in (units_of image)) f → (256 * f.page + 9 < length image) × IsFileFlags (ninth image f.page) × (is_flags (ninth image f.page) ≡ true)
  file_ninth f c =
      let b = file_begins image f c in
      let at = stands_at image f.page (Extent f.header) b.0 in
      let inside = at.0 in
      let n = extent_ninth image f.page f.header at.1 in
      (omega (arith, inside), ⊎_elim (λ (a : f.header.flags ≡ 3). inl (n.0 ∙ a)) (λ (a : f.header.flags ≡ 11). inr (n.0 ∙ a)) (file_flags_are f b.1), n.1)

pub log_page_is : (h : Header) (l : PageId) → log_of h ≡ Some l → h.log_page ≡ l.0 + 1
log_page_is h l is = sym (log_back h) ∙ ap log_number is

-- ---- TWO FILES THAT ARE DROPPED

-- of two extents one is over the other
pub one_over : (f g h k : Placed) → f.page ≡ k.page → f.header.max_pages ≡ k.header.max_pages → h.page ≡ g.page → h.header.max_pages ≡ g.header.max_pages → IsOver f g → IsOver h k → ⊥
one_over f g h k a b c d (inl x) (inl y) = absurd (omega (arith, b, d, x, y))
one_over f g h k a b c d (inl x) (inr y) = let e = y.0 in absurd (omega (arith, b, d, x, e))
one_over f g h k a b c d (inr x) (inl y) = let e = x.0 in absurd (omega (arith, b, d, e, y))
one_over f g h k a b c d (inr x) (inr y) = let less = x.1 in let more = y.1 in absurd (omega (arith, a, c, less, more))

same_placed : (image : List ℕ) (f g : Placed) → Contains (files_in (units_of image)) f → Contains (files_in (units_of image)) g → f.page ≡ g.page → f.header ≡ g.header
same_placed image f g a b same =
    let x = (file_begins image f a).0 in
    let y = (file_begins image g b).0 in
    headers f.header g.header (sym x ∙ ap (unit_begun (units_of image) 0) same ∙ y)
  where
    headers : (h k : Header) → Some (Extent h) ≡ Some (Extent k) → h ≡ k
    headers h k e = cc

-- where another file is dropped, the one that is dropped stays, so that the one which is kept is the other
other_kept : (image : List ℕ) (d k : Placed) (page : ℕ) → IsReplacing image d k → KeepsSettled (flagged image page 4) → d.page ≢ page → k.page ≡ page
other_kept image d k page r s out = ⊎_elim
    (λ (here : k.page ≡ page). here)
    (λ (there : k.page ≢ page). absurd (no_two_left image d k r (flagged image page 4) (once_marked image page 4 four) s
    (subst IsFileFlags (sym (other_ninth image page 4 d.page out)) (file_ninth image d r.dropped_there).1)
    (subst IsFileFlags (sym (other_ninth image page 4 k.page there)) (file_ninth image k r.kept_there).1)))
    (cases_eq k.page page)

-- both settle the image to one
pub one_gone : (image : List ℕ) (d k e l : Placed) → IsReplacing image d k → IsReplacing image e l → KeepsSettled (flagged image d.page 4) → KeepsSettled (flagged image e.page 4) → d.page ≡ e.page
one_gone image d k e l r s first second = ⊎_elim
    (λ (same : d.page ≡ e.page). same)
    (λ (apart : d.page ≢ e.page).
    let here : k.page ≡ e.page = other_kept image d k e.page r second apart in
    let there : l.page ≡ d.page = other_kept image e l d.page s first (λ same. apart (sym same)) in
    let a : k.header ≡ e.header = same_placed image k e r.kept_there s.dropped_there here in
    let b : l.header ≡ d.header = same_placed image l d s.kept_there r.dropped_there there in
    absurd (one_over k d l e here (ap (λ (h : Header). h.max_pages) a) there (ap (λ (h : Header). h.max_pages) b)
    (r.over (ap (λ (h : Header). h.log_page) a ∙ s.no_log)) (s.over (ap (λ (h : Header). h.log_page) b ∙ r.no_log))))
    (cases_eq d.page e.page)
