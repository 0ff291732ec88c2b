-- Two images that differ in 128 bytes of a log alone: the same units begin in both, and what is found in the one of what was under
-- way is found in the other.
use Rattle.std.proofs.Common.{◌≡◌, ◌≢◌, ◌⊎◌, inl, inr, ⊎_elim, ℕ, zero, suc, ◌+◌, ◌*◌, ◌/◌, ◌<◌, ◌≤◌, Bool, false, List, [], ◌∷◌, length, take, Option, Some, None, refl, ap, sym, subst, ◌∙◌, arith}
use Rattle.std.proofs.lemmas.Bool.{cases_eq, cases_lt}
use Rattle.afl_base.specs.Image.{page_bytes}
use Rattle.afl_base.proofs.Images.{range_in_page, range_same}
use Rattle.coffee_header.specs.declared.header.Header.{Header}
use Rattle.coffee_layout.specs.Tiling.{IsTiled, KeepRules, nowhere, units_from, units_of}
use Rattle.coffee_layout.specs.Units.{is_free, pages_of, size_of, total, unit_at, unit_of}
use Rattle.coffee_layout.specs.declared.unit.Unit.{Unit}
use Rattle.coffee_layout.specs.declared.unit.Unit.TheVariants.{Extent}
use Rattle.coffee_layout.proofs.Tilings.{units_end, units_step}
use Rattle.coffee_merge.specs.Begun.{unit_begun}
use Rattle.coffee_merge.proofs.Begun.{begun_here, begun_order, begun_there, have_pages}
use Rattle.coffee_cuts.proofs.MarkedPages.{AreAlikeAt, ninth, turned_size, units_alike}
use Rattle.coffee_cuts.proofs.Reached.{units_stop}
use Rattle.coffee_mend.specs.Joined.{IsSameBut}

-- a page is none of a log behind its first one
abbrev pub IsOff : (log page : ℕ) → Type 0
IsOff log page = (page ≤ log) ⊎ (log + 16 ≤ page)

-- ---- THE SAME UNITS

module _ (shown image : List ℕ) (place log : ℕ) (but : IsSameBut shown image place) (low : 256 * log + 96 ≤ place) (high : place + 128 ≤ 256 * log + 4096) where
  -- the bytes of a header there are the same
  head_beside : (p k : ℕ) → IsOff log p → 256 * p ≤ k → k < 256 * p + 32 → (k < place) ⊎ (place + 128 ≤ k)
  head_beside p k (inl front) from to = inl (omega (arith, front, to, low))
  head_beside p k (inr behind) from to = inr (omega (arith, behind, from, high))

  pub unit_off : (p : ℕ) → IsOff log p → 256 * p + 256 ≤ length shown → unit_at image p ≡ unit_at shown p
  unit_off p off inside =
      let size = but.size in
      let first : take 32 (page_bytes image p) ≡ take 32 (page_bytes shown p) =
      sym (range_in_page image p 0 32 (omega arith) (omega arith) (omega (arith, inside, size)))
      ∙ range_same image shown (256 * p + 0) (256 * p + 32) size (λ k from to. but.others k (head_beside p k off (omega (arith, from)) to))
      ∙ range_in_page shown p 0 32 (omega arith) (omega arith) inside in
      ap unit_of first

  module _ (tiled_one : List ℕ) (long : length tiled_one ≡ length shown) (alike : (q : ℕ) → AreAlikeAt shown tiled_one q) where
    pages_are : (pages_of image ≡ pages_of tiled_one) × (pages_of shown ≡ pages_of tiled_one)
    pages_are = (ap (λ n. n / 256) (but.size ∙ sym long), ap (λ n. n / 256) (sym long))

    -- a walk over both comes to the same units, where none of those of a tiled image that is alike begins in the log
    walk_same : (us : List Unit) (turns from : ℕ) (free : Bool) → KeepRules nowhere tiled_one from free us → from + total us ≡ pages_of tiled_one
        → ((q : ℕ) (u : Unit) → unit_begun us from q ≡ Some u → IsOff log q) → units_from turns image from ≡ units_from turns shown from
    walk_same [] turns from free k whole off =
        let pages = pages_are in
        let first = pages.0 in
        let second = pages.1 in
        units_end turns image from (omega (arith, whole, first)) ∙ sym (units_end turns shown from (omega (arith, whole, second)))
    walk_same (w ∷ ws) zero from free k whole off = refl
    walk_same (w ∷ ws) (suc n) from free k whole off =
        by_unit (unit_at shown from) refl (walk_same ws n (from + size_of w) (is_free w) k.2 (omega (arith, whole))
        (λ q u b. ⊎_elim
        (λ (here : from ≡ q). subst (IsOff log) here here_off)
        (λ (there : from ≢ q). off q u (begun_there w ws from q there ∙ b))
        (cases_eq from q)))
      where
        here_off : IsOff log from
        here_off = off from w (begun_here w ws from from refl)

        by_unit : (o : Option Unit) → unit_at shown from ≡ o → units_from n image (from + size_of w) ≡ units_from n shown (from + size_of w) → units_from (suc n) image from ≡ units_from (suc n) shown from
        by_unit o is more = ⊎_elim
            (λ (before : from < pages_of shown).
            let pages = pages_are in
            let first = pages.0 in
            let second = pages.1 in
            let inside : 256 * from + 256 ≤ length shown = omega (arith, before) in
            before_end o is more inside (omega (arith, before, first, second)) before)
            (λ (behind : pages_of shown ≤ from).
            let pages = pages_are in
            let first = pages.0 in
            let second = pages.1 in
            units_end (suc n) image from (omega (arith, behind, first, second)) ∙ sym (units_end (suc n) shown from behind))
            (cases_lt from (pages_of shown))
          where
            before_end : (o : Option Unit) → unit_at shown from ≡ o → units_from n image (from + size_of w) ≡ units_from n shown (from + size_of w) → 256 * from + 256 ≤ length shown → from < pages_of image → from < pages_of shown
                → units_from (suc n) image from ≡ units_from (suc n) shown from
            before_end None is more inside first second =
                units_stop n image from first (unit_off from here_off inside ∙ is) ∙ sym (units_stop n shown from second is)
            before_end (Some v) is more inside first second =
                let size : size_of v ≡ size_of w = sym (turned_size v (ninth tiled_one from)) ∙ ap size_of (sym (units_alike shown tiled_one from long (alike from) inside v w is k.0)) in
                let next : units_from n image (from + size_of v) ≡ units_from n shown (from + size_of v) = subst (λ s. units_from n image (from + s) ≡ units_from n shown (from + s)) (sym size) more in
                units_step n image from v first (unit_off from here_off inside ∙ is) ∙ ap (λ us. v ∷ us) next ∙ sym (units_step n shown from v second is)

    pub units_same : IsTiled nowhere tiled_one (units_of tiled_one) → (h : Header) → unit_begun (units_of tiled_one) 0 log ≡ Some (Extent h) → h.max_pages ≡ 16 → units_of image ≡ units_of shown
    unfolding units_of
    units_same tiled h begun sixteen =
        let all = tiled.whole in
        ap (λ n. units_from n image 0) (pages_are.0 ∙ sym pages_are.1)
        ∙ walk_same (units_of tiled_one) (pages_of shown) 0 false tiled.keep (omega (arith, all))
        (λ q u b. ⊎_elim
        (λ (less : log < q). let o = begun_order (units_of tiled_one) log q (Extent h) u (have_pages nowhere tiled_one (units_of tiled_one) tiled) begun b less in inr (omega (arith, o, sixteen)))
        (λ (more : q ≤ log). inl more)
        (cases_lt log q))
