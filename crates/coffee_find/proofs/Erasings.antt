-- A sector that was being erased is found, whichever of its pages was the first that was left.
use Rattle.std.proofs.Common.{◌≡◌, ◌≢◌, inl, ⊎_elim, ℕ, ◌*◌, ◌≤◌, ◌<◌, true, false, List, length, replicate, get_or, ap, sym, subst, ◌∙◌, arith}
use Rattle.std.specs.Prelude.{slice_range}
use Rattle.std.proofs.lemmas.Bool.{cases_eq, cases_lt}
use Rattle.std.proofs.lemmas.List.{get_or-replicate}
use Rattle.afl_base.specs.Image.{page_bytes, zeros_at}
use Rattle.afl_base.proofs.Images.{length_zeros_at}
use Rattle.padded.specs.Zeros.{is_zeros}
use Rattle.padded.proofs.Facts.{true_or_false, yes_no}
use Rattle.coffee_layout.specs.Tiling.{IsTiled, nowhere, units_of}
use Rattle.coffee_layout.proofs.Zeros.{zeros_stop}
use Rattle.coffee_cuts.specs.Cuts.{IsErasing, IsHeadless, IsSettled}
use Rattle.coffee_cuts.proofs.MarkedPages.{page_byte}
use Rattle.coffee_cuts.proofs.SettledRules.{settled_kept}
use Rattle.coffee_cuts.proofs.ZeroPages.{page_zero}
use Rattle.coffee_find.specs.Search.{HasNoFront, IsBlankFrom, LiesInSector, NoneFree}

-- a page that is zero is blank
zero_headless : (image : List ℕ) (page : ℕ) → page_bytes image page ≡ replicate 256 0 → IsHeadless image page
zero_headless image page zero = inl (sym (page_byte image page 9 (omega arith)) ∙ ap (λ xs. get_or xs 9 0) zero ∙ get_or-replicate 256 9 0 0 (omega arith))

module _ (image : List ℕ) (sectors : ℕ) (size : length image ≡ 4096 * sectors) (sector page : ℕ) (e : IsErasing image sector page) (s : IsSettled (zeros_at image (4096 * sector) 4096)) where
  abbrev erased : List ℕ
  erased = zeros_at image (4096 * sector) 4096

  tiled : IsTiled nowhere erased (units_of erased)
  tiled =
      let inside = e.inside in
      let long = length_zeros_at image (4096 * sector) 4096 inside in
      (settled_kept erased (omega (arith, long, size)) s).tiled

  pub has_front : HasNoFront erased sector → ⊥
  has_front none = none tiled page (record { from = e.from; within = e.within }) (record { begins = e.begins; idle = e.idle })

  -- the sector is zero up to the page that is found too, and that is blank
  pub blank_front : (front : ℕ) → LiesInSector sector front → NoneFree erased (16 * sector) front → IsBlankFrom image sector front
  blank_front front lies lowest = ⊎_elim
      (λ (past : page < front). absurd (lowest page e.from past e.begins))
      (λ (low : front ≤ page). record {
        zeros = ⊎_elim
            (λ (all : is_zeros (slice_range image (4096 * sector) (256 * front)) ≡ true). all)
            (λ (some : is_zeros (slice_range image (4096 * sector) (256 * front)) ≡ false).
            let from = lies.from in
            yes_no (is_zeros (slice_range image (4096 * sector) (256 * page))) e.zeros (zeros_stop image (4096 * sector) (256 * front) (256 * page) (omega (arith, from)) (omega (arith, low)) some))
            (true_or_false (is_zeros (slice_range image (4096 * sector) (256 * front))));
        blank = ⊎_elim
            (λ (same : page ≡ front). subst (IsHeadless image) same e.blank)
            (λ (other : page ≢ front).
            let from = lies.from in
            let within = lies.within in
            let inside = e.inside in
            zero_headless image front (page_zero image (4096 * sector) (256 * page) front e.zeros (omega (arith, from)) (omega (arith, low, other)) (omega (arith, within, inside))))
            (cases_eq page front);
      })
      (cases_lt page front)
