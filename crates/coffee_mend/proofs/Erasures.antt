-- A sector that was being erased, whose erase broke off again.
use Rattle.std.proofs.Common.{◌≡◌, inl, inr, ⊎_elim, ℕ, ◌+◌, ◌-◌, ◌*◌, ◌<◌, ◌≤◌, true, List, length, take, get_or, Some, subst, sym, ◌∙◌, arith}
use Rattle.std.specs.Prelude.{slice_range}
use Rattle.std.proofs.lemmas.Bool.{cases_lt}
use Rattle.std.proofs.lemmas.List.{ext_get_or, get_or-take, length-take}
use Rattle.afl_base.specs.Image.{page_bytes, zeros_at}
use Rattle.afl_base.proofs.Images.{length_range, length_zeros_at, range_at, zeros_at_before, zeros_at_behind, zeros_at_inside}
use Rattle.coffee_layout.specs.Tiling.{units_of}
use Rattle.coffee_layout.specs.declared.unit.Unit.TheVariants.{Free}
use Rattle.coffee_merge.specs.Begun.{unit_begun}
use Rattle.coffee_cuts.specs.Cuts.{IsErasing, IsHeadless, IsIdle}
use Rattle.coffee_cuts.proofs.ZeroedHeads.{IsZeroed, zeroed_extent}
use Rattle.padded.specs.Zeros.{is_zeros}
use Rattle.coffee_merge.proofs.Beginning.{zero_at as zeros_in}
use Rattle.coffee_cuts.proofs.ZeroPages.{zeros_from as zeros_all}

module _ (old : List ℕ) (at n : ℕ) (fits : at + 4096 ≤ length old) (few : n ≤ 4096) where
  size : length (zeros_at old at n) ≡ length old
  size = length_zeros_at old at n (omega (arith, fits, few))

  -- a byte that was zero is zero
  stays_zero : (k : ℕ) → get_or old k 0 ≡ 0 → get_or (zeros_at old at n) k 0 ≡ 0
  stays_zero k none = ⊎_elim
      (λ (l : k < at). zeros_at_before old at n k (omega (arith, fits, few)) l ∙ none)
      (λ (l : at ≤ k). ⊎_elim
      (λ (m : k < at + n). zeros_at_inside old at n k (omega (arith, fits, few)) l m)
      (λ (m : at + n ≤ k). zeros_at_behind old at n k (omega (arith, fits, few)) m ∙ none)
      (cases_lt k (at + n)))
      (cases_lt k at)

  -- erased as a whole the sector is the same
  pub whole_same : zeros_at (zeros_at old at n) at 4096 ≡ zeros_at old at 4096
  whole_same =
      let inside : at + 4096 ≤ length (zeros_at old at n) = omega (arith, fits, size) in
      let long = length_zeros_at (zeros_at old at n) at 4096 inside in
      ext_get_or 0 (zeros_at (zeros_at old at n) at 4096) (zeros_at old at 4096) (long ∙ size ∙ sym (length_zeros_at old at 4096 fits)) (λ k h. ⊎_elim
      (λ (l : k < at). zeros_at_before (zeros_at old at n) at 4096 k inside l ∙ zeros_at_before old at n k (omega (arith, fits, few)) l ∙ sym (zeros_at_before old at 4096 k fits l))
      (λ (l : at ≤ k). ⊎_elim
      (λ (m : k < at + 4096). zeros_at_inside (zeros_at old at n) at 4096 k inside l m ∙ sym (zeros_at_inside old at 4096 k fits l m))
      (λ (m : at + 4096 ≤ k). zeros_at_behind (zeros_at old at n) at 4096 k inside m ∙ zeros_at_behind old at n k (omega (arith, fits, few)) (omega (arith, m, few)) ∙ sym (zeros_at_behind old at 4096 k fits m))
      (cases_lt k (at + 4096)))
      (cases_lt k at))

module _ (old : List ℕ) (sector page n : ℕ) (e : IsErasing old sector page) (few : n ≤ 4096) where
  new : List ℕ
  new = zeros_at old (4096 * sector) n

  -- the part in front of the page is zero
  front : is_zeros (slice_range (zeros_at old (4096 * sector) n) (4096 * sector) (256 * page)) ≡ true
  front =
      let inside = e.inside in
      let within = e.within in
      let end : 256 * page ≤ length old = omega (arith, inside, within) in
      let long = length_range (zeros_at old (4096 * sector) n) (4096 * sector) (256 * page) (omega (arith, end, size old (4096 * sector) n inside few)) in
      zeros_all (slice_range (zeros_at old (4096 * sector) n) (4096 * sector) (256 * page)) (λ k less.
      range_at (zeros_at old (4096 * sector) n) (4096 * sector) (256 * page) k (omega (arith, less, long))
      ∙ stays_zero old (4096 * sector) n inside few (4096 * sector + k)
      (sym (range_at old (4096 * sector) (256 * page) k (omega (arith, less, long))) ∙ zeros_in (slice_range old (4096 * sector) (256 * page)) k e.zeros))

  -- of a header without pages there is still one, or its flags are zero
  headless : IsHeadless old page → IsHeadless (zeros_at old (4096 * sector) n) page
  headless (inl nine) = inl (stays_zero old (4096 * sector) n e.inside few (256 * page + 9) nine)
  headless (inr h) =
      let inside = e.inside in
      let within = e.within in
      let from = e.from in
      ⊎_elim
      (λ (gone : 256 * page + 9 < 4096 * sector + n). inl (zeros_at_inside old (4096 * sector) n (256 * page + 9) (omega (arith, inside, few)) (omega (arith, from)) gone))
      (λ (there : 4096 * sector + n ≤ 256 * page + 9).
      let r : ℕ = 4096 * sector + n - 256 * page in
      let exists : 256 * page + 256 ≤ length old = omega (arith, inside, within) in
      let exists_new : 256 * page + 256 ≤ length (zeros_at old (4096 * sector) n) = omega (arith, exists, size old (4096 * sector) n inside few) in
      let byte : (image : List ℕ) (k : ℕ) → k < 32 → get_or (take 32 (page_bytes image page)) k 0 ≡ get_or image (256 * page + k) 0 =
      λ image k less. get_or-take 32 (page_bytes image page) k 0 less ∙ range_at image (256 * page) (256 * page + 256) k (omega (arith, less)) in
      let z : IsZeroed (take 32 (page_bytes old page)) (take 32 (page_bytes (zeros_at old (4096 * sector) n) page)) (4096 * sector + n - 256 * page) = record {
        long_old = omega (arith, length-take 32 (page_bytes old page), length_range old (256 * page) (256 * page + 256) exists);
        long_new = omega (arith, length-take 32 (page_bytes (zeros_at old (4096 * sector) n) page), length_range (zeros_at old (4096 * sector) n) (256 * page) (256 * page + 256) exists_new);
        gone = λ k less low. byte (zeros_at old (4096 * sector) n) k less ∙ zeros_at_inside old (4096 * sector) n (256 * page + k) (omega (arith, inside, few)) (omega (arith, from)) (omega (arith, low));
        same = λ k less low. byte (zeros_at old (4096 * sector) n) k less ∙ zeros_at_behind old (4096 * sector) n (256 * page + k) (omega (arith, inside, few)) (omega (arith, low)) ∙ sym (byte old k less);
      } in
      let head = zeroed_extent (take 32 (page_bytes old page)) (take 32 (page_bytes (zeros_at old (4096 * sector) n) page)) (4096 * sector + n - 256 * page) h.0 (omega (arith, there)) z h.1 in
      let none : h.0.max_pages ≡ 0 = h.2 in
      inr (
        head.header,
        head.there,
        ⊎_elim
            (λ (all : head.header.max_pages ≡ h.0.max_pages). all ∙ none)
            (λ other. ⊎_elim (λ (zero : head.header.max_pages ≡ 0). zero) (λ part. let less = part.1 in absurd (omega (arith, less, none))) other)
            head.pages,
      ))
      (cases_lt (256 * page + 9) (4096 * sector + n))

  pub erasing_again : IsErasing (zeros_at old (4096 * sector) n) sector page
  erasing_again =
      let inside = e.inside in
      let same = sym (whole_same old (4096 * sector) n inside few) in
      record {
        inside = omega (arith, inside, size old (4096 * sector) n inside few);
        from = e.from;
        within = e.within;
        zeros = front;
        blank = headless e.blank;
        begins = subst (λ i. unit_begun (units_of i) 0 page ≡ Some Free) same e.begins;
        idle = subst (λ i. IsIdle (units_of i) sector) same e.idle;
      }
