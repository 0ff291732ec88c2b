-- A torn record gets bytes that have all its bits, and then its number: as if it had been zero before.
use Rattle.std.proofs.Common.{◌≡◌, inl, ⊎_elim, ℕ, ◌+◌, ◌-◌, ◌*◌, ◌≤◌, ◌<◌, List, length, get_or, bit_or, refl, ap, sym, subst, ◌∙◌, arith}
use Rattle.std.proofs.lemmas.List.{ext_get_or}
use Rattle.afl_base.specs.Fields.{u16_at}
use Rattle.afl_base.specs.Image.{or_at, zeros_at}
use Rattle.afl_base.specs.declared.ids.PageId.{PageId}
use Rattle.afl_base.proofs.Images.{length_or_at, length_zeros_at, or_at_inside, range_at, zeros_at_inside}
use Rattle.coffee_layout.specs.FileBytes.{record_place}
use Rattle.coffee_log.specs.Logs.{IsCutRecord, IsLog, PutsRecord}
use Rattle.coffee_log.proofs.FileCutLaws.{cut_stays, number_cut}
use Rattle.coffee_log.proofs.RecordLaws.{number_place, programs_record}
use Rattle.coffee_cuts.proofs.Superseding.{in_or_out, zeros_beside}
use Rattle.flash_range.specs.Range.{IsCutRange, Outside}
use Rattle.flash_range.proofs.Ranges.{or_on_zero, or_outside}
use Rattle.coffee_mend.specs.Completed.{HasAllBits, record_at}

module _ (image bytes : List ℕ) (place : ℕ) (inside : place + 128 ≤ length image) (long : length bytes ≡ 128) where
  abbrev clear : List ℕ
  clear = zeros_at image place 128

  clear_long : length clear ≡ length image
  clear_long = length_zeros_at image place 128 inside

  module _ (all : HasAllBits bytes (record_at image place)) where
    -- where the bytes are programmed they stand, whether the record was zero or torn
    over : (k : ℕ) → k < 128 → get_or (or_at image place bytes) (place + k) 0 ≡ get_or (or_at clear place bytes) (place + k) 0
    over k few =
        let size = clear_long in
        or_at_inside image place bytes k (omega (arith, inside, few)) (omega (arith, few, long))
        ∙ ap (λ n. bit_or n (get_or bytes k 0)) (sym (range_at image place (place + 128) k (omega (arith, few)))) ∙ all k few
        ∙ sym (or_on_zero clear place bytes k (omega (arith, few, long)) (omega (arith, long, inside, size)) (zeros_at_inside image place 128 (place + k) inside (omega arith) (omega (arith, few))))

    beside : (k : ℕ) → Outside place 128 k → get_or (or_at image place bytes) k 0 ≡ get_or (or_at clear place bytes) k 0
    beside k out =
        or_outside image place bytes k (λ a b. out a (omega (arith, b, long)))
        ∙ sym (or_outside clear place bytes k (λ a b. out a (omega (arith, b, long))) ∙ zeros_beside image place 128 k inside out)

    pub as_zero : or_at image place bytes ≡ or_at clear place bytes
    as_zero =
        ext_get_or 0 (or_at image place bytes) (or_at clear place bytes) (length_or_at image place bytes ∙ sym (length_or_at clear place bytes ∙ clear_long))
        (λ k less. ⊎_elim
        (λ (here : (place ≤ k) × (k < place + 128)).
        let from = here.0 in
        let to = here.1 in
        let back : place + (k - place) ≡ k = omega (arith, from) in
        subst (λ j. get_or (or_at image place bytes) j 0 ≡ get_or (or_at clear place bytes) j 0) back (over (k - place) (omega (arith, from, to))))
        (λ (out : Outside place 128 k). beside k out)
        (in_or_out place 128 k))

module _ (image bytes number : List ℕ) (l : PageId) (used region place number_at : ℕ) (long : length bytes ≡ 128) (two : length number ≡ 2) (is : u16_at number 0 ≡ region + 1) (free : used < 30)
    (fits : 256 * l.0 + 4096 ≤ length image) (here : place ≡ record_place l.0 used) (there : number_at ≡ number_place l.0 used) where
  abbrev base : List ℕ
  base = zeros_at image place 128

  inside : place + 128 ≤ length image
  inside = omega (arith, here, free, fits)

  base_long : length base ≡ length image
  base_long = length_zeros_at image place 128 inside

  -- a cut in the bytes leaves it torn
  pub bytes_cut : (new : List ℕ) → IsCutRange image new place bytes → IsCutRecord base new l used region bytes
  bytes_cut new cut = inl (λ k out.
      let apart : Outside place 128 k = λ a b. out l refl free (omega (arith, a, here)) (omega (arith, b, here)) in
      cut_stays image new place bytes k cut (λ a b. apart a (omega (arith, b, long))) ∙ sym (zeros_beside image place 128 k inside apart))

  module _ (was : IsLog base l.0 used) (all : HasAllBits bytes (record_at image place)) (mid : List ℕ) (first : mid ≡ or_at image place bytes) where
    as_base : mid ≡ or_at base place bytes
    as_base = first ∙ as_zero image bytes place inside long all

    base_fits : 256 * l.0 + 4096 ≤ length base
    base_fits = let size = base_long in omega (arith, fits, size)

    -- a cut in its number leaves it without one, or whole
    pub name_cut : (new : List ℕ) → IsCutRange mid new number_at number → IsCutRecord base new l used region bytes
    name_cut new cut = number_cut base mid new bytes number l used region place number_at as_base cut here there long two is free base_fits was

    pub filled : (new : List ℕ) → new ≡ or_at mid number_at number → PutsRecord base new l.0 used region bytes
    filled new second = programs_record base mid new bytes number l.0 used region place number_at as_base second here there long two is free base_fits was
