-- The first number behind another that is one modulo a base.
use Rattle.std.proofs.Common.{◌≡◌, ◌⊎◌, inl, inr, ⊎_elim, refl, sym, ap, ◌∙◌, ℕ, suc, ◌+◌, ◌-◌, ◌*◌, ◌/◌, ◌%◌, ◌<◌, ◌≤◌, ℤ, pos, negsuc, ◌+ℤ◌, ◌-ℤ◌, ◌≤ℤ◌, Option, Some, None, subst, SFits, w64, of_z, to_z, ◌^◌, arith}
use Rattle.std.specs.Prelude.{IfNone, IfSome, SomeIff, nat_abs}
use Rattle.std.specs.Int.{int_rem_euclid}
use Rattle.std.proofs.lemmas.Bool.{cases_lt}
use Rattle.std.proofs.lemmas.Int.{ints, int_rem_euclid_is, to_z-of_z, to_z_pos}
use Rattle.std.proofs.lemmas.Nat.{mod-mul-add, div-add-mod'}
use Rattle.std.proofs.Math.Nat.{mul-le-mul_left}
use Rattle.stored_mend.specs.Filled.{IsAlike, IsLeast}

-- a number and some multiple of the base are a natural number
record IsShifted (z : ℤ) (base : ℕ) : Type 0 where
  times : ℕ
  sum : ℕ
  is : z +ℤ pos (times * base) ≡ pos sum

shifted : (z : ℤ) (base : ℕ) → 0 < base → IsShifted z base
shifted (pos a) base some = record { times = 0; sum = a; is = omega (arith, ints) }
shifted (negsuc a) base some =
    let more : suc a ≤ suc a * base = omega (arith, mul-le-mul_left {m = 1} {n = base} (suc a) some) in
    record { times = suc a; sum = suc a * base - suc a; is = omega (arith, ints, more) }

module _ (before : ℤ) (base here : ℕ) (some : 0 < base) (rest : int_rem_euclid before (pos base) ≡ pos here) where
  -- what is left of a number that stands so far behind
  behind : (d low : ℕ) (turn : ℕ) → low < base → here + d ≡ low + turn * base → int_rem_euclid (before +ℤ pos d) (pos base) ≡ pos low
  behind d low turn less is =
      let s = shifted before base some in
      let first : pos here ≡ pos (s.sum % base) = sym rest ∙ int_rem_euclid_is before (pos base) base s.times s.sum some refl s.is in
      let same : here ≡ s.sum % base = cc in
      let parts : s.sum / base * base + s.sum % base ≡ s.sum = div-add-mod' s.sum base in
      let all : s.sum + d ≡ (s.sum / base + turn) * base + low = omega (arith, parts, same, is) in
      int_rem_euclid_is (before +ℤ pos d) (pos base) base s.times (s.sum + d) some refl (omega (arith, ints, s.is))
      ∙ ap (λ (n : ℕ). pos (n % base)) all
      ∙ ap (λ (n : ℕ). pos n) (mod-mul-add (s.sum / base + turn) base low less)

-- how far a number stands behind another
pub gap : {P : Type 0} (before z : ℤ) → before ≤ℤ z → ((d : ℕ) → z ≡ before +ℤ pos d → P) → P
gap {P} before z above with_gap = by_difference (z -ℤ before) refl
  where
    by_difference : (e : ℤ) → z -ℤ before ≡ e → P
    by_difference (pos d) is = with_gap d (omega (arith, ints, is))
    by_difference (negsuc d) is = absurd (omega (arith, ints, is, above))

module _ (before : ℤ) (base low here step : ℕ) (some : 0 < base) (within : low < base) (rest : int_rem_euclid before (pos base) ≡ pos here) (inside : here < base) (less : step < base)
    (there : (here + step ≡ low) ⊎ (here + step ≡ low + base)) where
  -- no such number lies nearer
  none_nearer : (d : ℕ) → d < step → int_rem_euclid (before +ℤ pos d) (pos base) ≡ pos low → ⊥
  none_nearer d nearer is = ⊎_elim
      (λ (short : here + d < base).
      let e : pos (here + d) ≡ pos low = sym (behind before base here some rest d (here + d) 0 short (omega arith)) ∙ is in
      let same : here + d ≡ low = cc in
      ⊎_elim (λ h. absurd (omega (arith, same, h, nearer))) (λ h. absurd (omega (arith, same, h, less))) there)
      (λ (round : base ≤ here + d).
      let e : pos (here + d - base) ≡ pos low = sym (behind before base here some rest d (here + d - base) 1 (omega (arith, inside, nearer, less, round)) (omega (arith, round))) ∙ is in
      let same : here + d - base ≡ low = cc in
      ⊎_elim (λ h. absurd (omega (arith, same, h, nearer, round, less))) (λ h. absurd (omega (arith, same, h, nearer, round))) there)
      (cases_lt (here + d) base)

  pub least_behind : IsLeast before base low (before +ℤ pos step)
  least_behind = record {
    alike = ⊎_elim
        (λ h. behind before base here some rest step low 0 within (omega (arith, h)))
        (λ h. behind before base here some rest step low 1 within (omega (arith, h)))
        there;
    above = omega (arith, ints);
    first = λ z above alike. gap before z above
        (λ d is. ⊎_elim
        (λ (nearer : d < step). absurd (none_nearer d nearer (ap (λ (y : ℤ). int_rem_euclid y (pos base)) (sym is) ∙ alike)))
        (λ (far : step ≤ d). omega (arith, ints, is, far))
        (cases_lt d step));
  }

-- a number from one that fits 64 bits on, up to the greatest
fits_between : (before z : ℤ) → SFits w64 before → before ≤ℤ z → z ≤ℤ pos 9223372036854775807 → SFits w64 z
fits_between (pos m) (pos n) fits above below = record { sfits = omega (arith, ints, below) }
fits_between (pos m) (negsuc n) fits above below = absurd (omega (arith, ints, above))
fits_between (negsuc m) (pos n) fits above below = record { sfits = omega (arith, ints, below) }
fits_between (negsuc m) (negsuc n) fits above below = record { sfits = omega (arith, ints, fits.sfits, above) }

-- what is answered, where the sum is told only if it fits
module _ (before z sum : ℤ) (base low : ℕ) (l : IsLeast before base low z) (same : sum ≡ z) where
  pub some_given : (r : Option ℤ) → SomeIff r (SFits w64 sum) sum → IfSome r (IsLeast before base low)
  some_given None told = tt
  some_given (Some x) told = subst (IsLeast before base low) (sym (told.1 ∙ same)) l

  pub none_given : (r : Option ℤ) → SFits w64 before → SomeIff r (SFits w64 sum) sum → IfNone r ((y : ℤ) → before ≤ℤ y → y ≤ℤ pos 9223372036854775807 → IsAlike base low y → ⊥)
  none_given (Some x) fits told = tt
  none_given None fits told = λ y above within alike.
      let below : z ≤ℤ y = l.first y above alike in
      told (subst (SFits w64) (sym same) (fits_between before z fits l.above (omega (arith, ints, below, within))))

-- the rest as it is computed
natural : (z d : ℤ) → pos (nat_abs (int_rem_euclid z d)) ≡ int_rem_euclid z d
natural (pos a) d = refl
natural (negsuc a) d = refl

module _ (before here : ℤ) (base : ℕ) (f : SFits w64 before) (g : SFits w64 here) (small : base < 2 ^ 63) (is : here ≡ int_rem_euclid (to_z w64 (of_z w64 before)) (to_z w64 base)) where
  rest : here ≡ int_rem_euclid before (pos base)
  rest = is ∙ ap (λ (y : ℤ). int_rem_euclid y (to_z w64 base)) (to_z-of_z w64 before f) ∙ ap (int_rem_euclid before) (to_z_pos w64 base small)

  pub rest_is : int_rem_euclid before (pos base) ≡ pos (nat_abs (to_z w64 (of_z w64 here)))
  rest_is = sym (ap (λ (y : ℤ). pos (nat_abs y)) (to_z-of_z w64 here g ∙ rest) ∙ natural before (pos base))
