-- Each pass leaves a sixteenth.
use Rattle.std.proofs.Common.{◌≡◌, ℕ, ◌+◌, ◌*◌, ◌^◌, ◌<◌, ◌≤◌, arith, ap, ◌∙◌, ⊎_elim}
use Rattle.std.proofs.lemmas.Bool.{cases_lt}
use Rattle.std.proofs.Common.{pow-add}
use Rattle.std.proofs.Math.Nat.{mul-le-mul_right, pow-le-pow_right}

pub sixteenth-left : (a b p m : ℕ) → 16 * a ≤ b → b * 16 ^ p < m → a * 16 ^ (p + 1) < m
sixteenth-left a b p m h l =
    let e : 16 ^ (p + 1) ≡ 16 ^ p * 16 = pow-add 16 p 1 in
    let k : (16 * a) * 16 ^ p ≤ b * 16 ^ p = mul-le-mul_right (16 ^ p) h in
    let f : a * 16 ^ (p + 1) ≡ (16 * a) * 16 ^ p = ap (λ q. a * q) e ∙ grind arith in
    omega (arith, f)

-- where something is left, not all 9 passes are done
pub passes-left : (s p : ℕ) → 0 < s → s * 16 ^ p < 16 ^ 9 → p < 9
passes-left s p o h = ⊎_elim (λ l. l) (λ l. let k : 16 ^ 9 ≤ 16 ^ p = pow-le-pow_right (omega arith) l in let m : 1 * 16 ^ p ≤ s * 16 ^ p = mul-le-mul_right (16 ^ p) o in absurd (omega (arith, k, m))) (cases_lt p 9)
