-- How many places of a table are used.
use Rattle.std.proofs.Common.{◌≤◌, [], ◌∷◌, length, Some, None, arith, ◌≡◌, ℕ, zero, suc, ◌<◌, false, Bool, IsTrue, not, true, refl}
use Rattle.afl_base.specs.Files.{Table, used, is_live}

pub used_most : (files : Table) → used files ≤ length files
used_most [] = omega arith
used_most (None ∷ files) = omega (arith, used_most files)
used_most (Some f ∷ files) = omega (arith, used_most files)

pub used_less : (files : Table) (n : ℕ) → n < length files → is_live files n ≡ false → used files < length files
used_less [] n inside free = absurd (omega arith)
used_less (None ∷ files) zero inside free = omega (arith, used_most files)
used_less (Some f ∷ files) zero inside free = absurd (cc)
used_less (None ∷ files) (suc n) inside free = omega (arith, used_less files n (omega arith) free)
used_less (Some f ∷ files) (suc n) inside free = omega (arith, used_less files n (omega arith) free)

pub used_below_32 : (files : Table) (n : ℕ) → length files ≡ 32 → n < 32 → IsTrue (not (is_live files n)) → used files < 32
used_below_32 files n long inside free = omega (arith, long, used_less files n (omega (arith, long, inside)) (dead (is_live files n) free))
  where
    dead : (b : Bool) → IsTrue (not b) → b ≡ false
    dead false free = refl
    dead true free = absurd (cc)
