-- The live files among the first places of a table.
use Rattle.std.proofs.Common.{◌≡◌, ℕ, zero, suc, ◌+◌, ◌<◌, Bool, [], ◌∷◌, length, take, Some, None, refl, sym, ap, ◌∙◌, subst, add-one, arith}
use Rattle.std.specs.Int.{from_bool}
use Rattle.std.proofs.Math.Seq.{take-length}
use Rattle.afl_base.specs.Files.{Table, is_live, used}

-- a place more
pub used_front : (files : Table) (n : ℕ) → n < length files → used (take (suc n) files) ≡ used (take n files) + from_bool (is_live files n)
used_front [] n inside = absurd (omega arith)
used_front (None ∷ files) zero inside = refl
used_front (Some f ∷ files) zero inside = refl
used_front (None ∷ files) (suc n) inside = used_front files n (omega arith)
used_front (Some f ∷ files) (suc n) inside = ap (λ (m : ℕ). m + 1) (used_front files n (omega arith)) ∙ omega arith

pub used_next : (files : Table) (n live : ℕ) (b : Bool) → n < length files → live ≡ used (take n files) → b ≡ is_live files n → live + from_bool b ≡ used (take (n + 1) files)
used_next files n live b inside front one =
    ap (λ (m : ℕ). m + from_bool b) front ∙ ap (λ (a : Bool). used (take n files) + from_bool a) one ∙ sym (used_front files n inside) ∙ ap (λ (m : ℕ). used (take m files)) (sym (add-one n))

-- all places
pub used_all : (files : Table) (n : ℕ) → length files ≡ n → used (take n files) ≡ used files
used_all files n long = subst (λ (m : ℕ). used (take m files) ≡ used files) long (ap used (take-length files))
