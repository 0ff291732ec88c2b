-- Bits that are programmed, and the bytes of fields.
use Rattle.std.proofs.Common.{◌≡◌, ℕ, List, [], ◌∷◌, refl, ◌+◌, ◌-◌, ◌++◌, take, drop, ap, ◌∙◌, length}
use Rattle.afl_base.specs.Image.{or_front, or_at}
use Rattle.std.proofs.lemmas.List.{take-append-drop}
use Rattle.afl_base.specs.Fields.{u16_bytes}

pub or_front_nothing : (xs : List ℕ) → or_front xs [] ≡ xs
or_front_nothing [] = refl
or_front_nothing (x ∷ xs) = refl

pub or_at_nothing : (image : List ℕ) (at : ℕ) → or_at image at [] ≡ image
unfolding or_at
or_at_nothing image at = ap (λ t. take at image ++ t) (or_front_nothing (drop at image)) ∙ take-append-drop at image

pub length_u16_bytes : (n : ℕ) → length (u16_bytes n) ≡ 2
unfolding u16_bytes
length_u16_bytes n = refl
