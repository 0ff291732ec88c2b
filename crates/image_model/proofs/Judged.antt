-- A sound image has no first broken rule.
use Rattle.std.proofs.Common.{ℕ, inl, inr, List}
use Rattle.stored.proofs.Crowded.{unbroken_table}
use Rattle.image_model.specs.Images.{IsFirstBroken, IsSound, files_of_image}
use Rattle.padded.proofs.Facts.{none_is_some}

pub sound_unbroken : (image : List ℕ) (rule place : ℕ) → IsSound image → IsFirstBroken image rule place → ⊥
sound_unbroken image rule place s (inl b) = none_is_some s.volume b
sound_unbroken image rule place s (inr b) = unbroken_table (files_of_image image) rule place s.database b.1
