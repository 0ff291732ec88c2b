-- What stands in a slot, and what is seen of it.
use Rattle.std.proofs.Common.{◌≡◌, [], Option, Some, None, refl}
use Rattle.std.specs.Prelude.{option_map}
use Rattle.padded.proofs.Facts.{some_same}

-- what is seen in a slot is seen of something
pub record SeenOf {A B : Type 0} (f : A → B) (o : Option A) (y : B) : Type 0 where
  pub from : A
  pub there : o ≡ Some from
  pub is : f from ≡ y

pub seen_of : {A B : Type 0} (f : A → B) (o : Option A) (y : B) → option_map f o ≡ Some y → SeenOf f o y
seen_of f None y e = absurd (cc)
seen_of f (Some x) y e = record { from = x; there = refl; is = some_same (f x) y e }
